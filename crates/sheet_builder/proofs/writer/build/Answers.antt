use Rattle.std.proofs.Common.{rules, arith, ap, sym}
use Rattle.std.proofs.lemmas.Result.{err_from_is_err_and}
use Rattle.sheet.proofs.ActedLaws.{acted_stopped, acted_passed}
use Rattle.sheet.specs.Editions.{contents_of}
use Rattle.sheet_builder.specs.declared.writer.Writer.{Writer}
use Rattle.sheet_builder.specs.Writing.{out}
use Rattle.sheet_builder.proofs.BuildLaws.{build_stopped, enough, tag_room, build_done}
use Rattle.sheet_builder.proofs.writer.build.Goals as goal

pub returns-in_err-quadwords : goal.returns-in_err-quadwords
returns-in_err-quadwords c =
    let p = err_from_is_err_and c.from_residual.result c.from_residual.ensures.1 in
    let s = acted_stopped _ _ _ _ (contents_of c.args.sheet.now) c.in_err-quadwords.ensures in
    let same = sym (ap (λ (w : Writer). w.output) s.1) in
    let stopped = build_stopped _ _ s.0 in
    search rules

pub put_words-requires : goal.put_words-requires
put_words-requires c =
    let a = acted_passed _ _ _ _ (contents_of c.args.sheet.now) c.in_ok-quadwords.ensures in
    tag_room _ _ a.0 (ap (λ (w : Writer). out w.output.now w.to) a.1)

pub overflow_mul-result : goal.overflow_mul-result
overflow_mul-result c =
    let a = acted_passed _ _ _ _ (contents_of c.args.sheet.now) c.in_ok-quadwords.ensures in
    let e = enough _ _ a.0 in
    let l = c.type_inv.output in
    omega arith

pub returns : goal.returns
returns c =
    let a = acted_passed _ _ _ _ (contents_of c.args.sheet.now) c.in_ok-quadwords.ensures in
    let same = sym (ap (λ (w : Writer). w.output.ghost_name) a.1) in
    let whole = build_done _ _ a.0 (ap (λ (w : Writer). out w.output.now w.to) a.1) c.put_words.ensures.1 in
    search rules
