use Rattle.std.proofs.Common.{rules, ap, sym}
use Rattle.std.proofs.lemmas.Result.{err_from_is_err_and}
use Rattle.sheet.specs.Editions.{contents_of}
use Rattle.sheet.proofs.ActedLaws.{acted_stopped, acted_passed}
use Rattle.sheet_meaning.specs.declared.plain.Feeder.{Feeder}
use Rattle.sheet_meaning.specs.Feeding.{fed_in}
use Rattle.sheet_meaning.proofs.AnswerLaws.{mean_lengths_refused, mean_stopped, mean_passed}
use Rattle.sheet_meaning.proofs.plain.meaning.Goals as goal

pub returns-in_err-test_lengths : goal.returns-in_err-test_lengths
returns-in_err-test_lengths c =
    let p = err_from_is_err_and c.from_residual.result c.from_residual.ensures.1 in
    rw (p.1, p.2) (mean_lengths_refused _ _ _ _ _ _ c.in_err-test_lengths.ensures)

pub returns-in_err-act_on : goal.returns-in_err-act_on
returns-in_err-act_on c =
    let p = err_from_is_err_and c.from_residual-in_err-act_on.result c.from_residual-in_err-act_on.ensures.1 in
    let s = acted_stopped _ _ _ _ (contents_of c.args.sheet.now) c.in_err-act_on.ensures in
    let «data» = sym (ap (λ (f : Feeder). f.data) s.1) in
    let code = sym (ap (λ (f : Feeder). f.code) s.1) in
    let log = sym (ap (λ (f : Feeder). f.log) s.1) in
    let stopped = mean_stopped _ _ _ _ _ c.in_ok-test_lengths.ensures s.0 in
    search rules

pub returns : goal.returns
returns c =
    let a = acted_passed _ _ _ _ (contents_of c.args.sheet.now) c.in_ok-act_on.ensures in
    let «data» = sym (ap (λ (f : Feeder). f.data.ghost_name) a.1) in
    let code = sym (ap (λ (f : Feeder). f.code.ghost_name) a.1) in
    let log = sym (ap (λ (f : Feeder). f.log.ghost_name) a.1) in
    let whole = mean_passed _ _ _ _ _ c.in_ok-test_lengths.ensures a.0 (ap (λ (f : Feeder). fed_in f) a.1) in
    search rules
