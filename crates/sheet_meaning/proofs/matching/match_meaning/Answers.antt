use Rattle.std.proofs.Common.{rules, ap, sym}
use Rattle.std.proofs.lemmas.Result.{err_from_is_err_and}
use Rattle.sheet.specs.Editions.{contents_of}
use Rattle.sheet.proofs.ActedLaws.{acted_stopped, acted_passed}
use Rattle.sheet_meaning.specs.declared.matching.Matcher.{Matcher}
use Rattle.sheet_meaning.specs.Met.{matching_in}
use Rattle.sheet_meaning.proofs.AnswerLaws.{match_lengths_refused, match_stopped, match_passed}
use Rattle.sheet_meaning.proofs.matching.match_meaning.Goals as goal

pub returns-in_err-test_lengths : goal.returns-in_err-test_lengths
returns-in_err-test_lengths c =
    let p = err_from_is_err_and c.from_residual.result c.from_residual.ensures.1 in
    rw (p.1, p.2) (match_lengths_refused _ _ _ _ _ _ c.in_err-test_lengths.ensures)

pub returns-in_err-entries : goal.returns-in_err-entries
returns-in_err-entries c =
    let p = err_from_is_err_and c.from_residual-in_err-entries.result c.from_residual-in_err-entries.ensures.1 in
    let s = acted_stopped _ _ _ _ (contents_of c.args.sheet.now) c.in_err-entries.ensures in
    let «data» = sym (ap (λ (m : Matcher). m.data) s.1) in
    let code = sym (ap (λ (m : Matcher). m.code) s.1) in
    let stopped = match_stopped _ _ _ _ _ c.in_ok-test_lengths.ensures s.0 in
    search rules

pub returns : goal.returns
returns c =
    let a = acted_passed _ _ _ _ (contents_of c.args.sheet.now) c.in_ok-entries.ensures in
    let «data» = sym (ap (λ (m : Matcher). m.data.ghost_name) a.1) in
    let code = sym (ap (λ (m : Matcher). m.code.ghost_name) a.1) in
    let whole = match_passed _ _ _ _ _ c.in_ok-test_lengths.ensures a.0.whole (ap (λ (m : Matcher). matching_in m) a.1) in
    search rules
