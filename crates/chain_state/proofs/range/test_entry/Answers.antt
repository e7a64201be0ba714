use native.Mathlib.Omega.{arith}
use Rattle.std.proofs.lemmas.Result.{err_from_is_err_and}
use Rattle.fields.specs.Fields.{if}
use Rattle.fields.proofs.RefusalLaws.{refusal_not_none}
use Rattle.chain_state.specs.Range.{entry_refusal}
use Rattle.chain_state.proofs.range.test_entry.Goals as goal

pub returns-then-main_refused : goal.returns-then-main_refused
unfolding entry_refusal if
returns-then-main_refused c = grind arith

pub returns-in_err-test_lengths : goal.returns-in_err-test_lengths
unfolding entry_refusal if
returns-in_err-test_lengths c =
    let p = err_from_is_err_and c.from_residual.result c.from_residual.ensures.1 in
    rw (p.1, p.2, ← c.main_refused.ensures, c.if-main_refused.false, ← c.unit_of.ensures, ← c.in_err-test_lengths.ensures, refusal_not_none _)

pub returns-then-not-state_in_range : goal.returns-then-not-state_in_range
unfolding entry_refusal if
returns-then-not-state_in_range c = grind arith

pub returns-then-not-payload_inside : goal.returns-then-not-payload_inside
unfolding entry_refusal if
returns-then-not-payload_inside c = grind arith

pub returns : goal.returns
unfolding entry_refusal if
returns c = grind arith
