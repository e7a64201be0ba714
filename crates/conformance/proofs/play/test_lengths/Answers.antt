use Rattle.std.proofs.Common.{◌≡◌, true, false, length}
use Rattle.fields.specs.Fields.{if}
use Rattle.chain_state.specs.Range.{main_refused}
use Rattle.conformance.specs.Inner.{memories_refusal}
use Rattle.conformance.proofs.play.test_lengths.Goals as goal

pub returns-then-main_refused : goal.returns-then-main_refused
unfolding memories_refusal if
returns-then-main_refused c = let h : main_refused (length c.args.main.now) ≡ true = cc in rw h

pub returns : goal.returns
unfolding memories_refusal if
returns c = let h : main_refused (length c.args.main.now) ≡ false = cc in rw h c.test_lengths.ensures
