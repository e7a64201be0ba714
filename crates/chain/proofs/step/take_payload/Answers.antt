use Rattle.chain.proofs.StepLaws.{same_pending, quadword_ready}
use Rattle.chain_state.specs.Pending.{payload_after}
use Rattle.chain.specs.Step.{payload_step}
use Rattle.fields.specs.Fields.{if}
use borrow.Author.Tests.{eq-eqb, ne_eqb}
use mathlib.Core.Path.{◌∙◌}
use Rattle.chain.proofs.step.take_payload.Goals as goal

pub give_gif-requires : goal.give_gif-requires
give_gif-requires c = quadword_ready c.requires.0 c.requires.1 c.if-s-eq2.true

pub returns-then-s-eq2 : goal.returns-then-s-eq2
unfolding payload_step if
returns-then-s-eq2 c = rw (eq-eqb _ _ c.if-s-eq2.true, ← c.payload_after-four.ensures) (c.give_gif.ensures _ _)

pub returns : goal.returns
unfolding payload_step if
returns c = rw (ne_eqb _ _ c.if-s-eq2.false) (c.give_vif.ensures ∙ rw (c.payload_after.ensures, c.payload_after-four.ensures) (same_pending _ _ _ (payload_after c.args.at c.args.n) _ _))
