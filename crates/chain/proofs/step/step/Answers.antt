use Rattle.chain.proofs.StepLaws.{by_tags, same_pending}
use Rattle.chain.proofs.ReadyLaws.{tag_word_inside}
use Rattle.chain.specs.Step.{step_of}
use native.Mathlib.Omega.{arith}
use mathlib.Core.Path.{◌∙◌}
use Rattle.chain.proofs.step.step.Goals as goal

pub tags_after-requires : goal.tags_after-requires
tags_after-requires c = let w = tag_word_inside c.requires c.in-Some.is in let i = w.inside in let n = w.most in omega arith

pub give_vif-requires : goal.give_vif-requires
give_vif-requires c = (c.requires, tag_word_inside c.requires c.in-Some.is)

pub returns-in-None : goal.returns-in-None
unfolding step_of
returns-in-None c = by_tags c.in-None.is _ _ _ _ c.take_payload_or_tag.ensures

pub returns-in-Some : goal.returns-in-Some
unfolding step_of
returns-in-Some c = by_tags c.in-Some.is _ _ _ _ (c.give_vif.ensures ∙ rw c.tags_after.ensures (same_pending _ _ _ (λ k. c.args.s.payload) _ _))
