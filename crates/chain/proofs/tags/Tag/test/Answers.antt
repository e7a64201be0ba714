use native.Mathlib.Omega.{arith}
use Rattle.fields.specs.Fields.{if}
use Rattle.chain.specs.Tags.{tag_refusal}
use Rattle.chain.proofs.tags.Tag.test.Goals as goal

pub returns-then-size-from : goal.returns-then-size-from
unfolding tag_refusal if
returns-then-size-from c = grind arith

pub returns-then-misaligned : goal.returns-then-misaligned
unfolding tag_refusal if
returns-then-misaligned c = grind arith

pub returns-then-in_scratchpad : goal.returns-then-in_scratchpad
unfolding tag_refusal if
returns-then-in_scratchpad c = grind arith

pub returns-then-calls_full : goal.returns-then-calls_full
unfolding tag_refusal if
returns-then-calls_full c = grind arith

pub returns-then-lies_outside : goal.returns-then-lies_outside
unfolding tag_refusal if
returns-then-lies_outside c = grind arith

pub returns : goal.returns
unfolding tag_refusal if
returns c = grind arith
