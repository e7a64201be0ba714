use native.Mathlib.Omega.{arith}
use Rattle.fields.specs.Fields.{if}
use Rattle.chain.specs.Tags.{tag_words_of}
use Rattle.chain.proofs.tags.tag_words_of.Goals as goal

pub returns-then-tte : goal.returns-then-tte
unfolding tag_words_of if
returns-then-tte c = grind arith

pub returns-else-tte : goal.returns-else-tte
unfolding tag_words_of if
returns-else-tte c = grind arith
