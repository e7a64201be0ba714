use mathlib.Core.Path.{◌∙◌}
use Rattle.chain.proofs.BurstLaws.{words_given, words_fit}
use Rattle.chain.proofs.burst.give_words.Goals as goal

pub payload_after-requires : goal.payload_after-requires
payload_after-requires c = words_fit c.requires.0 _ _ _ c.unit_of-which.ensures c.held_by.ensures c.take_words-r.ensures c.requires.1.0

pub returns : goal.returns
returns c =
    words_given c.requires.0 _ _ _ c.unit_of-which.ensures c.held_by.ensures c.take_words-r.ensures c.requires.1.1
    (c.with_pending.ensures ∙ rw (c.with_unit.ensures, c.payload_after.ensures))
