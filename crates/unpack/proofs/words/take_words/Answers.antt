use mathlib.Core.Path.{sym, ◌∙◌}
use borrow.Author.Rules.{rules}
use Rattle.fields.specs.Fields.{if}
use Rattle.unpack_rules.specs.Whole.{take_words_of}
use Rattle.unpack_rules.proofs.StepLaws.{acceptable_fits}
use Rattle.unpack_rules.proofs.WordsLaws.{words_accepted}
use Rattle.unpack.proofs.ShortLaws.{goes_short_lem, short_fits, words_as}
use Rattle.unpack.proofs.words.take_words.Goals as goal

pub take_all-rest-requires : goal.take_all-rest-requires
take_all-rest-requires c =
    let w = words_accepted _ _ _ _ _ _ _ (sym c.words_acceptable.ensures ∙ c.if-words_acceptable.true) in
    let a = acceptable_fits _ _ _ _ _ w.accepted in
    (short_fits (goes_short_lem _ _ _ (sym c.goes_short.ensures ∙ c.if-goes_short.true)) a.cycle a.unpacking a.memory, w.few, w.near)

pub returns-then-goes_short : goal.returns-then-goes_short
unfolding take_words_of if
returns-then-goes_short c =
    rw (sym c.words_acceptable.ensures ∙ c.if-words_acceptable.true)
    (words_as _ (goes_short_lem _ _ _ (sym c.goes_short.ensures ∙ c.if-goes_short.true)) c.take_all-rest.ensures (search (rules, c.well_formed.1.1.1.1.1.1.1.0)))

pub take_most-requires : goal.take_most-requires
take_most-requires c =
    let w = words_accepted _ _ _ _ _ _ _ (sym c.words_acceptable.ensures ∙ c.if-words_acceptable.true) in
    let a = acceptable_fits _ _ _ _ _ w.accepted in
    (a.cycle, a.unpacking, a.memory, w.near, w.few)

pub returns-else-goes_short : goal.returns-else-goes_short
unfolding take_words_of if
returns-else-goes_short c =
    rw (sym c.words_acceptable.ensures ∙ c.if-words_acceptable.true) c.take_most.ensures

pub returns-else-words_acceptable : goal.returns-else-words_acceptable
unfolding take_words_of if
returns-else-words_acceptable c = rw (sym c.words_acceptable.ensures ∙ c.if-words_acceptable.false)
