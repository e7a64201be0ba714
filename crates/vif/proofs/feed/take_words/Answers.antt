use mathlib.Core.Path.{sym, ◌∙◌}
use Rattle.fields.specs.Fields.{if}
use Rattle.vif.specs.Feed.{feed_of}
use Rattle.vif.proofs.FeedLaws.{words_few, words_lie, takes_ready}
use Rattle.vif.proofs.feed.take_words.Goals.{else-words_inside-via-then-words_inside+else-takes_steps, else-words_inside-via-else-words_inside}
use Rattle.vif.proofs.feed.take_words.Goals as goal

pub give_words-requires : goal.give_words-requires
give_words-requires c =
    (takes_ready _ _ (sym c.takes_steps.ensures ∙ c.if-takes_steps.true), words_few _ _ _ (sym c.words_inside.ensures ∙ c.if-words_inside.true), words_lie _ _ _ (sym c.words_inside.ensures ∙ c.if-words_inside.true))

pub returns-then-takes_steps : goal.returns-then-takes_steps
unfolding feed_of if
returns-then-takes_steps c =
    rw (sym c.words_inside.ensures ∙ c.if-words_inside.true, sym c.takes_steps.ensures ∙ c.if-takes_steps.true)
    c.give_words.ensures

pub returns-else-words_inside : goal.returns-else-words_inside
unfolding feed_of if
returns-else-words_inside c =
    elim c.else-words_inside.branch [
      | else-words_inside-via-then-words_inside+else-takes_steps w ↦ rw (c.nothing_taken.ensures, sym c.words_inside.ensures ∙ w.if-words_inside.true, sym w.takes_steps.ensures ∙ w.if-takes_steps.false)
      | else-words_inside-via-else-words_inside w ↦ rw (c.nothing_taken.ensures, sym c.words_inside.ensures ∙ w.if-words_inside.false)
    ]
