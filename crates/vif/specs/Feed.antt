-- Words of main memory given to a unit one after another, until they are used up, one is refused or one completes a code with its interrupt bit.
use Rattle.std.specs.Prelude.{ℕ, zero, suc, ◌+◌, ◌*◌, ◌-◌, ◌/◌, ◌%◌, Bool, true, false, ◌&&◌, List, eqb}
use Rattle.fields.specs.declared.UnitCounts.{UnitCounts}
use Rattle.fields.specs.Counts.{no_units, plus_units}
use Rattle.fields.specs.Fields.{if}
use Rattle.fields.specs.Memory.{inside}
use Rattle.gif.specs.Range.{path_in_range}
use Rattle.memories.specs.declared.VifUnit.{VifUnit}
use Rattle.memories.specs.Lengths.{Lent, lengths_refusal}
use Rattle.vif_codes.specs.declared.Incoming.{Incoming}
use Rattle.vif_codes.specs.VifAnswer.{VifAnswer, Word, Quadword, Refused}
use Rattle.vif_codes.specs.Range.{unit_in_range}
use Rattle.vif_codes.specs.Words.{incoming_at}
use Rattle.vif_codes.specs.Counting.{counts_in}
use Rattle.vif.specs.declared.WordsResult.{WordsResult}
use Rattle.vif.specs.Step.{Left, vif_step}
use Rattle.vif.specs.Feeds.{Fed, fed}

-- what they left, how many words were taken, what the steps count for, and whether the last step completed an interrupt
pub record FedOn : Type 0 where
  pub after : Fed
  pub words : ℕ
  pub counts : UnitCounts
  pub interrupt : Bool

abbrev pub fed_on : Fed → ℕ → UnitCounts → Bool → FedOn
fed_on x k c i = record { after = x; words = k; counts = c; interrupt = i }

-- of the program's result and the memories afterwards
abbrev pub fed_on_by : WordsResult → Lent → FedOn
fed_on_by r m = fed_on (fed r.unit r.path2 r.used m) r.words r.counts r.interrupt

abbrev pub fed_to : Left → Fed
fed_to o = fed o.unit o.path2 o.used o.memories

-- a step before them, of k words
abbrev pub step_more : ℕ → UnitCounts → FedOn → FedOn
step_more k c r = fed_on r.after (k + r.words) (plus_units c r.counts) r.interrupt

-- by a step's answer and what it counts for; f goes on with the address and the number of the words that are left
abbrev pub after_word : (ℕ → ℕ → Fed → FedOn) → VifAnswer → UnitCounts → Left → ℕ → ℕ → Fed → FedOn
after_word f (Word true) c o a count x = fed_on (fed_to o) 1 c true
after_word f (Word false) c o a count x = step_more 1 c (f (a + 4) (count - 1) (fed_to o))
after_word f (Quadword true closed) c o a count x = fed_on (fed_to o) 4 c true
after_word f (Quadword false closed) c o a count x = step_more 4 c (f (a + 16) (count - 4) (fed_to o))
after_word f (Refused n) c o a count x = fed_on x 0 no_units false

-- by the step of a unit with the word at address a
abbrev pub on_word : (ℕ → ℕ → Fed → FedOn) → Incoming → Left → ℕ → ℕ → Fed → FedOn
on_word f n o a count x = after_word f o.answer (counts_in x.unit.waiting n o.answer) o a count x

-- at most n steps, with `count` words from address a on
unfoldable pub feeds_of : VifUnit → List ℕ → ℕ → ℕ → ℕ → Fed → FedOn
feeds_of which main zero a count x = fed_on x 0 no_units false
feeds_of which main (suc n) a count x =
    if (eqb count 0) (fed_on x 0 no_units false)
    (on_word (feeds_of which main n) (incoming_at main a) (vif_step which x.unit x.path2 (incoming_at main a) x.used x.memories) a count x)

-- the words lie inside, start at a word and end with a quadword
unfoldable pub words_inside : List ℕ → ℕ → ℕ → Bool
words_inside main a count = inside main a (4 * count) && (eqb (a % 4) 0 && eqb ((a / 4 + count) % 4) 0)

-- the memories' lengths, the log, the unit and path 2 are those that a step takes
unfoldable pub takes_steps : VifUnit → Fed → Bool
takes_steps which x = eqb (lengths_refusal which x.memories x.used) 0 && (unit_in_range which x.unit && path_in_range x.path2)

-- the public function, which tests its own input: none is taken where that is not so
unfoldable pub feed_of : VifUnit → List ℕ → ℕ → ℕ → ℕ → Fed → FedOn
feed_of which main n a count x = if (words_inside main a count && takes_steps which x) (feeds_of which main n a count x) (fed_on x 0 no_units false)
