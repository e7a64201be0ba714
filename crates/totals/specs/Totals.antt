-- Request 14: "a call adds them to our totals. Over many runs we want exact sums: QWC by tag ID, VIF words taken (one-word steps), NOPs, packets closed".
use Rattle.std.specs.Prelude.{ℕ, ◌+◌, ◌-◌, ◌^◌, Bool, false, ◌||◌, List, [], ◌∷◌, ltb, Option, Some, None, Result, Ok, Err}
use Rattle.fields.specs.declared.Qwc.{Qwc}
use Rattle.fields.specs.declared.Counts.{Counts}
use Rattle.fields.specs.Counts.{no_qwc, plus_qwc, qwc_numbers}
use Rattle.fields.specs.Fields.{if}
use Rattle.fields.specs.declared.refusals.Refusal.{Refusal}
use Rattle.fields.specs.Refusals.{refusal_number, total_full}
use Rattle.totals.specs.declared.Totals.{Totals}
use Rattle.totals.specs.AddAnswer.{AddAnswer, Added, Refused}

abbrev pub totals : ℕ → ℕ → ℕ → Qwc → Totals
totals packets words nops q = record { packets = packets; words = words; nops = nops; qwc = q }

-- of no run
abbrev pub no_totals : Totals
no_totals = totals 0 0 0 no_qwc

-- the eleven sums: packets, VIF words, NOPs, and QWC by ID
abbrev pub numbers_of : Totals → List ℕ
numbers_of t = t.packets ∷ t.words ∷ t.nops ∷ qwc_numbers t.qwc

-- the exact sums with the counts of a run, of which the steps play no part
abbrev pub added : Totals → Counts → Totals
added t c = totals (t.packets + c.packets) (t.words + c.words) (t.nops + c.nops) (plus_qwc t.qwc c.qwc)

-- "if a sum would pass 2^64 - 1"
unfoldable pub passes : ℕ → Bool
passes sum = ltb (2 ^ 64 - 1) sum

unfoldable pub any_passes : List ℕ → Bool
any_passes [] = false
any_passes (n ∷ ns) = passes n || any_passes ns

-- the answer to an addition, and the totals after it
pub record AddResult : Type 0 where
  pub answer : AddAnswer
  pub totals : Totals

abbrev pub add_result : AddAnswer → Totals → AddResult
add_result a t = record { answer = a; totals = t }

-- the number of an answer
abbrev pub add_number : AddAnswer → ℕ
add_number Added = 0
add_number (Refused n) = n

-- "54 if a sum would pass 2^64 - 1, and then no sum changes"
unfoldable pub add_of : Totals → Counts → AddResult
add_of t c = if (any_passes (numbers_of (added t c))) (add_result (Refused total_full) t) (add_result Added (added t c))

-- what a call on these totals leaves: on a refusal, them
abbrev pub added_by : Totals → Result Totals Refusal → AddResult
added_by t (Ok sums) = add_result Added sums
added_by t (Err e) = add_result (Refused (refusal_number e)) t
