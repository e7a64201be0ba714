-- Quadwords of main memory given to a path one after another, up to the first that is refused.
use Rattle.std.specs.Prelude.{ℕ, zero, suc, ◌+◌, ◌*◌, Bool, not, List, eqb, Result}
use Rattle.fields.specs.Counts.{one_if}
use Rattle.fields.specs.declared.refusals.Refusal.{Refusal}
use Rattle.fields.specs.Fields.{if}
use Rattle.fields.specs.Refusals.{refusal_in, log_length, out_of_range, payload_outside}
use Rattle.fields.specs.Memory.{quadword_at, inside}
use Rattle.gif.specs.declared.GifPath.{GifPath}
use Rattle.gif.specs.declared.Path.{Path}
use Rattle.gif.specs.GifAnswer.{GifAnswer, Taken, Refused}
use Rattle.gif.specs.declared.QuadwordsResult.{QuadwordsResult}
use Rattle.gif.specs.Log.{log_refused}
use Rattle.gif.specs.Range.{path_in_range}
use Rattle.gif.specs.Step.{Left, gif_step}

-- the path, the entries used and the log, how many quadwords were taken, how many of these closed a packet, and the refusal of the next one, 0 where none is left
pub record Fed : Type 0 where
  pub path : Path
  pub used : ℕ
  pub log : List ℕ
  pub taken : ℕ
  pub packets : ℕ
  pub refusal : ℕ

abbrev pub fed : Path → ℕ → List ℕ → ℕ → ℕ → ℕ → Fed
fed p used log n c r = record { path = p; used = used; log = log; taken = n; packets = c; refusal = r }

abbrev pub quadwords_result : Path → ℕ → ℕ → ℕ → Result (Unit {0}) Refusal → QuadwordsResult
quadwords_result p used n c r = record { path = p; used = used; taken = n; packets = c; answer = r }

-- what a call left, from its result and the log afterwards
abbrev pub fed_by : QuadwordsResult → List ℕ → Fed
fed_by r log = fed r.path r.used log r.taken r.packets (refusal_in r.answer)

-- one quadword before them, by whether it closed a packet
abbrev pub one_more : Bool → Fed → Fed
one_more closed x = fed x.path x.used x.log (suc x.taken) (one_if closed + x.packets) x.refusal

-- by the answer to a quadword; f goes on
abbrev pub after_quadword : (Path → ℕ → List ℕ → Fed) → GifAnswer → Left → Path → ℕ → List ℕ → Fed
after_quadword f (Taken closed) o p used log = one_more closed (f o.path o.used o.log)
after_quadword f (Refused n) o p used log = fed p used log 0 0 n

abbrev pub on_quadword : (Path → ℕ → List ℕ → Fed) → Left → Path → ℕ → List ℕ → Fed
on_quadword f o p used log = after_quadword f o.answer o p used log

-- n quadwords from address a on
unfoldable pub feeds_of : GifPath → List ℕ → ℕ → ℕ → Path → ℕ → List ℕ → Fed
feeds_of which main a zero p used log = fed p used log 0 0 0
feeds_of which main a (suc n) p used log = on_quadword (feeds_of which main (a + 16) n) (gif_step which p (quadword_at main a) used log) p used log

-- the public function tests its own input: 4, 5, and 14 where a quadword lies outside; 0 for none
unfoldable pub feed_refusal : List ℕ → ℕ → ℕ → Path → ℕ → List ℕ → ℕ
feed_refusal main a n p used log =
    if (log_refused log used) log_length
    (if (not (path_in_range p)) out_of_range
    (if (not (inside main a (16 * n))) payload_outside
    0))

-- by that number
abbrev pub tested : ℕ → Fed → Path → ℕ → List ℕ → Fed
tested r x p used log = if (eqb r 0) x (fed p used log 0 0 r)

unfoldable pub feed_of : GifPath → List ℕ → ℕ → ℕ → Path → ℕ → List ℕ → Fed
feed_of which main a n p used log = tested (feed_refusal main a n p used log) (feeds_of which main a n p used log) p used log
