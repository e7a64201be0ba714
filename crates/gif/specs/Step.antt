-- One quadword taken by the GIF: a step of document 01, on one of its paths; which it is, request 11's log tells.
use Rattle.std.specs.Prelude.{ℕ, ◌+◌, Bool, List, [], ◌∷◌, length, eqb, None, Option, Some, Err}
use Rattle.gif.specs.declared.GifPath.{GifPath}
use Rattle.gif.specs.declared.Write.{Write}
use Rattle.gif.specs.declared.TagFormat.{TagFormat}
use Rattle.gif.specs.declared.TagFormat.TheVariants.{Packed, Reglist, Image}
use Rattle.gif.specs.declared.HeldTag.{HeldTag}
use Rattle.gif.specs.declared.Path.{Path}
use Rattle.gif.specs.GifAnswer.{GifAnswer, Taken, Refused, gif_answer}
use Rattle.gif.specs.declared.GifResult.{GifResult}
use Rattle.fields.specs.declared.refusals.Refusal.{Refusal}
use Rattle.fields.specs.Fields.{if, bits}
use Rattle.fields.specs.Refusals.{log_length, out_of_range, descriptor_b, log_full}
use Rattle.gif.specs.Log.{write, entries_by, logged, lacks_room, log_refused}
use Rattle.gif.specs.Tag.{path_of, place_after, place_at_tag, tag_closes, data_closes, tag_q, tag_writes, taken_of, descriptor_at}
use Rattle.gif.specs.Packed.{packed_writes, packed_q}
use Rattle.gif.specs.Reglist.{reglist_refused, reglist_writes}
use Rattle.gif.specs.Range.{path_in_range}

-- what a quadword leaves: the answer and its number, the path, the entries used and the log
pub record Left : Type 0 where
  pub answer : GifAnswer
  pub number : ℕ
  pub path : Path
  pub used : ℕ
  pub log : List ℕ

-- the number of an answer: 0 taken, else document 01's refusal number
abbrev pub number_of : GifAnswer → ℕ
number_of (Taken closed) = 0
number_of (Refused n) = n

-- what a call left, from its result and the log afterwards
abbrev pub left : GifResult → List ℕ → Left
left r log = record { answer = gif_answer r.answer; number = number_of (gif_answer r.answer); path = r.path; used = r.used; log = log }

-- a refused quadword changes nothing
abbrev pub refused : ℕ → Path → ℕ → List ℕ → Left
refused n p used log = record { answer = Refused n; number = n; path = p; used = used; log = log }

abbrev pub refused_result : Refusal → Path → ℕ → GifResult
refused_result e p used = record { answer = Err e; path = p; used = used }

-- A step's writes and the path after it, all or none: "31, where the step's writes don't all fit". Request 1: "The answer to each quadword given to the GIF shall
-- also say whether it closed a packet"
unfoldable pub commit : GifPath → Path → Path → Bool → List Write → ℕ → List ℕ → Left
commit which p after closed ws used log =
    if (lacks_room log used (length ws)) (refused log_full p used log)
    (record { answer = Taken closed; number = 0; path = after; used = used + length ws; log = logged log used (entries_by which ws) })

-- a tag's own step
unfoldable pub tag_step : GifPath → Path → ℕ → ℕ → List ℕ → Left
tag_step which p quad used log = commit which p (path_of tag_q (place_at_tag quad)) (tag_closes quad) (tag_writes quad) used log

-- a PACKED data quadword under its descriptor: "30 descriptor B met at its data", "then 31"
unfoldable pub packed_with : GifPath → ℕ → Path → HeldTag → ℕ → ℕ → List ℕ → Left
packed_with which d p t quad used log =
    if (eqb d 11) (refused descriptor_b p used log)
    (commit which p (path_of (packed_q d p.q quad) (place_after t)) (data_closes t) (packed_writes d p.q quad) used log)

-- "PACKED (0), one quadword per descriptor": data quadword j is item j
abbrev pub packed_step : GifPath → Path → HeldTag → ℕ → ℕ → List ℕ → Left
packed_step which p t quad used log = packed_with which (descriptor_at t (taken_of t)) p t quad used log

unfoldable pub reglist_step : GifPath → Path → HeldTag → ℕ → ℕ → List ℕ → Left
reglist_step which p t quad used log =
    if (reglist_refused t) (refused descriptor_b p used log)
    (commit which p (path_of p.q (place_after t)) (data_closes t) (reglist_writes t quad) used log)

-- "IMAGE (2, 3): NLOOP quadwords, each two writes to 54h, low half first."
unfoldable pub image_step : GifPath → Path → HeldTag → ℕ → ℕ → List ℕ → Left
image_step which p t quad used log =
    commit which p (path_of p.q (place_after t)) (data_closes t) (write 84 (bits quad 0 63) ∷ write 84 (bits quad 64 127) ∷ []) used log

abbrev pub data_step : TagFormat → GifPath → Path → HeldTag → ℕ → ℕ → List ℕ → Left
data_step Packed = packed_step
data_step Reglist = reglist_step
data_step Image = image_step

abbrev pub step_at : Option HeldTag → GifPath → Path → ℕ → ℕ → List ℕ → Left
step_at None which p quad used log = tag_step which p quad used log
step_at (Some t) which p quad used log = data_step t.format which p t quad used log

-- document 01's step: one quadword taken by the GIF
unfoldable pub gif_step : GifPath → Path → ℕ → ℕ → List ℕ → Left
gif_step which p quad used log = step_at p.place which p quad used log

-- the public step, which tests its own input: 4, then 5, else the step
unfoldable pub take_of : GifPath → Path → ℕ → ℕ → List ℕ → Left
take_of which p quad used log =
    if (log_refused log used) (refused log_length p used log)
    (if (path_in_range p) (gif_step which p quad used log) (refused out_of_range p used log))
