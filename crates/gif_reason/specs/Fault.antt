-- Request 6, of the GIF: "the shown number is the one found there and does break the rule".
use Rattle.std.specs.Prelude.{ℕ, ◌+◌, ◌<◌, true, List, ◌≡◌, Some}
use Rattle.fields.specs.Refusals.{descriptor_b, log_full}
use Rattle.gif.specs.declared.TagFormat.TheVariants.{Packed, Reglist}
use Rattle.gif.specs.declared.HeldTag.{HeldTag}
use Rattle.gif.specs.declared.Path.{Path}
use Rattle.gif.specs.Tag.{taken_of, descriptor_at}
use Rattle.gif.specs.Reglist.{first_item, has_second}
use Rattle.gif_reason.specs.declared.Numbers.{Numbers}
use Rattle.gif_reason.specs.Reason.{numbers, free_entries, quadword_needs}

-- the refusal of a quadword, what it shows, and the rule that this breaks: "30 descriptor B met at its data, PACKED or REGLIST; then 31, where the step's
-- writes don't all fit"
pub data QuadwordFault (p : Path) (quad used : ℕ) (log : List ℕ) : ℕ → Numbers → Type 0 where
  packed_b : (t : HeldTag) → p.place ≡ Some t → t.format ≡ Packed → descriptor_at t (taken_of t) ≡ 11
      → QuadwordFault p quad used log descriptor_b (numbers (descriptor_at t (taken_of t)) 0)
  reglist_low_b : (t : HeldTag) → p.place ≡ Some t → t.format ≡ Reglist → descriptor_at t (first_item t) ≡ 11
      → QuadwordFault p quad used log descriptor_b (numbers (descriptor_at t (first_item t)) 0)
  reglist_high_b : (t : HeldTag) → p.place ≡ Some t → t.format ≡ Reglist → has_second t ≡ true → descriptor_at t (first_item t + 1) ≡ 11
      → QuadwordFault p quad used log descriptor_b (numbers (descriptor_at t (first_item t + 1)) 0)
  no_room : free_entries log used < quadword_needs p quad → QuadwordFault p quad used log log_full (numbers (free_entries log used) (quadword_needs p quad))
