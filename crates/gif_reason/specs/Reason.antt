-- Request 6, of the GIF: "30 the held descriptor, 31 the free log entries and those needed".
use Rattle.std.specs.Prelude.{ℕ, ◌+◌, ◌-◌, ◌/◌, List, [], ◌∷◌, length, eqb, None, Option, Some}
use Rattle.fields.specs.Fields.{if, bits}
use Rattle.fields.specs.Refusals.{descriptor_b, log_full}
use Rattle.gif.specs.declared.Write.{Write}
use Rattle.gif.specs.declared.TagFormat.{TagFormat}
use Rattle.gif.specs.declared.TagFormat.TheVariants.{Packed, Reglist, Image}
use Rattle.gif.specs.declared.HeldTag.{HeldTag}
use Rattle.gif.specs.declared.Path.{Path}
use Rattle.gif.specs.Log.{entry_size, write}
use Rattle.gif.specs.Tag.{taken_of, descriptor_at, tag_writes}
use Rattle.gif.specs.Packed.{packed_writes}
use Rattle.gif.specs.Met.{met_descriptor}
use Rattle.gif.specs.Reglist.{reglist_writes}
use Rattle.gif_reason.specs.declared.Numbers.{Numbers}

abbrev pub numbers : ℕ → ℕ → Numbers
numbers a b = record { first = a; second = b }

-- "the free log entries"
unfoldable pub free_entries : List ℕ → ℕ → ℕ
free_entries log used = length log / entry_size - used

-- the writes of a data quadword, by the format of its tag
abbrev pub data_writes : TagFormat → HeldTag → ℕ → ℕ → List Write
data_writes Packed t q quad = packed_writes (descriptor_at t (taken_of t)) q quad
data_writes Reglist t q quad = reglist_writes t quad
data_writes Image t q quad = write 84 (bits quad 0 63) ∷ write 84 (bits quad 64 127) ∷ []

abbrev pub writes_at : Option HeldTag → ℕ → ℕ → List Write
writes_at None q quad = tag_writes quad
writes_at (Some t) q quad = data_writes t.format t q quad

-- the writes of a quadword's step, of which each is a log entry: "those needed", by the whole step
unfoldable pub quadword_writes : Path → ℕ → List Write
quadword_writes p quad = writes_at p.place p.q quad

-- what a quadword's refusal shows, by the number of entries that its step needs: "30 the held descriptor, 31 the free log entries and those needed"
unfoldable pub quadword_numbers : ℕ → Path → ℕ → ℕ → List ℕ → Numbers
quadword_numbers r p needed used log =
    if (eqb r descriptor_b) (numbers (met_descriptor p) 0)
    (if (eqb r log_full) (numbers (free_entries log used) needed)
    (numbers 0 0))

-- the number of entries that a quadword's step needs
abbrev pub quadword_needs : Path → ℕ → ℕ
quadword_needs p quad = length (quadword_writes p quad)
