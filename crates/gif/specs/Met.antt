-- The descriptor that a path holds for its next data: request 6's "30 the held descriptor".
use Rattle.std.specs.Prelude.{ℕ, ◌+◌, eqb, None, Option, Some}
use Rattle.fields.specs.Fields.{if}
use Rattle.gif.specs.declared.TagFormat.{TagFormat}
use Rattle.gif.specs.declared.TagFormat.TheVariants.{Packed, Reglist, Image}
use Rattle.gif.specs.declared.HeldTag.{HeldTag}
use Rattle.gif.specs.declared.Path.{Path}
use Rattle.gif.specs.Tag.{taken_of, descriptor_at}
use Rattle.gif.specs.Range.{path_in_range}
use Rattle.gif.specs.Reglist.{first_item}

-- the descriptor that is met at REGLIST data: of its two halves' the first that is B
unfoldable pub reglist_met : HeldTag → ℕ
reglist_met t =
    if (eqb (descriptor_at t (first_item t)) 11) (descriptor_at t (first_item t))
    (descriptor_at t (first_item t + 1))

-- the descriptor that is met at a tag's next data; IMAGE data has none
abbrev pub data_met : TagFormat → HeldTag → ℕ
data_met Packed t = descriptor_at t (taken_of t)
data_met Reglist t = reglist_met t
data_met Image t = 0

abbrev pub place_met : Option HeldTag → ℕ
place_met None = 0
place_met (Some t) = data_met t.format t

-- "30 the held descriptor": that of the tag which the path holds, at the data that comes next; a path out of its range has none
unfoldable pub met_descriptor : Path → ℕ
met_descriptor p = if (path_in_range p) (place_met p.place) 0
