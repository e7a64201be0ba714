-- The formats and their numbers, by one table: document 01's "CMD bits 0-1 vl, bits 2-3 vn".
use Rattle.std.specs.Prelude.{ℕ, List, [], ◌∷◌, ◌==◌, None, Option, Some}
use Rattle.fields.specs.Fields.{if}
use Rattle.unpack_rules.specs.declared.Format.{Format}
use Rattle.unpack_rules.specs.declared.Format.TheVariants.{S32, S16, S8, V2x32, V2x16, V2x8, V3x32, V3x16, V3x8, V4x32, V4x16, V4x8, V4x5}

-- bits 0-3 of CMD
abbrev pub format_number : Format → ℕ
format_number S32 = 0x0
format_number S16 = 0x1
format_number S8 = 0x2
format_number V2x32 = 0x4
format_number V2x16 = 0x5
format_number V2x8 = 0x6
format_number V3x32 = 0x8
format_number V3x16 = 0x9
format_number V3x8 = 0xA
format_number V4x32 = 0xC
format_number V4x16 = 0xD
format_number V4x8 = 0xE
format_number V4x5 = 0xF

-- all of them
abbrev pub formats : List Format
formats = S32 ∷ S16 ∷ S8 ∷ V2x32 ∷ V2x16 ∷ V2x8 ∷ V3x32 ∷ V3x16 ∷ V3x8 ∷ V4x32 ∷ V4x16 ∷ V4x8 ∷ V4x5 ∷ []

-- the one of some formats that has a number
unfoldable pub named_in : List Format → ℕ → Option Format
named_in [] n = None
named_in (f ∷ fs) n = if (n == format_number f) (Some f) (named_in fs n)

-- the format that has a number; none has those of "vl 3 with vn below 3"
abbrev pub format_named : ℕ → Option Format
format_named n = named_in formats n
