-- The path block: a GIF path as nine words.
use Rattle.std.specs.Prelude.{ℕ, ◌/◌, ◌%◌, ◌^◌, Bool, true, false, ◌&&◌, List, [], ◌∷◌, length, get_or, eqb, leb, None, Option, Some}
use Rattle.fields.specs.Fields.{if}
use Rattle.gif.specs.declared.TagFormat.{TagFormat}
use Rattle.gif.specs.declared.TagFormat.TheVariants.{Packed, Reglist, Image}
use Rattle.gif.specs.declared.HeldTag.{HeldTag}
use Rattle.gif.specs.declared.Path.{Path}
use Rattle.gif.specs.Tag.{path_of}
use Rattle.state_block.specs.Read.{ReadPath}
use Rattle.state_block.specs.Sizes.{path_size}
use Rattle.state_block.specs.Words.{bit_of, is_bit, bit_at, long_of, numbered}

-- word 2
abbrev pub tag_format_number : TagFormat → ℕ
tag_format_number Packed = 0
tag_format_number Reglist = 1
tag_format_number Image = 2

-- the format of a number up to 2
unfoldable pub tag_format_numbered : ℕ → TagFormat
tag_format_numbered n = numbered tag_format_number n (Packed ∷ Reglist ∷ []) Image

abbrev pub place_block : ℕ → Option HeldTag → List ℕ
place_block q None = q ∷ 0 ∷ 0 ∷ 0 ∷ 0 ∷ 0 ∷ 0 ∷ 0 ∷ 0 ∷ []
place_block q (Some t) =
    q
    ∷ 1
    ∷ tag_format_number t.format
    ∷ t.nloop
    ∷ bit_of t.eop
    ∷ t.nreg
    ∷ t.descriptors % 2 ^ 32
    ∷ t.descriptors / 2 ^ 32
    ∷ t.due
    ∷ []

-- the words of a path
abbrev pub path_block : Path → List ℕ
path_block p = place_block p.q p.place

-- whether the words of a path that is not idle are a held tag's
unfoldable pub tag_exists : List ℕ → Bool
tag_exists b = bit_at b 1 && (leb (get_or b 2 0) 2 && is_bit b 4)

abbrev pub tag_in_block : List ℕ → HeldTag
tag_in_block b =
    record {
      nloop = get_or b 3 0;
      eop = bit_at b 4;
      format = tag_format_numbered (get_or b 2 0);
      nreg = get_or b 5 0;
      descriptors = long_of (get_or b 6 0) (get_or b 7 0);
      due = get_or b 8 0;
    }

-- stands for the path of words that are no path's: out of range, since a held tag has loops
abbrev pub no_path : Path
no_path = path_of 0 (Some (record { nloop = 0; eop = false; format = Image; nreg = 0; descriptors = 0; due = 0 }))

abbrev pub read_path : Bool → Path → ReadPath
read_path known path = record { known = known; path = path }

abbrev pub a_path : ℕ → Option HeldTag → ReadPath
a_path q place = read_path true (path_of q place)

-- the path of a block, if it is a path's; words 2 to 8 are ignored where the place is 0
unfoldable pub path_in_block : List ℕ → ReadPath
path_in_block b =
    if (eqb (length b) path_size)
    (if (eqb (get_or b 1 0) 0) (a_path (get_or b 0 0) None)
    (if (tag_exists b) (a_path (get_or b 0 0) (Some (tag_in_block b)))
    (read_path false no_path)))
    (read_path false no_path)
