-- The range of a path: document 01's "a waiting code or GIF tag [is in range] if its step would accept it ..., with one unit to all of its payload still due".
use Rattle.std.specs.Prelude.{ℕ, ◌≤◌, ◌<◌, ◌≡◌, Bool, true, ◌&&◌, leb, None, Option, Some}
use Rattle.gif.specs.declared.HeldTag.{HeldTag}
use Rattle.gif.specs.declared.Path.{Path}
use Rattle.gif.specs.Tag.{quadwords_of}

-- a number from a to b
abbrev pub within : ℕ → ℕ → ℕ → Bool
within a b n = leb a n && leb n b

-- A tag that has data has NLOOP 1 to 32,767 and NREG 1 to 16; a unit is what a step takes, a quadword.
unfoldable pub tag_in_range : HeldTag → Bool
tag_in_range t =
    within 1 32767 t.nloop && (within 1 16 t.nreg && within 1 (quadwords_of t.format t.nloop t.nreg) t.due)

abbrev pub place_in_range : Option HeldTag → Bool
place_in_range None = true
place_in_range (Some t) = tag_in_range t

-- any Q is in range
abbrev pub path_in_range : Path → Bool
path_in_range p = place_in_range p.place

-- the same as facts, for inner functions: what a tag in range fulfils
pub record TagFits (t : HeldTag) : Type 0 where
  pub looped : 0 < t.nloop
  pub loops : t.nloop ≤ 32767
  pub some : 0 < t.nreg
  pub regs : t.nreg ≤ 16
  pub left : 0 < t.due
  pub most : t.due ≤ quadwords_of t.format t.nloop t.nreg

-- what a place in range fulfils
pub record PlaceFits (p : Option HeldTag) : Type 0 where
  pub held : place_in_range p ≡ true
