-- The tag: document 01's "Bits 0-14 NLOOP, 15 EOP, 46 PRE, 47-57 PRIM, 58-59 FLG, 60-63 NREG (0 means 16), 64-127 descriptors."
use Rattle.std.specs.Prelude.{ℕ, ◌+◌, ◌*◌, ◌-◌, ◌/◌, ◌%◌, ◌^◌, Bool, true, false, ◌&&◌, not, List, [], ◌∷◌, eqb, None, Option, Some}
use Rattle.gif.specs.declared.Write.{Write}
use Rattle.gif.specs.declared.TagFormat.{TagFormat}
use Rattle.gif.specs.declared.TagFormat.TheVariants.{Packed, Reglist, Image}
use Rattle.gif.specs.declared.HeldTag.{HeldTag}
use Rattle.gif.specs.declared.Path.{Path}
use Rattle.fields.specs.Fields.{if, bits}
use Rattle.gif.specs.Log.{write}

abbrev pub nloop_of : ℕ → ℕ
nloop_of quad = bits quad 0 14

abbrev pub eop_of : ℕ → Bool
eop_of quad = eqb (bits quad 15 15) 1

abbrev pub pre_of : ℕ → Bool
pre_of quad = eqb (bits quad 46 46) 1

abbrev pub prim_of : ℕ → ℕ
prim_of quad = bits quad 47 57

-- FLG: "PACKED (0)", "REGLIST (1)", "IMAGE (2, 3)"
unfoldable pub format_of : ℕ → TagFormat
format_of flg = if (eqb flg 0) Packed (if (eqb flg 1) Reglist Image)

-- "60-63 NREG (0 means 16)"
unfoldable pub nreg_of : ℕ → ℕ
nreg_of nreg = if (eqb nreg 0) 16 nreg

-- The data of a tag in quadwords. PACKED: "one quadword per descriptor"; REGLIST: "64 bits each", with "an odd last half"; IMAGE: "NLOOP quadwords".
unfoldable pub quadwords_of : TagFormat → ℕ → ℕ → ℕ
quadwords_of Packed nloop nreg = nloop * nreg
quadwords_of Reglist nloop nreg = (nloop * nreg + 1) / 2
quadwords_of Image nloop nreg = nloop

-- a tag, its format and NREG already read, with its whole data due
abbrev pub held_with : TagFormat → ℕ → ℕ → HeldTag
held_with f nreg quad =
    record {
      nloop = nloop_of quad;
      eop = eop_of quad;
      format = f;
      nreg = nreg;
      descriptors = bits quad 64 127;
      due = quadwords_of f (nloop_of quad) nreg;
    }

-- a tag with its whole data due
unfoldable pub tag_of : ℕ → HeldTag
tag_of quad = held_with (format_of (bits quad 58 59)) (nreg_of (bits quad 60 63)) quad

-- how many of a tag's quadwords were taken
unfoldable pub taken_of : HeldTag → ℕ
taken_of t = quadwords_of t.format t.nloop t.nreg - t.due

-- the descriptor of a tag's item j: nibble j mod NREG, the lowest first
unfoldable pub descriptor_at : HeldTag → ℕ → ℕ
descriptor_at t j = t.descriptors / 2 ^ (4 * (j % t.nreg)) % 16

abbrev pub with_due : HeldTag → ℕ → HeldTag
with_due t n =
    record {
      nloop = t.nloop;
      eop = t.eop;
      format = t.format;
      nreg = t.nreg;
      descriptors = t.descriptors;
      due = n;
    }

abbrev pub path_of : ℕ → Option HeldTag → Path
path_of q place = record { q = q; place = place }

-- the place after one more data quadword: the last one leaves the path idle
unfoldable pub place_after : HeldTag → Option HeldTag
place_after t = if (eqb t.due 1) None (Some (with_due t (t.due - 1)))

-- "NLOOP 0: no data"
unfoldable pub place_at_tag : ℕ → Option HeldTag
place_at_tag quad = if (eqb (nloop_of quad) 0) None (Some (tag_of quad))

-- request 1: a packet is closed by "a tag with EOP and NLOOP 0"
unfoldable pub tag_closes : ℕ → Bool
tag_closes quad = eop_of quad && eqb (nloop_of quad) 0

-- request 1: a packet is closed by "the last data quadword of a tag with EOP"
unfoldable pub data_closes : HeldTag → Bool
data_closes t = t.eop && eqb t.due 1

-- "Each tag sets Q to 3F800000h."
abbrev pub tag_q : ℕ
tag_q = 0x3F80_0000

abbrev pub is_packed : TagFormat → Bool
is_packed Packed = true
is_packed Reglist = false
is_packed Image = false

-- "NLOOP 0: no data, no writes. PRE acts only in PACKED: PRIM goes to register 0 in the tag's own step."
unfoldable pub tag_writes : ℕ → List Write
tag_writes quad =
    if (not (eqb (nloop_of quad) 0) && (pre_of quad && is_packed (format_of (bits quad 58 59)))) (write 0 (prim_of quad) ∷ [])
    []
