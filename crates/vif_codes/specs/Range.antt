-- The range of a unit: document 01's "A register is in range if it holds what its code can write (TOP, TOPS, ITOP 0-1,023); a waiting code ... if its
-- step would accept it under the held CL and WL, ... with one unit to all of its payload still due". Request 10: "5 ... wants 0 in each VIF0 register that
-- nothing there writes".
use Rattle.std.specs.Prelude.{ℕ, ◌+◌, Bool, true, not, ◌&&◌, leb}
use Rattle.memories.specs.declared.VifUnit.{VifUnit}
use Rattle.memories.specs.declared.VifUnit.TheVariants.{Vif0, Vif1}
use Rattle.unpack_rules.specs.Position.{address_most}
use Rattle.unpack_rules.specs.Range.{cycle_in_range, unpacking_in_range}
use Rattle.vif_codes.specs.declared.Waiting.{Waiting}
use Rattle.vif_codes.specs.declared.Waiting.TheVariants.{Nothing, MaskDue, RowDue, ColDue, MpgDue, DirectDue, DirecthlDue, UnpackDue}
use Rattle.vif_codes.specs.declared.Vif.{Vif}
use Rattle.vif_codes.specs.Codes.{mpg_address_most, code_listed}

-- a number from 1 to n
unfoldable pub up_to : ℕ → ℕ → Bool
up_to n x = leb 1 x && leb x n

-- the most that OFST, BASE, TOPS and TOP hold: 10 bits, "0 in each VIF0 register that nothing there writes"
abbrev pub tops_most : VifUnit → ℕ
tops_most Vif0 = 0
tops_most Vif1 = address_most

-- the same of DBF and MSKPATH3
abbrev pub bit_in_range : VifUnit → Bool → Bool
bit_in_range Vif0 b = not b
bit_in_range Vif1 b = true

-- the registers that VIF1 alone writes
abbrev pub vif1_registers_in_range : VifUnit → Vif → Bool
vif1_registers_in_range which v =
    leb v.ofst (tops_most which)
    && (leb v.base (tops_most which)
    && (leb v.tops (tops_most which)
    && (leb v.top (tops_most which)
    && (bit_in_range which v.dbf
    && bit_in_range which v.mskpath3))))

-- CL, WL 8 bits; ITOPS, ITOP 10 bits; MODE 0 to 2; MARK 16 bits; MASK, ROW and COL hold any value
unfoldable pub registers_in_range : VifUnit → Vif → Bool
registers_in_range which v =
    leb v.cl 255
    && (leb v.wl 255
    && (leb v.itops address_most
    && (leb v.itop address_most
    && (leb v.mode 2
    && (leb v.mark 65535
    && vif1_registers_in_range which v)))))

-- a DIRECT or DIRECTHL, by its CMD, where the unit has that code: none waits on VIF0
unfoldable pub direct_in_range : VifUnit → ℕ → ℕ → Bool
direct_in_range which cmd due = code_listed which cmd && up_to 65536 due

-- a unit is what a step takes: a word, for DIRECT a quadword; addresses are those of the codes on either unit, and wrap where they are written
unfoldable pub waiting_in_range : VifUnit → Waiting → ℕ → ℕ → Bool
waiting_in_range which Nothing cl wl = true
waiting_in_range which (MaskDue i) cl wl = true
waiting_in_range which (RowDue due i) cl wl = up_to 4 due
waiting_in_range which (ColDue due i) cl wl = up_to 4 due
waiting_in_range which (MpgDue a n due i) cl wl = leb a mpg_address_most && (up_to 256 n && up_to (n + n) due)
waiting_in_range which (DirectDue due i) cl wl = direct_in_range which 0x50 due
waiting_in_range which (DirecthlDue due i) cl wl = direct_in_range which 0x51 due
waiting_in_range which (UnpackDue f u) cl wl = cycle_in_range cl wl && unpacking_in_range f cl wl u

unfoldable pub unit_in_range : VifUnit → Vif → Bool
unit_in_range which v = registers_in_range which v && waiting_in_range which v.waiting v.cl v.wl
