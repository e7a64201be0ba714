-- Tests as facts.
use mathlib.Core.Path.{◌≡◌}
use mathlib.Core.Bool.{Bool, true}
use Prim.Native.Nat.{ℕ, ◌+◌, ◌≤◌}
use borrow.Author.Tests.{leb-true, le-leb}
use lib.Dec.{leb}
use Rattle.fields.proofs.ChoiceLaws.{and_left, and_right}
use Rattle.memories.specs.declared.VifUnit.{VifUnit}
use Rattle.unpack_rules.specs.declared.Format.{Format}
use Rattle.unpack_rules.specs.declared.Unpacking.{Unpacking}
use Rattle.unpack_rules.specs.Position.{address_most}
use Rattle.unpack_rules.specs.Range.{cycle_in_range}
use Rattle.unpack_rules.proofs.StepLaws.{unpacking_fits}
use Rattle.vif_codes.specs.declared.Waiting.{Waiting}
use Rattle.vif_codes.specs.declared.Waiting.TheVariants.{RowDue, ColDue, MpgDue, DirectDue, DirecthlDue, UnpackDue}
use Rattle.vif_codes.specs.declared.Vif.{Vif}
use Rattle.vif_codes.specs.Codes.{mpg_address_most, code_listed}
use Rattle.vif_codes.specs.Range.{up_to, registers_in_range, direct_in_range, waiting_in_range, unit_in_range, tops_most, bit_in_range}

pub up_to_fits : (n x : ℕ) → up_to n x ≡ true → (1 ≤ x) × (x ≤ n)
unfolding up_to
up_to_fits n x h = (leb-true 1 x (and_left _ _ h), leb-true x n (and_right (leb 1 x) _ h))

pub fits_up_to : (n x : ℕ) → 1 ≤ x → x ≤ n → up_to n x ≡ true
unfolding up_to
fits_up_to n x p q = rw (le-leb 1 x p, le-leb x n q)

-- what waits in a unit in range
module _ (which : VifUnit) (v : Vif) (h : unit_in_range which v ≡ true) where
  pub waiting_ranged : {w : Waiting} → v.waiting ≡ w → waiting_in_range which w v.cl v.wl ≡ true
  unfolding unit_in_range
  waiting_ranged q = rw (← q) (and_right (registers_in_range which v) _ h)

  pub row_due : {due : ℕ} {i : Bool} → v.waiting ≡ RowDue due i → (1 ≤ due) × (due ≤ 4)
  unfolding waiting_in_range
  row_due q = up_to_fits 4 _ (waiting_ranged q)

  pub col_due : {due : ℕ} {i : Bool} → v.waiting ≡ ColDue due i → (1 ≤ due) × (due ≤ 4)
  unfolding waiting_in_range
  col_due q = up_to_fits 4 _ (waiting_ranged q)

  -- the code exists, and quadwords are due
  direct_ranged : (cmd due : ℕ) → direct_in_range which cmd due ≡ true → (1 ≤ due) × (due ≤ 65536)
  unfolding direct_in_range
  direct_ranged cmd due r = up_to_fits 65536 due (and_right (code_listed which cmd) _ r)

  pub direct_due : {due : ℕ} {i : Bool} → v.waiting ≡ DirectDue due i → (1 ≤ due) × (due ≤ 65536)
  unfolding waiting_in_range
  direct_due q = direct_ranged 0x50 _ (waiting_ranged q)

  pub directhl_due : {due : ℕ} {i : Bool} → v.waiting ≡ DirecthlDue due i → (1 ≤ due) × (due ≤ 65536)
  unfolding waiting_in_range
  directhl_due q = direct_ranged 0x51 _ (waiting_ranged q)

  pub mpg_due : {a n due : ℕ} {i : Bool} → v.waiting ≡ MpgDue a n due i
      → (a ≤ mpg_address_most) × (n ≤ 256) × (due ≤ n + n) × (1 ≤ due) × (1 ≤ n)
  unfolding waiting_in_range
  mpg_due {a} {n} {due} {i} q =
      let r = waiting_ranged q in
      let r' = and_right (leb a mpg_address_most) _ r in
      let m = up_to_fits 256 n (and_left _ _ r') in
      let d = up_to_fits (n + n) due (and_right (up_to 256 n) _ r') in
      (leb-true a mpg_address_most (and_left _ _ r), m.1, d.1, d.0, m.0)

  -- words are due
  pub unpack_some : {f : Format} {u : Unpacking} → v.waiting ≡ UnpackDue f u → 1 ≤ u.due
  unfolding waiting_in_range
  unpack_some {f} {u} q = (unpacking_fits f v.cl v.wl u (and_right (cycle_in_range v.cl v.wl) _ (waiting_ranged q))).left

-- ---- registers as facts

-- those of both units
pub record BothFit (cl wl itops itop mode mark : ℕ) : Type 0 where
  pub cl_fits : cl ≤ 255
  pub wl_fits : wl ≤ 255
  pub itops_fits : itops ≤ address_most
  pub itop_fits : itop ≤ address_most
  pub mode_fits : mode ≤ 2
  pub mark_fits : mark ≤ 65535

-- those that VIF1 alone writes
pub record Vif1Fit (which : VifUnit) (ofst base tops top : ℕ) (dbf mskpath3 : Bool) : Type 0 where
  pub ofst_fits : ofst ≤ tops_most which
  pub base_fits : base ≤ tops_most which
  pub tops_fits : tops ≤ tops_most which
  pub top_fits : top ≤ tops_most which
  pub dbf_fits : bit_in_range which dbf ≡ true
  pub mskpath3_fits : bit_in_range which mskpath3 ≡ true

-- by their values, so that a unit with the same registers has the same facts
abbrev pub RegistersFit : VifUnit → Vif → Type 0
RegistersFit which v =
    BothFit v.cl v.wl v.itops v.itop v.mode v.mark
    × Vif1Fit which v.ofst v.base v.tops v.top v.dbf v.mskpath3

pub both_fit : {cl wl itops itop mode mark : ℕ} → cl ≤ 255 → wl ≤ 255 → itops ≤ address_most → itop ≤ address_most → mode ≤ 2 → mark ≤ 65535
    → BothFit cl wl itops itop mode mark
both_fit a b c d e g = record { cl_fits = a; wl_fits = b; itops_fits = c; itop_fits = d; mode_fits = e; mark_fits = g }

pub vif1_fit : {which : VifUnit} {ofst base tops top : ℕ} {dbf mskpath3 : Bool} → ofst ≤ tops_most which → base ≤ tops_most which → tops ≤ tops_most which
    → top ≤ tops_most which → bit_in_range which dbf ≡ true → bit_in_range which mskpath3 ≡ true → Vif1Fit which ofst base tops top dbf mskpath3
vif1_fit a b c d e g = record { ofst_fits = a; base_fits = b; tops_fits = c; top_fits = d; dbf_fits = e; mskpath3_fits = g }

registers_fit : (which : VifUnit) (v : Vif) → registers_in_range which v ≡ true → RegistersFit which v
unfolding registers_in_range
registers_fit which v h0 =
    let h1 = and_right (leb v.cl 255) _ h0 in
    let h2 = and_right (leb v.wl 255) _ h1 in
    let h3 = and_right (leb v.itops address_most) _ h2 in
    let h4 = and_right (leb v.itop address_most) _ h3 in
    let h5 = and_right (leb v.mode 2) _ h4 in
    let k0 = and_right (leb v.mark 65535) _ h5 in
    let k1 = and_right (leb v.ofst (tops_most which)) _ k0 in
    let k2 = and_right (leb v.base (tops_most which)) _ k1 in
    let k3 = and_right (leb v.tops (tops_most which)) _ k2 in
    let k4 = and_right (leb v.top (tops_most which)) _ k3 in (
      both_fit (leb-true v.cl 255 (and_left _ _ h0)) (leb-true v.wl 255 (and_left _ _ h1)) (leb-true v.itops address_most (and_left _ _ h2)) (leb-true v.itop address_most (and_left _ _ h3)) (leb-true v.mode 2 (and_left _ _ h4)) (leb-true v.mark 65535 (and_left _ _ h5)),
      vif1_fit (leb-true v.ofst (tops_most which) (and_left _ _ k0)) (leb-true v.base (tops_most which) (and_left _ _ k1)) (leb-true v.tops (tops_most which) (and_left _ _ k2)) (leb-true v.top (tops_most which) (and_left _ _ k3)) (and_left _ _ k4) (and_right (bit_in_range which v.dbf) _ k4),
    )

fit_registers : (which : VifUnit) (v : Vif) → RegistersFit which v → registers_in_range which v ≡ true
unfolding registers_in_range
fit_registers which v (f, g) =
    rw (le-leb v.cl 255 f.cl_fits, le-leb v.wl 255 f.wl_fits, le-leb v.itops address_most f.itops_fits, le-leb v.itop address_most f.itop_fits, le-leb v.mode 2 f.mode_fits, le-leb v.mark 65535 f.mark_fits, le-leb v.ofst (tops_most which) g.ofst_fits, le-leb v.base (tops_most which) g.base_fits, le-leb v.tops (tops_most which) g.tops_fits, le-leb v.top (tops_most which) g.top_fits, g.dbf_fits, g.mskpath3_fits)

pub unit_registers : (which : VifUnit) (v : Vif) → unit_in_range which v ≡ true → RegistersFit which v
unfolding unit_in_range
unit_registers which v h = registers_fit which v (and_left _ _ h)

pub unit_ranged : (which : VifUnit) (v : Vif) → RegistersFit which v → waiting_in_range which v.waiting v.cl v.wl ≡ true
    → unit_in_range which v ≡ true
unfolding unit_in_range
unit_ranged which v f h = rw (fit_registers which v f) h
