-- A unit in range stays in range, and so a step leaves what the next one accepts.
use mathlib.Core.Path.{◌≡◌, refl, ◌∙◌}
use mathlib.Core.Bool.{Bool, true}
use Prim.Native.Nat.{ℕ, ◌+◌, ◌*◌, ◌-◌, ◌^◌}
use native.Mathlib.Omega.{arith}
use borrow.Author.Tests.{le-leb, eqb-false}
use lib.Dec.{eqb}
use Rattle.fields.specs.Fields.{quadword}
use Rattle.fields.proofs.ChoiceLaws.{and_left, and_right, if_ind, if_ind_by}
use Rattle.gif.specs.declared.GifPath.TheVariants.{Two}
use Rattle.gif.specs.declared.Path.{Path}
use Rattle.gif.specs.GifAnswer.{GifAnswer, Taken, Refused as GifRefused}
use Rattle.gif.specs.Range.{path_in_range}
use Rattle.gif.specs.Step.{Left as GifLeft, gif_step}
use Rattle.gif.proofs.RangeLaws.{log_fits}
use Rattle.gif.proofs.StepLaws.{step_ranged}
use Rattle.memories.specs.declared.VifUnit.{VifUnit}
use Rattle.memories.specs.Lengths.{Lent}
use Rattle.unpack_rules.specs.Range.{cycle_in_range}
use Rattle.unpack_rules.specs.Step.{holds}
use Rattle.unpack_rules.proofs.StepLaws.{unpacking_fits, fits_unpacking}
use Rattle.vif_codes.specs.declared.Incoming.{Incoming}
use Rattle.vif_codes.specs.declared.Incoming.TheVariants.{Word0, Word1, Word2, Word3}
use Rattle.vif_codes.specs.declared.Waiting.{Waiting}
use Rattle.vif_codes.specs.declared.Waiting.TheVariants.{Nothing, MaskDue, RowDue, ColDue, MpgDue, DirectDue, DirecthlDue, UnpackDue}
use Rattle.vif_codes.specs.declared.Vif.{Vif}
use Rattle.vif_codes.specs.Setters.{with_waiting}
use Rattle.vif_codes.specs.Codes.{mpg_address_most, code_listed}
use Rattle.vif_codes.specs.Payload.{or_nothing}
use Rattle.vif_codes.specs.Range.{direct_in_range, waiting_in_range, unit_in_range}
use Rattle.vif_codes.proofs.RangeLaws.{up_to_fits, fits_up_to, waiting_ranged, row_due, col_due, mpg_due, RegistersFit, unit_registers, unit_ranged}
use Rattle.vif_codes.proofs.CodeRanged.{code_ranged}
use Rattle.vif.specs.Inner.{StepReady}
use Rattle.vif.specs.Step.{Left, after_gif, give_quadword, direct_step, mpg_refused, mpg_step, unpack_step, code_step, step_by, vif_step}
use Rattle.vif.proofs.KeepLaws.{step_kept, log_stays}

-- ---- a payload word

or_nothing_ranged : (which : VifUnit) (due : ℕ) (w : Waiting) (cl wl : ℕ) → ((due ≡ 1 → ⊥) → waiting_in_range which w cl wl ≡ true)
    → waiting_in_range which (or_nothing due w) cl wl ≡ true
unfolding or_nothing waiting_in_range
or_nothing_ranged which due w cl wl h =
    if_ind_by (λ (x : Waiting). waiting_in_range which x cl wl ≡ true) (eqb due 1) (λ e. refl) (λ e. h (eqb-false due 1 e))

-- the unit and path 2 that a step leaves are in range
pub record StaysRanged (which : VifUnit) (o : Left) : Type 0 where
  pub unit_held_lem : unit_in_range which o.unit ≡ true
  pub path_held : path_in_range o.path2 ≡ true

module _ (which : VifUnit) (v : Vif) (h : unit_in_range which v ≡ true) (p : Path) (g : path_in_range p ≡ true) (used : ℕ) (m : Lent) where
  fits : RegistersFit which v
  fits = unit_registers which v h

  -- a unit that differs in ROW, COL, MASK and what waits alone
  after : (u : Vif) → RegistersFit which u → u.cl ≡ v.cl → u.wl ≡ v.wl → waiting_in_range which u.waiting v.cl v.wl ≡ true → (o : Left) → o.unit ≡ u
      → o.path2 ≡ p → StaysRanged which o
  after u f a b w o e d = record { unit_held_lem = rw e (unit_ranged which u f (rw (a, b) w)); path_held = rw d g }

  refused_ranged : (o : Left) → o.unit ≡ v → o.path2 ≡ p → StaysRanged which o
  refused_ranged o e d = record { unit_held_lem = rw e h; path_held = rw d g }

  gif_ranged : (a : GifAnswer) (o : GifLeft) → path_in_range o.path ≡ true → (due : ℕ) (i : Bool) (w : Waiting)
      → waiting_in_range which (or_nothing due w) v.cl v.wl ≡ true → StaysRanged which (after_gif a o v p due i w used m)
  gif_ranged (Taken c) o r due i w k =
      record { unit_held_lem = unit_ranged which (with_waiting v (or_nothing due w)) fits k; path_held = r }
  gif_ranged (GifRefused n) o r due i w k = refused_ranged _ refl refl

  direct_ranged : (n : Incoming) (due : ℕ) (i : Bool) (w : Waiting) → waiting_in_range which (or_nothing due w) v.cl v.wl ≡ true
      → StaysRanged which (direct_step n v p due i w used m)
  unfolding give_quadword
  direct_ranged (Word0 a b c d) due i w k =
      let quad = quadword (a + b * 2 ^ 32) (c + d * 2 ^ 32) in
      gif_ranged (gif_step Two p quad used m.log).answer (gif_step Two p quad used m.log) (step_ranged Two p g used m.log quad) due i w k
  direct_ranged (Word1 a) due i w k = refused_ranged _ refl refl
  direct_ranged (Word2 a) due i w k = refused_ranged _ refl refl
  direct_ranged (Word3 a) due i w k = refused_ranged _ refl refl

  -- with a quadword taken and not the last
  fewer : (cmd due : ℕ) → direct_in_range which cmd due ≡ true → (due ≡ 1 → ⊥) → direct_in_range which cmd (due - 1) ≡ true
  unfolding direct_in_range
  fewer cmd due r z =
      let d = up_to_fits 65536 due (and_right (code_listed which cmd) _ r) in
      rw (and_left (code_listed which cmd) _ r) (fits_up_to 65536 (due - 1) (omega arith) (omega arith))

  ranged_by : (w : Waiting) → v.waiting ≡ w → (n : Incoming) → StaysRanged which (step_by which w v p n used m)
  unfolding code_step mpg_step unpack_step waiting_in_range
  ranged_by Nothing q n = record { unit_held_lem = code_ranged which v fits q _ _ used m.mem m.log; path_held = g }
  ranged_by (MaskDue i) q n = after _ fits refl refl refl _ refl refl
  ranged_by (RowDue due i) q n =
      let d = row_due which v h q in
      after _ fits refl refl
      (or_nothing_ranged which due _ v.cl v.wl (λ z. fits_up_to 4 (due - 1) (omega arith) (omega arith)))
      _
      refl
      refl
  ranged_by (ColDue due i) q n =
      let d = col_due which v h q in
      after _ fits refl refl
      (or_nothing_ranged which due _ v.cl v.wl (λ z. fits_up_to 4 (due - 1) (omega arith) (omega arith)))
      _
      refl
      refl
  ranged_by (MpgDue a k due i) q n =
      let d = mpg_due which v h q in
      if_ind (StaysRanged which) (mpg_refused k due n) (refused_ranged _ refl refl)
      (after _ fits refl refl
      (or_nothing_ranged which due _ v.cl v.wl
      (λ z. rw (le-leb a mpg_address_most d.0, fits_up_to 256 k d.4 d.1) (fits_up_to (k + k) (due - 1) (omega arith) (omega arith))))
      _
      refl
      refl)
  ranged_by (DirectDue due i) q n = direct_ranged n due i _ (or_nothing_ranged which due _ v.cl v.wl (fewer 0x50 due (waiting_ranged which v h q)))
  ranged_by (DirecthlDue due i) q n = direct_ranged n due i _ (or_nothing_ranged which due _ v.cl v.wl (fewer 0x51 due (waiting_ranged which v h q)))
  ranged_by (UnpackDue f u) q n =
      let r = waiting_ranged which v h q in
      let x = unpacking_fits f v.cl v.wl u (and_right (cycle_in_range v.cl v.wl) _ r) in
      let l = x.left in
      let o = x.most in
      after _ fits refl refl
      (or_nothing_ranged which u.due _ v.cl v.wl
      (λ z.
      rw (and_left (cycle_in_range v.cl v.wl) _ r)
      (fits_unpacking f v.cl v.wl (holds u _)
      (record { inside = x.inside; some = x.some; few = x.few; left = omega arith; most = omega arith }))))
      _
      refl
      refl

  pub step_ranges : (n : Incoming) → StaysRanged which (vif_step which v p n used m)
  unfolding vif_step
  step_ranges n = ranged_by v.waiting refl n

-- what a step leaves passes the next step's tests
pub step_ready : (which : VifUnit) (v : Vif) (p : Path) (used : ℕ) (m : Lent) → StepReady which v p used m → (n : Incoming) (o : Left)
    → o ≡ vif_step which v p n used m → StepReady which o.unit o.path2 o.used o.memories
step_ready which v p used m r n o e =
    rw e
    (let k = step_kept which v p used m (log_fits m.log used r.fit.logged).holds n in
    let s = step_ranges which v r.ranged p r.path_ranged used m n in
    record {
      fit =
          record {
            long = k.mem_length ∙ r.fit.long;
            wide = k.code_length_lem ∙ r.fit.wide;
            logged = log_stays used _ m.log _ r.fit.logged k.log_grows;
          };
      path_ranged = s.path_held;
      ranged = s.unit_held_lem;
    })
