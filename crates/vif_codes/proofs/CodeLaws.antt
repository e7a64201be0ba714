-- Codes and what they do, from what the parts give.
use Rattle.std.specs.Prelude.{Option, Some, Ok, IsSome}
use mathlib.Core.Path.{◌≡◌, refl, ap, ◌∙◌}
use mathlib.Core.Bool.{Bool, true, false}
use mathlib.Core.List.{List}
use Prim.Native.Nat.{ℕ, ◌+◌, ◌%◌}
use native.Mathlib.Omega.{arith}
use borrow.Author.Tests.{eqb-true, eq-eqb, ne_eqb}
use lib.Dec.{eqb}
use Rattle.fields.specs.Fields.{if}
use Rattle.fields.specs.Refusals.{cycle_wrong, log_full}
use Rattle.fields.proofs.ChoiceLaws.{if_zero}
use Rattle.gif.specs.Log.{start_entry, lacks_room, Entered, entered, entry_of}
use Rattle.memories.specs.declared.VifUnit.{VifUnit}
use Rattle.memories.specs.declared.VifUnit.TheVariants.{Vif0, Vif1}
use Rattle.memories.specs.Units.{quadwords}
use Rattle.unpack_rules.specs.declared.Format.{Format}
use Rattle.unpack_rules.specs.declared.Unpacking.{Unpacking}
use Rattle.unpack_rules.specs.declared.Registers.{Registers}
use Rattle.unpack_rules.specs.Position.{addresses}
use Rattle.unpack_rules.specs.Range.{cycle_refused}
use Rattle.unpack_rules.specs.Step.{left as unpackLeft, unpacking_of, unfed_acceptable, unfed_of}
use Rattle.unpack_rules.proofs.StepLaws.{left_some}
use Rattle.vif_codes.specs.declared.UnpackCode.{UnpackCode}
use Rattle.vif_codes.specs.declared.CodeResult.{CodeResult}
use Rattle.vif_codes.specs.declared.Taken.TheVariants.{Word as TakenWord}
use Rattle.vif_codes.specs.VifAnswer.{Word, Refused}
use Rattle.vif_codes.specs.declared.Waiting.TheVariants.{UnpackDue}
use Rattle.vif_codes.specs.declared.Vif.{Vif}
use Rattle.vif_codes.specs.Setters.{with_row}
use Rattle.vif_codes.specs.Codes.{missing_code, code_listed}
use Rattle.vif_codes.specs.Payload.{write_registers}
use Rattle.vif_codes.specs.Execute.{Executed, executed, code_result, result_with, started, start_program, waits_for, address_of, begun_unpack, tops_refused, unpack_refusal, unfed_written, unfed_step, begin_unpack}

-- ---- where the units differ

-- a code that VIF0 doesn't lack is listed on both
pub listed_both : (which : VifUnit) (cmd : ℕ) → missing_code cmd ≡ false → code_listed which cmd ≡ true
listed_both Vif0 cmd e = rw e
listed_both Vif1 cmd e = refl

-- what a code that VIF0 lacks needs is needed of VIF1 alone
pub listed_one : (P : VifUnit → Type 0) (which : VifUnit) (cmd k : ℕ) → code_listed which cmd ≡ true → eqb cmd k ≡ true → missing_code k ≡ true → P Vif1
    → P which
listed_one P Vif0 cmd k l e m p = absurd (let l' = rw (eqb-true cmd k e, m) at l in let z : ◌≡◌ {A = ℕ} 0 1 = cc in omega arith)
listed_one P Vif1 cmd k l e m p = p

-- a program start leaves alone what waits
pub started_waiting : (which : VifUnit) (v : Vif) → (started which v).waiting ≡ v.waiting
started_waiting Vif0 v = refl
started_waiting Vif1 v = refl

-- IMM bit 15 clear is refused on neither
pub tops_clear : (which : VifUnit) → tops_refused which false ≡ false
tops_clear Vif0 = refl
tops_clear Vif1 = refl

-- ---- a program start

-- by whether its entry was stored
module _ (which : VifUnit) (r x : ℕ) (v : Vif) (i : Bool) (used : ℕ) (mem log : List ℕ) {b : Bool} {m : List ℕ}
    (e : entered b m ≡ entry_of log used (start_entry r x)) where
  pub program_started : b ≡ true → executed (Word i) (started which v) (used + 1) mem m ≡ start_program which r x v i used mem log
  unfolding start_program entry_of if
  program_started t = go (lacks_room log used 1) refl
    where
      go : (c : Bool) → lacks_room log used 1 ≡ c → executed (Word i) (started which v) (used + 1) mem m ≡ start_program which r x v i used mem log
      go true w = absurd (let e' = rw w at e in let s = ap (λ (y : Entered). y.stored) e' in let z : ◌≡◌ {A = ℕ} 0 1 = cc in omega arith)
      go false w = let e' = rw w at e in rw (w, ap (λ (y : Entered). y.log) e')

  pub program_refused : b ≡ false → executed (Refused log_full) v used mem m ≡ start_program which r x v i used mem log
  unfolding start_program entry_of if
  program_refused t = go (lacks_room log used 1) refl
    where
      go : (c : Bool) → lacks_room log used 1 ≡ c → executed (Refused log_full) v used mem m ≡ start_program which r x v i used mem log
      go false w = absurd (let e' = rw w at e in let s = ap (λ (y : Entered). y.stored) e' in let z : ◌≡◌ {A = ℕ} 0 1 = cc in omega arith)
      go true w = let e' = rw w at e in rw (w, ap (λ (y : Entered). y.log) e')

-- an UNPACK reads ten bits of its address
pub begun_mod : (f : Format) (u : UnpackCode) (v : Vif) (i : Bool) (a : ℕ) {w : Unpacking} → a % addresses ≡ address_of u v.tops % addresses
    → w ≡ unpacking_of f v.cl v.wl a u.num u.usn u.masked i → w ≡ begun_unpack f u v i
unfolding unpacking_of
begun_mod f u v i a h e = e ∙ rw h

-- ---- UNPACK's own step

module _ (which : VifUnit) (u : UnpackCode) (v : Vif) where
  -- no refusal: neither 22 nor 26
  pub refusal_none : cycle_refused v.cl v.wl ≡ false → tops_refused which u.tops ≡ false → unpack_refusal which u v ≡ 0
  unfolding unpack_refusal if
  refusal_none c t = rw (c, t)

  pub refusal_cycle : unpack_refusal which u v ≡ 0 → cycle_refused v.cl v.wl ≡ false
  unfolding unpack_refusal
  refusal_cycle e = (if_zero (cycle_refused v.cl v.wl) cycle_wrong (omega arith) e).0

module _ (which : VifUnit) (f : Format) (u : UnpackCode) (v : Vif) (i : Bool) (mem : List ℕ) (c : unpack_refusal which u v ≡ 0) where
  module _ (used : ℕ) (log : List ℕ) {w : Unpacking} (ew : w ≡ begun_unpack f u v i) where
    pub unpack_unfed : v.cl ≡ 0 → {e : Executed} → e ≡ unfed_step (unfed_written which f w v mem) v i used log
        → e ≡ begin_unpack which f u v i used mem log
    unfolding begin_unpack if
    unpack_unfed z q = rw (c, eq-eqb v.cl 0 z, ← ew) q

    pub unpack_begun : (v.cl ≡ 0 → ⊥) → {r : CodeResult} → r ≡ waits_for v (UnpackDue f w) used
        → result_with r mem log ≡ begin_unpack which f u v i used mem log
    unfolding begin_unpack if
    unpack_begun z q = rw (c, ne_eqb v.cl 0 z, ← ew, q)

-- UNPACK's writes without payload
module _ (which : VifUnit) (f : Format) (u : Unpacking) (v : Vif) (mem : List ℕ) (h : unfed_acceptable (quadwords which) u (write_registers v) mem ≡ true)
    {r : Registers} (s : Option (List ℕ)) (m : List ℕ) (er : r ≡ write_registers v)
    (es : unpackLeft v.row s m ≡ unfed_of (quadwords which) f u r v.row mem) where
  unfed_given : (s ≡ Some (unfed_written which f u v mem).row) × (m ≡ (unfed_written which f u v mem).mem)
  unfolding unfed_of if
  unfed_given = left_some v.row s (rw (er, h) at es)

  pub unfed_some : IsSome s
  unfed_some = rw unfed_given.0

  pub unfed_done : (i : Bool) (used : ℕ) (log : List ℕ) {row : List ℕ} {v' : Vif} {o : CodeResult} → s ≡ Some row → v' ≡ with_row v row
      → o ≡ code_result (Ok (TakenWord i)) v' used → result_with o m log ≡ unfed_step (unfed_written which f u v mem) v i used log
  unfed_done i used log {row} en ev eo =
      let q : row ≡ (unfed_written which f u v mem).row = cc (unfed_given.0) in
      rw (eo, ev, q, unfed_given.1)
