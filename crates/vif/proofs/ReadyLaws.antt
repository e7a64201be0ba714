-- What inner functions require, from what the tests give.
use mathlib.Core.Path.{◌≡◌}
use mathlib.Core.Bool.{Bool, true, ◌&&◌}
use mathlib.Core.List.{List}
use Prim.Native.Nat.{ℕ, ◌*◌, ◌≤◌, ◌%◌}
use native.Mathlib.Omega.{arith}
use borrow.Author.Tests.{le-leb, eq-eqb}
use lib.ListN.{length}
use lib.Dec.{eqb, leb}
use Rattle.fields.proofs.ChoiceLaws.{and_right}
use Rattle.memories.specs.declared.VifUnit.{VifUnit}
use Rattle.memories.specs.Units.{quadwords, instructions, data_words, code_bytes}
use Rattle.memories.proofs.UnitLaws.{quadwords_some, quadwords_most, instructions_some, instructions_most}
use Rattle.unpack_rules.specs.declared.Format.{Format}
use Rattle.unpack_rules.specs.declared.Unpacking.{Unpacking}
use Rattle.unpack_rules.specs.Position.{addresses, address_most}
use Rattle.unpack_rules.specs.Range.{cycle_in_range}
use Rattle.unpack_rules.specs.Inner.{MemoryFits}
use Rattle.unpack_rules.specs.Step.{acceptable, unpacking_of, unfed_acceptable}
use Rattle.unpack_rules.proofs.StepLaws.{unpacking_fits, count_few, accepted_cycle}
use Rattle.vif_codes.specs.declared.Waiting.TheVariants.{MpgDue, UnpackDue}
use Rattle.vif_codes.specs.declared.Vif.{Vif}
use Rattle.vif_codes.specs.Range.{waiting_in_range, unit_in_range}
use Rattle.vif_codes.specs.declared.UnpackCode.{UnpackCode}
use Rattle.vif_codes.specs.Payload.{write_registers}
use Rattle.vif_codes.specs.Execute.{address_of, begun_unpack, unpack_refusal}
use Rattle.vif_codes.proofs.RangeLaws.{waiting_ranged, mpg_due, unit_registers}
use Rattle.vif_codes.proofs.CodeLaws.{refusal_cycle}
use Rattle.vif.specs.Inner.{UnpackReady, MpgReady, CodeReady}

-- a memory that UNPACK takes
pub memory_accepted : (size : ℕ) (mem : List ℕ) → MemoryFits size mem → {b : Bool}
    → (leb 1 size && (leb size addresses && (eqb (length mem) (4 * size) && b))) ≡ b
memory_accepted size mem m = rw (le-leb 1 size m.some, le-leb size addresses m.most, eq-eqb (length mem) (4 * size) m.long)

-- a code's own step
pub code_ready : (which : VifUnit) (v : Vif) (mem : List ℕ) → unit_in_range which v ≡ true → length mem ≡ data_words which → CodeReady which v mem
code_ready which v mem h l = let f = (unit_registers which v h).0 in record { long = l; most = f.cl_fits; wide = f.wl_fits }

-- what waits in a unit in range
module _ (which : VifUnit) (v : Vif) (h : unit_in_range which v ≡ true) where
  pub mpg_ready : {a n due : ℕ} {i : Bool} → v.waiting ≡ MpgDue a n due i → (code : List ℕ) → length code ≡ code_bytes which
      → MpgReady (instructions which) a n due code
  mpg_ready q code l =
      let d = mpg_due which v h q in
      record {
        some = instructions_some which;
        most = instructions_most which;
        wide = l;
        inside = d.0;
        few = d.1;
        left = d.3;
        due_most = d.2;
      }

  pub unpack_due : {f : Format} {u : Unpacking} → v.waiting ≡ UnpackDue f u → (mem : List ℕ) → length mem ≡ data_words which
      → UnpackReady (quadwords which) v f u mem
  unfolding waiting_in_range acceptable
  unpack_due {f} {u} q mem l =
      let r = waiting_ranged which v h q in
      let x = unpacking_fits f v.cl v.wl u (and_right (cycle_in_range v.cl v.wl) _ r) in
      let m : MemoryFits (quadwords which) mem = record { some = quadwords_some which; most = quadwords_most which; long = l } in
      record { some = x.left; accepted = rw (memory_accepted (quadwords which) mem m) r }

-- with CL 0 the writes of an UNPACK pass its tests
pub unfed_accepted : (which : VifUnit) (f : Format) (u : UnpackCode) (v : Vif) (i : Bool) (mem : List ℕ) → unpack_refusal which u v ≡ 0 → CodeReady which v mem → v.cl ≡ 0
    → unfed_acceptable (quadwords which) (begun_unpack f u v i) (write_registers v) mem ≡ true
unfolding unfed_acceptable unpacking_of
unfed_accepted which f u v i mem c r z =
    let m : MemoryFits (quadwords which) mem = record { some = quadwords_some which; most = quadwords_most which; long = r.long } in
    let a : address_of u v.tops % addresses ≤ address_most = omega arith in
    rw (memory_accepted (quadwords which) mem m, accepted_cycle v.cl v.wl (refusal_cycle which u v c) r.most r.wide, eq-eqb v.cl 0 z, le-leb _ address_most a, le-leb _ 256 (count_few u.num))
