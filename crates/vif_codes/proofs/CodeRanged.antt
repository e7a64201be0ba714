-- What a code holds is in its range, and the unit stays in range in the code's own step.
use Rattle.std.specs.Prelude.{None, Option, Some}
use mathlib.Core.Path.{◌≡◌, refl, ◌∙◌}
use mathlib.Core.Bool.{Bool, true, false, not}
use mathlib.Core.List.{List}
use Prim.Native.Nat.{ℕ, ◌+◌, ◌<◌, ◌≤◌}
use native.Mathlib.Omega.{arith}
use borrow.Author.Tests.{le-leb, eqb-true, eqb-false, not-false}
use lib.Dec.{eqb, leb}
use Rattle.fields.specs.Fields.{bits}
use Rattle.fields.specs.Refusals.{cmd_unlisted, format_missing}
use Rattle.fields.proofs.FieldLaws.{bits_below}
use Rattle.fields.proofs.ChoiceLaws.{if_ind, if_ind_by}
use Rattle.memories.specs.declared.VifUnit.{VifUnit}
use Rattle.memories.specs.declared.VifUnit.TheVariants.{Vif0, Vif1}
use Rattle.unpack_rules.specs.declared.Format.{Format}
use Rattle.unpack_rules.specs.Formats.{format_named}
use Rattle.unpack_rules.specs.Position.{address_most}
use Rattle.unpack_rules.specs.Range.{cycle_refused, cycle_in_range}
use Rattle.unpack_rules.specs.Step.{count_of}
use Rattle.unpack_rules.proofs.StepLaws.{count_range, accepted_cycle, cycle_fits, fits_unpacking, begun_fits}
use Rattle.vif_codes.specs.declared.Code.{Code}
use Rattle.vif_codes.specs.declared.Code.TheVariants.{Nop, Stcycl, Offset, Base, Itop, Stmod, Mskpath3, Mark, Flushe, Flush, Flusha, Mscal, Mscalf, Mscnt, Stmask, Strow, Stcol, Mpg, Direct, Directhl, Unpack}
use Rattle.vif_codes.specs.declared.UnpackCode.{UnpackCode}
use Rattle.vif_codes.specs.declared.CodeResult.{CodeResult}
use Rattle.vif_codes.specs.Decoded.{Decoded, Known, Unknown}
use Rattle.vif_codes.specs.declared.Waiting.{Waiting}
use Rattle.vif_codes.specs.declared.Waiting.TheVariants.{Nothing, MaskDue, RowDue, ColDue, MpgDue, DirectDue, DirecthlDue, UnpackDue}
use Rattle.vif_codes.specs.declared.Vif.{Vif}
use Rattle.vif_codes.specs.Setters.{with_waiting}
use Rattle.vif_codes.specs.Codes.{imm_of, num_of, cmd_of, direct_quadwords, mpg_address_most, missing_code, code_listed, plain_code, unpack_code, unpack_numbers, code_of, decode_of}
use Rattle.vif_codes.specs.Execute.{Executed, next_tops, started, start_program, set_mode, begin_mpg, begun_unpack, unpack_refusal, begin_unpack, execute_of, decoded_step}
use Rattle.vif_codes.specs.Range.{up_to, tops_most, bit_in_range, direct_in_range, waiting_in_range, unit_in_range}
use Rattle.vif_codes.proofs.RangeLaws.{fits_up_to, RegistersFit, both_fit, vif1_fit, unit_ranged}
use Rattle.vif_codes.proofs.CodeLaws.{listed_one, started_waiting, refusal_cycle}

-- ---- decoded codes hold numbers of their fields

data Any : Type 0 where
  any : Any

abbrev CodeFits : VifUnit → Code → Type 0
CodeFits which Nop = Any
CodeFits which (Stcycl cl wl) = (cl ≤ 255) × (wl ≤ 255)
CodeFits which (Offset x) = x ≤ tops_most which
CodeFits which (Base x) = x ≤ tops_most which
CodeFits which (Itop x) = x ≤ address_most
CodeFits which (Stmod m) = m ≤ 3
CodeFits which (Mskpath3 b) = bit_in_range which b ≡ true
CodeFits which (Mark x) = x ≤ 65535
CodeFits which Flushe = Any
CodeFits which Flush = Any
CodeFits which Flusha = Any
CodeFits which (Mscal x) = Any
CodeFits which (Mscalf x) = Any
CodeFits which Mscnt = Any
CodeFits which Stmask = Any
CodeFits which Strow = Any
CodeFits which Stcol = Any
CodeFits which (Mpg a num) = a ≤ mpg_address_most
CodeFits which (Direct n) = direct_in_range which 0x50 n ≡ true
CodeFits which (Directhl n) = direct_in_range which 0x51 n ≡ true
CodeFits which (Unpack f u) = Any

module _ (which : VifUnit) where
  abbrev DecodedFits : Decoded → Type 0
  DecodedFits (Known c) = CodeFits which c
  DecodedFits (Unknown n) = Any

  record Fits (d : Decoded) : Type 0 where
    fits : DecodedFits d

  fine : (d : Decoded) → DecodedFits d → Fits d
  fine d h = record { fits = h }

  direct_fits : (cmd k imm : ℕ) → imm < 65536 → code_listed which cmd ≡ true → eqb cmd k ≡ true → direct_in_range which k (direct_quadwords imm) ≡ true
  unfolding direct_in_range direct_quadwords
  direct_fits cmd k imm h l e =
      rw (← eqb-true cmd k e, l)
      (if_ind_by (λ (n : ℕ). up_to 65536 n ≡ true) (eqb imm 0) (λ z. fits_up_to 65536 65536 (omega arith) (omega arith))
      (λ z. let y = eqb-false imm 0 z in fits_up_to 65536 imm (omega arith) (omega arith)))

  plain_fits : (cmd num imm : ℕ) → imm < 65536 → code_listed which cmd ≡ true → Fits (plain_code cmd num imm)
  unfolding missing_code plain_code
  plain_fits cmd num imm h l =
      if_ind Fits (eqb cmd 0x00) (fine (Known Nop) any)
      (if_ind Fits (eqb cmd 0x01) (fine (Known (Stcycl _ _)) (ten 0 7 255 (bits_below imm 0 7), ten 8 15 255 (bits_below imm 8 15)))
      (if_ind_by Fits (eqb cmd 0x02) (λ e. fine (Known (Offset _)) (tops_fit 0x02 e refl))
      (λ _. if_ind_by Fits (eqb cmd 0x03) (λ e. fine (Known (Base _)) (tops_fit 0x03 e refl))
      (λ _. if_ind Fits (eqb cmd 0x04) (fine (Known (Itop _)) (ten 0 9 address_most (bits_below imm 0 9)))
      (if_ind Fits (eqb cmd 0x05) (fine (Known (Stmod _)) (ten 0 1 3 (bits_below imm 0 1)))
      (if_ind_by Fits (eqb cmd 0x06) (λ e. fine (Known (Mskpath3 _)) (listed_one (λ (k : VifUnit). bit_in_range k (eqb (bits imm 15 15) 1) ≡ true) which cmd 0x06 l e refl refl))
      (λ _. if_ind Fits (eqb cmd 0x07) (fine (Known (Mark _)) (omega arith))
      (if_ind Fits (eqb cmd 0x10) (fine (Known Flushe) any)
      (if_ind Fits (eqb cmd 0x11) (fine (Known Flush) any)
      (if_ind Fits (eqb cmd 0x13) (fine (Known Flusha) any)
      (if_ind Fits (eqb cmd 0x14) (fine (Known (Mscal imm)) any)
      (if_ind Fits (eqb cmd 0x15) (fine (Known (Mscalf imm)) any)
      (if_ind Fits (eqb cmd 0x17) (fine (Known Mscnt) any)
      (if_ind Fits (eqb cmd 0x20) (fine (Known Stmask) any)
      (if_ind Fits (eqb cmd 0x30) (fine (Known Strow) any)
      (if_ind Fits (eqb cmd 0x31) (fine (Known Stcol) any)
      (if_ind Fits (eqb cmd 0x4A) (fine (Known (Mpg _ num)) (ten 0 10 mpg_address_most (bits_below imm 0 10)))
      (if_ind_by Fits (eqb cmd 0x50) (λ e. fine (Known (Direct _)) (direct_fits cmd 0x50 imm h l e))
      (λ _. if_ind_by Fits (eqb cmd 0x51) (λ e. fine (Known (Directhl _)) (direct_fits cmd 0x51 imm h l e))
      (λ _. fine (Unknown cmd_unlisted) any))))))))))))))))))))
    where
      ten : (from to n : ℕ) → bits imm from to < n + 1 → bits imm from to ≤ n
      ten from to n l = omega arith

      tops_fit : (k : ℕ) → eqb cmd k ≡ true → missing_code k ≡ true → bits imm 0 9 ≤ tops_most which
      tops_fit k e m = listed_one (λ (u : VifUnit). bits imm 0 9 ≤ tops_most u) which cmd k l e m (ten 0 9 address_most (bits_below imm 0 9))

  unpack_code_fits : (format : Option Format) (u : UnpackCode) → Fits (unpack_code format u)
  unpack_code_fits (Some f) u = fine (Known (Unpack f u)) any
  unpack_code_fits None u = fine (Unknown format_missing) any

  decode_fits : (word : ℕ) → Fits (decode_of which word)
  unfolding decode_of code_of
  decode_fits word =
      if_ind Fits (leb 0x60 (cmd_of word))
      (unpack_code_fits (format_named (bits (cmd_of word) 0 3)) (unpack_numbers (cmd_of word) (num_of word) (imm_of word)))
      (if_ind_by Fits (code_listed which (cmd_of word)) (plain_fits (cmd_of word) (num_of word) (imm_of word) (bits_below word 0 15))
      (λ _. fine (Unknown cmd_unlisted) any))

-- ---- a code's own step

idle_ranged : (which : VifUnit) (v : Vif) → RegistersFit which v → v.waiting ≡ Nothing → unit_in_range which v ≡ true
unfolding waiting_in_range
idle_ranged which v f q = unit_ranged which v f (rw q refl)

-- a bit that is clear is in range on both units
bit_clear : (which : VifUnit) → bit_in_range which false ≡ true
bit_clear Vif0 = refl
bit_clear Vif1 = refl

tops_next : (dbf : Bool) (v : Vif) → v.base ≤ address_most → next_tops dbf v ≤ address_most
unfolding next_tops
tops_next dbf v h = if_ind (λ (n : ℕ). n ≤ address_most) dbf (omega arith) h

-- the registers after a program start
started_fits : (which : VifUnit) (v : Vif) → RegistersFit which v → RegistersFit which (started which v)
started_fits Vif0 v (f, g) = (both_fit f.cl_fits f.wl_fits f.itops_fits f.itops_fits f.mode_fits f.mark_fits, g)
started_fits Vif1 v (f, g) = (
  both_fit f.cl_fits f.wl_fits f.itops_fits f.itops_fits f.mode_fits f.mark_fits,
  vif1_fit g.ofst_fits g.base_fits (tops_next (not v.dbf) v g.base_fits) g.tops_fits refl refl,
)

-- the unit that a result leaves is in range
record Ranged (which : VifUnit) (v : Vif) : Type 0 where
  held : unit_in_range which v ≡ true

module _ (which : VifUnit) (v : Vif) (f : RegistersFit which v) (q : v.waiting ≡ Nothing) where
  idle : (u : Vif) → u.waiting ≡ v.waiting → RegistersFit which u → Ranged which u
  idle u e g = record { held = idle_ranged which u g (e ∙ q) }

  unchanged : Ranged which v
  unchanged = idle v refl f

  ranged_start : (r x : ℕ) (i : Bool) (used : ℕ) (mem log : List ℕ) → Ranged which (start_program which r x v i used mem log).unit
  unfolding start_program
  ranged_start r x i used mem log =
      if_ind (λ (e : Executed). Ranged which e.unit) _ unchanged (idle (started which v) (started_waiting which v) (started_fits which v f))

  ranged_waits : (w : Waiting) → waiting_in_range which w v.cl v.wl ≡ true → Ranged which (with_waiting v w)
  ranged_waits w h = record { held = unit_ranged which (with_waiting v w) f h }

  -- what rule 22 leaves is in range
  cycle_ranged : cycle_refused v.cl v.wl ≡ false → cycle_in_range v.cl v.wl ≡ true
  cycle_ranged h = accepted_cycle v.cl v.wl h f.0.cl_fits f.0.wl_fits

  -- with CL 0 nothing waits after an UNPACK; else its payload is due
  ranged_unpack : (g : Format) (u : UnpackCode) (i : Bool) (used : ℕ) (mem log : List ℕ) → Ranged which (begin_unpack which g u v i used mem log).unit
  unfolding begin_unpack waiting_in_range
  ranged_unpack g u i used mem log =
      if_ind_by (λ (e : Executed). Ranged which e.unit) (not (eqb (unpack_refusal which u v) 0)) (λ e. unchanged)
      (λ e.
      if_ind_by (λ (o : Executed). Ranged which o.unit) (eqb v.cl 0) (λ z. idle _ refl f)
      (λ z.
      let c = eqb-false v.cl 0 z in
      let r = cycle_ranged (refusal_cycle which u v (eqb-true _ 0 (not-false _ e))) in
      let w = (cycle_fits v.cl v.wl r).some in
      ranged_waits (UnpackDue g (begun_unpack g u v i))
      (rw r (fits_unpacking g v.cl v.wl _ (begun_fits g v.cl v.wl _ _ _ _ _ (omega arith) w)))))

  ranged : (c : Code) → CodeFits which c → (i : Bool) (used : ℕ) (mem log : List ℕ) → Ranged which (execute_of which c v i used mem log).unit
  unfolding set_mode begin_mpg waiting_in_range
  ranged Nop h i used mem log = unchanged
  ranged (Stcycl cl wl) h i used mem log = idle _ refl (both_fit h.0 h.1 f.0.itops_fits f.0.itop_fits f.0.mode_fits f.0.mark_fits, f.1)
  ranged (Offset x) h i used mem log = idle _ refl (f.0, vif1_fit h f.1.base_fits f.1.base_fits f.1.top_fits (bit_clear which) f.1.mskpath3_fits)
  ranged (Base x) h i used mem log = idle _ refl (f.0, vif1_fit f.1.ofst_fits h f.1.tops_fits f.1.top_fits f.1.dbf_fits f.1.mskpath3_fits)
  ranged (Itop x) h i used mem log = idle _ refl (both_fit f.0.cl_fits f.0.wl_fits h f.0.itop_fits f.0.mode_fits f.0.mark_fits, f.1)
  ranged (Stmod m) h i used mem log =
      if_ind_by (λ (r : CodeResult). Ranged which r.unit) (eqb m 3) (λ e. unchanged)
      (λ e.
      let z = eqb-false m 3 e in
      idle _ refl (both_fit f.0.cl_fits f.0.wl_fits f.0.itops_fits f.0.itop_fits (omega arith) f.0.mark_fits, f.1))
  ranged (Mskpath3 b) h i used mem log = idle _ refl (f.0, vif1_fit f.1.ofst_fits f.1.base_fits f.1.tops_fits f.1.top_fits f.1.dbf_fits h)
  ranged (Mark x) h i used mem log = idle _ refl (both_fit f.0.cl_fits f.0.wl_fits f.0.itops_fits f.0.itop_fits f.0.mode_fits h, f.1)
  ranged Flushe h i used mem log = unchanged
  ranged Flush h i used mem log = unchanged
  ranged Flusha h i used mem log = unchanged
  ranged (Mscal x) h i used mem log = ranged_start 256 x i used mem log
  ranged (Mscalf x) h i used mem log = ranged_start 257 x i used mem log
  ranged Mscnt h i used mem log = ranged_start 258 0 i used mem log
  ranged Stmask h i used mem log = ranged_waits (MaskDue i) refl
  ranged Strow h i used mem log = ranged_waits (RowDue 4 i) (fits_up_to 4 4 (omega arith) (omega arith))
  ranged Stcol h i used mem log = ranged_waits (ColDue 4 i) (fits_up_to 4 4 (omega arith) (omega arith))
  ranged (Mpg a num) h i used mem log =
      let n = count_range num in
      ranged_waits (MpgDue a (count_of num) (count_of num + count_of num) i)
      (rw (le-leb a mpg_address_most h, fits_up_to 256 (count_of num) n.0 n.1) (fits_up_to (count_of num + count_of num) (count_of num + count_of num) (omega arith) (omega arith)))
  ranged (Direct n) h i used mem log = ranged_waits (DirectDue n i) h
  ranged (Directhl n) h i used mem log = ranged_waits (DirecthlDue n i) h
  ranged (Unpack g u) h i used mem log = ranged_unpack g u i used mem log

  ranged_decoded : (d : Decoded) → DecodedFits which d → (i : Bool) (used : ℕ) (mem log : List ℕ) → Ranged which (decoded_step which d v i used mem log).unit
  ranged_decoded (Known c) h i used mem log = ranged c h i used mem log
  ranged_decoded (Unknown n) h i used mem log = unchanged

-- a code's law: the unit that its own step leaves is in range
pub code_ranged : (which : VifUnit) (v : Vif) → RegistersFit which v → v.waiting ≡ Nothing → (word : ℕ) (i : Bool) (used : ℕ) (mem log : List ℕ)
    → unit_in_range which (decoded_step which (decode_of which word) v i used mem log).unit ≡ true
code_ranged which v f q word i used mem log = (ranged_decoded which v f q (decode_of which word) (decode_fits which word).fits i used mem log).held
