-- What a code does in its own step.
use Rattle.std.specs.Prelude.{ℕ, ◌+◌, ◌%◌, Bool, false, not, List, [], ◌∷◌, eqb, Result, Ok, Err}
use Rattle.fields.specs.Fields.{if}
use Rattle.fields.specs.declared.refusals.Refusal.{Refusal}
use Rattle.fields.specs.declared.refusals.Refusal.TheVariants.{ModeWrong}
use Rattle.fields.specs.Refusals.{cycle_wrong, tops_missing, log_full}
use Rattle.gif.specs.Log.{start_entry, logged, lacks_room}
use Rattle.memories.specs.declared.VifUnit.{VifUnit}
use Rattle.memories.specs.declared.VifUnit.TheVariants.{Vif0, Vif1}
use Rattle.memories.specs.Units.{quadwords}
use Rattle.unpack_rules.specs.declared.Format.{Format}
use Rattle.unpack_rules.specs.declared.Unpacking.{Unpacking}
use Rattle.unpack_rules.specs.Position.{addresses}
use Rattle.unpack_rules.specs.Range.{cycle_refused}
use Rattle.unpack_rules.specs.Write.{Written, written}
use Rattle.unpack_rules.specs.Step.{count_of, unpacking_of, unfed_writes}
use Rattle.vif_codes.specs.declared.Code.{Code}
use Rattle.vif_codes.specs.declared.Code.TheVariants.{Nop, Stcycl, Offset, Base, Itop, Stmod, Mskpath3, Mark, Flushe, Flush, Flusha, Mscal, Mscalf, Mscnt, Stmask, Strow, Stcol, Mpg, Direct, Directhl, Unpack}
use Rattle.vif_codes.specs.declared.UnpackCode.{UnpackCode}
use Rattle.vif_codes.specs.declared.CodeResult.{CodeResult}
use Rattle.vif_codes.specs.Decoded.{Decoded, Known, Unknown}
use Rattle.vif_codes.specs.VifAnswer.{VifAnswer, Word, Refused, vif_answer}
use Rattle.vif_codes.specs.declared.Taken.{Taken}
use Rattle.vif_codes.specs.declared.Taken.TheVariants.{Word as TakenWord}
use Rattle.vif_codes.specs.declared.Waiting.{Waiting}
use Rattle.vif_codes.specs.declared.Waiting.TheVariants.{MaskDue, RowDue, ColDue, MpgDue, DirectDue, DirecthlDue, UnpackDue}
use Rattle.vif_codes.specs.declared.Vif.{Vif}
use Rattle.vif_codes.specs.Setters.{with_cycle, with_offset, with_base, with_itops, with_mode, with_mskpath3, with_mark, with_row, with_start, with_waiting}
use Rattle.vif_codes.specs.Payload.{write_registers}

-- what a code's step leaves: the answer, the unit, the entries used, data memory and the log
pub record Executed : Type 0 where
  pub answer : VifAnswer
  pub unit : Vif
  pub used : ℕ
  pub mem : List ℕ
  pub log : List ℕ

abbrev pub executed : VifAnswer → Vif → ℕ → List ℕ → List ℕ → Executed
executed a v used mem log = record { answer = a; unit = v; used = used; mem = mem; log = log }

-- what its program leaves but for the memories, the answer as the program has it
abbrev pub code_result : Result Taken Refusal → Vif → ℕ → CodeResult
code_result a v used = record { answer = a; unit = v; used = used }

abbrev pub result_with : CodeResult → List ℕ → List ℕ → Executed
result_with r mem log = executed (vif_answer r.answer) r.unit r.used mem log

-- "TOPS = BASE+OFST modulo 1,024 if DBF is now 1, else BASE"
unfoldable pub next_tops : Bool → Vif → ℕ
next_tops dbf v = if dbf ((v.base + v.ofst) % addresses) v.base

-- "Then ITOP = ITOPS, TOP = TOPS, DBF flips, and TOPS = ...": in this order, so TOP takes the old TOPS; request 10, of VIF0: "MSCAL and MSCNT there change
-- ITOP alone of the registers"
abbrev pub started : VifUnit → Vif → Vif
started Vif0 v = with_start v v.itops v.top v.dbf v.tops
started Vif1 v = with_start v v.itops v.tops (not v.dbf) (next_tops (not v.dbf) v)

-- "14 MSCAL, 15 MSCALF, 17 MSCNT: log entry 256, 257, 258 with value IMM, IMM, 0"; "31 log lacks room"; request 11: "Path is 2 or 3 for GIF writes and 0 for
-- program starts.", of either unit
unfoldable pub start_program : VifUnit → ℕ → ℕ → Vif → Bool → ℕ → List ℕ → List ℕ → Executed
start_program which r x v i used mem log =
    if (lacks_room log used 1) (executed (Refused log_full) v used mem log)
    (executed (Word i) (started which v) (used + 1) mem (logged log used (start_entry r x ∷ [])))

-- a code that waits for payload completes no interrupt in its own step
abbrev pub waits_for : Vif → Waiting → ℕ → CodeResult
waits_for v w used = code_result (Ok (TakenWord false)) (with_waiting v w) used

-- "05 STMOD: bits 0-1"; "23 STMOD 3"
unfoldable pub set_mode : ℕ → Vif → Bool → ℕ → CodeResult
set_mode m v i used = if (eqb m 3) (code_result (Err ModeWrong) v used) (code_result (Ok (TakenWord i)) (with_mode v m) used)

-- "MPG: NUM instructions of two words (0 means 256)"
unfoldable pub begin_mpg : ℕ → ℕ → Vif → Bool → ℕ → CodeResult
begin_mpg a num v i used = waits_for v (MpgDue a (count_of num) (count_of num + count_of num) i) used

-- "bit 15 adds TOPS, as held at the code, to A"
unfoldable pub address_of : UnpackCode → ℕ → ℕ
address_of u tops = if u.tops (u.address + tops) u.address

-- the UNPACK that a code begins, with its interrupt bit
abbrev pub begun_unpack : Format → UnpackCode → Vif → Bool → Unpacking
begun_unpack f u v i = unpacking_of f v.cl v.wl (address_of u v.tops) u.num u.usn u.masked i

-- request 3: "With CL 0 there is no payload and all writes belong to the code's own step."
abbrev pub unfed_written : VifUnit → Format → Unpacking → Vif → List ℕ → Written
unfed_written which f u v mem = unfed_writes (quadwords which) f u (write_registers v) (written v.row mem)

-- nothing waits after them, and the interrupt bit answers at once
abbrev pub unfed_step : Written → Vif → Bool → ℕ → List ℕ → Executed
unfed_step x v i used log = executed (Word i) (with_row v x.row) used x.mem log

-- VIF0 has no TOPS that IMM bit 15 could add
abbrev pub tops_refused : VifUnit → Bool → Bool
tops_refused Vif0 tops = tops
tops_refused Vif1 tops = false

-- the refusal of an UNPACK, 0 for none: request 3's "22 remains for WL 0 only, in its old place.", request 10's "26 for UNPACK with IMM bit 15 on VIF0, after 22"
unfoldable pub unpack_refusal : VifUnit → UnpackCode → Vif → ℕ
unpack_refusal which u v =
    if (cycle_refused v.cl v.wl) cycle_wrong
    (if (tops_refused which u.tops) tops_missing
    0)

unfoldable pub begin_unpack : VifUnit → Format → UnpackCode → Vif → Bool → ℕ → List ℕ → List ℕ → Executed
begin_unpack which f u v i used mem log =
    if (not (eqb (unpack_refusal which u v) 0)) (executed (Refused (unpack_refusal which u v)) v used mem log)
    (if (eqb v.cl 0) (unfed_step (unfed_written which f (begun_unpack f u v i) v mem) v i used log)
    (result_with (waits_for v (UnpackDue f (begun_unpack f u v i)) used) mem log))

-- a code's own step, with its interrupt bit
abbrev pub execute_of : VifUnit → Code → Vif → Bool → ℕ → List ℕ → List ℕ → Executed
execute_of which Nop v i used mem log = executed (Word i) v used mem log
execute_of which (Stcycl cl wl) v i used mem log = executed (Word i) (with_cycle v cl wl) used mem log
execute_of which (Offset x) v i used mem log = executed (Word i) (with_offset v x v.base) used mem log
execute_of which (Base x) v i used mem log = executed (Word i) (with_base v x) used mem log
execute_of which (Itop x) v i used mem log = executed (Word i) (with_itops v x) used mem log
execute_of which (Stmod m) v i used mem log = result_with (set_mode m v i used) mem log
execute_of which (Mskpath3 b) v i used mem log = executed (Word i) (with_mskpath3 v b) used mem log
execute_of which (Mark x) v i used mem log = executed (Word i) (with_mark v x) used mem log
execute_of which Flushe v i used mem log = executed (Word i) v used mem log
execute_of which Flush v i used mem log = executed (Word i) v used mem log
execute_of which Flusha v i used mem log = executed (Word i) v used mem log
execute_of which (Mscal x) v i used mem log = start_program which 256 x v i used mem log
execute_of which (Mscalf x) v i used mem log = start_program which 257 x v i used mem log
execute_of which Mscnt v i used mem log = start_program which 258 0 v i used mem log
execute_of which Stmask v i used mem log = result_with (waits_for v (MaskDue i) used) mem log
execute_of which Strow v i used mem log = result_with (waits_for v (RowDue 4 i) used) mem log
execute_of which Stcol v i used mem log = result_with (waits_for v (ColDue 4 i) used) mem log
execute_of which (Mpg a num) v i used mem log = result_with (begin_mpg a num v i used) mem log
execute_of which (Direct n) v i used mem log = result_with (waits_for v (DirectDue n i) used) mem log
execute_of which (Directhl n) v i used mem log = result_with (waits_for v (DirecthlDue n i) used) mem log
execute_of which (Unpack f u) v i used mem log = begin_unpack which f u v i used mem log

-- "20 CMD not listed; 21 vl 3 with vn below 3"
abbrev pub decoded_step : VifUnit → Decoded → Vif → Bool → ℕ → List ℕ → List ℕ → Executed
decoded_step which (Known code) v i used mem log = execute_of which code v i used mem log
decoded_step which (Unknown n) v i used mem log = executed (Refused n) v used mem log
