-- A refused code changes nothing, and a code's own step keeps data memory's length and the log's room.
use mathlib.Core.Path.{◌≡◌, refl, ap}
use mathlib.Core.Bool.{Bool, false, not}
use mathlib.Core.List.{List, [], ◌∷◌}
use Prim.Native.Nat.{ℕ, ◌+◌, ◌*◌, ◌≤◌}
use native.Mathlib.Omega.{arith}
use borrow.Author.Tests.{ltb-false}
use lib.ListN.{length}
use lib.Dec.{eqb, ltb}
use Rattle.fields.specs.Refusals.{mode_wrong, log_full}
use Rattle.fields.proofs.ChoiceLaws.{if_ind, if_ind_by}
use Rattle.gif.specs.Log.{entry_size, start_entry, lacks_room}
use Rattle.gif.proofs.LogLaws.{logged_length}
use Rattle.memories.specs.declared.VifUnit.{VifUnit}
use Rattle.memories.specs.Units.{quadwords}
use Rattle.unpack_rules.specs.declared.Format.{Format}
use Rattle.unpack_rules.specs.Write.{written}
use Rattle.unpack_rules.proofs.LengthLaws.{unfed_length}
use Rattle.vif_codes.specs.declared.Code.{Code}
use Rattle.vif_codes.specs.declared.Code.TheVariants.{Nop, Stcycl, Offset, Base, Itop, Stmod, Mskpath3, Mark, Flushe, Flush, Flusha, Mscal, Mscalf, Mscnt, Stmask, Strow, Stcol, Mpg, Direct, Directhl, Unpack}
use Rattle.vif_codes.specs.declared.UnpackCode.{UnpackCode}
use Rattle.vif_codes.specs.declared.CodeResult.{CodeResult}
use Rattle.vif_codes.specs.Decoded.{Decoded, Known, Unknown}
use Rattle.vif_codes.specs.VifAnswer.{Word, Refused}
use Rattle.vif_codes.specs.declared.Vif.{Vif}
use Rattle.vif_codes.specs.Execute.{Executed, executed, result_with, start_program, set_mode, begin_mpg, begun_unpack, unpack_refusal, begin_unpack, execute_of, decoded_step}
use Rattle.vif_codes.specs.Payload.{write_registers}

-- what a step does to the log: entries more, by which `used` grows
pub record LogGrows (used : ℕ) (log : List ℕ) (used' : ℕ) (log' : List ℕ) : Type 0 where
  pub same_length : length log' ≡ length log
  pub room : entry_size * used' ≤ length log

-- what a code's own step leaves, as far as lengths and refusals go
pub record Does (v : Vif) (used : ℕ) (mem log : List ℕ) (e : Executed) : Type 0 where
  pub same : (n : ℕ) → e.answer ≡ Refused n → e ≡ executed (Refused n) v used mem log
  pub mem_length : length e.mem ≡ length mem
  pub log_grows : LogGrows used log e.used e.log

pub no_word : {i : Bool} {n : ℕ} → Word i ≡ Refused n → ⊥
no_word e = let z : ◌≡◌ {A = ℕ} 0 1 = cc in omega arith

module _ (which : VifUnit) (v : Vif) (used : ℕ) (mem log : List ℕ) (h : entry_size * used ≤ length log) where
  stays : LogGrows used log used log
  stays = record { same_length = refl; room = h }

  does_word : (i : Bool) (u : Vif) → Does v used mem log (executed (Word i) u used mem log)
  does_word i u = record { same = λ n e. absurd (no_word e); mem_length = refl; log_grows = stays }

  does_refused : (k : ℕ) → Does v used mem log (executed (Refused k) v used mem log)
  does_refused k = record { same = λ n e. let q : k ≡ n = cc in ap (λ (j : ℕ). executed (Refused j) v used mem log) q; mem_length = refl; log_grows = stays }

  does_start : (r x : ℕ) (i : Bool) → Does v used mem log (start_program which r x v i used mem log)
  unfolding start_program lacks_room
  does_start r x i =
      if_ind_by (Does v used mem log) (ltb (length log) (entry_size * (used + 1))) (λ e. does_refused log_full)
      (λ e.
      record {
        same = λ n q. absurd (no_word q);
        mem_length = refl;
        log_grows =
            record {
              same_length = logged_length log used (start_entry r x ∷ []);
              room = ltb-false (length log) (entry_size * (used + 1)) e;
            };
      })

  does_mode : (m : ℕ) (i : Bool) → Does v used mem log (result_with (set_mode m v i used) mem log)
  unfolding set_mode
  does_mode m i = if_ind (λ (r : CodeResult). Does v used mem log (result_with r mem log)) (eqb m 3) (does_refused mode_wrong) (does_word i _)

  does_unpack : (f : Format) (u : UnpackCode) (i : Bool) → Does v used mem log (begin_unpack which f u v i used mem log)
  unfolding begin_unpack
  does_unpack f u i =
      if_ind (Does v used mem log) (not (eqb (unpack_refusal which u v) 0)) (does_refused (unpack_refusal which u v))
      (if_ind (Does v used mem log) (eqb v.cl 0)
      (record {
        same = λ n e. absurd (no_word e);
        mem_length = unfed_length (quadwords which) f (begun_unpack f u v i) (write_registers v) (written v.row mem);
        log_grows = stays;
      })
      (does_word false _))

  does : (c : Code) (i : Bool) → Does v used mem log (execute_of which c v i used mem log)
  unfolding begin_mpg
  does Nop i = does_word i _
  does (Stcycl cl wl) i = does_word i _
  does (Offset x) i = does_word i _
  does (Base x) i = does_word i _
  does (Itop x) i = does_word i _
  does (Stmod m) i = does_mode m i
  does (Mskpath3 b) i = does_word i _
  does (Mark x) i = does_word i _
  does Flushe i = does_word i _
  does Flush i = does_word i _
  does Flusha i = does_word i _
  does (Mscal x) i = does_start 256 x i
  does (Mscalf x) i = does_start 257 x i
  does Mscnt i = does_start 258 0 i
  does Stmask i = does_word false _
  does Strow i = does_word false _
  does Stcol i = does_word false _
  does (Mpg a num) i = does_word false _
  does (Direct n) i = does_word false _
  does (Directhl n) i = does_word false _
  does (Unpack f u) i = does_unpack f u i

  -- a code's law: refused it changes nothing, data memory's length is kept, and the log has room for the entries used
  pub does_decoded : (d : Decoded) (i : Bool) → Does v used mem log (decoded_step which d v i used mem log)
  does_decoded (Known c) i = does c i
  does_decoded (Unknown n) i = does_refused n
