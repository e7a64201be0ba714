-- A refusal changes nothing, and a step keeps the memories' lengths and the log's room.
use mathlib.Core.Path.{◌≡◌, refl, ap}
use mathlib.Core.Bool.{Bool, false, not}
use mathlib.Core.List.{List}
use Prim.Native.Nat.{ℕ, ◌+◌, ◌*◌, ◌-◌, ◌%◌, ◌≤◌}
use native.Mathlib.Omega.{arith}
use borrow.Author.Tests.{le-ltb}
use lib.ListN.{length}
use lib.Seq.{length-sets}
use lib.Dec.{eqb, ltb}
use Rattle.fields.specs.Refusals.{direct_unaligned, mpg_unaligned}
use Rattle.fields.proofs.ChoiceLaws.{if_ind, or_left, or_right}
use Rattle.gif.specs.declared.GifPath.TheVariants.{Two}
use Rattle.gif.specs.declared.Path.{Path}
use Rattle.gif.specs.GifAnswer.{GifAnswer, Taken, Refused as GifRefused}
use Rattle.gif.specs.Log.{log_most, entry_size, log_refused}
use Rattle.gif.specs.Step.{Left as GifLeft}
use Rattle.gif.proofs.LogLaws.{logged_length}
use Rattle.gif.proofs.StepLaws.{Wrote, step_wrote}
use Rattle.memories.specs.declared.VifUnit.{VifUnit}
use Rattle.memories.specs.Units.{quadwords, instructions}
use Rattle.memories.specs.Lengths.{Lent}
use Rattle.unpack_rules.specs.Write.{written}
use Rattle.unpack_rules.proofs.LengthLaws.{word_length}
use Rattle.vif_codes.specs.declared.Incoming.{Incoming}
use Rattle.vif_codes.specs.declared.Incoming.TheVariants.{Word0, Word1, Word2, Word3}
use Rattle.vif_codes.specs.VifAnswer.{Word, Quadword, Refused}
use Rattle.vif_codes.specs.declared.Waiting.{Waiting}
use Rattle.vif_codes.specs.declared.Waiting.TheVariants.{Nothing, MaskDue, RowDue, ColDue, MpgDue, DirectDue, DirecthlDue, UnpackDue}
use Rattle.vif_codes.specs.declared.Vif.{Vif}
use Rattle.vif_codes.specs.Codes.{interrupt_of, decode_of}
use Rattle.vif_codes.specs.Execute.{Executed}
use Rattle.vif_codes.specs.Payload.{mpg_stored, bytes_of, word_place, write_registers}
use Rattle.vif_codes.specs.Words.{word_in}
use Rattle.vif_codes.proofs.CodeKept.{LogGrows, no_word, does_decoded}
use Rattle.vif.specs.Step.{Left, leaves, refused, after_code, after_gif, give_quadword, direct_step, mpg_refused, mpg_step, unpack_step, code_step, step_by, vif_step}

-- what a step leaves, as far as lengths and refusals go
pub record Kept (v : Vif) (p : Path) (used : ℕ) (m : Lent) (o : Left) : Type 0 where
  pub same : (n : ℕ) → o.answer ≡ Refused n → o ≡ refused n v p used m
  pub mem_length : length o.memories.mem ≡ length m.mem
  pub code_length_lem : length o.memories.code ≡ length m.code
  pub log_grows : LogGrows used m.log o.used o.memories.log

no_quadword : {i c : Bool} {n : ℕ} → Quadword i c ≡ Refused n → ⊥
no_quadword e = let z : ◌≡◌ {A = ℕ} 0 1 = cc in omega arith

module _ (which : VifUnit) (v : Vif) (p : Path) (used : ℕ) (m : Lent) (h : entry_size * used ≤ length m.log) where
  kept_word : (i : Bool) (u : Vif) → Kept v p used m (leaves (Word i) u p used m)
  kept_word i u =
      record {
        same = λ n e. absurd (no_word e);
        mem_length = refl;
        code_length_lem = refl;
        log_grows = record { same_length = refl; room = h };
      }

  kept_refused : (k : ℕ) → Kept v p used m (refused k v p used m)
  kept_refused k =
      record {
        same = λ n e. let q : k ≡ n = cc in ap (λ (j : ℕ). refused j v p used m) q;
        mem_length = refl;
        code_length_lem = refl;
        log_grows = record { same_length = refl; room = h };
      }

  kept_code : (word : ℕ) → Kept v p used m (code_step which v p word used m)
  unfolding code_step
  kept_code word =
      let d = does_decoded which v used m.mem m.log h (decode_of which word) (interrupt_of word) in
      record {
        same = λ n e. ap (λ (x : Executed). after_code x p m) (d.same n e);
        mem_length = d.mem_length;
        code_length_lem = refl;
        log_grows = d.log_grows;
      }

  kept_gif : (a : GifAnswer) (o : GifLeft) → a ≡ o.answer → Wrote p used m.log o → (due : ℕ) (i : Bool) (w : Waiting)
      → Kept v p used m (after_gif a o v p due i w used m)
  kept_gif (Taken c) o q g due i w =
      record {
        same = λ n e. absurd (no_quadword e);
        mem_length = refl;
        code_length_lem = refl;
        log_grows = record { same_length = rw g.stored (logged_length m.log used g.entries); room = g.room };
      }
  kept_gif (GifRefused n) o q g due i w = kept_refused n

  kept_direct : (n : Incoming) (due : ℕ) (i : Bool) (w : Waiting) → Kept v p used m (direct_step n v p due i w used m)
  unfolding give_quadword
  kept_direct (Word0 a b c d) due i w = kept_gif _ _ refl (step_wrote Two p used m.log h _) due i w
  kept_direct (Word1 a) due i w = kept_refused direct_unaligned
  kept_direct (Word2 a) due i w = kept_refused direct_unaligned
  kept_direct (Word3 a) due i w = kept_refused direct_unaligned

  kept_by : (w : Waiting) (n : Incoming) → Kept v p used m (step_by which w v p n used m)
  unfolding unpack_step mpg_step mpg_stored
  kept_by Nothing n = kept_code _
  kept_by (MaskDue i) n = kept_word i _
  kept_by (RowDue due i) n = kept_word _ _
  kept_by (ColDue due i) n = kept_word _ _
  kept_by (MpgDue a k due i) n =
      if_ind (Kept v p used m) (mpg_refused k due n) (kept_refused mpg_unaligned)
      (record {
        same = λ n e. absurd (no_word e);
        mem_length = refl;
        code_length_lem = length-sets m.code (word_place (instructions which) a (k + k - due)) (bytes_of (word_in n));
        log_grows = record { same_length = refl; room = h };
      })
  kept_by (DirectDue due i) n = kept_direct n due i _
  kept_by (DirecthlDue due i) n = kept_direct n due i _
  kept_by (UnpackDue f u) n =
      record {
        same = λ n e. absurd (no_word e);
        mem_length = word_length (quadwords which) f u (write_registers v) (word_in n) (written v.row m.mem);
        code_length_lem = refl;
        log_grows = record { same_length = refl; room = h };
      }

  -- a step's law: a refusal changes nothing, lengths are kept, and the log has room for the entries used
  pub step_kept : (n : Incoming) → Kept v p used m (vif_step which v p n used m)
  unfolding vif_step
  step_kept n = kept_by v.waiting n

-- a log that 4 does not name stays one
pub log_stays : (used used' : ℕ) (log log' : List ℕ) → log_refused log used ≡ false → LogGrows used log used' log' → log_refused log' used' ≡ false
unfolding log_refused
log_stays used used' log log' h g =
    let s = or_right (not (eqb (length log % entry_size) 0)) _ h in
    let l : entry_size * used' ≤ length log' = rw g.same_length g.room in
    let a : not (eqb (length log % entry_size) 0) ≡ false = or_left _ _ h in
    let b : ltb log_most (length log) ≡ false = or_left _ _ s in
    rw (le-ltb (length log') (entry_size * used') l, g.same_length, a, b)
