-- The step from what its parts give.
use Rattle.std.specs.Prelude.{Option, Some, Result, Ok, Err, IsSome}
use mathlib.Core.Path.{◌≡◌, sym, ap, ◌∙◌}
use mathlib.Core.Bool.{Bool, true, false, ◌&&◌}
use mathlib.Core.List.{List}
use Prim.Native.Nat.{ℕ}
use Rattle.fields.specs.Fields.{if}
use Rattle.fields.specs.declared.refusals.Refusal.{Refusal}
use Rattle.fields.specs.Refusals.{refusal_number, out_of_range}
use Rattle.fields.proofs.RefusalLaws.{refusal_not_none}
use Rattle.fields.proofs.ChoiceLaws.{and_left, and_right}
use Rattle.gif.specs.declared.GifPath.TheVariants.{Two}
use Rattle.gif.specs.declared.Path.{Path}
use Rattle.gif.specs.GifAnswer.{gif_answer}
use Rattle.gif.specs.declared.GifResult.{GifResult}
use Rattle.gif.specs.Range.{path_in_range}
use Rattle.gif.specs.Step.{Left as GifLeft, left as gifLeft, gif_step, take_of as gifTakeOf}
use Rattle.gif.proofs.StepLaws.{tested, step_wrote}
use Rattle.gif.proofs.RangeLaws.{log_fits}
use Rattle.memories.specs.declared.VifUnit.{VifUnit}
use Rattle.memories.specs.Units.{quadwords}
use Rattle.memories.specs.Lengths.{Lent, lent, lengths_refusal}
use Rattle.memories.proofs.LengthLaws.{lengths_fit, fit_lengths}
use Rattle.unpack_rules.specs.declared.Format.{Format}
use Rattle.unpack_rules.specs.declared.Unpacking.{Unpacking}
use Rattle.unpack_rules.specs.declared.Registers.{Registers}
use Rattle.unpack_rules.specs.Step.{left as unpackLeft, take_of as unpackTakeOf}
use Rattle.unpack_rules.proofs.StepLaws.{left_some}
use Rattle.vif_codes.specs.declared.Code.{Code}
use Rattle.vif_codes.specs.Decoded.{Known}
use Rattle.vif_codes.specs.declared.Incoming.{Incoming}
use Rattle.vif_codes.specs.declared.Taken.TheVariants.{Word as TakenWord}
use Rattle.vif_codes.specs.declared.Waiting.{Waiting}
use Rattle.vif_codes.specs.declared.Waiting.TheVariants.{Nothing}
use Rattle.vif_codes.specs.declared.Vif.{Vif}
use Rattle.vif_codes.specs.Codes.{interrupt_of, decode_of}
use Rattle.vif_codes.specs.Execute.{execute_of}
use Rattle.vif_codes.specs.Payload.{completes, write_registers, unpack_written, unpack_unit}
use Rattle.vif_codes.specs.Range.{unit_in_range}
use Rattle.vif_codes.specs.Words.{word_in}
use Rattle.vif.specs.Inner.{GifReady, UnpackReady, StepReady}
use Rattle.vif.specs.Step.{Left, left, refused, answers, after_code, code_step, after_gif, after_quadword, give_quadword, unpack_step, step_by, vif_step, take_of}

-- what holds at the case that an arm knows holds at the value itself
pub by_answer : {a b : Result Bool Refusal} → a ≡ b → (o : GifLeft) (v : Vif) (p : Path) (due : ℕ) (i : Bool) (w : Waiting) (used : ℕ) (m : Lent) {x : Left}
    → x ≡ after_gif (gif_answer b) o v p due i w used m → x ≡ after_gif (gif_answer a) o v p due i w used m
by_answer q o v p due i w used m h = rw q h

pub by_waiting : (which : VifUnit) {w k : Waiting} → w ≡ k → (v : Vif) (p : Path) (n : Incoming) (used : ℕ) (m : Lent) {x : Left}
    → x ≡ step_by which k v p n used m → x ≡ step_by which w v p n used m
by_waiting which q v p n used m h = rw q h

-- an idle unit reads the next word as a code
pub code_taken : (which : VifUnit) (v : Vif) (p : Path) (used : ℕ) (m : Lent) (n : Incoming) {w : ℕ} {c : Code} {i : Bool} → v.waiting ≡ Nothing → word_in n ≡ w
    → decode_of which w ≡ Known c → interrupt_of w ≡ i → vif_step which v p n used m ≡ after_code (execute_of which c v i used m.mem m.log) p m
unfolding vif_step code_step
code_taken which v p used m n h e d i = sym (by_waiting which h v p n used m (rw (e, d, i)))

-- a quadword that the GIF tested
pub gave : (quad : ℕ) (v : Vif) (p : Path) (due : ℕ) (i : Bool) (w : Waiting) (used : ℕ) (mem code log : List ℕ) → GifReady p used log
    → (r : GifResult) {l : List ℕ} → gifLeft r l ≡ gifTakeOf Two p quad used log
    → {x : Left} → x ≡ after_quadword (gifLeft r l) v p due i w used (lent mem code log) → x ≡ give_quadword quad v p due i w used (lent mem code log)
unfolding give_quadword
gave quad v p due i w used mem code log g r e h =
    h ∙ ap (λ (o : GifLeft). after_quadword o v p due i w used (lent mem code log)) (e ∙ tested Two p quad used log g.logged g.ranged)

-- a refused quadword left the log as it was
pub gif_kept : (p : Path) (quad used : ℕ) (log : List ℕ) → GifReady p used log → {r : GifResult} {l : List ℕ} → gifLeft r l ≡ gifTakeOf Two p quad used log
    → {x : Refusal} → r.answer ≡ Err x → l ≡ log
gif_kept p quad used log g {r} {l} e {x} q =
    let e' : gifLeft r l ≡ gif_step Two p quad used log = e ∙ tested Two p quad used log g.logged g.ranged in
    let w = step_wrote Two p used log (log_fits log used g.logged).holds quad in
    ap (λ (o : GifLeft). o.log) (e' ∙ w.same (refusal_number x) (ap (λ (o : GifLeft). o.answer) (sym e') ∙ ap gif_answer q))

-- an accepted payload word of UNPACK
module _ (which : VifUnit) (v : Vif) (f : Format) (u : Unpacking) (word : ℕ) (mem : List ℕ) (g : UnpackReady (quadwords which) v f u mem)
    {r : Registers} (s : Option (List ℕ)) (m : List ℕ) (er : r ≡ write_registers v)
    (es : unpackLeft v.row s m ≡ unpackTakeOf (quadwords which) f u r word v.row mem) where
  accepted : (s ≡ Some (unpack_written which v f u word mem).row) × (m ≡ (unpack_written which v f u word mem).mem)
  unfolding unpackTakeOf if
  accepted = left_some v.row s (rw (er, g.accepted) at es)

  pub unpacked_some : IsSome s
  unpacked_some = rw accepted.0

  pub unpacked : (p : Path) (used : ℕ) (code log : List ℕ) {row : List ℕ} {v' : Vif} {b : Bool} → s ≡ Some row → v' ≡ unpack_unit v f u word row
      → b ≡ completes u.due u.interrupt
      → left (answers (Ok (TakenWord b)) v' p used) (lent m code log) ≡ unpack_step which v p f u word used (lent mem code log)
  unfolding unpack_step
  unpacked p used code log {row} en ev eb =
      let q : row ≡ (unpack_written which v f u word mem).row = cc (accepted.0) in
      rw (eb, ev, q, accepted.1)

-- ---- the public step by its tests

module _ (which : VifUnit) (v : Vif) (p : Path) (used : ℕ) (m : Lent) where
  pub tests_passed : {b : Bool} → 0 ≡ lengths_refusal which m used → b ≡ (unit_in_range which v && path_in_range p) → b ≡ true → StepReady which v p used m
  tests_passed z q t =
      let k = sym q ∙ t in
      record { fit = lengths_fit which m used (sym z); path_ranged = and_right (unit_in_range which v) _ k; ranged = and_left _ _ k }

  pub lengths_refused : (n : Incoming) (x : Refusal) → refusal_number x ≡ lengths_refusal which m used → refused (refusal_number x) v p used m ≡ take_of which v p n used m
  unfolding take_of if
  lengths_refused n x e = rw (← e, refusal_not_none x)

  pub range_refused_lem : (n : Incoming) {b : Bool} → 0 ≡ lengths_refusal which m used → b ≡ (unit_in_range which v && path_in_range p) → b ≡ false
      → refused out_of_range v p used m ≡ take_of which v p n used m
  unfolding take_of if
  range_refused_lem n z q t = rw (← z, ← q, t)

-- input that passes them gets document 01's step
pub vif_tested : (which : VifUnit) (v : Vif) (p : Path) (n : Incoming) (used : ℕ) (m : Lent) → StepReady which v p used m
    → take_of which v p n used m ≡ vif_step which v p n used m
unfolding take_of if
vif_tested which v p n used m r = rw (fit_lengths which m used r.fit, r.ranged, r.path_ranged)
