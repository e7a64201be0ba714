-- An UNPACK at the unit: its payload, and with CL 0 its writes in the code's own step.
use mathlib.Core.Path.{◌≡◌, refl, sym, ap, ◌∙◌}
use mathlib.Core.Logic.{◌⊎◌, inl, inr}
use mathlib.Core.Bool.{Bool, true, false, ◌&&◌}
use mathlib.Core.List.{List, [], ◌∷◌, ◌++◌}
use Prim.Native.Nat.{ℕ, suc, ◌-◌, ◌<◌, ◌≤◌}
use native.Mathlib.Omega.{arith}
use borrow.Author.Tests.{eqb-true, eqb-false, eq-eqb, ne_eqb}
use lib.ListN.{length, length-append}
use lib.Dec.{eqb}
use Rattle.fields.specs.Fields.{if}
use Rattle.fields.specs.Refusals.{cycle_wrong}
use Rattle.fields.proofs.ChoiceLaws.{if_ind, and_left, and_right}
use Rattle.gif.specs.declared.Path.{Path}
use Rattle.memories.specs.declared.VifUnit.{VifUnit}
use Rattle.memories.specs.Units.{quadwords}
use Rattle.memories.specs.Lengths.{Lent, lent}
use Rattle.unpack_rules.specs.declared.Format.{Format}
use Rattle.unpack_rules.specs.declared.Unpacking.{Unpacking}
use Rattle.unpack_rules.specs.Write.{Written, written}
use Rattle.unpack_rules.specs.Range.{cycle_refused, cycle_in_range, payload_for, unpacking_in_range}
use Rattle.unpack_rules.specs.Step.{count_of, unpacking_of, holds, unpack_word}
use Rattle.unpack_rules.specs.Whole.{take_words, held_after}
use Rattle.unpack_rules.proofs.CycleLaws.{vectors_some}
use Rattle.unpack_rules.proofs.PayloadLaws.{payload_some}
use Rattle.unpack_rules.proofs.StepLaws.{count_range, cycle_fits, unpacking_fits, due_cycle}
use Rattle.unpack_rules.proofs.VectorLaws.{Words, none as no_word, more as word_more}
use Rattle.unpack_rules.proofs.WholeLaws.{payload_theorem, payload_due, take_join, unfed_theorem}
use Rattle.vif_codes.specs.declared.Code.TheVariants.{Unpack}
use Rattle.vif_codes.specs.declared.UnpackCode.{UnpackCode}
use Rattle.vif_codes.specs.Decoded.{Known}
use Rattle.vif_codes.specs.declared.Incoming.{Incoming}
use Rattle.vif_codes.specs.VifAnswer.{Word}
use Rattle.vif_codes.specs.declared.Waiting.{Waiting}
use Rattle.vif_codes.specs.declared.Waiting.TheVariants.{Nothing, UnpackDue}
use Rattle.vif_codes.specs.declared.Vif.{Vif}
use Rattle.vif_codes.specs.Setters.{with_row, with_waiting}
use Rattle.vif_codes.specs.Codes.{interrupt_of, decode_of}
use Rattle.vif_codes.specs.Execute.{address_of, begun_unpack, unpack_refusal, begin_unpack}
use Rattle.vif_codes.specs.Payload.{completes, or_nothing, write_registers}
use Rattle.vif_codes.specs.Range.{waiting_in_range}
use Rattle.vif_codes.specs.Words.{word_in}
use Rattle.vif_codes.proofs.CodeLaws.{refusal_cycle}
use Rattle.vif.specs.Step.{leaves, refused, unpack_step, vif_step}
use Rattle.vif.specs.Feeds.{Fed, fed, Feeds, none, more, a_word, words_in, unpack_waits, unpacked_with, unpacked_fed}
use Rattle.vif.proofs.StepLaws.{by_waiting, code_taken}

-- ---- what waits

-- without the interrupt bit nothing completes an interrupt
pub quiet : (due : ℕ) → completes due false ≡ false
unfolding completes
quiet due = if_ind (λ (b : Bool). b ≡ false) (eqb due 1) refl refl

-- the last word completes the code, with its interrupt bit
last_word : (due : ℕ) (b i : Bool) → due ≡ 1 → b ≡ i → completes due b ≡ i
unfolding completes if
last_word due b i e q = rw (e, q)

-- no word of the next k completes an interrupt: the bit is clear, or the last word due is not among them
abbrev pub Quiet : Bool → ℕ → ℕ → Type 0
Quiet i k due = (i ≡ false) ⊎ (k < due)

quiet_word : (due k : ℕ) (i : Bool) → Quiet i (suc k) due → completes due i ≡ false
unfolding completes if
quiet_word due k i (inl e) = ap (completes due) e ∙ quiet due
quiet_word due k i (inr h) = rw (ne_eqb due 1 (λ e. omega arith))

quiet_next : (due k : ℕ) (i : Bool) → Quiet i (suc k) due → Quiet i k (due - 1)
quiet_next due k i (inl e) = inl e
quiet_next due k i (inr h) = inr (omega arith)

-- the same answer and what waits leave the same
same_left : {b c : Bool} (v : Vif) (p : Path) (used : ℕ) (m : Lent) {w x : Waiting} → b ≡ c → w ≡ x
    → leaves (Word b) (with_waiting v w) p used m ≡ leaves (Word c) (with_waiting v x) p used m
same_left v p used m e q = rw (e, q)

-- a payload word more
waits_next : (f : Format) (u : Unpacking) (x : ℕ) → 1 ≤ u.due → or_nothing u.due (UnpackDue f (holds u x)) ≡ unpack_waits f (holds u x)
unfolding or_nothing unpack_waits
waits_next f u x h =
    let e : eqb u.due 1 ≡ eqb (u.due - 1) 0 = same u.due h in
    rw e
  where
    same : (k : ℕ) → 1 ≤ k → eqb k 1 ≡ eqb (k - 1) 0
    same k l = go (eqb k 1) refl
      where
        go : (b : Bool) → eqb k 1 ≡ b → b ≡ eqb (k - 1) 0
        go true e = let q = eqb-true k 1 e in sym (eq-eqb (k - 1) 0 (omega arith))
        go false e = let q = eqb-false k 1 e in sym (ne_eqb (k - 1) 0 (λ z. q (omega arith)))

-- with words due it waits
waits_on : (f : Format) (u : Unpacking) → 1 ≤ u.due → unpack_waits f u ≡ UnpackDue f u
unfolding unpack_waits if
waits_on f u h = rw (ne_eqb u.due 0 (λ e. omega arith))

-- with none due it doesn't
pub waits_no_more : (f : Format) (u : Unpacking) → u.due ≡ 0 → unpack_waits f u ≡ Nothing
unfolding unpack_waits if
waits_no_more f u h = rw (eq-eqb u.due 0 h)

-- the unit with an UNPACK that waits
abbrev unpacks : Vif → List ℕ → Format → Unpacking → Vif
unpacks v row f u = with_waiting (with_row v row) (unpack_waits f u)

-- the unit and data memory after words
abbrev unpack_fed : Vif → Path → ℕ → List ℕ → List ℕ → Format → Unpacking → Written → Fed
unpack_fed v p used code log f u x = fed (unpacks v x.row f u) p used (lent x.mem code log)

module _ (which : VifUnit) (v : Vif) (p : Path) (used : ℕ) (code log : List ℕ) (f : Format) where
  -- a payload word's step
  unpack_word_lem : (u : Unpacking) (n : Incoming) (x : Written) {b : Bool} → completes u.due u.interrupt ≡ b → 1 ≤ u.due
      → vif_step which (unpacks v x.row f u) p n used (lent x.mem code log)
      ≡ leaves (Word b) (unpacks v (unpack_word (quadwords which) f u (write_registers v) (word_in n) x).row f (holds u (word_in n))) p used
      (lent (unpack_word (quadwords which) f u (write_registers v) (word_in n) x).mem code log)
  unfolding vif_step unpack_step
  unpack_word_lem u n x i h =
      let y = unpack_word (quadwords which) f u (write_registers v) (word_in n) x in
      sym (by_waiting which (waits_on f u h) (unpacks v x.row f u) p n used (lent x.mem code log)
      (same_left (with_row v y.row) p used (lent y.mem code log) (sym i) (sym (waits_next f u (word_in n) h))))

  -- payload words one after another
  unpack_feeds : (u : Unpacking) (ns : List Incoming) (x : Written) → Quiet u.interrupt (length ns) u.due → length ns ≤ u.due
      → Feeds which a_word (unpack_fed v p used code log f u x) ns
      (unpack_fed v p used code log f (held_after u (words_in ns)) (take_words (quadwords which) f u (write_registers v) (words_in ns) x))
  unfolding take_words held_after
  unpack_feeds u [] x q h = none
  unpack_feeds u (n ∷ ns) x q h =
      more false (unpack_word_lem u n x (quiet_word u.due (length ns) u.interrupt q) (omega arith))
      (unpack_feeds (holds u (word_in n)) ns (unpack_word (quadwords which) f u (write_registers v) (word_in n) x) (quiet_next u.due (length ns) u.interrupt q) (omega arith))

-- words as many as came
pub words_length : (ns : List Incoming) → length (words_in ns) ≡ length ns
words_length [] = refl
words_length (n ∷ ns) = ap suc (words_length ns)

-- words and then more of them
words_before : (ws vs : List ℕ) → Words (ws ++ vs) → Words ws
words_before [] vs h = no_word
words_before (x ∷ ws) vs (word_more l h) = word_more l (words_before ws vs h)

held_join : (u : Unpacking) (ws vs : List ℕ) → held_after (held_after u ws) vs ≡ held_after u (ws ++ vs)
unfolding held_after
held_join u [] vs = refl
held_join u (x ∷ ws) vs = held_join (holds u x) ws vs

held_interrupt : (u : Unpacking) (ws : List ℕ) → (held_after u ws).interrupt ≡ u.interrupt
unfolding held_after
held_interrupt u [] = refl
held_interrupt u (x ∷ ws) = held_interrupt (holds u x) ws

-- the payload words of a code under the held CL and WL
abbrev pub payload_of : Format → UnpackCode → Vif → ℕ
payload_of f u v = payload_for f v.cl v.wl (count_of u.num)

-- ---- from a waiting UNPACK on

module _ (f : Format) (u : UnpackCode) (v : Vif) (i : Bool) where
  -- the payload words that are left
  pub due_left : (ws : List ℕ) → (held_after (begun_unpack f u v i) ws).due ≡ payload_of f u v - length ws
  due_left ws = payload_due f v.cl v.wl (address_of u v.tops) u.num u.usn u.masked i ws

  bit_left : (ws : List ℕ) → (held_after (begun_unpack f u v i) ws).interrupt ≡ i
  unfolding unpacking_of
  bit_left ws = held_interrupt (begun_unpack f u v i) ws

module _ (which : VifUnit) (v : Vif) (p : Path) (used : ℕ) (m : Lent) (f : Format) (u : UnpackCode) (i : Bool) (k : 1 ≤ v.cl) (l : 1 ≤ v.wl) where
  -- "After k payload words, exactly the vectors lying wholly in them have been written", and the fills after them
  taken_is : (ws : List ℕ) → Words ws → length ws ≤ payload_of f u v
      → take_words (quadwords which) f (begun_unpack f u v i) (write_registers v) ws (written v.row m.mem) ≡ unpacked_with which v m.mem f u i ws
  taken_is ws w h =
      payload_theorem (quadwords which) f (address_of u v.tops) u.num u.usn u.masked i (write_registers v) ws (written v.row m.mem) w k l h

  -- with the words ws taken, more of them: all but the last leave it waiting
  pub unit_payload_on : (ws : List ℕ) (ns : List Incoming) → Words (ws ++ words_in ns) → length (ws ++ words_in ns) < payload_of f u v
      → Feeds which a_word (unpacked_fed which v p used m f u i ws (UnpackDue f (held_after (begun_unpack f u v i) ws))) ns
      (unpacked_fed which v p used m f u i (ws ++ words_in ns) (UnpackDue f (held_after (begun_unpack f u v i) (ws ++ words_in ns))))
  unit_payload_on ws ns w h =
      let b = begun_unpack f u v i in
      let a = length-append ws (words_in ns) in
      let c = words_length ns in
      let d = due_left f u v i ws in
      let e = due_left f u v i (ws ++ words_in ns) in
      rw (← taken_is ws (words_before ws (words_in ns) w) (omega arith), ← taken_is (ws ++ words_in ns) w (omega arith))
      (rw (← waits_on f (held_after b ws) (omega arith), ← waits_on f (held_after b (ws ++ words_in ns)) (omega arith))
      (rw (take_join (quadwords which) f b (write_registers v) ws (words_in ns) (written v.row m.mem), ← held_join b ws (words_in ns))
      (unpack_feeds which v p used m.code m.log f (held_after b ws) ns _ (inr (omega arith)) (omega arith))))

  -- and the last completes the code, with its interrupt bit
  pub unit_payload_last : (ws : List ℕ) (n : Incoming) → Words (ws ++ word_in n ∷ []) → length (ws ++ word_in n ∷ []) ≡ payload_of f u v
      → vif_step which (unpacked_fed which v p used m f u i ws (UnpackDue f (held_after (begun_unpack f u v i) ws))).unit p n used
      (unpacked_fed which v p used m f u i ws (UnpackDue f (held_after (begun_unpack f u v i) ws))).memories
      ≡ leaves (Word i) (unpacked_fed which v p used m f u i (ws ++ word_in n ∷ []) Nothing).unit p used
      (unpacked_fed which v p used m f u i (ws ++ word_in n ∷ []) Nothing).memories
  unfolding take_words held_after
  unit_payload_last ws n w h =
      let b = begun_unpack f u v i in
      let a = length-append ws (word_in n ∷ []) in
      let d = due_left f u v i ws in
      let e = due_left f u v i (ws ++ word_in n ∷ []) in
      rw (← taken_is ws (words_before ws (word_in n ∷ []) w) (omega arith), ← taken_is (ws ++ word_in n ∷ []) w (omega arith))
      (rw (← waits_on f (held_after b ws) (omega arith), ← waits_no_more f (held_after b (ws ++ word_in n ∷ [])) (omega arith))
      (rw (take_join (quadwords which) f b (write_registers v) ws (word_in n ∷ []) (written v.row m.mem), ← held_join b ws (word_in n ∷ []))
      (unpack_word_lem which v p used m.code m.log f (held_after b ws) n _ (last_word _ _ i (omega arith) (bit_left f u v i ws)) (omega arith))))

-- ---- from the code on

-- a cycle that rule 22 accepts has a write
cycle_some : (cl wl : ℕ) → cycle_refused cl wl ≡ false → 1 ≤ wl
unfolding cycle_refused
cycle_some cl wl h = let z = eqb-false wl 0 h in omega arith

-- an idle unit that does not refuse the code takes it, with its interrupt bit
module _ (which : VifUnit) (v : Vif) (p : Path) (used : ℕ) (m : Lent) (n : Incoming) (f : Format) (u : UnpackCode) (i : Bool) (h : v.waiting ≡ Nothing)
    (c : unpack_refusal which u v ≡ 0) (d : decode_of which (word_in n) ≡ Known (Unpack f u)) (j : interrupt_of (word_in n) ≡ i) where
  wl_some : 1 ≤ v.wl
  wl_some = cycle_some v.cl v.wl (refusal_cycle which u v c)

  -- where CL is not 0 its payload is due
  module _ (k : 1 ≤ v.cl) where
    begun_due : 1 ≤ (begun_unpack f u v i).due
    unfolding unpacking_of
    begun_due = payload_some f _ (vectors_some v.cl v.wl k wl_some (count_of u.num) (count_range u.num).0)

    begun_bit : (begun_unpack f u v i).interrupt ≡ i
    unfolding unpacking_of
    begun_bit = refl

    begun_words : (begun_unpack f u v i).due ≡ payload_of f u v
    unfolding unpacking_of
    begun_words = refl

    -- the code's own step
    unpack_taken : vif_step which v p n used m ≡ leaves (Word false) (unpacks v v.row f (begun_unpack f u v i)) p used m
    unfolding begin_unpack if
    unpack_taken = code_taken which v p used m n h refl d j ∙ rw (c, ne_eqb v.cl 0 (λ z. omega arith), waits_on f (begun_unpack f u v i) begun_due)

    -- the code and payload words, step by step
    pub unpack_fed_lem : (ns : List Incoming) → Quiet i (length ns) (payload_of f u v) → length ns ≤ payload_of f u v
        → Feeds which a_word (fed v p used m) (n ∷ ns)
        (unpack_fed v p used m.code m.log f (held_after (begun_unpack f u v i) (words_in ns))
        (take_words (quadwords which) f (begun_unpack f u v i) (write_registers v) (words_in ns) (written v.row m.mem)))
    unpack_fed_lem ns q l =
        more false unpack_taken
        (unpack_feeds which v p used m.code m.log f (begun_unpack f u v i) ns (written v.row m.mem) (rw (begun_bit, begun_words) q) (rw begun_words l))

    -- "After k payload words, exactly the vectors lying wholly in them have been written": the unit's ROW and data memory, all else as it was
    unit_payload : (ns : List Incoming) → Words (words_in ns) → Quiet i (length ns) (payload_of f u v) → length ns ≤ payload_of f u v
        → Feeds which a_word (fed v p used m) (n ∷ ns) (unpacked_fed which v p used m f u i (words_in ns) (unpack_waits f (held_after (begun_unpack f u v i) (words_in ns))))
    unit_payload ns w q l =
        rw (← taken_is which v p used m f u i k wl_some (words_in ns) w (rw words_length l)) (unpack_fed_lem ns q l)

    -- of a part of a payload, after which the UNPACK waits on
    pub unit_payload_part : (ns : List Incoming) → Words (words_in ns) → length ns < payload_of f u v
        → Feeds which a_word (fed v p used m) (n ∷ ns) (unpacked_fed which v p used m f u i (words_in ns) (UnpackDue f (held_after (begun_unpack f u v i) (words_in ns))))
    unit_payload_part ns w l =
        let e = due_left f u v i (words_in ns) in
        let b = words_length ns in
        rw (← waits_on f (held_after (begun_unpack f u v i) (words_in ns)) (omega arith)) (unit_payload ns w (inr l) (omega arith))

    -- and of a whole one without interrupt bit, after which nothing waits
    pub unit_payload_whole : i ≡ false → (ns : List Incoming) → Words (words_in ns) → length ns ≡ payload_of f u v
        → Feeds which a_word (fed v p used m) (n ∷ ns) (unpacked_fed which v p used m f u i (words_in ns) Nothing)
    unit_payload_whole q ns w l =
        let e = due_left f u v i (words_in ns) in
        let b = words_length ns in
        rw (← waits_no_more f (held_after (begun_unpack f u v i) (words_in ns)) (omega arith)) (unit_payload ns w (inl q) (omega arith))

  -- request 3: "With CL 0 there is no payload and all writes belong to the code's own step."; nothing waits after it, and its interrupt bit answers
  pub unfed_taken : v.cl ≡ 0
      → vif_step which v p n used m
      ≡ leaves (Word i) (unpacked_fed which v p used m f u i [] Nothing).unit p used (unpacked_fed which v p used m f u i [] Nothing).memories
  unfolding begin_unpack if
  unfed_taken z =
      code_taken which v p used m n h refl d j
      ∙ rw (c, eq-eqb v.cl 0 z, unfed_theorem (quadwords which) f (begun_unpack f u v i) (write_registers v) (written v.row m.mem) z wl_some)
      (ap (λ (w : Waiting). leaves (Word i) (with_waiting (with_row v (unpacked_with which v m.mem f u i []).row) w) p used (lent (unpacked_with which v m.mem f u i []).mem m.code m.log)) h)

-- "22 remains for WL 0 only, in its old place.": with WL 0 the code is refused, whatever CL is; `unit-payload-part` and `unfed-taken` have all else
pub wl_refused : (which : VifUnit) (v : Vif) (p : Path) (used : ℕ) (m : Lent) (n : Incoming) (f : Format) (u : UnpackCode) → v.waiting ≡ Nothing
    → decode_of which (word_in n) ≡ Known (Unpack f u) → v.wl ≡ 0 → vif_step which v p n used m ≡ refused cycle_wrong v p used m
unfolding begin_unpack unpack_refusal cycle_refused if
wl_refused which v p used m n f u h d e = code_taken which v p used m n h refl d refl ∙ rw e

-- under CL 0 no UNPACK can wait
pub unfed_waiting : (which : VifUnit) (f : Format) (u : Unpacking) (cl wl : ℕ) → cl ≡ 0 → waiting_in_range which (UnpackDue f u) cl wl ≡ false
unfolding waiting_in_range
unfed_waiting which f u cl wl z = go (cycle_in_range cl wl && unpacking_in_range f cl wl u) refl
  where
    go : (b : Bool) → (cycle_in_range cl wl && unpacking_in_range f cl wl u) ≡ b → b ≡ false
    go false e = refl
    go true e =
        let c = cycle_fits cl wl (and_left _ _ e) in
        let x = unpacking_fits f cl wl u (and_right (cycle_in_range cl wl) _ e) in
        let k = due_cycle f cl wl u c.some x in
        absurd (omega arith)
