-- Codes and their payload taken at once, none of them with its interrupt bit: what a word leads to, and words after words.
use Rattle.std.specs.Prelude.{Option, Some as Given, Result, Ok, Err, IsSome}
use Rattle.std.specs.Result.{is_err}
use mathlib.Core.Path.{◌≡◌, refl, sym, ap, ◌∙◌}
use mathlib.Core.Bool.{Bool, true, false, not}
use mathlib.Core.List.{List}
use mathlib.Core.Logic.{⊎_elim}
use Prim.Native.Nat.{ℕ, zero, suc, ◌+◌, ◌*◌, ◌-◌, ◌/◌, ◌%◌, ◌^◌, ◌<◌, ◌≤◌}
use native.Mathlib.Nat.{add-zero, sub-zero, eq-or-lt_of_le}
use native.Mathlib.Numerals.{one-add}
use native.Mathlib.Omega.{arith}
use borrow.Author.Tests.{ne_eqb, eq-eqb, le-leb, lt-ltb}
use lib.ListN.{length}
use lib.Dec.{eqb}
use Rattle.fields.specs.Fields.{if, bits}
use Rattle.fields.specs.Memory.{word_at}
use Rattle.fields.specs.Counts.{one_if, words_alone, plus_units, Counted}
use Rattle.fields.proofs.ChoiceLaws.{if_ind}
use Rattle.fields.proofs.CountLaws.{one_quiet, counted_plus}
use Rattle.gif.specs.Log.{lacks_room}
use Rattle.gif.specs.declared.Path.{Path}
use Rattle.memories.specs.declared.VifUnit.{VifUnit}
use Rattle.memories.specs.Units.{quadwords, instructions}
use Rattle.memories.specs.Lengths.{Lent, lent}
use Rattle.unpack_rules.specs.declared.Format.{Format}
use Rattle.unpack_rules.specs.declared.Unpacking.{Unpacking}
use Rattle.unpack_rules.specs.declared.Registers.{Registers}
use Rattle.unpack_rules.specs.declared.WordsTaken.{WordsTaken}
use Rattle.unpack_rules.specs.Write.{Written, written}
use Rattle.unpack_rules.specs.Step.{left as unpackLeft, holds, unpack_word, acceptable, take_of as unpackTakeOf}
use Rattle.unpack_rules.specs.Whole.{take_words, held_after, words_from, words_left, words_acceptable, take_words_of}
use Rattle.unpack_rules.proofs.StepLaws.{acceptable_fits, fits_cycle, fits_unpacking, left_some}
use Rattle.unpack_rules.proofs.LengthLaws.{word_length}
use Rattle.unpack_rules.proofs.WordsLaws.{unpacking_on, words_some}
use Rattle.vif_codes.specs.declared.Code.{Code}
use Rattle.vif_codes.specs.declared.Code.TheVariants.{Nop, Stcycl, Offset, Base, Itop, Stmod, Mskpath3, Mark, Flushe, Flush, Flusha, Mscal, Mscalf, Mscnt, Stmask, Strow, Stcol, Mpg, Direct, Directhl, Unpack}
use Rattle.vif_codes.specs.declared.CodeResult.{CodeResult}
use Rattle.vif_codes.specs.Decoded.{Decoded, Known, Unknown}
use Rattle.vif_codes.specs.declared.Incoming.{Incoming}
use Rattle.fields.specs.declared.refusals.Refusal.{Refusal}
use Rattle.vif_codes.specs.declared.Taken.{Taken}
use Rattle.vif_codes.specs.declared.Taken.TheVariants.{Word as TakenWord, Quadword as TakenQuadword}
use Rattle.vif_codes.specs.VifAnswer.{VifAnswer, Word, Quadword, Refused, vif_answer}
use Rattle.vif_codes.specs.declared.Waiting.{Waiting}
use Rattle.vif_codes.specs.declared.Waiting.TheVariants.{Nothing, MaskDue, RowDue, ColDue, MpgDue, DirectDue, DirecthlDue, UnpackDue}
use Rattle.vif_codes.specs.declared.Vif.{Vif}
use Rattle.vif_codes.specs.Setters.{with_row, with_waiting}
use Rattle.vif_codes.specs.Codes.{interrupt_of, missing_code, plain_code, code_of, decode_of}
use Rattle.vif_codes.specs.Execute.{Executed, result_with, set_mode, start_program, begin_mpg, unpack_refusal, begin_unpack, execute_of, decoded_step}
use Rattle.vif_codes.specs.Payload.{completes, or_nothing, row_word, col_word, mask_word, mpg_stored, write_registers}
use Rattle.vif_codes.specs.Range.{unit_in_range}
use Rattle.vif_codes.specs.Words.{incoming_at, word_in}
use Rattle.vif_codes.specs.Counting.{nop_in}
use Rattle.vif_codes.proofs.CodeLaws.{listed_both}
use Rattle.vif_codes.proofs.RangeLaws.{row_due, col_due, mpg_due, unpack_some}
use Rattle.vif.specs.declared.WordsResult.{WordsResult}
use Rattle.vif.specs.Step.{Left, leaves, words_taken, code_step, mpg_refused, mpg_step, unpack_step, vif_step}
use Rattle.vif.specs.Feeds.{Fed, fed, a_word}
use Rattle.vif.specs.Inner.{UnpackReady, MpgReady, FedReady, Leads, fed_in, Going, Takes, words_with, Some, Ahead, WaitingFits, stored_words, StoreFits, taken_with}
use Rattle.vif.proofs.ReadyLaws.{memory_accepted}
use Rattle.vif.proofs.StepLaws.{by_waiting, code_taken}
use Rattle.vif.proofs.FeedLaws.{untaken, leads_none, leads_one, leads_then, rest_leads}
use Rattle.vif.proofs.BurstLaws.{incoming_word, not_last, waits_still}

-- ---- one word

-- a word that is taken and is no NOP
pub word_leads : {which : VifUnit} {main : List ℕ} {a : ℕ} {x z : Fed}
    → vif_step which x.unit x.path2 (incoming_at main a) x.used x.memories ≡ leaves (a_word false) z.unit z.path2 z.used z.memories
    → nop_in x.unit.waiting (word_in (incoming_at main a)) ≡ false
    → Leads which main a 1 (words_alone 1) x z
word_leads {z = z} e w =
    rw (w, one_quiet) at (leads_one {o = leaves (a_word false) z.unit z.path2 z.used z.memories} (sym e) refl (λ q. omega arith) refl)

-- words, and then more of them
pub codes_more : {which : VifUnit} {main : List ℕ} {a k m n j : ℕ} {x y z : Fed} → Leads which main a k (words_with k n) x y
    → Leads which main (a + 4 * k) m (words_with m j) y z → Leads which main a (k + m) (words_with (k + m) (n + j)) x z
codes_more p q = leads_then p q

-- and then others, none a NOP
pub words_more : {which : VifUnit} {main : List ℕ} {a k m n : ℕ} {x y z : Fed} → Leads which main a k (words_with k n) x y
    → Leads which main (a + 4 * k) m (words_alone m) y z → Leads which main a (k + m) (words_with (k + m) n) x z
words_more {n = n} p q = rw (add-zero n) at (codes_more {n = n} {j = 0} p q)

-- ---- NOPs

nop_word : (which : VifUnit) (word : ℕ) → word / 16777216 ≡ 0 → decode_of which word ≡ Known Nop
unfolding missing_code decode_of code_of plain_code bits if
nop_word which word h =
    let e : word / 16777216 % 128 ≡ 0 = omega arith in
    rw (e, listed_both which 0x00 refl) refl

unmarked : (word : ℕ) → word < 2147483648 → interrupt_of word ≡ false
unfolding bits
unmarked word h = ne_eqb (word / 2147483648 % 2) 1 (λ e. omega arith)

nop_counted : (main : List ℕ) (a : ℕ) (x : Fed) → x.unit.waiting ≡ Nothing → word_at main a / 16777216 ≡ 0
    → nop_in x.unit.waiting (word_in (incoming_at main a)) ≡ true
unfolding bits
nop_counted main a x h z = rw (h, incoming_word main a) (eq-eqb (word_at main a / 16777216 % 128) 0 (omega arith))

-- a NOP without its interrupt bit changes nothing
pub nop_leads : {which : VifUnit} {main : List ℕ} {a : ℕ} {x : Fed} → x.unit.waiting ≡ Nothing → word_at main a / 16777216 ≡ 0
    → Leads which main a 1 (words_with 1 1) x x
unfolding one_if
nop_leads {which} {main} {a} {x} h z =
    let e = code_taken which x.unit x.path2 x.used x.memories (incoming_at main a) h (incoming_word main a) (nop_word which (word_at main a) z) (unmarked (word_at main a) (omega arith)) in
    rw (nop_counted main a x h z) at (leads_one {o = leaves (a_word false) x.unit x.path2 x.used x.memories} (sym e) refl (λ q. omega arith) refl)

-- ---- a code

-- the answers of a code without its interrupt bit
pub data Quiet : VifAnswer → Type 0 where
  taken_quietly : Quiet (Word false)
  refused_quietly : {n : ℕ} → Quiet (Refused n)

quiet_code : (which : VifUnit) (c : Code) (v : Vif) (used : ℕ) (mem log : List ℕ) → Quiet (execute_of which c v false used mem log).answer
unfolding set_mode start_program begin_mpg begin_unpack
quiet_code which Nop v used mem log = taken_quietly
quiet_code which (Stcycl cl wl) v used mem log = taken_quietly
quiet_code which (Offset x) v used mem log = taken_quietly
quiet_code which (Base x) v used mem log = taken_quietly
quiet_code which (Itop x) v used mem log = taken_quietly
quiet_code which (Stmod m) v used mem log = if_ind (λ (r : CodeResult). Quiet (vif_answer r.answer)) (eqb m 3) refused_quietly taken_quietly
quiet_code which (Mskpath3 b) v used mem log = taken_quietly
quiet_code which (Mark x) v used mem log = taken_quietly
quiet_code which Flushe v used mem log = taken_quietly
quiet_code which Flush v used mem log = taken_quietly
quiet_code which Flusha v used mem log = taken_quietly
quiet_code which (Mscal x) v used mem log = if_ind (λ (e : Executed). Quiet e.answer) (lacks_room log used 1) refused_quietly taken_quietly
quiet_code which (Mscalf x) v used mem log = if_ind (λ (e : Executed). Quiet e.answer) (lacks_room log used 1) refused_quietly taken_quietly
quiet_code which Mscnt v used mem log = if_ind (λ (e : Executed). Quiet e.answer) (lacks_room log used 1) refused_quietly taken_quietly
quiet_code which Stmask v used mem log = taken_quietly
quiet_code which Strow v used mem log = taken_quietly
quiet_code which Stcol v used mem log = taken_quietly
quiet_code which (Mpg a num) v used mem log = taken_quietly
quiet_code which (Direct n) v used mem log = taken_quietly
quiet_code which (Directhl n) v used mem log = taken_quietly
quiet_code which (Unpack f u) v used mem log =
    if_ind (λ (e : Executed). Quiet e.answer) (not (eqb (unpack_refusal which u v) 0)) refused_quietly
    (if_ind (λ (e : Executed). Quiet e.answer) (eqb v.cl 0) taken_quietly taken_quietly)

quiet_decoded : (which : VifUnit) (d : Decoded) (v : Vif) (used : ℕ) (mem log : List ℕ) → Quiet (decoded_step which d v false used mem log).answer
quiet_decoded which (Known c) v used mem log = quiet_code which c v used mem log
quiet_decoded which (Unknown n) v used mem log = refused_quietly

-- what the program answers then
quiet_ok : (b : Result Taken Refusal) → Quiet (vif_answer b) → is_err b ≡ false → vif_answer b ≡ Word false
quiet_ok (Ok (TakenWord false)) q e = refl
quiet_ok (Ok (TakenWord true)) q e = absurd (no_interrupt q refl)
  where
    no_interrupt : {b : VifAnswer} → Quiet b → b ≡ Word true → ⊥
    no_interrupt taken_quietly y = cc
    no_interrupt refused_quietly y = cc
quiet_ok (Ok (TakenQuadword i c)) q e = absurd (no_quadword q refl)
  where
    no_quadword : {b : VifAnswer} → Quiet b → b ≡ Quadword i c → ⊥
    no_quadword taken_quietly y = cc
    no_quadword refused_quietly y = cc
quiet_ok (Err x) q e = absurd cc

untaken_err : (b : Result Taken Refusal) → is_err b ≡ true → words_taken (vif_answer b) ≡ 0
untaken_err (Ok x) e = absurd cc
untaken_err (Err x) e = refl

-- what the program made of a code's word is the unit's step
module _ (which : VifUnit) (main : List ℕ) (a : ℕ) (v : Vif) (p : Path) (used : ℕ) (mem code log : List ℕ) (h : v.waiting ≡ Nothing) (l : word_at main a < 2147483648)
    {word : ℕ} (e : word ≡ word_at main a) (r : CodeResult) {mem' log' : List ℕ}
    (q : result_with r mem' log' ≡ decoded_step which (decode_of which word) v (interrupt_of word) used mem log) where
  abbrev made : Left
  made = leaves (vif_answer r.answer) r.unit p r.used (lent mem' code log')

  made_is : made ≡ vif_step which v p (incoming_at main a) used (lent mem code log)
  unfolding vif_step code_step
  made_is =
      by_waiting which h v p (incoming_at main a) used (lent mem code log)
      (rw (incoming_word main a, ← e) (ap (λ (x : Executed). leaves x.answer x.unit p x.used (lent x.mem code x.log)) q))

  made_quiet : Quiet (vif_answer r.answer)
  made_quiet =
      rw (ap (λ (x : Executed). x.answer) q, unmarked word (omega arith)) (quiet_decoded which (decode_of which word) v used mem log)

  no_nop : (word_at main a / 16777216 ≡ 0 → ⊥) → nop_in v.waiting (word_in (incoming_at main a)) ≡ false
  unfolding bits
  no_nop z = rw (h, incoming_word main a) (ne_eqb (word_at main a / 16777216 % 128) 0 (λ y. z (omega arith)))

  pub code_leads : (word_at main a / 16777216 ≡ 0 → ⊥) → is_err r.answer ≡ false
      → Leads which main a 1 (words_alone 1) (fed v p used (lent mem code log)) (fed r.unit p r.used (lent mem' code log'))
  code_leads z w =
      let f = quiet_ok r.answer made_quiet w in
      word_leads (sym made_is ∙ ap (λ (b : VifAnswer). leaves b r.unit p r.used (lent mem' code log')) f) (no_nop z)

  -- one that is refused left the memories as they were
  pub code_left : FedReady which (fed v p used (lent mem code log)) → is_err r.answer ≡ true → (mem' ≡ mem) × (log' ≡ log)
  code_left g w =
      let u = untaken which (fed v p used (lent mem code log)) g (incoming_at main a) made_is (untaken_err r.answer w) in
      (ap (λ (m : Lent). m.mem) u, ap (λ (m : Lent). m.log) u)

-- ---- STMASK, STROW and STCOL

still_quiet : (due : ℕ) → completes due false ≡ false
unfolding completes
still_quiet due = if_ind (λ (b : Bool). b ≡ false) (eqb due 1) refl refl

module _ (which : VifUnit) (main : List ℕ) (a : ℕ) (v : Vif) (p : Path) (used : ℕ) (m : Lent) {word : ℕ} (e : word ≡ word_at main a) {i : Bool} (q : i ≡ false) {v' : Vif} where
  pub mask_leads : v.waiting ≡ MaskDue i → v' ≡ mask_word v word → Leads which main a 1 (words_alone 1) (fed v p used m) (fed v' p used m)
  unfolding vif_step
  mask_leads h f =
      word_leads (sym (by_waiting which h v p (incoming_at main a) used m (rw (incoming_word main a, ← e, f, q) refl))) (rw h)

  pub row_leads : {due : ℕ} → v.waiting ≡ RowDue due i → v' ≡ row_word v due i word → Leads which main a 1 (words_alone 1) (fed v p used m) (fed v' p used m)
  unfolding vif_step
  row_leads {due} h f =
      word_leads (sym (by_waiting which h v p (incoming_at main a) used m (rw (incoming_word main a, ← e, f, q, still_quiet due) refl))) (rw h)

  pub col_leads : {due : ℕ} → v.waiting ≡ ColDue due i → v' ≡ col_word v due i word → Leads which main a 1 (words_alone 1) (fed v p used m) (fed v' p used m)
  unfolding vif_step
  col_leads {due} h f =
      word_leads (sym (by_waiting which h v p (incoming_at main a) used m (rw (incoming_word main a, ← e, f, q, still_quiet due) refl))) (rw h)

-- the last unit of a code without its interrupt bit
ends_quiet : (due : ℕ) (i : Bool) → i ≡ false → completes due i ≡ false
ends_quiet due i q = rw q (still_quiet due)

ends_nothing : (due : ℕ) (w : Waiting) → due ≡ 1 → or_nothing due w ≡ Nothing
unfolding or_nothing if
ends_nothing due w d = rw d

-- ---- UNPACK

-- what n words leave waiting
held_on : (main : List ℕ) (n a : ℕ) (u : Unpacking) → n ≤ u.due
    → ((held_after u (words_from main a n)).due + n ≡ u.due) × ((held_after u (words_from main a n)).interrupt ≡ u.interrupt)
unfolding held_after words_from
held_on main zero a u h = (add-zero u.due, refl)
held_on main (suc n) a u h =
    let i = held_on main n (a + 4) (holds u (word_at main a)) (omega arith) in
    let d = i.0 in
    (omega arith, i.1)

-- the unit with an UNPACK that waits
abbrev pub unpacking : Vif → Format → List ℕ → Unpacking → Vif
unpacking v f row u = with_waiting (with_row v row) (UnpackDue f u)

module _ (size : ℕ) (v : Vif) (f : Format) (u : Unpacking) (word : ℕ) (row mem : List ℕ) (g : UnpackReady size v f u mem) (h : 1 < u.due) where
  -- a payload word before the last leaves it waiting, ready for the next
  unpack_ready : (m : List ℕ) → length m ≡ length mem → UnpackReady size v f (holds u word) m
  unfolding acceptable
  unpack_ready m l =
      let x = acceptable_fits size f u (write_registers v) mem g.accepted in
      let s = x.memory in
      record {
        some = omega arith;
        accepted =
            rw (memory_accepted size m (record { some = s.some; most = s.most; long = l ∙ s.long }), fits_cycle v.cl v.wl x.cycle)
            (fits_unpacking f v.cl v.wl (holds u word) (unpacking_on word x.unpacking h));
      }

  abbrev word_written : Written
  word_written = unpack_word size f u (write_registers v) word (written row mem)

  unpack_step_lem : (which : VifUnit) → size ≡ quadwords which → (p : Path) (used : ℕ) (code log : List ℕ) (next : Incoming) → word_in next ≡ word
      → vif_step which (unpacking v f row u) p next used (lent mem code log)
      ≡ leaves (a_word false) (unpacking v f word_written.row (holds u word)) p used (lent word_written.mem code log)
  unfolding vif_step unpack_step
  unpack_step_lem which z p used code log next e =
      rw (← z, e, not_last u.due u.interrupt h, waits_still u.due (UnpackDue f (holds u word)) h)

-- n words of main memory, not the last
module _ (size : ℕ) (v : Vif) (f : Format) (main : List ℕ) where
  abbrev words_written : Unpacking → List ℕ → List ℕ → ℕ → ℕ → Written
  words_written u row mem a n = take_words size f u (write_registers v) (words_from main a n) (written row mem)

  abbrev words_result : Unpacking → List ℕ → List ℕ → ℕ → ℕ → WordsTaken
  words_result u row mem a n = record { row = (words_written u row mem a n).row; rest = held_after u (words_from main a n) }

  -- they leave it ready
  words_ready : (n a : ℕ) (u : Unpacking) (row mem : List ℕ) → UnpackReady size v f u mem → n < u.due
      → UnpackReady size v f (held_after u (words_from main a n)) (words_written u row mem a n).mem
  unfolding words_from take_words held_after
  words_ready zero a u row mem g h = g
  words_ready (suc n) a u row mem g h =
      let x = word_at main a in
      let o = unpack_word size f u (write_registers v) x (written row mem) in
      words_ready n (a + 4) (holds u x) o.row o.mem (unpack_ready size v f u x row mem g (omega arith) o.mem (word_length size f u (write_registers v) x (written row mem))) (omega arith)

  -- what a call of take_words leaves
  module _ {n a : ℕ} {u : Unpacking} {mem : List ℕ} {r : Registers} (s : Option WordsTaken) (m : List ℕ) (g : UnpackReady size v f u mem) (h : n < u.due) (l : a ≤ 1048576)
      (er : r ≡ write_registers v) (es : words_left u v.row s m ≡ take_words_of size f u r main a n v.row mem) where
    pub words_given : (s ≡ Given (words_result u v.row mem a n)) × (m ≡ (words_written u v.row mem a n).mem)
    unfolding take_words_of words_acceptable if
    words_given =
        words_some size f (write_registers v) u (words_from main a n) (written v.row mem) v.row s
        (rw (er, le-leb a 1048576 l, lt-ltb n u.due h, g.accepted) at es)

    pub words_accepted : IsSome s
    words_accepted = rw words_given.0

    -- and a call of take_word after it
    module _ {t : WordsTaken} (word : ℕ) (et : s ≡ Given t) (o : Option (List ℕ)) (m' : List ℕ)
        (eo : unpackLeft t.row o m' ≡ unpackTakeOf size f t.rest r word t.row m) where
      word_given : (o ≡ Given (unpack_word size f t.rest (write_registers v) word (written t.row m)).row) × (m' ≡ (unpack_word size f t.rest (write_registers v) word (written t.row m)).mem)
      unfolding unpackTakeOf if
      word_given =
          let e : t ≡ words_result u v.row mem a n = cc (words_given.0) in
          let ready : UnpackReady size v f t.rest m = rw (e, words_given.1) (words_ready n a u v.row mem g h) in
          left_some t.row o (rw (er, ready.accepted) at eo)

      pub word_accepted : IsSome o
      word_accepted = rw word_given.0

module _ (which : VifUnit) (size : ℕ) (z : size ≡ quadwords which) (v : Vif) (f : Format) (main : List ℕ) (p : Path) (used : ℕ) (code log : List ℕ) where
  words_lead : (n a : ℕ) (u : Unpacking) (row mem : List ℕ) → UnpackReady size v f u mem → n < u.due
      → Leads which main a n (words_alone n) (fed (unpacking v f row u) p used (lent mem code log))
      (fed (unpacking v f (words_written size v f main u row mem a n).row (held_after u (words_from main a n))) p used (lent (words_written size v f main u row mem a n).mem code log))
  unfolding words_from take_words held_after
  words_lead zero a u row mem g h = leads_none
  words_lead (suc n) a u row mem g h =
      let x = word_at main a in
      let o = unpack_word size f u (write_registers v) x (written row mem) in
      let d : 1 < u.due = omega arith in
      rw (← one-add n)
      (leads_then
      (rw one_quiet at (leads_one (sym (unpack_step_lem size v f u x row mem g d which z p used code log (incoming_at main a) (incoming_word main a))) refl (λ q. omega arith) refl))
      (words_lead n (a + 4) (holds u x) o.row o.mem (unpack_ready size v f u x row mem g d o.mem (word_length size f u (write_registers v) x (written row mem))) (omega arith)))

  -- the last word
  unpack_last : (u : Unpacking) (word : ℕ) (row mem : List ℕ) → u.due ≡ 1 → u.interrupt ≡ false → (next : Incoming) → word_in next ≡ word
      → vif_step which (unpacking v f row u) p next used (lent mem code log)
      ≡ leaves (a_word false) (with_waiting (with_row v (unpack_word size f u (write_registers v) word (written row mem)).row) Nothing) p used
      (lent (unpack_word size f u (write_registers v) word (written row mem)).mem code log)
  unfolding vif_step unpack_step
  unpack_last u word row mem d i next e =
      rw (← z, e, ends_quiet u.due u.interrupt i, ends_nothing u.due (UnpackDue f (holds u word)) d)

  module _ {n a : ℕ} {u : Unpacking} {mem : List ℕ} {r : Registers} (s : Option WordsTaken) (m : List ℕ) (g : UnpackReady size v f u mem) (h : n < u.due) (l : a ≤ 1048576)
      (er : r ≡ write_registers v) (es : words_left u v.row s m ≡ take_words_of size f u r main a n v.row mem) (q : v.waiting ≡ UnpackDue f u) {t : WordsTaken}
      (et : s ≡ Given t) where
    pub unpack_leads : Leads which main a n (words_alone n) (fed v p used (lent mem code log)) (fed (unpacking v f t.row t.rest) p used (lent m code log))
    unpack_leads =
        let w = words_given size v f main s m g h l er es in
        let e : t ≡ words_result size v f main u v.row mem a n = cc (w.0) in
        rw (e, w.1)
        (rw (← ap (λ (w : Waiting). fed (with_waiting v w) p used (lent mem code log)) q) at (words_lead n a u v.row mem g h))

    pub unpack_all : (i : u.interrupt ≡ false) → n + 1 ≡ u.due → {word : ℕ} → word ≡ word_at main (a + 4 * n) → (o : Option (List ℕ)) {m' : List ℕ}
        → unpackLeft t.row o m' ≡ unpackTakeOf size f t.rest r word t.row m → {row : List ℕ} → o ≡ Given row
        → Leads which main a u.due (words_alone u.due) (fed v p used (lent mem code log)) (fed (with_waiting (with_row v row) Nothing) p used (lent m' code log))
    unpack_all i d {word} ew o {m'} eo {row} en =
        let w = words_given size v f main s m g h l er es in
        let e : t ≡ words_result size v f main u v.row mem a n = cc (w.0) in
        let held = held_on main n a u (omega arith) in
        let ld = held.0 in
        let one : t.rest.due ≡ 1 = rw e (omega arith) in
        let quiet : t.rest.interrupt ≡ false = rw e (held.1 ∙ i) in
        let x = word_given size v f main s m g h l er es word et o m' eo in
        let f : row ≡ (unpack_word size f t.rest (write_registers v) word (written t.row m)).row = cc (x.0) in
        rw (← d, f, x.1)
        (leads_then unpack_leads
        (word_leads (unpack_last t.rest word t.row m one quiet (incoming_at main (a + 4 * n)) (incoming_word main (a + 4 * n) ∙ sym ew)) refl))

-- ---- MPG

module _ (v : Vif) (address count : ℕ) (i : Bool) (which : VifUnit) {size : ℕ} (z : size ≡ instructions which) (main : List ℕ) (p : Path) (used : ℕ) (mem log : List ℕ) where
  -- the unit with an MPG that waits
  abbrev storing : ℕ → Vif
  storing due = with_waiting v (MpgDue address count due i)

  abbrev storing_fed : ℕ → List ℕ → Fed
  storing_fed due code = fed (storing due) p used (lent mem code log)

  mpg_step_lem : (due : ℕ) (code : List ℕ) → 1 < due → (a : ℕ) → mpg_refused count due (incoming_at main a) ≡ false
      → vif_step which (storing due) p (incoming_at main a) used (lent mem code log)
      ≡ leaves (a_word false) (storing (due - 1)) p used (lent mem (mpg_stored size address count due (word_at main a) code) log)
  unfolding vif_step mpg_step if
  mpg_step_lem due code h a r = rw (r, ← z, incoming_word main a, not_last due i h, waits_still due (MpgDue address count (due - 1) i) h)

  mpg_last : (due : ℕ) (code : List ℕ) → due ≡ 1 → i ≡ false → (a : ℕ) → mpg_refused count due (incoming_at main a) ≡ false
      → vif_step which (storing due) p (incoming_at main a) used (lent mem code log)
      ≡ leaves (a_word false) (with_waiting v Nothing) p used (lent mem (mpg_stored size address count due (word_at main a) code) log)
  unfolding vif_step mpg_step if
  mpg_last due code d q a r = rw (r, ← z, incoming_word main a, ends_quiet due i q, ends_nothing due (MpgDue address count (due - 1) i) d)

  -- once the first word is taken, no word is refused
  never_later : (due : ℕ) (next : Incoming) → 1 ≤ due → due ≤ count + count → mpg_refused count (due - 1) next ≡ false
  unfolding mpg_refused
  never_later due next h b = rw (ne_eqb (due - 1) (count + count) (λ e. omega arith))

  -- n words, not the last
  stores_lead : (n a due : ℕ) (code : List ℕ) → mpg_refused count due (incoming_at main a) ≡ false → due ≤ count + count → n < due
      → Leads which main a n (words_alone n) (storing_fed due code) (storing_fed (due - n) (stored_words size address main n (count + count - due) a code))
  unfolding stored_words mpg_stored
  stores_lead zero a due code r b h = rw (sub-zero due) leads_none
  stores_lead (suc n) a due code r b h =
      let d : due - suc n ≡ due - 1 - n = omega arith in
      let k : count + count - due + 1 ≡ count + count - (due - 1) = omega arith in
      rw (d, ← one-add n, k)
      (leads_then (word_leads (mpg_step_lem due code (omega arith) a r) refl)
      (stores_lead n (a + 4) (due - 1) _ (never_later due (incoming_at main (a + 4)) (omega arith) b) (omega arith) (omega arith)))

  -- all that are due
  stores_all : (n a due : ℕ) (code : List ℕ) → due ≡ suc n → i ≡ false → mpg_refused count due (incoming_at main a) ≡ false → due ≤ count + count
      → Leads which main a (suc n) (words_alone (suc n)) (storing_fed due code)
      (fed (with_waiting v Nothing) p used (lent mem (stored_words size address main (suc n) (count + count - due) a code) log))
  unfolding stored_words mpg_stored
  stores_all zero a due code e q r b = word_leads (mpg_last due code e q a r) refl
  stores_all (suc n) a due code e q r b =
      let k : count + count - due + 1 ≡ count + count - (due - 1) = omega arith in
      rw (← one-add (suc n), k)
      (leads_then (word_leads (mpg_step_lem due code (omega arith) a r) refl)
      (stores_all n (a + 4) (due - 1) _ (omega arith) q (never_later due (incoming_at main (a + 4)) (omega arith) b) (omega arith)))

  pub mpg_leads : {n a due first : ℕ} {code code' : List ℕ} {w : Waiting} {v' : Vif} → v.waiting ≡ MpgDue address count due i
      → mpg_refused count due (incoming_at main a) ≡ false → 1 ≤ due → due ≤ count + count → Some due i n → first ≡ count + count - due
      → code' ≡ stored_words size address main n first a code
      → (n < due → w ≡ MpgDue address count (due - n) i) × (n ≡ due → w ≡ Nothing) → v' ≡ with_waiting v w
      → Leads which main a n (words_alone n) (fed v p used (lent mem code log)) (fed v' p used (lent mem code' log))
  mpg_leads {n} {a} {due} {first} {code} {code'} {w} h r one b s ef ec ew ev =
      ⊎_elim
      (λ e.
      let k : suc (due - 1) ≡ n = omega arith in
      let d : due ≡ suc (due - 1) = omega arith in
      rw (ev, ew.1 e, ec, ef) (rw (k, ← ap (λ (w : Waiting). fed (with_waiting v w) p used (lent mem code log)) h) at (stores_all (due - 1) a due code d (s.marked e) r b)))
      (λ l.
      rw (ev, ew.0 l, ec, ef) (rw (← ap (λ (w : Waiting). fed (with_waiting v w) p used (lent mem code log)) h) at (stores_lead n a due code r b l)))
      (eq-or-lt_of_le s.most)

-- ---- what waits, and words taken

pub waiting_fits : (which : VifUnit) (v : Vif) → unit_in_range which v ≡ true → WaitingFits v.waiting
waiting_fits which v h = go v.waiting refl
  where
    go : (w : Waiting) → v.waiting ≡ w → WaitingFits w
    go Nothing q = refl
    go (MaskDue i) q = refl
    go (RowDue due i) q = row_due which v h q
    go (ColDue due i) q = col_due which v h q
    go (MpgDue a n due i) q = let d = mpg_due which v h q in (d.3, d.1)
    go (DirectDue due i) q = refl
    go (DirecthlDue due i) q = refl
    go (UnpackDue f u) q = unpack_some which v h q

pub still_few : {k j n : ℕ} → k ≤ n → j ≤ n - k → k + j ≤ n
still_few h l = omega arith

-- so many of them fit their numbers
pub codes_fit : {limit a count k n nops : ℕ} {s : WordsResult} → Going limit a count s → limit < 2 ^ 64 → k ≤ n
    → (n ≤ count - s.words) × (n ≤ limit - s.counts.steps) → nops ≤ k
    → (s.words + k < 2 ^ 32) × (s.counts.steps + k < 2 ^ 64) × Counted s.counts × (nops ≤ k)
codes_fit g l h b f =
    let near = g.near in
    let few = g.few_words in
    let few_steps = g.few_steps in
    let b0 = b.0 in
    let b1 = b.1 in
    (omega arith, omega arith, g.counted, f)

-- words after s
pub codes_taken : {which : VifUnit} {main : List ℕ} {limit a count k n nops used : ℕ} {s t : WordsResult} {m m' : Lent} {v : Vif} → FedReady which (fed_in s m) → Going limit a count s
    → k ≤ n → (n ≤ count - s.words) × (n ≤ limit - s.counts.steps) → nops ≤ k
    → Leads which main (a + 4 * s.words) k (words_with k nops) (fed_in s m) (fed v s.path2 used m')
    → t ≡ taken_with v s.path2 used (s.words + k) (plus_units s.counts (words_with k nops)) s.interrupt
    → Takes which main limit a count s m t m'
codes_taken {which} {main} {limit} {a} {count} {k} {n} {nops} {used} {s} {t} {m} {m'} {v} r g h b f i e =
    let w = g.few_words in
    let b0 = b.0 in
    let b1 = b.1 in
    let c : Counted (words_with k nops) = record { few_packets = omega arith; few_words = omega arith; few_nops = f } in
    rw e
    (record {
      same = rest_leads which main limit a count s m i (omega arith) (omega arith) s.interrupt;
      ready = i.stays r;
      later = omega arith;
      counted = counted_plus g.counted c;
      quiet = g.quiet;
      idle = λ z. record { near = g.near; few_words = omega arith; few_steps = omega arith; counted = counted_plus g.counted c; quiet = g.quiet };
    })

-- ---- by the case of what waits

pub ahead_is : (main : List ℕ) (a r : ℕ) {w k : Waiting} → w ≡ k → Ahead w main a r → Ahead k main a r
ahead_is main a r q h = rw (← q) h

-- one word
pub one_word : {which : VifUnit} {main : List ℕ} {a r : ℕ} {x y : Fed} → r ≡ 1 → Leads which main a 1 (words_alone 1) x y → Leads which main a r (words_alone r) x y
one_word e l = rw e l

-- what the stores of payload words need
pub mpg_stores : {size address count due n a : ℕ} {b : Bool} {main code : List ℕ} → MpgReady size address count due code → Some due b n → a + 4 * n ≤ 1048576
    → a + 4 * n ≤ length main → StoreFits size address (count + count - due) a n main code
mpg_stores r s near lies =
    let f = r.few in
    let d = r.due_most in
    let m = s.most in
    record { some = r.some; most = r.most; wide = r.wide; inside = r.inside; few = omega arith; lies = lies; near = near }
