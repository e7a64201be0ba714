-- What the records of a test sheet do to the unit, over their sizes.
use Rattle.std.specs.Prelude.{None}
use mathlib.Core.Path.{◌≡◌, refl, sym, ap, ◌∙◌}
use mathlib.Core.Logic.{inl}
use mathlib.Core.Bool.{Bool, true, false}
use mathlib.Core.List.{List, [], ◌∷◌, ◌++◌}
use Prim.Native.Nat.{ℕ, zero, suc, ◌+◌, ◌*◌, ◌-◌, ◌/◌, ◌%◌, ◌^◌, ◌<◌, ◌≤◌}
use native.Mathlib.Nat.{add-zero, zero-add}
use native.Mathlib.Numerals.{add-one}
use native.Mathlib.Omega.{arith}
use borrow.Author.Tests.{ne_eqb, le-ltb}
use lib.ListN.{length, get_or, drop}
use lib.Seq.{sets}
use lib.Dec.{eqb}
use Rattle.fields.specs.Fields.{if, bits, quadword}
use Rattle.fields.proofs.ChoiceLaws.{and_later}
use Rattle.gif.specs.declared.GifPath.TheVariants.{Two}
use Rattle.gif.specs.declared.Path.{Path}
use Rattle.gif.specs.Log.{entry_size, start_entry, entries_by, logged, lacks_room}
use Rattle.gif.specs.Tag.{path_of, tag_q}
use Rattle.gif.specs.Step.{gif_step}
use Rattle.gif.specs.Run.{sheet_tag, address_data, address_datas}
use Rattle.gif.proofs.LogLaws.{logged_then, logged_length}
use Rattle.gif.proofs.SheetLaws.{sheet_place, took, sheet_tag_lem, sheet_data}
use Rattle.memories.specs.declared.VifUnit.{VifUnit}
use Rattle.memories.specs.Units.{quadwords, instructions}
use Rattle.memories.specs.Lengths.{Lent, lent}
use Rattle.unpack_rules.specs.declared.Format.TheVariants.{V4x32}
use Rattle.unpack_rules.specs.Payload.{payload_words, vector_bits}
use Rattle.unpack_rules.specs.Write.{Written, written}
use Rattle.unpack_rules.specs.Position.{addresses}
use Rattle.unpack_rules.specs.Range.{cycle_refused}
use Rattle.unpack_rules.specs.Step.{count_of}
use Rattle.unpack_rules.specs.Whole.{copy_vectors, four_words}
use Rattle.unpack_rules.proofs.FormatLaws.{named_number}
use Rattle.unpack_rules.proofs.CycleLaws.{plain_vectors}
use Rattle.unpack_rules.proofs.VectorLaws.{Words}
use Rattle.unpack_rules.proofs.WholeLaws.{v4_payload}
use Rattle.vif_codes.specs.declared.Code.TheVariants.{Nop, Stcycl, Stmod, Mscal, Mpg, Direct, Unpack}
use Rattle.vif_codes.specs.declared.UnpackCode.{UnpackCode}
use Rattle.vif_codes.specs.Decoded.{Known}
use Rattle.vif_codes.specs.declared.Incoming.{Incoming}
use Rattle.vif_codes.specs.declared.Incoming.TheVariants.{Word0}
use Rattle.vif_codes.specs.VifAnswer.{VifAnswer, Word, Quadword}
use Rattle.vif_codes.specs.declared.Waiting.{Waiting}
use Rattle.vif_codes.specs.declared.Waiting.TheVariants.{Nothing, MpgDue, DirectDue}
use Rattle.vif_codes.specs.declared.Vif.{Vif}
use Rattle.vif_codes.specs.Setters.{with_cycle, with_mode, with_row, with_waiting}
use Rattle.vif_codes.specs.Codes.{interrupt_of, direct_quadwords, mpg_addresses, missing_code, code_listed, plain_code, unpack_numbers, code_of, decode_of}
use Rattle.vif_codes.specs.Execute.{started, start_program, set_mode, begin_mpg, address_of}
use Rattle.vif_codes.specs.Payload.{or_nothing, bytes_of, word_place, mpg_stored, write_registers}
use Rattle.vif_codes.specs.Words.{word_in, odd_word}
use Rattle.vif_codes.proofs.CodeLaws.{listed_both, tops_clear, refusal_none}
use Rattle.vif.specs.Step.{leaves, give_quadword, mpg_refused, mpg_step, vif_step}
use Rattle.vif.specs.Feeds.{Fed, fed, Feeds, none, more, a_word, a_quadword, words_in, QuadwordsIn, no_quadword, one_quadword_lem, Zeros, one_zero, store_instruction, copy_instructions}
use Rattle.vif.proofs.StepLaws.{code_taken}
use Rattle.vif.proofs.UnpackLaws.{quiet, waits_no_more, words_length, payload_of, due_left, unpack_fed_lem}

-- ---- steps one after another

-- steps, and then more of them
pub feeds_join : {which : VifUnit} {a : Bool → VifAnswer} {x y z : Fed} {ns ms : List Incoming} → Feeds which a x ns y → Feeds which a y ms z → Feeds which a x (ns ++ ms) z
feeds_join none q = q
feeds_join (more c e p) q = more c e (feeds_join p q)

-- a list of incoming words by its first one
pub feeds_cons : {which : VifUnit} {x y : Fed} {a : ℕ} {ws : List ℕ} (ns : List Incoming) → words_in ns ≡ a ∷ ws
    → ((n : Incoming) (ms : List Incoming) → word_in n ≡ a → words_in ms ≡ ws → ns ≡ n ∷ ms → Feeds which a_word x (n ∷ ms) y)
    → Feeds which a_word x ns y
feeds_cons [] e k = absurd (let z : ◌≡◌ {A = ℕ} 0 1 = cc in omega arith)
feeds_cons (n ∷ ms) e k = k n ms (cc) (cc) refl

-- what is left may be written in another way
pub feeds_as : {which : VifUnit} {a : Bool → VifAnswer} {x y z : Fed} {ns : List Incoming} → Feeds which a x ns y → y ≡ z → Feeds which a x ns z
feeds_as f e = rw (← e) f

-- ---- a code's own step

nop_decoded : (which : VifUnit) → decode_of which 0 ≡ Known Nop
unfolding missing_code decode_of code_of plain_code bits if
nop_decoded which = rw (listed_both which 0x00 refl) refl

-- a word 0 is taken and changes nothing
pub feeds_nop : {which : VifUnit} {v : Vif} {p : Path} {used : ℕ} {m : Lent} → v.waiting ≡ Nothing → {y : Fed} {n : Incoming} {ns : List Incoming} → word_in n ≡ 0
    → Feeds which a_word (fed v p used m) ns y → Feeds which a_word (fed v p used m) (n ∷ ns) y
unfolding bits
feeds_nop {which} {v} {p} {used} {m} h {y} {n} e f = more false (code_taken which v p used m n h e (nop_decoded which) refl) f

-- ---- data: NOP, STCYCL 1 1, STMOD 0, UNPACK V4-32

-- the count of a NUM that is not 0
count_num : (n : ℕ) → 1 ≤ n → n ≤ 255 → count_of n ≡ n
unfolding count_of if
count_num n h l =
    let e : n % 256 ≡ n = omega arith in
    rw (e, ne_eqb n 0 (λ z. omega arith))

v4_words : (n : ℕ) → payload_words V4x32 n ≡ 4 * n
unfolding payload_words vector_bits
v4_words n = omega arith

-- the numbers of a record's UNPACK code
abbrev data_code : ℕ → ℕ → UnpackCode
data_code n a = record { address = a; num = n; usn = false; masked = false; tops = false }

module _ (n a : ℕ) (some : 1 ≤ n) (few : n ≤ 255) (inside : a < addresses) where
  data_decoded : (which : VifUnit) → decode_of which (1811939328 + n * 65536 + a) ≡ Known (Unpack V4x32 (data_code n a))
  unfolding decode_of code_of unpack_numbers bits if
  data_decoded which =
      let c : (1811939328 + n * 65536 + a) / 16777216 % 128 ≡ 108 = omega arith in
      let d : (1811939328 + n * 65536 + a) / 65536 % 256 ≡ n = omega arith in
      let e : (1811939328 + n * 65536 + a) / 1 % 65536 ≡ a = omega arith in
      let x : a / 1 % addresses ≡ a = omega arith in
      let y : a / 16384 % 2 ≡ 0 = omega arith in
      let z : a / 32768 % 2 ≡ 0 = omega arith in
      rw (c, d, e, x, y, z, named_number V4x32)

  data_quiet : interrupt_of (1811939328 + n * 65536 + a) ≡ false
  unfolding bits
  data_quiet = ne_eqb ((1811939328 + n * 65536 + a) / 2147483648 % 2) 1 (λ e. omega arith)

stcycl_decoded : (which : VifUnit) → decode_of which 16777473 ≡ Known (Stcycl 1 1)
unfolding missing_code decode_of code_of plain_code bits if
stcycl_decoded which = rw (listed_both which 0x01 refl) refl

stmod_decoded : (which : VifUnit) → decode_of which 83886080 ≡ Known (Stmod 0)
unfolding missing_code decode_of code_of plain_code bits if
stmod_decoded which = rw (listed_both which 0x05 refl) refl

-- a unit for which nothing waits is idle
idle_same : (v : Vif) → v.waiting ≡ Nothing → with_waiting v Nothing ≡ v
idle_same v h = ap (with_waiting v) (sym h)

module _ (which : VifUnit) (v : Vif) (p : Path) (used : ℕ) (m : Lent) (h : v.waiting ≡ Nothing) where
  stcycl_taken : (n : Incoming) → word_in n ≡ 16777473 → vif_step which v p n used m ≡ leaves (Word false) (with_cycle v 1 1) p used m
  unfolding bits
  stcycl_taken n e = code_taken which v p used m n h e (stcycl_decoded which) refl

  stmod_taken : (n : Incoming) → word_in n ≡ 83886080 → vif_step which v p n used m ≡ leaves (Word false) (with_mode v 0) p used m
  unfolding bits set_mode if
  stmod_taken n e = code_taken which v p used m n h e (stmod_decoded which) refl

-- an UNPACK that is over, in a unit whose ROW is as it was
unpacked_same : (v : Vif) (p : Path) (used : ℕ) (code log : List ℕ) {x : Written} {mem : List ℕ} {w : Waiting} → x ≡ written v.row mem → w ≡ v.waiting
    → fed (with_waiting (with_row v x.row) w) p used (lent x.mem code log) ≡ fed v p used (lent mem code log)
unpacked_same v p used code log e q = rw (e, q)

-- a whole V4-32 payload at CL = WL = 1 and MODE 0 is copied
data_fed : (which : VifUnit) (v : Vif) (p : Path) (used : ℕ) (m : Lent) (n a : ℕ) → v.waiting ≡ Nothing → v.cl ≡ 1 → v.wl ≡ 1 → v.mode ≡ 0 → length v.row ≡ 4
    → 1 ≤ n → n ≤ 255 → a < addresses → (k : Incoming) (ns : List Incoming) → word_in k ≡ 1811939328 + n * 65536 + a → Words (words_in ns)
    → length (words_in ns) ≡ 4 * n
    → Feeds which a_word (fed v p used m) (k ∷ ns) (fed v p used (lent (copy_vectors (quadwords which) a (four_words (words_in ns)) n 0 m.mem) m.code m.log))
unfolding cycle_refused address_of if
data_fed which v p used m n a h hc hw hm hr some few inside k ns e w l =
    let c = refusal_none which (data_code n a) v (rw hw) (tops_clear which) in
    let d : decode_of which (word_in k) ≡ Known (Unpack V4x32 (data_code n a)) = rw e (data_decoded n a some few inside which) in
    let i : interrupt_of (word_in k) ≡ false = rw e (data_quiet n a some few inside) in
    let q : 1 ≤ v.cl = omega arith in
    let g : count_of n ≡ n = count_num n some few in
    let y : a % addresses ≡ a = omega arith in
    let t : length ns ≡ payload_of V4x32 (data_code n a) v = rw (g, plain_vectors v.cl v.wl n (rw (hc, hw)), v4_words n, ← words_length ns) l in
    let o = due_left V4x32 (data_code n a) v false (words_in ns) in
    let b = words_length ns in
    feeds_as (unpack_fed_lem which v p used m k V4x32 (data_code n a) false h c d i q ns (inl refl) (omega arith))
    (unpacked_same v p used m.code m.log (v4_payload (quadwords which) a n false false (write_registers v) (words_in ns) (written v.row m.mem) w (rw g l) hc hw hm hr ∙ rw (g, y)) (waits_no_more V4x32 _ (omega arith) ∙ sym h))

-- NOP, STCYCL 1 1, STMOD 0 and UNPACK V4-32 copy the payload: words 4j to 4j + 3 to quadword a + j modulo the memory's size
pub feeds_data : (which : VifUnit) (v : Vif) (p : Path) (used : ℕ) (m : Lent) (n a : ℕ) (ws : List ℕ) (ns : List Incoming) → v.waiting ≡ Nothing → length v.row ≡ 4
    → 1 ≤ n → n ≤ 255 → a < addresses → words_in ns ≡ 0 ∷ 16777473 ∷ 83886080 ∷ (1811939328 + n * 65536 + a) ∷ ws → Words ws → length ws ≡ 4 * n
    → Feeds which a_word (fed v p used m) ns
    (fed (with_mode (with_cycle v 1 1) 0) p used (lent (copy_vectors (quadwords which) a (four_words ws) n 0 m.mem) m.code m.log))
feeds_data which v p used m n a ws ns h hr some few inside q w l =
    feeds_cons ns q
    (λ n0 ns0 e0 q0 _.
    feeds_nop h e0
    (feeds_cons ns0 q0
    (λ n1 ns1 e1 q1 _.
    more false (stcycl_taken which v p used m h n1 e1)
    (feeds_cons ns1 q1
    (λ n2 ns2 e2 q2 _.
    more false (stmod_taken which (with_cycle v 1 1) p used m h n2 e2)
    (feeds_cons ns2 q2
    (λ n3 ns3 e3 q3 _.
    rw (← q3) (data_fed which (with_mode (with_cycle v 1 1) 0) p used m n a h refl refl refl hr some few inside n3 ns3 e3 (rw q3 w) (rw q3 l)))))))))

-- afterwards what waited before waits, and ROW is as it was
pub data_unit : (v : Vif) → ((with_mode (with_cycle v 1 1) 0).waiting ≡ v.waiting) × ((with_mode (with_cycle v 1 1) 0).row ≡ v.row)
data_unit v = (refl, refl)

-- ---- a program start: three NOPs, MSCAL

-- three words 0 before a code
after_nops : {which : VifUnit} {v : Vif} {p : Path} {used : ℕ} {m : Lent} {y : Fed} {w : ℕ} {ws : List ℕ} → v.waiting ≡ Nothing → (ns : List Incoming)
    → words_in ns ≡ 0 ∷ 0 ∷ 0 ∷ w ∷ ws
    → ((k : Incoming) (ms : List Incoming) → word_in k ≡ w → words_in ms ≡ ws → drop 4 ns ≡ ms → Feeds which a_word (fed v p used m) (k ∷ ms) y)
    → Feeds which a_word (fed v p used m) ns y
after_nops h ns q f =
    feeds_cons ns q
    (λ n0 ns0 e0 q0 d0.
    feeds_nop h e0
    (feeds_cons ns0 q0
    (λ n1 ns1 e1 q1 d1.
    feeds_nop h e1
    (feeds_cons ns1 q1
    (λ n2 ns2 e2 q2 d2. feeds_nop h e2 (feeds_cons ns2 q2 (λ k ms e q3 d3. f k ms e q3 (rw (d0, d1, d2, d3)))))))))

module _ (a : ℕ) (inside : a < 65536) where
  start_decoded : (which : VifUnit) → decode_of which (335544320 + a) ≡ Known (Mscal a)
  unfolding missing_code decode_of code_of plain_code bits if
  start_decoded which =
      let c : (335544320 + a) / 16777216 % 128 ≡ 20 = omega arith in
      let e : (335544320 + a) / 1 % 65536 ≡ a = omega arith in
      rw (c, e, listed_both which 0x14 refl)

  start_quiet : interrupt_of (335544320 + a) ≡ false
  unfolding bits
  start_quiet = ne_eqb ((335544320 + a) / 2147483648 % 2) 1 (λ e. omega arith)

-- no word left
no_words : {which : VifUnit} {x : Fed} (ns : List Incoming) → words_in ns ≡ [] → Feeds which a_word x ns x
no_words [] e = none
no_words (n ∷ ns) e = absurd (let z : ◌≡◌ {A = ℕ} 0 1 = cc in omega arith)

-- three NOPs and MSCAL start the program at a, which is one log entry
pub feeds_start : (which : VifUnit) (v : Vif) (p : Path) (used : ℕ) (m : Lent) (a : ℕ) (ns : List Incoming) → v.waiting ≡ Nothing → a < 65536
    → entry_size * (used + 1) ≤ length m.log → words_in ns ≡ 0 ∷ 0 ∷ 0 ∷ (335544320 + a) ∷ []
    → Feeds which a_word (fed v p used m) ns (fed (started which v) p (used + 1) (lent m.mem m.code (logged m.log used (start_entry 256 a ∷ []))))
unfolding start_program lacks_room if
feeds_start which v p used m a ns h inside room q =
    after_nops h ns q
    (λ k ms e q3 _.
    more false (code_taken which v p used m k h e (start_decoded a inside which) (start_quiet a inside) ∙ rw (le-ltb (length m.log) (entry_size * (used + 1)) room))
    (no_words ms q3))

-- ---- code: three NOPs, MPG, and words 0 after its payload

-- words 0 change nothing
pub feeds_zeros : (which : VifUnit) (v : Vif) (p : Path) (used : ℕ) (m : Lent) (ns : List Incoming) → v.waiting ≡ Nothing → Zeros (words_in ns)
    → Feeds which a_word (fed v p used m) ns (fed v p used m)
feeds_zeros which v p used m [] h z = none
feeds_zeros which v p used m (n ∷ ns) h z = feeds_nop h (first z) (feeds_zeros which v p used m ns h (rest z))
  where
    first : {w : ℕ} {ws : List ℕ} → Zeros (w ∷ ws) → w ≡ 0
    first (one_zero z) = refl

    rest : {w : ℕ} {ws : List ℕ} → Zeros (w ∷ ws) → Zeros ws
    rest (one_zero z) = z

-- whether words come of which the first is word 1 or 3 of its quadword
abbrev pub first_odd : List Incoming → Bool
first_odd [] = false
first_odd (n ∷ ns) = odd_word n

-- the first word of a part is the first of all, where it has one
first_part : (xs ys : List Incoming) → first_odd (xs ++ ys) ≡ false → first_odd xs ≡ false
first_part [] ys h = refl
first_part (n ∷ xs) ys h = h

-- incoming words in two parts
words_split : (P : List Incoming → Type 0) (ws pad : List ℕ) (ns : List Incoming) → words_in ns ≡ ws ++ pad
    → ((xs ys : List Incoming) → words_in xs ≡ ws → words_in ys ≡ pad → P (xs ++ ys))
    → P ns
words_split P [] pad ns e k = k [] ns refl e
words_split P (w ∷ ws) pad [] e k = absurd (let z : ◌≡◌ {A = ℕ} 0 1 = cc in omega arith)
words_split P (w ∷ ws) pad (n ∷ ns) e k =
    let q : word_in n ≡ w = cc in
    words_split (λ (l : List Incoming). P (n ∷ l)) ws pad ns (cc) (λ xs ys s t. k (n ∷ xs) ys (rw (q, s)) t)

module _ (n a : ℕ) (some : 1 ≤ n) (few : n ≤ 255) (inside : a < mpg_addresses) where
  code_decoded : (which : VifUnit) → decode_of which (1241513984 + n * 65536 + a) ≡ Known (Mpg a n)
  unfolding missing_code decode_of code_of plain_code bits if
  code_decoded which =
      let c : (1241513984 + n * 65536 + a) / 16777216 % 128 ≡ 74 = omega arith in
      let d : (1241513984 + n * 65536 + a) / 65536 % 256 ≡ n = omega arith in
      let e : (1241513984 + n * 65536 + a) / 1 % 65536 ≡ a = omega arith in
      let x : a / 1 % mpg_addresses ≡ a = omega arith in
      rw (c, d, e, x, listed_both which 0x4A refl)

  code_quiet : interrupt_of (1241513984 + n * 65536 + a) ≡ false
  unfolding bits
  code_quiet = ne_eqb ((1241513984 + n * 65536 + a) / 2147483648 % 2) 1 (λ e. omega arith)

-- what waits with r instructions due
abbrev mpg_waits : ℕ → ℕ → ℕ → Waiting
mpg_waits a n zero = Nothing
mpg_waits a n (suc r) = MpgDue a n (suc r + suc r) false

-- where the two words of instruction j go
first_place : (size a j : ℕ) → word_place size a (j + j) ≡ 8 * ((a + j) % size)
unfolding word_place
first_place size a j =
    let e : (j + j) / 2 ≡ j = omega arith in
    let q : (j + j) % 2 ≡ 0 = omega arith in
    rw (e, q) (omega arith)

second_place : (size a j : ℕ) → word_place size a (j + j + 1) ≡ 8 * ((a + j) % size) + 4
unfolding word_place
second_place size a j =
    let e : (j + j + 1) / 2 ≡ j = omega arith in
    let q : (j + j + 1) % 2 ≡ 1 = omega arith in
    rw (e, q) (omega arith)

-- and what they make
two_words : (code : List ℕ) (q x y : ℕ) → sets (sets code (8 * q) (bytes_of x)) (8 * q + 4) (bytes_of y) ≡ store_instruction code q x y
unfolding store_instruction
two_words code q x y =
    let e : 8 * q + 4 ≡ suc (suc (suc (suc (8 * q)))) = omega arith in
    rw e

first_waits : (a n r : ℕ) → or_nothing (suc r + suc r) (MpgDue a n (suc r + suc r - 1) false) ≡ MpgDue a n (r + r + 1) false
unfolding or_nothing if
first_waits a n r =
    let e : suc r + suc r - 1 ≡ r + r + 1 = omega arith in
    rw (ne_eqb (suc r + suc r) 1 (λ z. omega arith), e)

second_waits : (a n r : ℕ) → or_nothing (r + r + 1) (MpgDue a n (r + r + 1 - 1) false) ≡ mpg_waits a n r
unfolding or_nothing if
second_waits a n zero = refl
second_waits a n (suc r) =
    let e : suc r + suc r + 1 - 1 ≡ suc r + suc r = omega arith in
    rw (ne_eqb (suc r + suc r + 1) 1 (λ z. omega arith), e)

-- instruction j's first word, and its second
first_taken : (n j r : ℕ) (x : Incoming) → j + suc r ≡ n → (j ≡ 0 → odd_word x ≡ false) → mpg_refused n (suc r + suc r) x ≡ false
unfolding mpg_refused
first_taken n zero r x e h = sym (and_later (eqb (suc r + suc r) (n + n)) (odd_word x) (sym (h refl)))
first_taken n (suc j) r x e h = rw (ne_eqb (suc r + suc r) (n + n) (λ z. omega arith))

second_taken : (n j r : ℕ) (x : Incoming) → j + suc r ≡ n → mpg_refused n (r + r + 1) x ≡ false
unfolding mpg_refused
second_taken n j r x e = rw (ne_eqb (r + r + 1) (n + n) (λ z. omega arith))

module _ (which : VifUnit) (v : Vif) (p : Path) (used : ℕ) (mem log : List ℕ) (a n : ℕ) where
  -- a payload word's step
  mpg_word_lem : (due at : ℕ) (k : Incoming) (code : List ℕ) {w : Waiting} → mpg_refused n due k ≡ false → or_nothing due (MpgDue a n (due - 1) false) ≡ w
      → word_place (instructions which) a (n + n - due) ≡ at
      → vif_step which (with_waiting v (MpgDue a n due false)) p k used (lent mem code log)
      ≡ leaves (Word false) (with_waiting v w) p used (lent mem (sets code at (bytes_of (word_in k))) log)
  unfolding vif_step mpg_step mpg_stored if
  mpg_word_lem due at k code r e q = rw (r, quiet due, e, q)

  -- instructions one after another
  mpg_feeds : (ws : List ℕ) (r j : ℕ) (ns : List Incoming) (code : List ℕ) → j + r ≡ n → length ns ≡ 2 * r
      → ((i : ℕ) → get_or ws (2 * j + i) 0 ≡ get_or (words_in ns) i 0) → (j ≡ 0 → first_odd ns ≡ false)
      → Feeds which a_word (fed (with_waiting v (mpg_waits a n r)) p used (lent mem code log)) ns
      (fed (with_waiting v Nothing) p used (lent mem (copy_instructions (instructions which) a ws r j code) log))
  unfolding copy_instructions
  mpg_feeds ws zero j [] code e l g o = none
  mpg_feeds ws zero j (x ∷ ns) code e l g o = absurd (omega arith)
  mpg_feeds ws (suc r) j [] code e l g o = absurd (omega arith)
  mpg_feeds ws (suc r) j (x ∷ []) code e l g o = absurd (omega arith)
  mpg_feeds ws (suc r) j (x ∷ y ∷ ns) code e l g o =
      let c : n + n - (suc r + suc r) ≡ j + j = omega arith in
      let d : n + n - (r + r + 1) ≡ j + j + 1 = omega arith in
      let s : get_or ws (2 * j) 0 ≡ word_in x = rw add-zero at (g 0) in
      let t : get_or ws (2 * j + 1) 0 ≡ word_in y = g 1 in
      let q = (a + j) % instructions which in
      rw (s, t, ← two_words code q (word_in x) (word_in y))
      (more false (mpg_word_lem (suc r + suc r) (8 * q) x code (first_taken n j r x e o) (first_waits a n r) (rw c (first_place (instructions which) a j)))
      (more false (mpg_word_lem (r + r + 1) (8 * q + 4) y (sets code (8 * q) (bytes_of (word_in x))) (second_taken n j r y e) (second_waits a n r) (rw d (second_place (instructions which) a j)))
      (mpg_feeds ws r (suc j) ns (sets (sets code (8 * q) (bytes_of (word_in x))) (8 * q + 4) (bytes_of (word_in y))) (omega arith) (omega arith)
      (λ i. let z : 2 * suc j + i ≡ 2 * j + suc (suc i) = omega arith in rw z (g (suc (suc i)))) (λ z. absurd (omega arith)))))

-- three NOPs, MPG with its payload and words 0 after it copy the instructions: instruction j to a + j modulo the memory's size. Request 5: the first payload word
-- is word 0 or 2 of its quadword
pub feeds_code : (which : VifUnit) (v : Vif) (p : Path) (used : ℕ) (m : Lent) (n a : ℕ) (ws pad : List ℕ) (ns : List Incoming) → v.waiting ≡ Nothing → 1 ≤ n → n ≤ 255
    → a < mpg_addresses → words_in ns ≡ 0 ∷ 0 ∷ 0 ∷ (1241513984 + n * 65536 + a) ∷ ws ++ pad → length ws ≡ 2 * n → Zeros pad
    → first_odd (drop 4 ns) ≡ false
    → Feeds which a_word (fed v p used m) ns (fed v p used (lent m.mem (copy_instructions (instructions which) a ws n 0 m.code) m.log))
unfolding begin_mpg
feeds_code which v p used m n a ws pad ns h some few inside q l z o =
    after_nops h ns q
    (λ k ms e q3 d.
    words_split
    (λ (l : List Incoming). first_odd l ≡ false
    → Feeds which a_word (fed v p used m) (k ∷ l) (fed v p used (lent m.mem (copy_instructions (instructions which) a ws n 0 m.code) m.log)))
    ws
    pad
    ms
    q3
    (λ xs ys s t f.
    more false (code_taken which v p used m k h e (code_decoded n a some few inside which) (code_quiet n a some few inside) ∙ rw (count_num n some few, begins n some))
    (feeds_join (mpg_feeds which v p used m.mem m.log a n ws n 0 xs m.code (omega arith) (sym (words_length xs) ∙ rw s l) (λ i. rw (zero-add, s)) (λ _. first_part xs ys f))
    (rw (idle_same v h) (feeds_zeros which v p used _ ys h (rw t z)))))
    (rw d at o))
  where
    begins : (n : ℕ) → 1 ≤ n → MpgDue a n (n + n) false ≡ mpg_waits a n n
    begins zero l = absurd (omega arith)
    begins (suc r) l = refl

-- ---- graphics: three NOPs, DIRECT, a GIF tag and its A+D quadwords

module _ (n : ℕ) (few : n ≤ 255) where
  direct_decoded : (which : VifUnit) → code_listed which 0x50 ≡ true → decode_of which (1342177280 + n + 1) ≡ Known (Direct (n + 1))
  unfolding decode_of code_of plain_code direct_quadwords bits if
  direct_decoded which x =
      let c : (1342177280 + n + 1) / 16777216 % 128 ≡ 80 = omega arith in
      let e : (1342177280 + n + 1) / 1 % 65536 ≡ n + 1 = omega arith in
      rw (c, x, e, ne_eqb (n + 1) 0 (λ z. omega arith))

  direct_quiet : interrupt_of (1342177280 + n + 1) ≡ false
  unfolding bits
  direct_quiet = ne_eqb ((1342177280 + n + 1) / 2147483648 % 2) 1 (λ e. omega arith)

-- what waits with k quadwords due
abbrev pub direct_waits : ℕ → Waiting
direct_waits zero = Nothing
direct_waits (suc k) = DirectDue (suc k) false

direct_next : (k : ℕ) → or_nothing (suc k) (DirectDue (suc k - 1) false) ≡ direct_waits k
unfolding or_nothing if
direct_next zero = refl
direct_next (suc k) =
    let e : suc (suc k) - 1 ≡ suc k = omega arith in
    rw (ne_eqb (suc (suc k)) 1 (λ z. omega arith), e)

module _ (which : VifUnit) (v : Vif) (mem code : List ℕ) where
  -- a quadword that the GIF takes
  direct_quadword : (closed : Bool) (k : ℕ) (p p' : Path) (used used' a b c d x : ℕ) (log log' : List ℕ) → quadword (a + b * 2 ^ 32) (c + d * 2 ^ 32) ≡ x
      → gif_step Two p x used log ≡ took closed p' used' log'
      → vif_step which (with_waiting v (direct_waits (suc k))) p (Word0 a b c d) used (lent mem code log)
      ≡ leaves (Quadword false closed) (with_waiting v (direct_waits k)) p' used' (lent mem code log')
  unfolding vif_step give_quadword
  direct_quadword closed k p p' used used' a b c d x log log' e g = rw (e, g, quiet (suc k), direct_next k)

  -- A+D quadwords one after another
  direct_feeds : (n : ℕ) → 0 < n → n < 32768 → (q used : ℕ) (log : List ℕ) {ns : List Incoming} {xs : List ℕ} → QuadwordsIn ns xs
      → entry_size * (used + length xs) ≤ length log
      → Feeds which a_quadword (fed (with_waiting v (direct_waits (length xs))) (path_of q (sheet_place n (length xs))) used (lent mem code log)) ns
      (fed (with_waiting v Nothing) (path_of q None) (used + length xs) (lent mem code (logged log used (entries_by Two (address_datas xs)))))
  unfolding logged
  direct_feeds n some few q used log no_quadword h = rw add-zero none
  direct_feeds n some few q used log (one_quadword_lem {a} {b} {c} {d} {x} {ns} {xs} e r) h =
      let s : used + suc (length xs) ≡ used + 1 + length xs = omega arith in
      rw (s, ← logged_then log used (entries_by Two (address_data x ∷ [])) (entries_by Two (address_datas xs)))
      (more (eqb (length xs) 0) (direct_quadword (eqb (length xs) 0) (length xs) _ _ used (used + 1) a b c d x log _ e (sheet_data Two n some few (length xs) q x used log (omega arith)))
      (direct_feeds n some few q (used + 1) (logged log used (entries_by Two (address_data x ∷ []))) r (rw (logged_length log used (entries_by Two (address_data x ∷ []))) (omega arith))))

-- three NOPs and DIRECT: quadwords are due
pub feeds_direct : (which : VifUnit) → code_listed which 0x50 ≡ true → (v : Vif) (p : Path) (used : ℕ) (m : Lent) (n : ℕ) (ns : List Incoming) → v.waiting ≡ Nothing → n ≤ 255
    → words_in ns ≡ 0 ∷ 0 ∷ 0 ∷ (1342177280 + n + 1) ∷ []
    → Feeds which a_word (fed v p used m) ns (fed (with_waiting v (direct_waits (suc n))) p used m)
feeds_direct which x v p used m n ns h few w =
    after_nops h ns w
    (λ k ls f z _. more false (code_taken which v p used m k h f (direct_decoded n few which x) (direct_quiet n few) ∙ rw (add-one n)) (no_words ls z))

-- a GIF tag and n A+D quadwords after them write n log entries, and path 2 is idle again
pub feeds_entries : (which : VifUnit) (v : Vif) (q used : ℕ) (m : Lent) (n : ℕ) (quads : List ℕ) (ms : List Incoming) → v.waiting ≡ Nothing → length quads ≡ n → 1 ≤ n
    → n ≤ 255 → entry_size * (used + n) ≤ length m.log → QuadwordsIn ms (sheet_tag n ∷ quads)
    → Feeds which a_quadword (fed (with_waiting v (direct_waits (suc n))) (path_of q None) used m) ms
    (fed v (path_of tag_q None) (used + n) (lent m.mem m.code (logged m.log used (entries_by Two (address_datas quads)))))
feeds_entries which v q used m n quads ms h e some few room (one_quadword_lem {a} {b} {c} {d} t r) =
    more {z = fed v (path_of tag_q None) (used + n) (lent m.mem m.code (logged m.log used (entries_by Two (address_datas quads))))} false
    (direct_quadword which v m.mem m.code false n _ _ used used a b c d _ m.log _ t (sheet_tag_lem Two n some (omega arith) q used m.log (omega arith)))
    (feeds_as (rw e at (direct_feeds which v m.mem m.code n some (omega arith) tag_q used m.log r (rw e room))) (rw (idle_same v h)))
