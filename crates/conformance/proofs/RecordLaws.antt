-- What the chain does with each record's part: from an idle VIF1 at its tag, the record's steps lead to an idle VIF1 at the next tag with its meaning done.
use Rattle.std.specs.Prelude.{None}
use mathlib.Core.Path.{◌≡◌, refl, sym, ap, ◌∙◌}
use mathlib.Core.Bool.{Bool, false}
use mathlib.Core.List.{List, [], ◌∷◌, ◌++◌, append_assoc}
use Prim.Native.Nat.{ℕ, zero, suc, ◌+◌, ◌*◌, ◌-◌, ◌/◌, ◌%◌, ◌^◌, ◌<◌, ◌≤◌}
use native.Mathlib.Nat.{add-zero, zero-add}
use native.Mathlib.Omega.{arith}
use borrow.Author.Tests.{eq-eqb}
use lib.ListN.{length, get_or, take, drop, length-append, length-drop}
use lib.Seq.{sets, drop-drop, drop-append-le, take-append-le, take-add, length-take-le}
use Rattle.fields.specs.Fields.{if, quadword}
use Rattle.gif.specs.declared.Path.{Path}
use Rattle.gif.specs.declared.Entry.{Entry}
use Rattle.gif.specs.Log.{entry_size, start_entry, numbers, logged}
use Rattle.gif.specs.Tag.{path_of}
use Rattle.gif.specs.Run.{sheet_tag}
use Rattle.unpack_rules.proofs.VectorLaws.{Words, none, more}
use Rattle.memories.specs.declared.VifUnit.TheVariants.{Vif1}
use Rattle.memories.specs.Units.{quadwords, instructions}
use Rattle.memories.specs.Lengths.{Lent, lent}
use Rattle.vif_codes.specs.declared.Incoming.{Incoming}
use Rattle.vif_codes.specs.declared.Incoming.TheVariants.{Word0}
use Rattle.vif_codes.specs.declared.Waiting.TheVariants.{Nothing}
use Rattle.vif_codes.specs.VifAnswer.{VifAnswer}
use Rattle.vif_codes.specs.Setters.{with_waiting}
use Rattle.vif.specs.Feeds.{Fed, fed, Feeds, a_word, a_quadword, words_in, QuadwordsIn, no_quadword, one_quadword_lem, Zeros, no_zero, one_zero}
use Rattle.vif.proofs.BurstLaws.{incoming_word}
use Rattle.vif.proofs.SheetLaws.{first_odd, feeds_data, feeds_code, feeds_start, feeds_direct, feeds_entries, direct_waits}
use Rattle.chain_state.specs.declared.Payload.TheVariants.{Nothing as NoPayload}
use Rattle.chain_state.specs.declared.State.{State}
use Rattle.fields.specs.Memory.{word_at, long_at, quadword_at}
use Rattle.chain_state.specs.Setters.{with_tag}
use Rattle.vif_codes.specs.Words.{incoming_at}
use Rattle.chain.specs.Step.{Machine, machine}
use Rattle.chain_state.specs.Range.{unit_of}
use Rattle.chain.proofs.BurstLaws.{feeding}
use Rattle.chain.proofs.UnitLaws.{channel_vif1}
use Rattle.sheet.specs.Records.{record_of, bytes_at, number}
use Rattle.sheet.specs.declared.Kind.{Kind}
use Rattle.sheet.specs.declared.Kind.TheVariants.{Data, Code, Gs, Start}
use Rattle.sheet.specs.Layout.{words_bytes, tag_words, padding_words, lead_words, laid_out, gif_tag_words, odd_padding}
use Rattle.sheet.specs.Sizes.{halved}
use Rattle.sheet.specs.Meaning.{put_vectors, put_instructions, entries_at}
use Rattle.sheet.proofs.LayoutLaws.{words_length as bytes-length}
use Rattle.sheet.proofs.MeaningLaws.{entries_count}
use Rattle.conformance.proofs.WordLaws.{Octets, words_of, words_small, words_length, words_from, words_join, placed_next, word_number, words_read, words_placed}
use Rattle.conformance.proofs.FeedLaws.{pending, incomings, InSteps, step_first, steps_join, word_takes, quadword_takes, feeds_reach}
use Rattle.conformance.proofs.TagLaws.{IdleAt, idle_going, cnt_step}
use Rattle.conformance.proofs.MeaningLaws.{vectors_same, instructions_same, body_quadword, body_quadwords, quadwords_length, entries_same, number_join}

-- ---- what comes, as words

pub incoming_words : (main : List ℕ) (k a : ℕ) → words_in (incomings 1 main a k) ≡ words_from main a k
unfolding incomings words_from
incoming_words main zero a = refl
incoming_words main (suc k) a = rw (incoming_word main a, incoming_words main k (a + 4))

-- quadwords that lie at a multiple of 16
unfoldable pub quadwords_from : List ℕ → ℕ → ℕ → List ℕ
quadwords_from main a zero = []
quadwords_from main a (suc k) = quadword_at main a ∷ quadwords_from main (a + 16) k

whole_incoming : (main : List ℕ) (a : ℕ) → a % 16 ≡ 0
    → incoming_at main a ≡ Word0 (word_at main a) (word_at main (a + 4)) (word_at main (a + 8)) (word_at main (a + 12))
unfolding incoming_at if
whole_incoming main a h = rw (eq-eqb (a / 4 % 4) 0 (omega arith))

quadword_words : (main : List ℕ) (a : ℕ)
    → quadword (word_at main a + word_at main (a + 4) * 2 ^ 32) (word_at main (a + 8) + word_at main (a + 12) * 2 ^ 32) ≡ quadword_at main a
unfolding long_at
quadword_words main a =
    let e : a + 8 + 4 ≡ a + 12 = omega arith in
    rw e

-- the first of words from a multiple of 16 on is word 0
first_even : (main : List ℕ) (k a : ℕ) → a % 16 ≡ 0 → first_odd (incomings 1 main a k) ≡ false
unfolding incomings
first_even main zero a h = refl
first_even main (suc k) a h = rw (whole_incoming main a h)

pub incoming_quadwords : (main : List ℕ) (k a : ℕ) → a % 16 ≡ 0 → QuadwordsIn (incomings 4 main a k) (quadwords_from main a k)
unfolding incomings quadwords_from
incoming_quadwords main zero a h = no_quadword
incoming_quadwords main (suc k) a h =
    rw (whole_incoming main a h) (one_quadword_lem (quadword_words main a) (incoming_quadwords main k (a + 16) (omega arith)))

-- ---- a record's steps

-- where a record's steps lead: the memories and the entries that it adds
pub record Arrived (main : List ℕ) (k b : ℕ) (s : State) (m : Lent) (mem code : List ℕ) (es : List Entry) : Type 0 where
  pub state : State
  pub log : List ℕ
  pub reached : InSteps main k (machine s m) (machine state (lent mem code log))
  pub idle : IdleAt b state
  pub used : state.used ≡ s.used + length es
  pub logged : log ≡ sets m.log (entry_size * s.used) (numbers es)

module _ (main : List ℕ) (a : ℕ) (s : State) (m : Lent) (i : IdleAt a s) (q : ℕ) (some : 1 ≤ q) (few : q < 65536) (tag : long_at main a ≡ 268435456 + q)
    (room : a + 16 + 16 * q ≤ length main) where
  -- the state after the tag, but for its payload
  abbrev pub tagged : State
  tagged = with_tag s (a + 16 + 16 * q) false s.stack None NoPayload

  abbrev pub unit_fed : Fed
  unit_fed = fed s.vif1 s.path2 s.used m

  -- channel 1 feeds VIF1
  fed_vif1 : unit_of s.channel ≡ Vif1
  fed_vif1 = let c = i.channel in channel_vif1 s.channel (λ z. omega arith)

  after_tag : {k : ℕ} {z : Machine} → InSteps main k (feeding tagged unit_fed (pending (a + 16) (4 * q))) z → InSteps main (suc k) (machine s m) z
  after_tag r = step_first (idle_going main a s m i) (cnt_step main a s m i q some few tag room) refl (rw fed_vif1 at r)

  -- a payload of words
  pub words_reach : {y : Fed} → Feeds Vif1 a_word unit_fed (incomings 1 main (a + 16) (4 * q)) y → InSteps main (1 + 4 * q) (machine s m) (feeding tagged y NoPayload)
  words_reach f =
      let e : 1 * (4 * q) + 0 ≡ 4 * q = omega arith in
      let g : 1 + 4 * q ≡ suc (4 * q) = omega arith in
      rw g (after_tag (rw e at (feeds_reach main tagged i.channel word_takes (4 * q) (a + 16) 0 f)))

  -- four words, and then quadwords
  pub quadwords_reach : {x y : Fed} (k : ℕ) → q ≡ 1 + k → Feeds Vif1 a_word unit_fed (incomings 1 main (a + 16) 4) x → Feeds Vif1 a_quadword x (incomings 4 main (a + 32) k) y
      → InSteps main (5 + k) (machine s m) (feeding tagged y NoPayload)
  quadwords_reach k h f g =
      let e : 1 * 4 + 4 * k ≡ 4 * q = omega arith in
      let c : a + 16 + 4 * (1 * 4) ≡ a + 32 = omega arith in
      let d : 4 * k + 0 ≡ 4 * k = omega arith in
      let n : 5 + k ≡ suc (4 + k) = omega arith in
      rw n
      (after_tag
      (steps_join (rw (e, c) at (feeds_reach main tagged i.channel word_takes 4 (a + 16) (4 * k) f))
      (rw d at (feeds_reach main tagged i.channel quadword_takes k (a + 32) 0 g))))

  -- afterwards VIF1 is idle at the next tag
  pub idle_after : (y : Fed) → y.unit.waiting ≡ Nothing → length y.unit.row ≡ 4 → y.path2.place ≡ None
      → IdleAt (a + 16 + 16 * q) (feeding tagged y NoPayload).state
  idle_after y w r p =
      rw fed_vif1
      (record {
        channel = i.channel;
        tadr = refl;
        tte = i.tte;
        ended = refl;
        tags = refl;
        payload = refl;
        waiting = w;
        row = r;
        path_idle = p;
      })

-- ---- a record's bytes in main memory

-- a part that lies at an address lies inside
pub placed_inside : (main : List ℕ) (a : ℕ) (xs ys : List ℕ) → drop a main ≡ xs ++ ys → 1 ≤ length xs → a + length xs ≤ length main
placed_inside main a xs ys e h =
    let l = ap length e in
    let d = length-drop a main in
    let n = length-append xs ys in
    omega arith

-- the parts of a record
laid_parts : (k : Kind) (n b : ℕ) (body rest : List ℕ)
    → laid_out (record_of k n b body) ++ rest ≡ words_bytes (lead_words k n b) ++ (body ++ (words_bytes (padding_words k n) ++ rest))
unfolding laid_out
laid_parts k n b body rest =
    append_assoc (words_bytes (lead_words k n b) ++ body) (words_bytes (padding_words k n)) rest
    ∙ append_assoc (words_bytes (lead_words k n b)) body (words_bytes (padding_words k n) ++ rest)

-- four words
small_words : (x y z w : ℕ) → x < 2 ^ 32 → y < 2 ^ 32 → z < 2 ^ 32 → w < 2 ^ 32 → Words (x ∷ y ∷ z ∷ w ∷ [])
small_words x y z w p q r s = more p (more q (more r (more s none)))

-- a tag with an ID and QWC
pub tag_placed : (main : List ℕ) (a id q : ℕ) (ys : List ℕ) → id < 8 → q < 65536 → drop a main ≡ words_bytes (tag_words id q) ++ ys
    → long_at main a ≡ id * 268435456 + q
unfolding long_at words_from
tag_placed main a id q ys known few e =
    let w = words_placed main a (tag_words id q) ys (small_words (id * 268435456 + q) 0 0 0 (omega arith) (omega arith) (omega arith) (omega arith)) e in
    let x : word_at main a ≡ id * 268435456 + q = ap (λ (l : List ℕ). get_or l 0 0) w in
    let y : word_at main (a + 4) ≡ 0 = ap (λ (l : List ℕ). get_or l 1 0) w in
    rw (x, y) (omega arith)

-- what a tag and four codes at an address give
record Lead (main : List ℕ) (a q x y z w : ℕ) (ys : List ℕ) : Type 0 where
  tag : long_at main a ≡ 268435456 + q
  after : drop (a + 32) main ≡ ys
  words : (k : ℕ) → words_in (incomings 1 main (a + 16) (4 + k)) ≡ x ∷ y ∷ z ∷ w ∷ words_from main (a + 32) k

lead_placed : (main : List ℕ) (a q x y z w : ℕ) (ys : List ℕ) → q < 65536 → Words (x ∷ y ∷ z ∷ w ∷ [])
    → drop a main ≡ words_bytes (tag_words 1 q) ++ (words_bytes (x ∷ y ∷ z ∷ w ∷ []) ++ ys) → Lead main a q x y z w ys
lead_placed main a q x y z w ys few r e =
    let p = placed_next main a 16 (words_bytes (tag_words 1 q)) _ refl e in
    let c : a + 16 + 16 ≡ a + 32 = omega arith in
    record {
      tag = tag_placed main a 1 q _ (omega arith) few e;
      after = rw c at (placed_next main (a + 16) 16 (words_bytes (x ∷ y ∷ z ∷ w ∷ [])) ys refl p);
      words = λ k.
          incoming_words main (4 + k) (a + 16)
          ∙ words_join main 4 k (a + 16)
          ∙ rw (c, words_placed main (a + 16) (x ∷ y ∷ z ∷ w ∷ []) ys r p);
    }

-- the NOPs after an odd number of instructions
padding_length : (k : ℕ) → k < 2 → length (odd_padding k) ≡ 2 * k
padding_length zero h = refl
padding_length (suc zero) h = refl
padding_length (suc (suc k)) h = absurd (omega arith)

padding_zeros : (k : ℕ) → Zeros (odd_padding k)
padding_zeros zero = no_zero
padding_zeros (suc k) = one_zero (one_zero no_zero)

padding_words_lem : (k : ℕ) → Words (odd_padding k)
padding_words_lem zero = none
padding_words_lem (suc k) = more {w = 0} (omega arith) (more {w = 0} (omega arith) none)

-- eight bytes are the number of two words
long_number : (main : List ℕ) (a : ℕ) (xs ys : List ℕ) → drop a main ≡ xs ++ ys → 8 ≤ length xs → long_at main a ≡ number (take 8 xs)
unfolding long_at
long_number main a xs ys e h =
    let l = length-append xs ys in
    let f = length-drop 4 (xs ++ ys) in
    let k : length (take 4 (xs ++ ys)) ≡ 4 = length-take-le 4 (xs ++ ys) (omega arith) in
    let u : word_at main a ≡ number (take 4 (xs ++ ys)) = word_number main a (xs ++ ys) e (omega arith) in
    let v : word_at main (a + 4) ≡ number (take 4 (drop 4 (xs ++ ys))) = word_number main (a + 4) (drop 4 (xs ++ ys)) (sym (drop-drop 4 a main) ∙ rw e) (omega arith) in
    rw (u, v) (sym (number_join (take 4 (xs ++ ys)) (take 4 (drop 4 (xs ++ ys))) k) ∙ ap number (sym (take-add 4 4 (xs ++ ys)) ∙ take-append-le 8 xs ys h))

-- the quadwords of a body that lies at an address
quadwords_read : (main body rest : List ℕ) (k j a : ℕ) → 16 * (j + k) ≤ length body → drop a main ≡ drop (16 * j) body ++ rest
    → quadwords_from main a k ≡ body_quadwords body k j
unfolding quadwords_from body_quadwords
quadwords_read main body rest zero j a l e = refl
quadwords_read main body rest (suc k) j a l e =
    let d = length-drop (16 * j) body in
    let f = length-drop (16 * j + 8) body in
    let next : (n : ℕ) → n ≤ 16 → drop (a + n) main ≡ drop (16 * j + n) body ++ rest = λ n h. sym (drop-drop n a main) ∙ rw e (drop-append-le n (drop (16 * j) body) rest (omega arith) ∙ rw (drop-drop n (16 * j) body)) in
    let g : 16 * suc j ≡ 16 * j + 16 = omega arith in
    let low : long_at main a ≡ number (bytes_at body (16 * j) 8) = long_number main a (drop (16 * j) body) rest e (omega arith) in
    let high : long_at main (a + 8) ≡ number (bytes_at body (16 * j + 8) 8) = long_number main (a + 8) (drop (16 * j + 8) body) rest (next 8 (omega arith)) (omega arith) in
    rw (low, high) (ap (λ (l : List ℕ). body_quadword body j ∷ l) (quadwords_read main body rest k (suc j) (a + 16) (omega arith) (rw g (next 16 (omega arith)))))

-- the GIF tag of a record
gif_tag_placed : (main : List ℕ) (a n : ℕ) (ys : List ℕ) → n ≤ 255 → drop a main ≡ words_bytes (gif_tag_words Gs n) ++ ys → quadword_at main a ≡ sheet_tag n
unfolding long_at words_from sheet_tag
gif_tag_placed main a n ys few e =
    let w = words_placed main a (gif_tag_words Gs n) ys (small_words (n + 32768) 268435456 14 0 (omega arith) (omega arith) (omega arith) (omega arith)) e in
    let f : word_at main a ≡ n + 32768 = ap (λ (l : List ℕ). get_or l 0 0) w in
    let g : word_at main (a + 4) ≡ 268435456 = ap (λ (l : List ℕ). get_or l 1 0) w in
    let h : word_at main (a + 4 + 4) ≡ 14 = ap (λ (l : List ℕ). get_or l 2 0) w in
    let k : word_at main (a + 4 + 4 + 4) ≡ 0 = ap (λ (l : List ℕ). get_or l 3 0) w in
    let c : a + 8 ≡ a + 4 + 4 = omega arith in
    let low : n + 32768 + 268435456 * 2 ^ 32 ≡ n + 2 ^ 15 + 2 ^ 60 = omega arith in
    rw (c, f, g, h, k, low)

feeds_from : {b : Bool → VifAnswer} {x x' y : Fed} {ns : List Incoming} → x ≡ x' → Feeds Vif1 b x' ns y → Feeds Vif1 b x ns y
feeds_from e f = rw e f

module _ (main : List ℕ) (a : ℕ) (s : State) (m : Lent) (i : IdleAt a s) where
  -- where a record's steps led
  arrived : {k q b : ℕ} {mem code : List ℕ} {es : List Entry} (some : 1 ≤ q) (few : q < 65536) (tag : long_at main a ≡ 268435456 + q)
      (room : a + 16 + 16 * q ≤ length main) (y : Fed)
      → InSteps main k (machine s m) (feeding (tagged main a s m i q some few tag room) y NoPayload)
      → y.unit.waiting ≡ Nothing → length y.unit.row ≡ 4 → y.path2.place ≡ None → b ≡ a + 16 + 16 * q
      → y.memories.mem ≡ mem → y.memories.code ≡ code
      → y.used ≡ s.used + length es → y.memories.log ≡ sets m.log (entry_size * s.used) (numbers es)
      → Arrived main k b s m mem code es
  arrived {k} {q} some few tag room y r w h p e t c u l =
      record {
        state = (feeding (tagged main a s m i q some few tag room) y NoPayload).state;
        log = y.memories.log;
        reached = rw (← t, ← c) r;
        idle = rw e (idle_after main a s m i q some few tag room y w h p);
        used = u;
        logged = l;
      }

  -- data: n vectors
  pub data_record : (n b : ℕ) (body rest : List ℕ) → 1 ≤ n → n ≤ 255 → b < quadwords Vif1 → Octets body → length body ≡ 16 * n
      → drop a main ≡ laid_out (record_of Data n b body) ++ rest
      → Arrived main (5 + 4 * n) (a + 16 * (2 + n)) s m (put_vectors b body n 0 m.mem) m.code []
  data_record n b body rest some few inside bytes l e =
      let q : 2 + n - 1 ≡ n + 1 = omega arith in
      let p = e ∙ laid_parts Data n b body rest in
      let r = small_words 0 16777473 83886080 (1811939328 + n * 65536 + b) (omega arith) (omega arith) (omega arith) (omega arith) in
      let d = lead_placed main a (n + 1) 0 16777473 83886080 (1811939328 + n * 65536 + b) (body ++ rest) (omega arith) r (rw q at p) in
      let ws = words_read main (4 * n) (a + 32) body rest (omega arith) d.after in
      let c : 4 * (n + 1) ≡ 4 + 4 * n = omega arith in
      let inner = placed_inside main (a + 32) body rest d.after (omega arith) in
      let room : a + 16 + 16 * (n + 1) ≤ length main = omega arith in
      let k : 1 + 4 * (n + 1) ≡ 5 + 4 * n = omega arith in
      let f = feeds_data Vif1 s.vif1 s.path2 s.used m n b (words_of (4 * n) body) (incomings 1 main (a + 16) (4 * (n + 1))) i.waiting i.row some few inside (rw c (d.words (4 * n) ∙ rw ws)) (words_small (4 * n) bytes (omega arith)) (words_length (4 * n) body) in
      arrived (omega arith) (omega arith) d.tag room _ (rw k at (words_reach main a s m i (n + 1) (omega arith) (omega arith) d.tag room f)) i.waiting
      i.row
      i.path_idle
      (omega arith)
      (vectors_same n b body n 0 m.mem (zero-add n))
      refl
      (sym (add-zero s.used))
      refl

  -- a program start
  pub start_record : (b : ℕ) (rest : List ℕ) → b < instructions Vif1 → entry_size * (s.used + 1) ≤ length m.log → drop a main ≡ laid_out (record_of Start 0 b []) ++ rest
      → Arrived main 5 (a + 16 * 2) s m m.mem m.code (start_entry 256 b ∷ [])
  unfolding logged words_from
  start_record b rest inside room e =
      let p = e ∙ laid_parts Start 0 b [] rest in
      let g : 335544320 + 0 * 65536 + b ≡ 335544320 + b = omega arith in
      let r = small_words 0 0 0 (335544320 + b) (omega arith) (omega arith) (omega arith) (omega arith) in
      let d = lead_placed main a 1 0 0 0 (335544320 + b) rest (omega arith) r (rw g at p) in
      let inner = placed_inside main a (words_bytes (tag_words 1 1) ++ words_bytes (0 ∷ 0 ∷ 0 ∷ (335544320 + b) ∷ [])) rest (rw g at p) (omega arith) in
      let within : a + 16 + 16 * 1 ≤ length main = omega arith in
      let f = feeds_start Vif1 s.vif1 s.path2 s.used m b (incomings 1 main (a + 16) (4 * 1)) i.waiting (omega arith) room (d.words 0) in
      arrived {q = 1} (omega arith) (omega arith) d.tag within _ (words_reach main a s m i 1 (omega arith) (omega arith) d.tag within f) i.waiting
      i.row
      i.path_idle
      (omega arith)
      refl
      refl
      refl
      refl

  -- the built chain has MPG as word 3 of its quadword (lead_words), so its first payload word is word 0 of the next: request 5 asks no more
  payload_even : (k : ℕ) → a % 16 ≡ 0 → first_odd (drop 4 (incomings 1 main (a + 16) (4 + k))) ≡ false
  unfolding incomings
  payload_even k h =
      let e : 4 + k ≡ suc (suc (suc (suc k))) = omega arith in
      rw e (first_even main k (a + 16 + 4 + 4 + 4 + 4) (omega arith))

  -- code: n instructions, and NOPs after an odd number of them
  pub code_record : (n b : ℕ) (body rest : List ℕ) → 1 ≤ n → n ≤ 255 → b < instructions Vif1 → Octets body → length body ≡ 8 * n → a % 16 ≡ 0
      → drop a main ≡ laid_out (record_of Code n b body) ++ rest
      → Arrived main (5 + 4 * halved n) (a + 16 * (2 + halved n)) s m m.mem (put_instructions b body n 0 m.code) []
  code_record n b body rest some few inside bytes l aligned e =
      let h = halved n in
      let q : 2 + h - 1 ≡ h + 1 = omega arith in
      let pad = odd_padding (n % 2) in
      let pl : length pad ≡ 2 * (n % 2) = padding_length (n % 2) (omega arith) in
      let bl = bytes-length pad in
      let p = e ∙ laid_parts Code n b body rest in
      let r = small_words 0 0 0 (1241513984 + n * 65536 + b) (omega arith) (omega arith) (omega arith) (omega arith) in
      let d = lead_placed main a (h + 1) 0 0 0 (1241513984 + n * 65536 + b) (body ++ (words_bytes pad ++ rest)) (omega arith) r (rw q at p) in
      let ws = words_read main (2 * n) (a + 32) body (words_bytes pad ++ rest) (omega arith) d.after in
      let after = placed_next main (a + 32) (4 * (2 * n)) body (words_bytes pad ++ rest) (omega arith) d.after in
      let ps = words_placed main (a + 32 + 4 * (2 * n)) pad rest (padding_words_lem (n % 2)) after in
      let c : 4 * (h + 1) ≡ 4 + (2 * n + length pad) = omega arith in
      let inner = placed_inside main (a + 32) (body ++ words_bytes pad) rest (d.after ∙ sym (append_assoc body (words_bytes pad) rest)) in
      let la = length-append body (words_bytes pad) in
      let lower = inner (omega arith) in
      let room : a + 16 + 16 * (h + 1) ≤ length main = omega arith in
      let k : 1 + 4 * (h + 1) ≡ 5 + 4 * h = omega arith in
      let f = feeds_code Vif1 s.vif1 s.path2 s.used m n b (words_of (2 * n) body) pad (incomings 1 main (a + 16) (4 * (h + 1))) i.waiting some few inside (rw c (d.words (2 * n + length pad) ∙ rw (words_join main (2 * n) (length pad) (a + 32), ws, ps))) (words_length (2 * n) body) (padding_zeros (n % 2)) (rw c (payload_even (2 * n + length pad) aligned)) in
      arrived (omega arith) (omega arith) d.tag room _ (rw k at (words_reach main a s m i (h + 1) (omega arith) (omega arith) d.tag room f)) i.waiting
      i.row
      i.path_idle
      (omega arith)
      refl
      (instructions_same n b bytes l n 0 m.code (zero-add n))
      (sym (add-zero s.used))
      refl

  -- GS writes: n log entries
  pub gs_record : (n : ℕ) (body rest : List ℕ) → 1 ≤ n → n ≤ 255 → Octets body → length body ≡ 16 * n → a % 16 ≡ 0 → entry_size * (s.used + n) ≤ length m.log
      → drop a main ≡ laid_out (record_of Gs n 0 body) ++ rest
      → Arrived main (6 + n) (a + 16 * (3 + n)) s m m.mem m.code (entries_at body n 0)
  unfolding logged words_from quadwords_from
  gs_record n body rest some few bytes l aligned room e =
      let q : 3 + n - 1 ≡ n + 2 = omega arith in
      let g : 1342177280 + 0 * 65536 + (n + 1) ≡ 1342177280 + n + 1 = omega arith in
      let p = rw (q, g) at (e ∙ laid_parts Gs n 0 body rest) in
      let r = small_words 0 0 0 (1342177280 + n + 1) (omega arith) (omega arith) (omega arith) (omega arith) in
      let d = lead_placed main a (n + 2) 0 0 0 (1342177280 + n + 1) (words_bytes (gif_tag_words Gs n) ++ (body ++ rest)) (omega arith) r p in
      let t = gif_tag_placed main (a + 32) n (body ++ rest) few d.after in
      let c : a + 32 + 16 ≡ a + 48 = omega arith in
      let after : drop (a + 48) main ≡ body ++ rest = rw c at (placed_next main (a + 32) 16 (words_bytes (gif_tag_words Gs n)) (body ++ rest) refl d.after) in
      let qs : quadwords_from main (a + 48) n ≡ body_quadwords body n 0 = quadwords_read main body rest n 0 (a + 48) (omega arith) after in
      let inner = placed_inside main (a + 48) body rest after (omega arith) in
      let within : a + 16 + 16 * (n + 2) ≤ length main = omega arith in
      let idle : s.path2 ≡ path_of s.path2.q None = ap (path_of s.path2.q) i.path_idle in
      let f = feeds_direct Vif1 refl s.vif1 s.path2 s.used m n (incomings 1 main (a + 16) 4) i.waiting few (d.words 0) in
      let in_place : QuadwordsIn (incomings 4 main (a + 32) (suc n)) (sheet_tag n ∷ body_quadwords body n 0) = rw (t, c, qs) at (incoming_quadwords main (suc n) (a + 32) (omega arith)) in
      let h = feeds_from (ap (λ (x : Path). fed (with_waiting s.vif1 (direct_waits (suc n))) x s.used m) idle) (feeds_entries Vif1 s.vif1 s.path2.q s.used m n (body_quadwords body n 0) (incomings 4 main (a + 32) (suc n)) i.waiting (quadwords_length body n 0) some few room in_place) in
      let k : 5 + suc n ≡ 6 + n = omega arith in
      arrived (omega arith) (omega arith) d.tag within _ (rw k at (quadwords_reach main a s m i (n + 2) (omega arith) (omega arith) d.tag within (suc n) (omega arith) f h)) i.waiting
      i.row
      refl
      (omega arith)
      refl
      refl
      (rw (entries_count body n 0))
      (rw (entries_same bytes n 0))
