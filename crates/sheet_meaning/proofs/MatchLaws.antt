-- Records that are matched one after another: an action on the memories and the front of the entries; and what it is of a sheet's meaning.
use mathlib.Core.Path.{◌≡◌, refl, ap, ◌∙◌}
use mathlib.Core.Bool.{Bool, true, false}
use mathlib.Core.List.{List, [], ◌∷◌, ◌++◌}
use Prim.Native.Nat.{ℕ, suc, ◌+◌, ◌*◌, ◌-◌, ◌<◌, ◌≤◌}
use native.Mathlib.Nat.{add-zero, zero-add, sub-zero}
use native.Mathlib.Numerals.{add-one}
use native.Mathlib.Omega.{arith}
use borrow.Author.Tests.{ltb-true, ltb-false, lt-ltb, le-ltb}
use mir.Val.{bool_byte}
use lib.ListN.{length, drop}
use lib.Seq.{drop-cons}
use lib.Dec.{ltb}
use Rattle.fields.specs.Fields.{if}
use Rattle.gif.specs.declared.Entry.{Entry}
use Rattle.gif.specs.Log.{entry_size, entry, entries_in}
use Rattle.sheet.specs.declared.Kind.TheVariants.{Data, Code, Gs, Start}
use Rattle.sheet_meaning.specs.declared.matching.Matcher.{Matcher}
use Rattle.sheet_meaning.specs.declared.matching.Front.{Front}
use Rattle.sheet.specs.Records.{Record, record_of}
use Rattle.sheet.specs.Meaning.{Plain, put_vectors, put_instructions, entry_at, entries_at, entries_by, fed_record, meaning_of}
use Rattle.sheet.specs.Match.{same_entry, leading}
use Rattle.sheet_meaning.specs.Met.{front, entry_in, next_front, met, met_all, Matching, matching, matching_in, with_matching, matched_by, matched_all}

-- ---- one record

module _ (m : Matcher) (n a : ℕ) (body : List ℕ) where
  pub matched_data : {mem : List ℕ} → mem ≡ put_vectors a body n 0 m.data.now
      → ◌≡◌ {A = Matcher} (record m { «data» = record m.data { now = mem } })
      (with_matching m (matched_all m.log.numbers.now m.log.used (record_of Data n a body ∷ []) (matching_in m)))
  unfolding matched_all matched_by met_all
  matched_data e = rw e

  pub matched_code : {code : List ℕ} → code ≡ put_instructions a body n 0 m.code.now
      → ◌≡◌ {A = Matcher} (record m { code = record m.code { now = code } })
      (with_matching m (matched_all m.log.numbers.now m.log.used (record_of Code n a body ∷ []) (matching_in m)))
  unfolding matched_all matched_by met_all
  matched_code e = rw e

  pub matched_entries : {f : Front} → f ≡ met_all m.log.numbers.now m.log.used (entries_at body n 0) m.front
      → ◌≡◌ {A = Matcher} (record m { front = f }) (with_matching m (matched_all m.log.numbers.now m.log.used (record_of Gs n a body ∷ []) (matching_in m)))
  unfolding matched_all matched_by
  matched_entries e = rw e

  pub matched_start : {f : Front} → f ≡ met m.log.numbers.now m.log.used (entry 0 256 a) m.front
      → ◌≡◌ {A = Matcher} (record m { front = f }) (with_matching m (matched_all m.log.numbers.now m.log.used (record_of Start n a body ∷ []) (matching_in m)))
  unfolding matched_all matched_by met_all
  matched_start e = rw e

-- ---- entries

-- the front once an entry is compared, and where the log has no more
front_by : (n : ℕ) (b : Bool) → front (n + bool_byte b) b ≡ if b (front (n + 1) true) (front n false)
unfolding if
front_by n true = refl
front_by n false = rw add-zero

module _ (log : List ℕ) (used n : ℕ) (e : Entry) {w : Bool} {v : ℕ} (ve : v ≡ bool_byte w) where
  pub front_compared : n < used → w ≡ same_entry e (entry_in log n) → front (n + v) w ≡ next_front log used n e
  unfolding next_front if
  front_compared h we = rw (lt-ltb n used h, ve, ← we) (front_by n w)

  pub front_past : used ≤ n → w ≡ ltb n used → front (n + v) w ≡ next_front log used n e
  unfolding next_front if
  front_past h we = let z : w ≡ false = we ∙ le-ltb n used h in rw (le-ltb n used h, ve, z, add-zero)

module _ (log : List ℕ) (used : ℕ) where
  pub met_onward : (es fs : List Entry) (f : Front) → met_all log used fs (met_all log used es f) ≡ met_all log used (es ++ fs) f
  unfolding met_all
  met_onward [] fs f = refl
  met_onward (e ∷ es) fs f = met_onward es fs (met log used e f)

  -- a front that an entry has closed stays
  met_closed : (es : List Entry) (n : ℕ) → met_all log used es (front n false) ≡ front n false
  unfolding met_all met if
  met_closed [] n = refl
  met_closed (e ∷ es) n = met_closed es n

  -- the log's entries from number n on
  left_from : (n : ℕ) → entry_size * used ≤ length log → n < used
      → entries_in (drop (entry_size * n) log) (used - n) ≡ entry_in log n ∷ entries_in (drop (entry_size * (n + 1)) log) (used - (n + 1))
  left_from n h l =
      let k : used - n ≡ suc (used - (n + 1)) = omega arith in
      let a : entry_size * n + 1 ≡ suc (entry_size * n) = omega arith in
      let b : entry_size * n + 2 ≡ suc (suc (entry_size * n)) = omega arith in
      let c : entry_size * (n + 1) ≡ suc (suc (suc (entry_size * n))) = omega arith in
      rw (
        k,
        a,
        b,
        c,
        drop-cons log (entry_size * n) 0 (omega arith),
        drop-cons log (suc (entry_size * n)) 0 (omega arith),
        drop-cons log (suc (suc (entry_size * n))) 0 (omega arith),
      )

  none_from : (n : ℕ) → used ≤ n → entries_in (drop (entry_size * n) log) (used - n) ≡ []
  none_from n l = let k : used - n ≡ 0 = omega arith in rw k

  -- how far a list goes with the log's entries from number n on
  met_open : entry_size * used ≤ length log → (es : List Entry) (n : ℕ)
      → (met_all log used es (front n true)).leading ≡ n + leading es (entries_in (drop (entry_size * n) log) (used - n))
  unfolding met_all met next_front leading if
  met_open h [] n = omega arith
  met_open h (e ∷ es) n = by_room (met_open h es (n + 1)) (ltb n used) refl
    where
      by_entry : (met_all log used es (front (n + 1) true)).leading ≡ n + 1 + leading es (entries_in (drop (entry_size * (n + 1)) log) (used - (n + 1)))
          → (b : Bool) → same_entry e (entry_in log n) ≡ b
          → (met_all log used es (if b (front (n + 1) true) (front n false))).leading
          ≡ n + if b (suc (leading es (entries_in (drop (entry_size * (n + 1)) log) (used - (n + 1))))) 0
      by_entry i true q = omega arith
      by_entry i false q = ap (λ (f : Front). f.leading) (met_closed es n) ∙ rw add-zero

      by_room : (met_all log used es (front (n + 1) true)).leading ≡ n + 1 + leading es (entries_in (drop (entry_size * (n + 1)) log) (used - (n + 1)))
          → (b : Bool) → ltb n used ≡ b
          → (met_all log used es (if b (if (same_entry e (entry_in log n)) (front (n + 1) true) (front n false)) (front n false))).leading
          ≡ n + leading (e ∷ es) (entries_in (drop (entry_size * n) log) (used - n))
      by_room i true q = rw (left_from n h (ltb-true n used q)) (by_entry i (same_entry e (entry_in log n)) refl)
      by_room i false q = rw (none_from n (ltb-false n used q)) (ap (λ (f : Front). f.leading) (met_closed es n) ∙ rw add-zero)

  pub met_leading : entry_size * used ≤ length log → (es : List Entry) → (met_all log used es (front 0 true)).leading ≡ leading es (entries_in log used)
  met_leading h es = met_open h es 0 ∙ rw (sub-zero, zero-add)

  -- the entries of a body, those from number j on still to come: the next is compared
  pub meets_on : (body : List ℕ) (n j : ℕ) {e : Entry} (f : Front) {f' x : Front} → j < n → f' ≡ met log used e f → e ≡ entry_at body j
      → met_all log used (entries_at body (n - j) j) f ≡ x
      → met_all log used (entries_at body (n - (j + 1)) (j + 1)) f' ≡ x
  unfolding met_all entries_at
  meets_on body n j f l m q h =
      let k : n - j ≡ suc (n - suc j) = omega arith in
      rw (m, q, add-one) (rw k at h)

  pub meets_end : (body : List ℕ) (n j : ℕ) {f x : Front} → n ≤ j → met_all log used (entries_at body (n - j) j) f ≡ x → f ≡ x
  unfolding met_all entries_at
  meets_end body n j l h = let k : n - j ≡ 0 = omega arith in rw k at h

  -- ---- a sheet's records matched: the memories of its meaning, and its entries compared

  abbrev pub matched_plain : Plain → Front → Matching
  matched_plain x f = matching x.mem x.code (met_all log used x.entries f)

  pub match_meant : (rs : List Record) (x : Plain) (f : Front) → matched_all log used rs (matched_plain x f) ≡ matched_plain (meaning_of rs x) f
  unfolding matched_all matched_by meaning_of fed_record
  match_meant [] x f = refl
  match_meant (r ∷ rs) x f =
      let es : List Entry = entries_by r.kind r.count r.address r.body in
      rw (met_onward x.entries es f) (match_meant rs (fed_record r x) f)
