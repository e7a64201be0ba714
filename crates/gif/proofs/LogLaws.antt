-- The log: what entries leave in it.
use mathlib.Core.Path.{◌≡◌, refl, sym, ◌∙◌, ap}
use mathlib.Core.Bool.{Bool, true, false}
use mathlib.Core.List.{List, [], ◌∷◌, ◌++◌, append_assoc}
use Prim.Native.Nat.{ℕ, zero, suc, ◌+◌, ◌*◌, ◌/◌, ◌%◌, ◌<◌, ◌≤◌}
use native.Mathlib.Omega.{arith}
use borrow.Author.Tests.{lt-ltb, le-ltb, ltb-true, ltb-false}
use lib.ListN.{length, set, take, drop, length-append}
use lib.Seq.{sets, length-sets, sets-eq, length-take-le, take_at, drop_at}
use lib.Dec.{ltb}
use Rattle.gif.specs.declared.GifPath.{GifPath}
use Rattle.gif.specs.declared.Write.{Write}
use Rattle.gif.specs.declared.Entry.{Entry}
use Rattle.gif.specs.declared.Path.{Path}
use Rattle.gif.specs.GifAnswer.{Taken}
use Rattle.gif.specs.declared.Writes.{Writes}
use Rattle.gif.specs.declared.Writes.TheVariants.{Nothing, One, Two}
use Rattle.fields.specs.Fields.{if}
use Rattle.fields.specs.Refusals.{log_full}
use Rattle.fields.proofs.ListLaws.{sets_then}
use Rattle.gif.specs.Log.{entry_size, HasRoom, numbers, entries_in, entries_by, logged, lacks_room, Entered, entered, entry_of}
use Rattle.gif.specs.Step.{Left, refused, commit}
use Rattle.gif.specs.Inner.{listed}

-- one entry is three stores
pub logged_one : (log : List ℕ) (used : ℕ) (e : Entry)
    → set (set (set log (entry_size * used) e.path) (entry_size * used + 1) e.register) (entry_size * used + 2) e.value
    ≡ logged log used (e ∷ [])
unfolding logged
logged_one log used e =
    let a : entry_size * used + 1 ≡ suc (entry_size * used) = omega arith in
    let b : entry_size * used + 2 ≡ suc (suc (entry_size * used)) = omega arith in
    rw (a, b)

-- one entry and then another
pub logged_two : (log : List ℕ) (used : ℕ) (e f : Entry) {a b : List ℕ} → a ≡ logged log used (e ∷ []) → b ≡ logged a (used + 1) (f ∷ [])
    → b ≡ logged log used (e ∷ f ∷ [])
unfolding logged
logged_two log used e f p q =
    let n : entry_size * (used + 1) ≡ suc (suc (suc (entry_size * used))) = omega arith in rw (q, p, n)

pub logged_length : (log : List ℕ) (used : ℕ) (es : List Entry) → length (logged log used es) ≡ length log
unfolding logged
logged_length log used es = length-sets log (entry_size * used) (numbers es)

-- as many entries as writes
pub entries_length : (which : GifPath) (ws : List Write) → length (entries_by which ws) ≡ length ws
entries_length which [] = refl
entries_length which (w ∷ ws) = rw (entries_length which ws)

-- a step writes at most two registers
pub listed_most : (w : Writes) → length (listed w) ≤ 2
listed_most Nothing = omega arith
listed_most (One e) = omega arith
listed_most (Two e f) = omega arith

-- a log of whole entries has fewer than `used` exactly if its numbers are fewer than theirs
pub entries_below : (n used : ℕ) → n % entry_size ≡ 0 → ltb (n / entry_size) used ≡ ltb n (entry_size * used)
entries_below n used h = go (ltb n (entry_size * used)) refl
  where
    go : (b : Bool) → ltb n (entry_size * used) ≡ b → ltb (n / entry_size) used ≡ b
    go true e = let l = ltb-true n (entry_size * used) e in lt-ltb (n / entry_size) used (omega arith)
    go false e = let l = ltb-false n (entry_size * used) e in le-ltb (n / entry_size) used (omega arith)

module _ (which : GifPath) (p after : Path) (closed : Bool) (ws : List Write) (used : ℕ) (log : List ℕ) {n : ℕ} (k : n ≡ length ws) where
  pub commit_full : length log < entry_size * (used + n) → refused log_full p used log ≡ commit which p after closed ws used log
  unfolding commit lacks_room if
  commit_full h = simp (lt-ltb _ _ (rw k at h))

  pub commit_fits : HasRoom log used n → {m : List ℕ} → m ≡ logged log used (entries_by which ws)
      → ◌≡◌ {A = Left} (record { answer = Taken closed; number = 0; path = after; used = used + n; log = m }) (commit which p after closed ws used log)
  unfolding commit lacks_room if
  commit_fits h e = simp (le-ltb _ _ (rw k at h), e, k)

-- ---- what entries leave of a log that has room for them

pub numbers_length : (es : List Entry) → length (numbers es) ≡ entry_size * length es
numbers_length [] = refl
numbers_length (e ∷ es) = let h = numbers_length es in omega arith

pub numbers_append : (es fs : List Entry) → numbers (es ++ fs) ≡ numbers es ++ numbers fs
numbers_append [] fs = refl
numbers_append (e ∷ es) fs = rw (numbers_append es fs)

-- the entries in a log are its first numbers
pub numbers_in : (log : List ℕ) (n : ℕ) → entry_size * n ≤ length log → numbers (entries_in log n) ≡ take (entry_size * n) log
numbers_in log zero h = refl
numbers_in [] (suc n) h = absurd (omega arith)
numbers_in (p ∷ []) (suc n) h = absurd (omega arith)
numbers_in (p ∷ r ∷ []) (suc n) h = absurd (omega arith)
numbers_in (p ∷ r ∷ v ∷ log) (suc n) h =
    let e : entry_size * suc n ≡ suc (suc (suc (entry_size * n))) = omega arith in
    rw (e, numbers_in log n (omega arith))

pub in_count : (log : List ℕ) (n : ℕ) → entry_size * n ≤ length log → length (entries_in log n) ≡ n
in_count log zero h = refl
in_count [] (suc n) h = absurd (omega arith)
in_count (p ∷ []) (suc n) h = absurd (omega arith)
in_count (p ∷ r ∷ []) (suc n) h = absurd (omega arith)
in_count (p ∷ r ∷ v ∷ log) (suc n) h = ap suc (in_count log n (omega arith))

-- entries, and then more of them
pub logged_then : (log : List ℕ) (used : ℕ) (es fs : List Entry) → logged (logged log used es) (used + length es) fs ≡ logged log used (es ++ fs)
unfolding logged
logged_then log used es fs =
    let n = numbers_length es in
    let e : entry_size * (used + length es) ≡ entry_size * used + length (numbers es) = omega arith in
    rw (e, numbers_append es fs) (sets_then log (entry_size * used) (numbers es) (numbers fs))

module _ (log : List ℕ) (used : ℕ) (es : List Entry) (h : HasRoom log used (length es)) where
  counted_numbers : entry_size * used + length (numbers es) ≡ entry_size * (used + length es)
  counted_numbers = let n = numbers_length es in omega arith

  front_length : length (take (entry_size * used) log) ≡ entry_size * used
  front_length = length-take-le (entry_size * used) log (omega arith)

  both_length : length (take (entry_size * used) log ++ numbers es) ≡ entry_size * (used + length es)
  both_length = length-append (take (entry_size * used) log) (numbers es) ∙ rw front_length counted_numbers

  -- the old entries, the new ones and what lies past them
  pub logged_parts : logged log used es ≡ (take (entry_size * used) log ++ numbers es) ++ drop (entry_size * (used + length es)) log
  unfolding logged
  logged_parts =
      sets-eq (numbers es) log (entry_size * used) (rw counted_numbers h) ∙ rw counted_numbers refl

  pub logged_list : take (entry_size * (used + length es)) (logged log used es) ≡ take (entry_size * used) log ++ numbers es
  logged_list = rw logged_parts (take_at (take (entry_size * used) log ++ numbers es) _ (entry_size * (used + length es)) both_length)

  pub logged_past : drop (entry_size * (used + length es)) (logged log used es) ≡ drop (entry_size * (used + length es)) log
  logged_past = rw logged_parts (drop_at (take (entry_size * used) log ++ numbers es) _ (entry_size * (used + length es)) both_length)

  pub logged_below : take (entry_size * used) (logged log used es) ≡ take (entry_size * used) log
  logged_below =
      rw (logged_parts, append_assoc) (take_at (take (entry_size * used) log) _ (entry_size * used) front_length)

-- one entry, with room for it and without
module _ (log : List ℕ) (used : ℕ) (e : Entry) where
  pub entry_fits : HasRoom log used 1 → {m : List ℕ} → m ≡ logged log used (e ∷ []) → entered true m ≡ entry_of log used e
  unfolding entry_of lacks_room if
  entry_fits h q = rw (le-ltb (length log) (entry_size * (used + 1)) h, q)

  pub entry_full : length log < entry_size * (used + 1) → entered false log ≡ entry_of log used e
  unfolding entry_of lacks_room if
  entry_full h = rw (lt-ltb (length log) (entry_size * (used + 1)) h)

  -- what a call left of the log where there is room
  pub entry_put : {b : Bool} {m : List ℕ} → entered b m ≡ entry_of log used e → HasRoom log used 1 → m ≡ sets log (entry_size * used) (numbers (e ∷ []))
  unfolding logged
  entry_put q h = ap (λ (x : Entered). x.log) (q ∙ sym (entry_fits h refl))

  -- what was stored says of the room
  pub entry_stored : {b : Bool} {m : List ℕ} → entered b m ≡ entry_of log used e → b ≡ true → HasRoom log used 1
  unfolding entry_of lacks_room if
  entry_stored {b} q t = go (ltb (length log) (entry_size * (used + 1))) refl (ap (λ (x : Entered). x.stored) q)
    where
      go : (c : Bool) → ltb (length log) (entry_size * (used + 1)) ≡ c → b ≡ (if c (entered false log) (entered true (logged log used (e ∷ [])))).stored → HasRoom log used 1
      go true w s = absurd (let z : ◌≡◌ {A = ℕ} 0 1 = cc in omega arith)
      go false w s = ltb-false (length log) (entry_size * (used + 1)) w
