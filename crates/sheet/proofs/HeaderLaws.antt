-- What a header says of the bytes.
use mathlib.Core.Path.{◌≡◌, refl, sym}
use mathlib.Core.Bool.{Bool, true, false}
use mathlib.Core.List.{List}
use Prim.Native.Nat.{ℕ, ◌+◌, ◌<◌, ◌≤◌}
use native.Mathlib.Omega.{arith}
use lib.ListN.{length}
use lib.Dec.{eqb}
use borrow.Author.Tests.{leb-true, eqb-true, eqb-false, lt-leb}
use Rattle.fields.specs.Fields.{if}
use Rattle.fields.proofs.ChoiceLaws.{and_left, and_later, if_zero}
use Rattle.fields.specs.declared.refusals.Refusal.{Refusal}
use Rattle.fields.specs.Refusals.{refusal_number}
use Rattle.fields.proofs.RefusalLaws.{refusal_not_none}
use Rattle.std.proofs.Common.{Option, Some, None, Ok}
use Rattle.std.specs.Option.{MatchOption, IsSomeAnd}
use Rattle.sheet.specs.declared.Record.{Record}
use Rattle.sheet.specs.declared.Item.{Item}
use Rattle.sheet.specs.declared.Item.TheVariants.{Single as ItemSingle}
use Rattle.sheet.specs.declared.Kind.{Kind}
use Rattle.sheet.proofs.ReaderLaws.{FoundThere, past, reading_end, found_next}
use Rattle.sheet.specs.Reading.{Reading, End as NoRecord, Found, Refused as RecordRefused, reading}
use Rattle.sheet.specs.Reader.{count_at, address_at, reading_at}
use Rattle.sheet.specs.Acts.{RecordThere}
use Rattle.sheet.specs.Header.{End, Single, Group, Refused, header}
use Rattle.sheet.specs.Groups.{opens_kind, starts_second, opens_group, group_refusal, plain_header, header_at}

-- a group's header stands whole
pub opens_inside : (sheet : List ℕ) (at : ℕ) → opens_group sheet at ≡ true → at + 6 ≤ length sheet
unfolding opens_group opens_kind
opens_inside sheet at h = leb-true _ _ (and_left _ _ (and_left _ _ h))

-- and so does the first record of kind 0
pub starts_inside : (sheet : List ℕ) → starts_second sheet ≡ true → 6 ≤ length sheet
unfolding starts_second opens_kind
starts_inside sheet h = leb-true _ _ (and_left _ _ h)

-- no group stands in a sheet of the first edition
pub first_plain : (sheet : List ℕ) (at : ℕ) → starts_second sheet ≡ false → opens_group sheet at ≡ false
unfolding opens_group
first_plain sheet at h = sym (and_later (opens_kind 5 sheet at) _ (sym h))

-- a group that is not refused
pub record Opens (sheet : List ℕ) (depth at n k : ℕ) : Type 0 where
  pub inside : at + 6 ≤ length sheet
  pub deep : 0 < depth
  pub repetitions : n ≡ count_at sheet at
  pub count : k ≡ address_at sheet at
  pub some : 0 < n
  pub inner : 0 < k
  pub opens : opens_group sheet at ≡ true

-- a group is never a record of the first edition
not_plain : {n k : ℕ} (r : Reading) → plain_header r ≡ Group n k → ⊥
not_plain NoRecord e = let z : ◌≡◌ {A = ℕ} 0 1 = cc in omega arith
not_plain (Found a b c d) e = let z : ◌≡◌ {A = ℕ} 0 1 = cc in omega arith
not_plain (RecordRefused a b) e = let z : ◌≡◌ {A = ℕ} 0 1 = cc in omega arith

-- and a record is one
is_found : {k : Kind} {n a next : ℕ} (r : Reading) → plain_header r ≡ Single k n a next → r ≡ Found k n a next
is_found NoRecord e = absurd (let z : ◌≡◌ {A = ℕ} 0 1 = cc in omega arith)
is_found (Found a b c d) e = cc
is_found (RecordRefused a b) e = absurd (let z : ◌≡◌ {A = ℕ} 0 1 = cc in omega arith)

-- and the end is one
is_end : (r : Reading) → plain_header r ≡ End → r ≡ NoRecord
is_end NoRecord e = refl
is_end (Found a b c d) e = absurd (let z : ◌≡◌ {A = ℕ} 0 1 = cc in omega arith)
is_end (RecordRefused a b) e = absurd (let z : ◌≡◌ {A = ℕ} 0 1 = cc in omega arith)

unrefused : (depth : ℕ) (sheet : List ℕ) (at : ℕ) → group_refusal depth sheet at ≡ 0 → (0 < count_at sheet at) × (0 < depth) × (0 < address_at sheet at)
unfolding group_refusal
unrefused depth sheet at h =
    let a = if_zero _ _ (omega arith) h in
    let b = if_zero _ _ (omega arith) a.1 in
    let d = if_zero _ _ (omega arith) b.1 in
    (omega (arith, eqb-false (count_at sheet at) 0 a.0), omega (arith, eqb-false depth 0 d.0), omega (arith, eqb-false (address_at sheet at) 0 b.0))

module _ (sheet : List ℕ) (depth at : ℕ) where
  chosen_group : {n k : ℕ} (b d : Bool) → opens_group sheet at ≡ b → eqb (group_refusal depth sheet at) 0 ≡ d
      → if b (if d (Group (count_at sheet at) (address_at sheet at)) (Refused (group_refusal depth sheet at) at)) (plain_header (reading_at sheet at)) ≡ Group n k
      → Opens sheet depth at n k
  unfolding if
  chosen_group {n} {k} true true p q e =
      let u = unrefused depth sheet at (eqb-true _ _ q) in
      let c : count_at sheet at ≡ n = cc in
      let a : address_at sheet at ≡ k = cc in
      record { inside = opens_inside sheet at p; deep = u.1; repetitions = sym c; count = sym a; some = omega arith; inner = omega arith; opens = p }
  chosen_group true false p q e = absurd (let z : ◌≡◌ {A = ℕ} 0 1 = cc in omega arith)
  chosen_group false d p q e = absurd (not_plain (reading_at sheet at) e)

  pub group_opens : {n k : ℕ} → header_at sheet depth at ≡ Group n k → Opens sheet depth at n k
  unfolding header_at
  group_opens e = chosen_group _ _ refl refl e

  chosen_single : {k : Kind} {n a next : ℕ} (b d : Bool)
      → if b (if d (Group (count_at sheet at) (address_at sheet at)) (Refused (group_refusal depth sheet at) at)) (plain_header (reading_at sheet at)) ≡ Single k n a next
      → reading_at sheet at ≡ Found k n a next
  unfolding if
  chosen_single true true e = absurd (let z : ◌≡◌ {A = ℕ} 0 1 = cc in omega arith)
  chosen_single true false e = absurd (let z : ◌≡◌ {A = ℕ} 0 1 = cc in omega arith)
  chosen_single false d e = is_found (reading_at sheet at) e

  pub single_found : {k : Kind} {n a next : ℕ} → header_at sheet depth at ≡ Single k n a next → reading_at sheet at ≡ Found k n a next
  unfolding header_at
  single_found e = chosen_single _ _ e

  -- the end is past the sheet
  chosen_end : (b d : Bool)
      → if b (if d (Group (count_at sheet at) (address_at sheet at)) (Refused (group_refusal depth sheet at) at)) (plain_header (reading_at sheet at)) ≡ End
      → reading_at sheet at ≡ NoRecord
  unfolding if
  chosen_end true true e = absurd (let z : ◌≡◌ {A = ℕ} 0 1 = cc in omega arith)
  chosen_end true false e = absurd (let z : ◌≡◌ {A = ℕ} 0 1 = cc in omega arith)
  chosen_end false d e = is_end (reading_at sheet at) e

  pub header_end : header_at sheet depth at ≡ End → length sheet ≤ at
  unfolding header_at
  header_end e = reading_end sheet at (chosen_end _ _ e)

-- a record that a header says is found there, and its body lies in the sheet
module _ (sheet : List ℕ) (depth at : ℕ) {k : Kind} {n a next : ℕ} (e : Single k n a next ≡ header_at sheet depth at) where
  pub single_there : FoundThere sheet at k n a next
  single_there = found_next sheet at k n a next (single_found sheet depth at (sym e))

  pub single_stands : RecordThere sheet (at + 6) k n a
  single_stands = let t = single_there in record { counted = t.counted; addressed = t.addressed; inside = omega arith }

-- ---- what `read_header` answers

-- a record as an item, and none as none
pub single_read : (o : Option Record) (m : Option Item) → MatchOption o (m ≡ None) (λ x. IsSomeAnd m (λ i. i ≡ ItemSingle x)) → header (Ok m) ≡ plain_header (reading (Ok o))
single_read None m h = rw h
single_read (Some r) (Some i) h = rw h
single_read (Some r) None h = absurd h

module _ (sheet : List ℕ) (depth at : ℕ) where
  pub header_refused : (e : Refusal) → opens_group sheet at ≡ true → refusal_number e ≡ group_refusal depth sheet at → Refused (refusal_number e) at ≡ header_at sheet depth at
  unfolding header_at if
  header_refused e o h = rw (o, ← h, refusal_not_none e)

  pub header_group : {n k : ℕ} → opens_group sheet at ≡ true → 0 ≡ group_refusal depth sheet at → n ≡ count_at sheet at → k ≡ address_at sheet at
      → Group n k ≡ header_at sheet depth at
  unfolding header_at if
  header_group o h ne ke = rw (o, ← h, ne, ke)

  pub header_plain : {g : Reading} → opens_group sheet at ≡ false → g ≡ reading_at sheet at → plain_header g ≡ header_at sheet depth at
  unfolding header_at if
  header_plain o e = rw (o, ← e)

  -- past the sheet is the end
  pub header_past : length sheet ≤ at → header_at sheet depth at ≡ End
  unfolding header_at if opens_group opens_kind
  header_past h = rw (lt-leb (at + 6) (length sheet) (omega arith), past sheet at h)
