-- Laws of the choice by a test, and of tests joined.
use Rattle.std.proofs.Common.{◌≡◌, ℕ, ◌<◌, Bool, true, false, not, ◌&&◌, ◌||◌, sym, refl, arith, le-ltb, lt-ltb, eq-eqb, ne_eqb, le-leb}
use borrow.Author.Tests.{lt-leb}
use Rattle.fields.specs.Fields.{if}

-- what holds of both arms holds of the choice
pub if_ind : {A : Type 0} (P : A → Type 0) (b : Bool) {x y : A} → P x → P y → P (if b x y)
unfolding if
if_ind P true p q = p
if_ind P false p q = q

-- the same, where each arm may use the test's answer
pub if_ind_by : {A : Type 0} (P : A → Type 0) (b : Bool) {x y : A} → (b ≡ true → P x) → (b ≡ false → P y) → P (if b x y)
unfolding if
if_ind_by P true p q = p refl
if_ind_by P false p q = q refl

-- a refusal that is 0 was not chosen
pub if_zero : (b : Bool) (n : ℕ) {r : ℕ} → 0 < n → if b n r ≡ 0 → (b ≡ false) × (r ≡ 0)
unfolding if
if_zero true n h e = absurd (omega arith)
if_zero false n h e = (refl, e)

pub and_false : (a : Bool) → (a && false) ≡ false
and_false true = refl
and_false false = refl

pub and_left : (a b : Bool) → (a && b) ≡ true → a ≡ true
and_left true b h = refl
and_left false b h = h

pub and_right : (a b : Bool) → (a && b) ≡ true → b ≡ true
and_right true b h = h
and_right false b h = absurd (let z : ◌≡◌ {A = ℕ} 0 1 = cc in omega arith)

pub or_left : (a b : Bool) → (a || b) ≡ false → a ≡ false
or_left true b h = h
or_left false b h = refl

pub or_right : (a b : Bool) → (a || b) ≡ false → b ≡ false
or_right true b h = absurd (let z : ◌≡◌ {A = ℕ} 0 1 = cc in omega arith)
or_right false b h = h

pub not-true : (b : Bool) → not b ≡ true → b ≡ false
not-true true h = sym h
not-true false h = refl

-- ---- tests in turn

-- the first of them fails, a later one does, or the first holds and the rest decide
pub and_fails : (a b : Bool) → a ≡ false → false ≡ (a && b)
and_fails a b h = rw h

pub and_later : (a b : Bool) → false ≡ b → false ≡ (a && b)
and_later true b h = h
and_later false b h = refl

pub and_holds : (a b : Bool) {r : Bool} → a ≡ true → r ≡ b → r ≡ (a && b)
and_holds a b h e = rw h e

-- the first of them holds, a later one does, or none
pub or_holds : (a b : Bool) → a ≡ true → (a || b) ≡ true
or_holds a b h = rw h

pub or_later : (a b : Bool) → b ≡ true → (a || b) ≡ true
or_later true b h = refl
or_later false b h = h

pub or_fails : (a b : Bool) → a ≡ false → b ≡ false → (a || b) ≡ false
or_fails a b h e = rw (h, e)

pub not_holds : (a : Bool) → a ≡ true → not a ≡ false
not_holds a h = rw h

pub not_fails : (a : Bool) → a ≡ false → not a ≡ true
not_fails a h = rw h

pub if_holds : {A : Type 0} (b : Bool) (x y : A) {r : A} → b ≡ true → r ≡ x → r ≡ if b x y
unfolding if
if_holds b x y h e = rw h e

pub if_fails : {A : Type 0} (b : Bool) (x y : A) {r : A} → b ≡ false → r ≡ y → r ≡ if b x y
unfolding if
if_fails b x y h e = rw h e

-- what a function that returns at each test answers, from the tests' facts
pub ruleset in-turn = (and_fails, and_later, and_holds, or_holds, or_later, or_fails, not_holds, not_fails, if_holds, if_fails, lt-ltb, le-ltb, le-leb, lt-leb, eq-eqb, ne_eqb)
