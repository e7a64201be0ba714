-- How far two lists of entries are the same.
use mathlib.Core.Path.{◌≡◌, refl, sym, ap, ◌∙◌}
use mathlib.Core.Bool.{Bool, true, false, ◌&&◌}
use mathlib.Core.List.{List, [], ◌∷◌}
use Prim.Native.Nat.{ℕ, suc, ◌<◌, ◌≤◌}
use native.Mathlib.Omega.{arith}
use borrow.Author.Tests.{eq-eqb, eqb-true, leb-true, leb-false}
use lib.ListN.{length, take, drop}
use lib.Seq.{take_all, take-take}
use lib.Dec.{eqb, leb}
use Rattle.fields.specs.Fields.{if}
use Rattle.fields.proofs.ChoiceLaws.{and_left, and_right}
use Rattle.gif.specs.declared.Entry.{Entry}
use Rattle.sheet.specs.Match.{same_entry, leading}
use Rattle.supplier.specs.Claims.{FirstEntry, OtherNumber}

-- ---- one entry

-- the test is equality
same_entry_lem : (e f : Entry) → same_entry e f ≡ true → e ≡ f
unfolding same_entry
same_entry_lem e f h =
    let l = and_left (eqb f.path e.path && eqb f.register e.register) _ h in
    let p = eqb-true f.path e.path (and_left _ _ l) in
    let r = eqb-true f.register e.register (and_right (eqb f.path e.path) _ l) in
    let v = eqb-true f.value e.value (and_right (eqb f.path e.path && eqb f.register e.register) _ h) in
    rw (← p, ← r, ← v)

entry_same : (e : Entry) → same_entry e e ≡ true
unfolding same_entry
entry_same e = rw (eq-eqb e.path e.path refl, eq-eqb e.register e.register refl, eq-eqb e.value e.value refl)

-- ---- two lists

record Leads (es fs : List Entry) (k : ℕ) : Type 0 where
  left : k ≤ length es
  right : k ≤ length fs
  before : take k es ≡ take k fs
  unequal : k < length es → k < length fs → take 1 (drop k es) ≡ take 1 (drop k fs) → ⊥

leads : (es fs : List Entry) → Leads es fs (leading es fs)
unfolding leading if
leads [] fs = record { left = omega arith; right = omega arith; before = refl; unequal = λ l r e. absurd (omega arith) }
leads (e ∷ es) [] = record { left = omega arith; right = omega arith; before = refl; unequal = λ l r e. absurd (omega arith) }
leads (e ∷ es) (f ∷ fs) = by_entry (leads es fs) (same_entry e f) refl
  where
    by_entry : Leads es fs (leading es fs) → (b : Bool) → same_entry e f ≡ b → Leads (e ∷ es) (f ∷ fs) (if b (suc (leading es fs)) 0)
    by_entry w true q =
        let l = w.left in
        let r = w.right in
        record {
          left = omega arith;
          right = omega arith;
          before = rw (same_entry_lem e f q, w.before);
          unequal = λ a b. w.unequal (omega arith) (omega arith);
        }
    by_entry w false q =
        record {
          left = omega arith;
          right = omega arith;
          before = refl;
          unequal = λ a b h. let z : e ≡ f = cc in let y : same_entry e f ≡ true = rw z (entry_same f) in let x : ◌≡◌ {A = ℕ} 0 1 = cc in omega arith;
        }

leading_all : (es : List Entry) → leading es es ≡ length es
unfolding leading if
leading_all [] = refl
leading_all (e ∷ es) = rw (entry_same e, leading_all es)

-- lists that begin the same begin the same as far as any part of that
take_below : (k n : ℕ) (es fs : List Entry) → k ≤ n → take n es ≡ take n fs → take k es ≡ take k fs
take_below k n es fs l e = sym (take-take k n es l) ∙ ap (take k) e ∙ take-take k n fs l

-- ---- what the first entry that differs says

module _ (es fs : List Entry) where
  -- an entry that both have
  pub entry_first : leading fs es < length es → leading fs es < length fs → FirstEntry es fs (leading fs es)
  entry_first l r =
      let w = leads fs es in
      record { inside = (l, r); before = sym w.before; unequal = λ e. w.unequal r l (sym e) }

  module _ (h : (leading fs es < length es) × (leading fs es < length fs) → ⊥) where
    -- both go on the same as far as both go
    as_far : (k : ℕ) → k ≤ length es → k ≤ length fs → take k es ≡ take k fs
    as_far k l r =
        let w = leads fs es in
        let a = w.left in
        let b = w.right in
        let m : k ≤ leading fs es = by_length (leb k (leading fs es)) refl in
        take_below k (leading fs es) es fs m (sym w.before)
      where
        by_length : (b : Bool) → leb k (leading fs es) ≡ b → k ≤ leading fs es
        by_length true q = leb-true k (leading fs es) q
        by_length false q = let z = leb-false k (leading fs es) q in absurd (h (omega arith, omega arith))

    pub other_number : (length es ≡ length fs → ⊥) → OtherNumber es fs
    other_number n = record { number = n; before = as_far }

    pub entries_same : length es ≡ length fs → es ≡ fs
    entries_same n = sym (take_all (length es) es (omega arith)) ∙ as_far (length es) (omega arith) (omega arith) ∙ take_all (length es) fs (omega arith)

-- equal lists are the same to their end
pub same_entries : (es fs : List Entry) → es ≡ fs → leading fs es ≡ length es
same_entries es fs e = rw e (leading_all fs)
