-- What the diagnosis says is true.
use mathlib.Core.Path.{◌≡◌, refl, sym, ap, ◌∙◌}
use mathlib.Core.Bool.{Bool, true, false, not}
use mathlib.Core.List.{List}
use Prim.Native.Nat.{ℕ}
use native.Mathlib.Omega.{arith}
use borrow.Author.Tests.{eqb-true, eqb-false, ne_eqb}
use lib.Dec.{eqb}
use Rattle.fields.specs.Fields.{if}
use Rattle.memories.specs.Lengths.{Lent}
use Rattle.chain.specs.StepAnswer.{StepAnswer, Completed, Refused}
use Rattle.chain_state.specs.declared.State.{State}
use Rattle.chain_state.specs.Range.{entry_refusal}
use Rattle.chain.specs.Step.{step_of}
use Rattle.chain.specs.Run.{done}
use Rattle.chain_reason.specs.Reason.{next_place}
use Rattle.gif_reason.specs.Reason.{numbers}
use Rattle.diagnosis.specs.Reason.{Reason, Entry, Ended, NoComplaint, Step}
use Rattle.diagnosis.specs.Why.{next_numbers, next_needs, step_reason, on_answer, why_of}
use Rattle.diagnosis.specs.Truth.{NextGives, Names, FoundAt, SaysTrue}
use Rattle.diagnosis.proofs.FoundLaws.{found_next}

-- the four reasons differ
abbrev kind : Reason → ℕ
kind (Entry n) = 0
kind Ended = 1
kind NoComplaint = 2
kind (Step r a x y) = 3

-- their numbers
abbrev refusal_in : Reason → ℕ
refusal_in (Entry n) = n
refusal_in Ended = 0
refusal_in NoComplaint = 0
refusal_in (Step r a x y) = r

abbrev address_in : Reason → ℕ
address_in (Entry n) = 0
address_in Ended = 0
address_in NoComplaint = 0
address_in (Step r a x y) = a

abbrev first_in : Reason → ℕ
first_in (Entry n) = 0
first_in Ended = 0
first_in NoComplaint = 0
first_in (Step r a x y) = x

abbrev second_in : Reason → ℕ
second_in (Entry n) = 0
second_in Ended = 0
second_in NoComplaint = 0
second_in (Step r a x y) = y

no_completed : {i : Bool} {n : ℕ} → Completed i ≡ Refused n → ⊥
no_completed e = let z : ◌≡◌ {A = ℕ} 0 1 = cc in omega arith

not_both : true ≡ false → ⊥
not_both e = let z : ◌≡◌ {A = ℕ} 0 1 = cc in omega arith

module _ (main : List ℕ) (s : State) (m : Lent) where
  -- the reason, with what it comes of
  pub data Told : Reason → Type 0 where
    by_entry : (entry_refusal main m s ≡ 0 → ⊥) → Told (Entry (entry_refusal main m s))
    by_end : entry_refusal main m s ≡ 0 → done s ≡ true → Told Ended
    by_none : (i : Bool) → entry_refusal main m s ≡ 0 → done s ≡ false → (step_of main s m).answer ≡ Completed i → Told NoComplaint
    by_step : (r : ℕ) → entry_refusal main m s ≡ 0 → done s ≡ false → (step_of main s m).answer ≡ Refused r
        → Told (step_reason r (next_place s) (next_numbers r (next_needs main s) main s m.log))

  told : Told (why_of main s m)
  unfolding why_of if
  told = go (eqb (entry_refusal main m s) 0) refl (done s) refl (step_of main s m).answer refl
    where
      go : (b : Bool) → eqb (entry_refusal main m s) 0 ≡ b → (c : Bool) → done s ≡ c → (a : StepAnswer) → (step_of main s m).answer ≡ a
          → Told (if (not b) (Entry (entry_refusal main m s)) (if c Ended (on_answer a main s m.log)))
      go false e c d a q = by_entry (eqb-false _ _ e)
      go true e true d a q = by_end (eqb-true _ _ e) d
      go true e false d (Completed i) q = by_none i (eqb-true _ _ e) d q
      go true e false d (Refused r) q = by_step r (eqb-true _ _ e) d q

  -- ---- from the reason

  step_of_lem : {x : Reason} → Told x → (r a f g : ℕ) → x ≡ Step r a f g → NextGives main s m r × FoundAt main s m r a (numbers f g)
  step_of_lem (by_entry z) r a f g e = absurd (let k : ◌≡◌ {A = ℕ} 0 3 = ap kind e in omega arith)
  step_of_lem (by_end h d) r a f g e = absurd (let k : ◌≡◌ {A = ℕ} 1 3 = ap kind e in omega arith)
  step_of_lem (by_none i h d q) r a f g e = absurd (let k : ◌≡◌ {A = ℕ} 2 3 = ap kind e in omega arith)
  step_of_lem (by_step k h d q) r a f g e =
      let n = next_numbers k (next_needs main s) main s m.log in
      let ek : k ≡ r = ap refusal_in e in
      let ea : next_place s ≡ a = ap address_in e in
      let ef : n.first ≡ f = ap first_in e in
      let eg : n.second ≡ g = ap second_in e in
      (record { passed = h; going = d; gives = q ∙ ap (λ (j : ℕ). Refused j) ek }, rw (← ek, ← ea, ← ef, ← eg) (found_next main s m h k q))

  end_of : {x : Reason} → Told x → x ≡ Ended → (entry_refusal main m s ≡ 0) × (done s ≡ true)
  end_of (by_entry z) e = absurd (let k : ◌≡◌ {A = ℕ} 0 1 = ap kind e in omega arith)
  end_of (by_end h d) e = (h, d)
  end_of (by_none i h d q) e = absurd (let k : ◌≡◌ {A = ℕ} 2 1 = ap kind e in omega arith)
  end_of (by_step k h d q) e = absurd (let k : ◌≡◌ {A = ℕ} 3 1 = ap kind e in omega arith)

  none_of : {x : Reason} → Told x → x ≡ NoComplaint → (entry_refusal main m s ≡ 0) × (done s ≡ false) × ((r : ℕ) → (step_of main s m).answer ≡ Refused r → ⊥)
  none_of (by_entry z) e = absurd (let k : ◌≡◌ {A = ℕ} 0 2 = ap kind e in omega arith)
  none_of (by_end h d) e = absurd (let k : ◌≡◌ {A = ℕ} 1 2 = ap kind e in omega arith)
  none_of (by_none i h d q) e = (h, d, λ r w. no_completed (sym q ∙ w))
  none_of (by_step k h d q) e = absurd (let k : ◌≡◌ {A = ℕ} 3 2 = ap kind e in omega arith)

  entry_of : {x : Reason} → Told x → (n : ℕ) → x ≡ Entry n → (entry_refusal main m s ≡ n) × (n ≡ 0 → ⊥)
  entry_of (by_entry z) n e = let q : entry_refusal main m s ≡ n = ap refusal_in e in (q, λ w. z (q ∙ w))
  entry_of (by_end h d) n e = absurd (let k : ◌≡◌ {A = ℕ} 1 0 = ap kind e in omega arith)
  entry_of (by_none i h d q) n e = absurd (let k : ◌≡◌ {A = ℕ} 2 0 = ap kind e in omega arith)
  entry_of (by_step k h d q) n e = absurd (let k : ◌≡◌ {A = ℕ} 3 0 = ap kind e in omega arith)

  -- ---- to the reason

  to_step : (r : ℕ) → NextGives main s m r → why_of main s m ≡ step_reason r (next_place s) (next_numbers r (next_needs main s) main s m.log)
  unfolding why_of if
  to_step r g = rw (g.passed, g.going, g.gives)

  pub to_end : (entry_refusal main m s ≡ 0) × (done s ≡ true) → why_of main s m ≡ Ended
  unfolding why_of if
  to_end g = rw (g.0, g.1)

  to_none : {x : Reason} → Told x → (entry_refusal main m s ≡ 0) × (done s ≡ false) × ((r : ℕ) → (step_of main s m).answer ≡ Refused r → ⊥) → x ≡ NoComplaint
  to_none (by_entry z) g = absurd (z g.0)
  to_none (by_end h d) g = absurd (let k : true ≡ false = sym d ∙ g.1 in not_both k)
  to_none (by_none i h d q) g = refl
  to_none (by_step k h d q) g = absurd (g.2 k q)

  to_entry : (n : ℕ) → (entry_refusal main m s ≡ n) × (n ≡ 0 → ⊥) → why_of main s m ≡ Entry n
  unfolding why_of if
  to_entry n g = rw (g.0, ne_eqb n 0 g.1)

  pub named : (r : ℕ) → NextGives main s m r → Names r (why_of main s m)
  named r g = record { address = next_place s; first = (next_numbers r (next_needs main s) main s m.log).first; second = (next_numbers r (next_needs main s) main s m.log).second; named = to_step r g }

  pub gives : (r : ℕ) → Names r (why_of main s m) → NextGives main s m r
  gives r n = (step_of_lem told r n.address n.first n.second n.named).0

  -- "What it says has to be proved true"
  pub says_true : SaysTrue main s m
  says_true =
      record {
        names = λ r. (gives r, named r);
        found = λ r a x y e. (step_of_lem told r a x y e).1;
        ended = (end_of told, to_end);
        clear = (none_of told, to_none told);
        entry = λ n. (entry_of told n, to_entry n);
      }
