-- Setting a number in a state block, test by test.
use Prim.Native.Nat.{ℕ, ◌+◌, ◌<◌, ◌≤◌}
use mathlib.Core.Path.{◌≡◌, refl, sym}
use mathlib.Core.Bool.{Bool, true, false}
use mathlib.Core.List.{List}
use native.Mathlib.Omega.{arith}
use borrow.Author.Tests.{lt-ltb, le-ltb, eqb-true}
use lib.ListN.{length, set}
use lib.Dec.{eqb}
use Rattle.std.specs.Prelude.{None, Some}
use Rattle.std.specs.Bool.{then_some}
use Rattle.fields.specs.Fields.{if}
use Rattle.fields.specs.Refusals.{out_of_range, number_missing, code_waits}
use Rattle.fields.proofs.ChoiceLaws.{if_ind, if_ind_by}
use Rattle.vif_codes.specs.declared.Vif.{Vif}
use Rattle.memories.specs.declared.VifUnit.{VifUnit}
use Rattle.chain_state.specs.declared.State.{State}
use Rattle.chain_state.specs.Range.{unit_of}
use Rattle.chain_state.specs.Setters.{held_by}
use Rattle.state_block.specs.Read.{ReadState, known_state}
use Rattle.state_block.specs.Sizes.{unit_size, path_size, vif1_at, path2_at, path3_at, vif0_at, state_size, part}
use Rattle.state_block.specs.PathBlock.{path_in_block}
use Rattle.state_block.specs.UnitBlock.{unit_in_block}
use Rattle.state_block.specs.StateBlock.{no_state, read_state, state_with, state_in_block}
use Rattle.console.specs.SetAnswer.{Set, Refused}
use Rattle.console.specs.Register.{is_waiting}
use Rattle.console.specs.Block.{row_at, unit_held, number_at, set_block, set_in_block}

no : {A : Type 0} → true ≡ false → A
no h = absurd (let z : ◌≡◌ {A = ℕ} 0 1 = cc in omega arith)

-- what a block's state, or none, tells of the words
of_known : (k : Bool) (t : State) → (None ≡ then_some k t → k ≡ false) × ((s : State) → Some s ≡ then_some k t → (k ≡ true) × (s ≡ t))
of_known true t = (λ e. absurd (let z : None ≡ Some t = e in cc), λ s e. (refl, let z : Some s ≡ Some t = e in cc))
of_known false t = (λ e. refl, λ s e. absurd (let z : Some s ≡ None = e in cc))

module _ (b : List ℕ) {s : State} (e : Some s ≡ known_state (state_in_block b)) where
  is_known : (state_in_block b).known ≡ true
  is_known = ((of_known (state_in_block b).known (state_in_block b).state).1 s e).0

  state_is : (state_in_block b).state ≡ s
  state_is = sym ((of_known (state_in_block b).known (state_in_block b).state).1 s e).1

  -- words that are a state's are as many as a state has
  pub known_length : length b ≡ state_size
  unfolding state_in_block
  known_length =
      if_ind_by (λ (x : ReadState). x.known ≡ true → length b ≡ state_size) (eqb (length b) state_size)
      {x = state_with (unit_in_block (part vif1_at unit_size b)) (path_in_block (part path2_at path_size b)) (path_in_block (part path3_at path_size b)) (unit_in_block (part vif0_at unit_size b)) b}
      {y = read_state false (no_state 1 0)}
      (λ q _. eqb-true _ _ q) (λ _ k. no (sym k)) is_known

-- each of the eight numbers of either unit is a word of a state's
pub number_inside : (unit number : ℕ) → number ≤ 7 → {at : ℕ} → at ≡ number_at unit number → at < state_size
unfolding number_at
number_inside unit number h e = rw e (if_ind (λ (x : ℕ). x + (row_at + number) < state_size) (eqb unit 0) (omega arith) (omega arith))

module _ (b : List ℕ) (unit number value : ℕ) where
  pub number_refused : 7 < number → set_block (Refused number_missing) b ≡ set_in_block b unit number value
  unfolding set_in_block if
  number_refused h = rw (lt-ltb _ _ h)

  pub unit_refused : number ≤ 7 → 1 < unit → set_block (Refused out_of_range) b ≡ set_in_block b unit number value
  unfolding set_in_block if
  unit_refused h k = rw (le-ltb 7 number h, lt-ltb _ _ k)

  module _ (h : number ≤ 7) (k : unit ≤ 1) where
    pub none_refused : None ≡ known_state (state_in_block b) → set_block (Refused out_of_range) b ≡ set_in_block b unit number value
    unfolding set_in_block if
    none_refused e = rw (le-ltb 7 number h, le-ltb 1 unit k, (of_known (state_in_block b).known (state_in_block b).state).0 e)

    module _ {s : State} (e : Some s ≡ known_state (state_in_block b)) {u : VifUnit} (d : u ≡ unit_of unit) {v : Vif} (f : v ≡ held_by u s) {w : Bool}
        (g : w ≡ is_waiting v.waiting) where
      -- the test of the waiting code is the definition's
      waits_as : is_waiting (unit_held unit (state_in_block b).state).waiting ≡ w
      waits_as = rw (state_is b e, ← d, ← f) (sym g)

      pub waiting_refused : w ≡ true → set_block (Refused code_waits) b ≡ set_in_block b unit number value
      unfolding set_in_block if
      waiting_refused q = rw (le-ltb 7 number h, le-ltb 1 unit k, is_known b e, waits_as, q)

      pub number_set_lem : w ≡ false → {at : ℕ} → at ≡ number_at unit number → set_block Set (set b at value) ≡ set_in_block b unit number value
      unfolding set_in_block if
      number_set_lem q p = rw (le-ltb 7 number h, le-ltb 1 unit k, is_known b e, waits_as, q, p)
