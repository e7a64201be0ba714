-- The word that is set in a state block is the number of the unit that is read from it, and nothing else of the state changes.
use Prim.Native.Nat.{ℕ, zero, suc, ◌+◌, ◌-◌, ◌<◌, ◌≤◌}
use mathlib.Core.Path.{◌≡◌, refl, sym, ◌∙◌, ap, subst}
use mathlib.Core.Bool.{Bool, true, false, ◌&&◌}
use mathlib.Core.List.{List, [], ◌∷◌}
use native.Mathlib.Omega.{arith}
use borrow.Author.Tests.{ltb-true, ltb-false, le-ltb, eq-eqb}
use lib.ListN.{length, get_or, set, drop, length-set, length-drop}
use lib.Seq.{length-take-le, get_or-set_other, take-set-le, take-set-lt, drop-set-lt, drop-set-add}
use lib.Dec.{eqb, ltb}
use Rattle.fields.specs.Fields.{if}
use Rattle.fields.proofs.ChoiceLaws.{and_left, and_right}
use Rattle.memories.specs.declared.VifUnit.{VifUnit}
use Rattle.memories.specs.declared.VifUnit.TheVariants.{Vif0, Vif1}
use Rattle.vif_codes.specs.declared.Vif.{Vif}
use Rattle.chain_state.specs.declared.State.{State}
use Rattle.chain_state.specs.Range.{unit_of}
use Rattle.chain_state.specs.Setters.{with_unit, held_by}
use Rattle.state_block.specs.Read.{ReadUnit}
use Rattle.state_block.specs.Read.{ReadPath}
use Rattle.state_block.specs.Read.{ReadState}
use Rattle.state_block.specs.Sizes.{chain_size, unit_size, path_size, vif1_at, path2_at, path3_at, vif0_at, state_size, part}
use Rattle.state_block.specs.Words.{is_bit}
use Rattle.state_block.specs.PathBlock.{path_in_block}
use Rattle.state_block.specs.UnitBlock.{waitings, waiting_in_block, held_unit, no_unit, read_unit, unit_with, unit_in_block}
use Rattle.state_block.specs.StateBlock.{chain_exists, stack_in_block, tags_in_block, payload_in_block, held_state, read_state, state_with, state_in_block}
use Rattle.console.specs.Register.{SetResult, is_waiting, number_set, set_of}
use Rattle.console.specs.Block.{row_at, number_at, state_set, unit_held, SetBlock, set_in_block}

-- ---- parts of a block with one word replaced

module _ (b : List ℕ) (at n : ℕ) where
  -- a part that ends before the word, one that holds it, and one that begins behind it
  pub part_before : (i x : ℕ) → n ≤ i → part at n (set b (at + i) x) ≡ part at n b
  part_before i x h = rw (drop-set-add at b i x) (take-set-le n (drop at b) i x h)

  pub part_with : (i x : ℕ) → i < n → part at n (set b (at + i) x) ≡ set (part at n b) i x
  part_with i x h = rw (drop-set-add at b i x) (take-set-lt n (drop at b) i x h)

  pub part_behind : (k x : ℕ) → k < at → part at n (set b k x) ≡ part at n b
  part_behind k x h = rw (drop-set-lt at b k x h)

-- ---- a unit block

-- a list is its words
words : ℕ → List ℕ → List ℕ
words zero b = []
words (suc n) b = get_or b 0 0 ∷ words n (drop 1 b)

is_words : (n : ℕ) (b : List ℕ) → length b ≡ n → words n b ≡ b
unfolding words
is_words zero [] h = refl
is_words zero (x ∷ b) h = absurd (omega arith)
is_words (suc n) [] h = absurd (omega arith)
is_words (suc n) (x ∷ b) h = ap (λ (r : List ℕ). x ∷ r) (is_words n b (omega arith))

-- a number below 4 is one of four
by_four : (P : ℕ → Type 0) → P 0 → P 1 → P 2 → P 3 → (n : ℕ) → n < 4 → P n
by_four P a b c d zero h = a
by_four P a b c d (suc zero) h = b
by_four P a b c d (suc (suc zero)) h = c
by_four P a b c d (suc (suc (suc zero))) h = d
by_four P a b c d (suc (suc (suc (suc n)))) h = absurd (omega arith)

-- a number below 8 is one of ROW or one of COL
by_eight : (P : ℕ → Type 0) → P 0 → P 1 → P 2 → P 3 → P 4 → P 5 → P 6 → P 7 → (n : ℕ) → n ≤ 7 → P n
by_eight P a b c d e f g h n l = go (ltb n 4) refl
  where
    go : (t : Bool) → ltb n 4 ≡ t → P n
    go true q = by_four P a b c d n (ltb-true n 4 q)
    go false q =
        let m = ltb-false n 4 q in
        let k : 4 + (n - 4) ≡ n = omega arith in
        subst P k (by_four (λ (j : ℕ). P (4 + j)) e f g h (n - 4) (omega arith))

-- of two units by one test, where it holds
chosen : (t : Bool) (u u' : Vif) (number value : ℕ) → u' ≡ number_set u number value
    → (if t (read_unit true u) (read_unit false no_unit)).known ≡ true
    → if t (read_unit true u') (read_unit false no_unit) ≡ read_unit true (number_set (if t (read_unit true u) (read_unit false no_unit)).unit number value)
unfolding if
chosen true u u' number value e h = ap (read_unit true) e
chosen false u u' number value e h = absurd (let z : ◌≡◌ {A = ℕ} 0 1 = cc in omega arith)

-- what is read from a unit block with one of its eight numbers set
abbrev SetRead : ℕ → List ℕ → ℕ → Type 0
SetRead value b number = (unit_in_block b).known ≡ true → unit_in_block (set b (row_at + number) value) ≡ read_unit true (number_set (unit_in_block b).unit number value)

module _ (b : List ℕ) (value : ℕ) where
  abbrev all : List ℕ
  all = words unit_size b

  -- what the words say, with word j in place of one of them
  one_set : (number : ℕ) → held_unit (set all (row_at + number) value) (waiting_in_block all).waiting ≡ number_set (held_unit all (waiting_in_block all).waiting) number value
      → unit_in_block (set all (row_at + number) value)
      ≡ if (is_bit all 8 && (is_bit all 10 && (waiting_in_block all).known))
      (read_unit true (held_unit (set all (row_at + number) value) (waiting_in_block all).waiting)) (read_unit false no_unit)
      → SetRead value all number
  unfolding words unit_in_block unit_with if
  one_set number e f h =
      f ∙ chosen (is_bit all 8 && (is_bit all 10 && (waiting_in_block all).known)) (held_unit all (waiting_in_block all).waiting) _ number value e h

  words_set : (number : ℕ) → number ≤ 7 → SetRead value all number
  unfolding words unit_in_block unit_with waiting_in_block waitings number_set if
  words_set =
      by_eight (SetRead value all) (one_set 0 refl refl) (one_set 1 refl refl) (one_set 2 refl refl) (one_set 3 refl refl) (one_set 4 refl refl)
      (one_set 5 refl refl) (one_set 6 refl refl) (one_set 7 refl refl)

unit_set : (b : List ℕ) (value number : ℕ) → length b ≡ unit_size → number ≤ 7 → SetRead value b number
unit_set b value number e h = subst (λ (l : List ℕ). SetRead value l number) (is_words unit_size b e) (words_set b value number h)

-- ---- a state block

-- the chain's own words decide what is read beside the units and the paths
chain_same : (u : ReadUnit) (p q : ReadPath) (v : ReadUnit) (b b' : List ℕ) → ((j : ℕ) → j < chain_size → get_or b' j 0 ≡ get_or b j 0)
    → state_with u p q v b' ≡ state_with u p q v b
unfolding state_with chain_exists held_state stack_in_block tags_in_block payload_in_block
chain_same u p q v b b' e =
    rw (
      e 0 (omega arith),
      e 1 (omega arith),
      e 2 (omega arith),
      e 3 (omega arith),
      e 4 (omega arith),
      e 5 (omega arith),
      e 6 (omega arith),
      e 7 (omega arith),
      e 8 (omega arith),
      e 9 (omega arith),
      e 10 (omega arith),
      e 11 (omega arith),
      e 12 (omega arith),
    )

-- the units of a state that was read
tested : (t : Bool) (s s' : State) → (if t (read_state true s) (read_state false s')).known ≡ true → t ≡ true
unfolding if
tested true s s' h = refl
tested false s s' h = absurd (let z : ◌≡◌ {A = ℕ} 0 1 = cc in omega arith)

all_known : (u : ReadUnit) (p q : ReadPath) (v : ReadUnit) (b : List ℕ) → (state_with u p q v b).known ≡ true
    → (chain_exists b && ((u.known && v.known) && (p.known && q.known))) ≡ true
unfolding state_with
all_known u p q v b h = tested _ _ _ h

-- the state of a block, of its parts
whole : (b : List ℕ) → length b ≡ state_size
    → state_in_block b
    ≡ state_with (unit_in_block (part vif1_at unit_size b)) (path_in_block (part path2_at path_size b)) (path_in_block (part path3_at path_size b))
    (unit_in_block (part vif0_at unit_size b)) b
unfolding state_in_block if
whole b h = rw (eq-eqb (length b) state_size h)

-- a part of a block has its length
part_length : (b : List ℕ) (at n : ℕ) → at + n ≤ length b → length (part at n b) ≡ n
part_length b at n h = length-take-le n (drop at b) (rw (length-drop at b) (omega arith))

held_read : (u : ReadUnit) (p q : ReadPath) (v : ReadUnit) (b : List ℕ) → (chain_exists b && ((u.known && v.known) && (p.known && q.known))) ≡ true
    → state_with u p q v b ≡ read_state true (held_state b u.unit p.path q.path v.unit)
unfolding state_with if
held_read u p q v b h = rw h

-- a state whose parts were read, with one of its units changed
module _ (u : ReadUnit) (p q : ReadPath) (v : ReadUnit) (b : List ℕ) (known : (state_with u p q v b).known ≡ true) (f : Vif → Vif) where
  all_are : (chain_exists b && ((u.known && v.known) && (p.known && q.known))) ≡ true
  all_are = all_known u p q v b known

  pub units_are : (u.known && v.known) ≡ true
  units_are = and_left (u.known && v.known) (p.known && q.known) (and_right (chain_exists b) ((u.known && v.known) && (p.known && q.known)) all_are)

  abbrev Changed : VifUnit → ReadState → ReadState → Type 0
  Changed which r r' = r' ≡ read_state true (with_unit which r.state (f (held_by which r.state)) r.state.path2 r.state.used)

  with_vif1 : Changed Vif1 (state_with u p q v b) (state_with (read_unit true (f u.unit)) p q v b)
  unfolding held_state
  with_vif1 =
      subst (λ (r : ReadState). Changed Vif1 r (state_with (read_unit true (f u.unit)) p q v b)) (sym (held_read u p q v b all_are))
      (held_read (read_unit true (f u.unit)) p q v b (rw (and_left u.known v.known units_are) at all_are))

  with_vif0 : Changed Vif0 (state_with u p q v b) (state_with u p q (read_unit true (f v.unit)) b)
  unfolding held_state
  with_vif0 =
      subst (λ (r : ReadState). Changed Vif0 r (state_with u p q (read_unit true (f v.unit)) b)) (sym (held_read u p q v b all_are))
      (held_read u p q (read_unit true (f v.unit)) b (rw (and_right u.known v.known units_are) at all_are))

-- a state block with one of the eight numbers of a unit set
module _ (b : List ℕ) (number value : ℕ) (h : number ≤ 7) (l : length b ≡ state_size) (known : (state_in_block b).known ≡ true) where
  abbrev u : ReadUnit
  u = unit_in_block (part vif1_at unit_size b)

  abbrev v : ReadUnit
  v = unit_in_block (part vif0_at unit_size b)

  abbrev p : ReadPath
  p = path_in_block (part path2_at path_size b)

  abbrev q : ReadPath
  q = path_in_block (part path3_at path_size b)

  abbrev change : Vif → Vif
  change x = number_set x number value

  known_parts : (state_with u p q v b).known ≡ true
  known_parts = subst (λ (r : ReadState). r.known ≡ true) (whole b l) known

  both_known : (u.known && v.known) ≡ true
  both_known = units_are u p q v b known_parts change

  -- what holds of the state of the block's parts holds of the state of the block
  of_block : (P : ReadState → Type 0) → P (state_with u p q v b) → P (state_in_block b)
  of_block P x = subst P (sym (whole b l)) x

  set_vif1 : state_in_block (set b (vif1_at + (row_at + number)) value) ≡ read_state true (state_set 1 (state_in_block b).state number value)
  unfolding unit_of if
  set_vif1 =
      whole (set b (vif1_at + (row_at + number)) value) (length-set b (vif1_at + (row_at + number)) value ∙ l)
      ∙ rw (
        part_with b vif1_at unit_size (row_at + number) value (omega arith),
        part_behind b path2_at path_size (vif1_at + (row_at + number)) value (omega arith),
        part_behind b path3_at path_size (vif1_at + (row_at + number)) value (omega arith),
        part_behind b vif0_at unit_size (vif1_at + (row_at + number)) value (omega arith),
        unit_set (part vif1_at unit_size b) value number (part_length b vif1_at unit_size (omega arith)) h (and_left u.known v.known both_known),
        chain_same (read_unit true (change u.unit)) p q v b (set b (vif1_at + (row_at + number)) value)
            (λ j k. get_or-set_other b (vif1_at + (row_at + number)) j value 0 (λ e. absurd (omega arith))),
      )
      (of_block (λ (r : ReadState). state_with (read_unit true (change u.unit)) p q v b ≡ read_state true (state_set 1 r.state number value))
      (with_vif1 u p q v b known_parts change))

  set_vif0 : state_in_block (set b (vif0_at + (row_at + number)) value) ≡ read_state true (state_set 0 (state_in_block b).state number value)
  unfolding unit_of if
  set_vif0 =
      whole (set b (vif0_at + (row_at + number)) value) (length-set b (vif0_at + (row_at + number)) value ∙ l)
      ∙ rw (
        before vif1_at unit_size (omega arith),
        before path2_at path_size (omega arith),
        before path3_at path_size (omega arith),
        part_with b vif0_at unit_size (row_at + number) value (omega arith),
        unit_set (part vif0_at unit_size b) value number (part_length b vif0_at unit_size (omega arith)) h (and_right u.known v.known both_known),
        chain_same u p q (read_unit true (change v.unit)) b (set b (vif0_at + (row_at + number)) value)
            (λ j k. get_or-set_other b (vif0_at + (row_at + number)) j value 0 (λ e. absurd (omega arith))),
      )
      (of_block (λ (r : ReadState). state_with u p q (read_unit true (change v.unit)) b ≡ read_state true (state_set 0 r.state number value))
      (with_vif0 u p q v b known_parts change))
    where
      before : (at n : ℕ) → at + n ≤ vif0_at → part at n (set b (vif0_at + (row_at + number)) value) ≡ part at n b
      before at n m =
          let e : at + (vif0_at - at + (row_at + number)) ≡ vif0_at + (row_at + number) = omega arith in
          subst (λ (k : ℕ). part at n (set b k value) ≡ part at n b) e (part_before b at n (vif0_at - at + (row_at + number)) value (omega arith))

-- either unit
pub set_read : (b : List ℕ) (unit number value : ℕ) → number ≤ 7 → length b ≡ state_size → (state_in_block b).known ≡ true
    → state_in_block (set b (number_at unit number) value) ≡ read_state true (state_set unit (state_in_block b).state number value)
unfolding number_at unit_of if
set_read b unit number value h l known = go (eqb unit 0) refl
  where
    go : (t : Bool) → eqb unit 0 ≡ t → state_in_block (set b (number_at unit number) value) ≡ read_state true (state_set unit (state_in_block b).state number value)
    go true e = rw e (set_vif0 b number value h l known)
    go false e = rw e (set_vif1 b number value h l known)

-- a unit that is put back as it was
unit_back : (which : VifUnit) (s : State) → with_unit which s (held_by which s) s.path2 s.used ≡ s
unit_back Vif0 s = refl
unit_back Vif1 s = refl

-- in the block of a state, unit 0 or 1: the answer is that of the unit's register block, and so is what is read back, whatever the answer
module _ (b : List ℕ) (unit number value : ℕ) (k : unit ≤ 1) (l : length b ≡ state_size) (known : (state_in_block b).known ≡ true) where
  abbrev s : State
  s = (state_in_block b).state

  abbrev after : SetResult
  after = set_of (unit_held unit s) number value

  abbrev Same : SetBlock → Type 0
  Same r = (r.answer ≡ after.answer) × (state_in_block r.block ≡ read_state true (with_unit (unit_of unit) s after.block s.path2 s.used))

  unchanged : state_in_block b ≡ read_state true (with_unit (unit_of unit) s (unit_held unit s) s.path2 s.used)
  unchanged = rw (unit_back (unit_of unit) s) (ap (λ (t : Bool). read_state t s) known)

  pub block_as_unit : Same (set_in_block b unit number value)
  unfolding set_in_block set_of if
  block_as_unit = go (ltb 7 number) (is_waiting (unit_held unit s).waiting) refl refl
    where
      go : (t w : Bool) → ltb 7 number ≡ t → is_waiting (unit_held unit s).waiting ≡ w → Same (set_in_block b unit number value)
      go true w e f = rw e (refl, unchanged)
      go false true e f = rw (e, le-ltb 1 unit k, known, f) (refl, unchanged)
      go false false e f = rw (e, le-ltb 1 unit k, known, f) (refl, set_read b unit number value (ltb-false 7 number e) l known)
