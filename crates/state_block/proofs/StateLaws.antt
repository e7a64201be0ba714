-- A state's block gives the state back.
use Rattle.std.specs.Prelude.{None, Option, Some}
use mathlib.Core.Path.{◌≡◌, refl, ◌∙◌}
use mathlib.Core.Bool.{Bool, true, false, ◌&&◌}
use mathlib.Core.List.{List, ◌++◌}
use Prim.Native.Nat.{ℕ, zero, suc}
use native.Mathlib.Omega.{arith}
use borrow.Author.Tests.{eq-eqb, ne_eqb, leb-true}
use Rattle.std.specs.Bool.{then_some}
use Rattle.std.proofs.Math.Bool.{and-false}
use lib.ListN.{get_or, length, length-append}
use lib.Dec.{eqb, leb}
use Rattle.fields.specs.Fields.{if}
use Rattle.fields.specs.Parts.{with_words}
use Rattle.fields.proofs.ChoiceLaws.{if_ind}
use Rattle.chain_state.specs.declared.Stack.{Stack}
use Rattle.chain_state.specs.declared.Stack.TheVariants.{Empty, One, Two}
use Rattle.chain_state.specs.declared.Payload.{Payload}
use Rattle.chain_state.specs.declared.Payload.TheVariants.{Nothing as NoPayload, Words}
use Rattle.chain_state.specs.declared.State.{State}
use Rattle.gif.specs.declared.Path.{Path}
use Rattle.vif_codes.specs.declared.Vif.{Vif}
use Rattle.state_block.specs.Words.{is_bit, bit_at}
use Rattle.state_block.specs.Read.{ReadPath, ReadUnit, ReadState, known_path, known_unit, known_state}
use Rattle.state_block.specs.Sizes.{path_size, unit_size, chain_size, vif1_at, path2_at, path3_at, vif0_at, state_size, part}
use Rattle.state_block.specs.PathBlock.{path_block, path_in_block}
use Rattle.state_block.specs.UnitBlock.{unit_block, unit_in_block}
use Rattle.state_block.specs.StateBlock.{stack_words, tags_block, payload_block, chain_words, state_block, chain_exists, stack_in_block, tags_in_block, payload_in_block, used_in_block, held_state, no_state, read_state, state_with, state_in_block}
use Rattle.state_block.proofs.WordLaws.{bit_is, bit_back, long_back, then_is}
use Rattle.state_block.proofs.PartLaws.{part_kept, part_last, begins_none, begins_more, begins_all}
use Rattle.state_block.proofs.PathLaws.{path_length, path_back}
use Rattle.state_block.proofs.UnitLaws.{unit_length, unit_back}

-- ---- the parts of a block

-- the parts that lie in a block
pub record Parts (block u p q v : List ℕ) : Type 0 where
  pub all : length block ≡ state_size
  pub vif1 : part vif1_at unit_size block ≡ u
  pub path2 : part path2_at path_size block ≡ p
  pub path3 : part path3_at path_size block ≡ q
  pub vif0 : part vif0_at unit_size block ≡ v

module _ (c u p q v : List ℕ) (hc : length c ≡ chain_size) (hu : length u ≡ unit_size) (hp : length p ≡ path_size) (hq : length q ≡ path_size) (hv : length v ≡ unit_size) where
  -- the words before each part
  to_path2 : length (c ++ u) ≡ path2_at
  to_path2 = rw (length-append c u, hc, hu)

  to_path3 : length (c ++ u ++ p) ≡ path3_at
  to_path3 = rw (length-append (c ++ u) p, to_path2, hp)

  to_vif0 : length (c ++ u ++ p ++ q) ≡ vif0_at
  to_vif0 = rw (length-append (c ++ u ++ p) q, to_path3, hq)

  all_words : length (c ++ u ++ p ++ q ++ v) ≡ state_size
  all_words = rw (length-append (c ++ u ++ p ++ q) v, to_vif0, hv)

  taken_apart : Parts (c ++ u ++ p ++ q ++ v) u p q v
  taken_apart =
      record {
        all = all_words;
        vif1 =
            part_kept (c ++ u ++ p ++ q) v vif1_at unit_size (omega (arith, to_vif0))
            ∙ part_kept (c ++ u ++ p) q vif1_at unit_size (omega (arith, to_path3))
            ∙ part_kept (c ++ u) p vif1_at unit_size (omega (arith, to_path2))
            ∙ part_last c u vif1_at unit_size hc hu;
        path2 =
            part_kept (c ++ u ++ p ++ q) v path2_at path_size (omega (arith, to_vif0))
            ∙ part_kept (c ++ u ++ p) q path2_at path_size (omega (arith, to_path3))
            ∙ part_last (c ++ u) p path2_at path_size to_path2 hp;
        path3 = part_kept (c ++ u ++ p ++ q) v path3_at path_size (omega (arith, to_vif0)) ∙ part_last (c ++ u ++ p) q path3_at path_size to_path3 hq;
        vif0 = part_last (c ++ u ++ p ++ q) v vif0_at unit_size to_vif0 hv;
      }

  -- stored one after another
  stored : (z : List ℕ) {b1 b2 b3 b4 b5 : List ℕ} → length z ≡ state_size
      → b1 ≡ with_words z 0 c
      → b2 ≡ with_words b1 vif1_at u
      → b3 ≡ with_words b2 path2_at p
      → b4 ≡ with_words b3 path3_at q
      → b5 ≡ with_words b4 vif0_at v
      → b5 ≡ c ++ u ++ p ++ q ++ v
  stored z n e f g h i =
      let b1 = begins_more (begins_none z n) c 0 chain_size refl hc (omega arith) e in
      let b2 = begins_more b1 u vif1_at unit_size hc hu (omega arith) f in
      let b3 = begins_more b2 p path2_at path_size to_path2 hp (omega arith) g in
      let b4 = begins_more b3 q path3_at path_size to_path3 hq (omega arith) h in
      let b5 = begins_more b4 v vif0_at unit_size to_vif0 hv (omega arith) i in
      begins_all b5 all_words

-- the words of a state, stored part by part
pub state_stored : (s : State) (z : List ℕ) {c u p q v b1 b2 b3 b4 b5 : List ℕ} → length z ≡ state_size
    → c ≡ chain_words s
    → u ≡ unit_block s.vif1
    → p ≡ path_block s.path2
    → q ≡ path_block s.path3
    → v ≡ unit_block s.vif0
    → b1 ≡ with_words z 0 c
    → b2 ≡ with_words b1 vif1_at u
    → b3 ≡ with_words b2 path2_at p
    → b4 ≡ with_words b3 path3_at q
    → b5 ≡ with_words b4 vif0_at v
    → b5 ≡ state_block s
unfolding state_block chain_words
state_stored s z {c} {u} {p} {q} {v} n e f g h w i j k l m =
    stored c u p q v (rw e) (rw f (unit_length s.vif1)) (rw g (path_length s.path2)) (rw h (path_length s.path3)) (rw w (unit_length s.vif0)) z n i j k l m
    ∙ rw (e, f, g, h, w)

-- ---- the chain's own words

depth_is : (k : Stack) → leb (get_or (stack_words k) 0 0) 2 ≡ true
depth_is Empty = refl
depth_is (One a) = refl
depth_is (Two a b) = refl

tags_is : (k : Option ℕ) → leb (get_or (tags_block k) 0 0) 1 ≡ true
tags_is None = refl
tags_is (Some at) = refl

stack_of : (b : List ℕ) (k : Stack)
    → get_or b 4 0 ≡ get_or (stack_words k) 0 0
    → get_or b 5 0 ≡ get_or (stack_words k) 1 0
    → get_or b 6 0 ≡ get_or (stack_words k) 2 0
    → stack_in_block b ≡ k
unfolding stack_in_block if
stack_of b Empty e f g = rw e
stack_of b (One x) e f g = rw (e, f)
stack_of b (Two x y) e f g = rw (e, f, g)

tags_of : (b : List ℕ) (k : Option ℕ)
    → get_or b 7 0 ≡ get_or (tags_block k) 0 0
    → get_or b 8 0 ≡ get_or (tags_block k) 1 0
    → tags_in_block b ≡ k
unfolding tags_in_block if
tags_of b None e f = rw e
tags_of b (Some at) e f = rw (e, f)

-- a payload of no words is written as no payload, so the block does not tell them apart
pub empty_written : (at : ℕ) → payload_block (Words at 0) ≡ payload_block NoPayload
unfolding if
empty_written at = refl

abbrev pub empty_words : Payload → Bool
empty_words NoPayload = false
empty_words (Words at count) = eqb count 0

payload_of_lem : (b : List ℕ) (k : Payload)
    → empty_words k ≡ false
    → get_or b 9 0 ≡ get_or (payload_block k) 0 0
    → get_or b 10 0 ≡ get_or (payload_block k) 1 0
    → payload_in_block b ≡ k
unfolding payload_in_block if
payload_of_lem b NoPayload h e f = rw e
payload_of_lem b (Words at count) h e f = rw (e, f, h)

-- a state's words are a state's, and give it back
chain_is : (s : State) → chain_exists (state_block s) ≡ true
unfolding chain_exists state_block chain_words
chain_is s = rw (bit_is s.tte, bit_is s.ended, depth_is s.stack, tags_is s.tags)

held_back : (s : State) → empty_words s.payload ≡ false → held_state (state_block s) s.vif1 s.path2 s.path3 s.vif0 ≡ s
unfolding held_state state_block chain_words
held_back s h =
    rw (
      bit_back s.tte,
      bit_back s.ended,
      stack_of (state_block s) s.stack refl refl refl,
      tags_of (state_block s) s.tags refl refl,
      payload_of_lem (state_block s) s.payload h refl refl,
      long_back s.used,
    )

-- ---- states

pub state_parts : (s : State) → Parts (state_block s) (unit_block s.vif1) (path_block s.path2) (path_block s.path3) (unit_block s.vif0)
unfolding state_block chain_words
state_parts s =
    taken_apart (chain_words s) _ _ _ _ refl (unit_length s.vif1) (path_length s.path2) (path_length s.path3) (unit_length s.vif0)

-- the state of parts that were read
whole_read : (b : List ℕ) → length b ≡ state_size
    → state_in_block b
    ≡ state_with (unit_in_block (part vif1_at unit_size b)) (path_in_block (part path2_at path_size b)) (path_in_block (part path3_at path_size b))
    (unit_in_block (part vif0_at unit_size b)) b
unfolding state_in_block if
whole_read b h = rw (eq-eqb (length b) state_size h)

pub state_read : (b : List ℕ) {u v : ReadUnit} {p q : ReadPath} {r : ReadState} → length b ≡ state_size
    → u ≡ unit_in_block (part vif1_at unit_size b)
    → p ≡ path_in_block (part path2_at path_size b)
    → q ≡ path_in_block (part path3_at path_size b)
    → v ≡ unit_in_block (part vif0_at unit_size b)
    → r ≡ state_with u p q v b
    → r ≡ state_in_block b
state_read b h e f g i k = rw (whole_read b h, ← e, ← f, ← g, ← i, k)

-- where there is none
none_with : (u : ReadUnit) (p q : ReadPath) (v : ReadUnit) (b : List ℕ) → (state_with u p q v b).known ≡ false
    → state_with u p q v b ≡ read_state false (no_state (get_or b 0 0) (used_in_block b))
unfolding state_with
none_with u p q v b =
    if_ind (λ (r : ReadState). r.known ≡ false → r ≡ read_state false (no_state (get_or b 0 0) (used_in_block b))) _
    (λ h. absurd (let z : ◌≡◌ {A = ℕ} 0 1 = cc in omega arith))
    (λ h. refl)

pub none_read : (b : List ℕ) → length b ≡ state_size → (state_in_block b).known ≡ false
    → state_in_block b ≡ read_state false (no_state (get_or b 0 0) (used_in_block b))
none_read b h e = rw (whole_read b h) (none_with _ _ _ _ b (rw (whole_read b h) at e))

-- writing a state and reading the block gives the state back; ROW and COL are four words in every unit, and a payload of no words, which is read back as none,
-- is left out
pub state_back : (s : State) → length s.vif1.row ≡ 4 → length s.vif1.col ≡ 4 → length s.vif0.row ≡ 4 → length s.vif0.col ≡ 4
    → empty_words s.payload ≡ false
    → state_in_block (state_block s) ≡ read_state true s
unfolding state_in_block state_with if
state_back s h k h0 k0 e =
    let a = state_parts s in
    rw (
      a.all,
      a.vif1,
      a.path2,
      a.path3,
      a.vif0,
      unit_back s.vif1 h k,
      unit_back s.vif0 h0 k0,
      path_back s.path2,
      path_back s.path3,
      chain_is s,
      held_back s e,
    )

-- ---- what is read

-- the parts of a block, as they are read
abbrev pub parts_read : List ℕ → ReadState
parts_read b =
    state_with (unit_in_block (part vif1_at unit_size b)) (path_in_block (part path2_at path_size b)) (path_in_block (part path3_at path_size b))
    (unit_in_block (part vif0_at unit_size b)) b

module _ (b : List ℕ) where
  -- words that are no state's
  pub chain_missing : chain_exists b ≡ false → None ≡ known_state (parts_read b)
  unfolding state_with if
  chain_missing e = rw e

  pub vif1_missing : (unit_in_block (part vif1_at unit_size b)).known ≡ false → None ≡ known_state (parts_read b)
  unfolding state_with if
  vif1_missing e = rw (e, and-false (chain_exists b))

  pub vif0_missing : (unit_in_block (part vif0_at unit_size b)).known ≡ false → None ≡ known_state (parts_read b)
  unfolding state_with if
  vif0_missing e = rw (e, and-false (unit_in_block (part vif1_at unit_size b)).known, and-false (chain_exists b))

  pub path2_missing : (path_in_block (part path2_at path_size b)).known ≡ false → None ≡ known_state (parts_read b)
  unfolding state_with if
  path2_missing e =
      rw (e, and-false ((unit_in_block (part vif1_at unit_size b)).known && (unit_in_block (part vif0_at unit_size b)).known), and-false (chain_exists b))

  pub path3_missing : (path_in_block (part path3_at path_size b)).known ≡ false → None ≡ known_state (parts_read b)
  unfolding state_with if
  path3_missing e =
      rw (
        e,
        and-false (path_in_block (part path2_at path_size b)).known,
        and-false ((unit_in_block (part vif1_at unit_size b)).known && (unit_in_block (part vif0_at unit_size b)).known),
        and-false (chain_exists b),
      )

  pub no_bit_2 : is_bit b 2 ≡ false → chain_exists b ≡ false
  unfolding chain_exists
  no_bit_2 e = rw e

  pub no_bit_3 : is_bit b 3 ≡ false → chain_exists b ≡ false
  unfolding chain_exists
  no_bit_3 e = rw (e, and-false (is_bit b 2))

  pub no_depth : leb (get_or b 4 0) 2 ≡ false → chain_exists b ≡ false
  unfolding chain_exists
  no_depth e = rw (e, and-false (is_bit b 3), and-false (is_bit b 2))

  pub no_bit_7 : is_bit b 7 ≡ false → chain_exists b ≡ false
  unfolding chain_exists
  no_bit_7 e = rw (e, and-false (leb (get_or b 4 0) 2), and-false (is_bit b 3), and-false (is_bit b 2))

  -- the pending tag words, by a bit
  tags_by_bit : is_bit b 7 ≡ true → then_some (bit_at b 7) (get_or b 8 0) ≡ tags_in_block b
  unfolding tags_in_block if
  tags_by_bit e = by_number (get_or b 7 0) (get_or b 8 0) e
    where
      by_number : (n x : ℕ) → leb n 1 ≡ true → then_some (eqb n 1) x ≡ (if (eqb n 0) None (Some x))
      by_number zero x e = refl
      by_number (suc zero) x e = refl
      by_number (suc (suc n)) x e = absurd (omega (arith, leb-true (suc (suc n)) 1 e))

  pub state_is : {t e : Bool} → Some t ≡ then_some (leb (get_or b 2 0) 1) (eqb (get_or b 2 0) 1)
      → Some e ≡ then_some (leb (get_or b 3 0) 1) (eqb (get_or b 3 0) 1)
      → {k : Stack}
      → Some k ≡ then_some (leb (get_or b 4 0) 2) (stack_in_block b)
      → {i : Bool}
      → Some i ≡ then_some (leb (get_or b 7 0) 1) (eqb (get_or b 7 0) 1)
      → {u v : Vif} {p q : Path}
      → Some u ≡ known_unit (unit_in_block (part vif1_at unit_size b))
      → Some p ≡ known_path (path_in_block (part path2_at path_size b))
      → Some q ≡ known_path (path_in_block (part path3_at path_size b))
      → Some v ≡ known_unit (unit_in_block (part vif0_at unit_size b))
      → {s : State}
      → s ≡ record (held_state b u p q v) { tte = t; ended = e; stack = k; tags = then_some i (get_or b 8 0) }
      → Some s ≡ known_state (parts_read b)
  unfolding state_with chain_exists held_state if
  state_is d e k i u p q v s =
      let d' = then_is _ _ _ d in
      let e' = then_is _ _ _ e in
      let k' = then_is _ _ _ k in
      let i' = then_is _ _ _ i in
      let u' = then_is _ _ _ u in
      let p' = then_is _ _ _ p in
      let q' = then_is _ _ _ q in
      let v' = then_is _ _ _ v in
      rw (s, d'.0, e'.0, k'.0, i'.0, u'.0, p'.0, q'.0, v'.0, d'.1, e'.1, k'.1, i'.1, u'.1, p'.1, q'.1, v'.1, tags_by_bit i'.0)

  pub none_long : (length b ≡ state_size → ⊥) → state_in_block b ≡ read_state false (no_state 1 0)
  unfolding state_in_block if
  none_long h = rw (ne_eqb (length b) state_size h)

  pub words_read : length b ≡ state_size → known_state (parts_read b) ≡ known_state (state_in_block b)
  words_read h = rw (whole_read b h)

  -- what stands for the state of words that are none's
  pub none_stands : length b ≡ state_size → (state_in_block b).known ≡ false
      → (state_in_block b).state ≡ no_state (get_or b 0 0) (used_in_block b)
  none_stands h e = rw (none_read b h e)
