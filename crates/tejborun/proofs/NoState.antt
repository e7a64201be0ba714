-- A block that is no state's: a call on it is refused with 1 to 5 and changes no memory and no block.
use mathlib.Core.Path.{◌≡◌, refl}
use mathlib.Core.Bool.{Bool, true, false, not, ◌&&◌}
use mathlib.Core.List.{List, [], ◌∷◌}
use Prim.Native.Nat.{ℕ, ◌+◌, ◌≤◌}
use native.Mathlib.Omega.{arith}
use borrow.Author.Tests.{eqb-false, eq-eqb, ne_eqb, le-ltb}
use lib.ListN.{length, get_or}
use lib.Dec.{eqb, ltb}
use Rattle.fields.specs.Counts.{none as noCounts, count_numbers}
use Rattle.fields.specs.Fields.{if}
use Rattle.fields.specs.Refusals.{main_length, log_length, out_of_range}
use Rattle.fields.proofs.ChoiceLaws.{if_ind}
use Rattle.memories.specs.declared.VifUnit.TheVariants.{Vif1}
use Rattle.memories.specs.Lengths.{Lent}
use Rattle.memories.proofs.LengthLaws.{lengths_most}
use Rattle.chain_state.specs.declared.State.{State}
use Rattle.chain_state.specs.Range.{unit_of, channel_in_range, start_in_range, state_in_range, entry_refusal}
use Rattle.state_block.specs.Sizes.{state_size}
use Rattle.state_block.specs.StateBlock.{used_in_block, no_state, read_state, state_in_block}
use Rattle.state_block.proofs.StateLaws.{none_read}
use Rattle.chain_state.specs.Start.{start_of}
use Rattle.chain.specs.Run.{run_of}
use Rattle.conformance.specs.Play.{play_refusal, play_of}
use Rattle.diagnosis.specs.Why.{why_of}
use Rattle.tejborun.specs.Buffers.{written, written_back, answered}
use Rattle.tejborun.specs.Runs.{Blocked, blocked, start_call, left as leftByRun, counts_size, run_call}
use Rattle.tejborun.specs.Play.{left as leftByPlay, play_call}
use Rattle.tejborun.specs.Reasons.{why_call}

-- a refusal's number
pub record OneToFive (n : ℕ) : Type 0 where
  pub some : 1 ≤ n
  pub most : n ≤ 5

-- the lengths are refused with 4 at most, and the last test holds at the latest
by_tests : (b t : Bool) (r rest : ℕ) → r ≤ log_length → t ≡ true → OneToFive (if b main_length (if (not (eqb r 0)) r (if t out_of_range rest)))
unfolding if
by_tests true t r rest l h = record { some = omega arith; most = omega arith }
by_tests false t r rest l h = go (eqb r 0) refl
  where
    go : (c : Bool) → eqb r 0 ≡ c → OneToFive (if (not (eqb r 0)) r (if t out_of_range rest))
    go true q = rw (q, h) (record { some = omega arith; most = omega arith })
    go false q = let z = eqb-false r 0 q in rw q (record { some = omega arith; most = omega arith })

-- the state that stands for none is out of range
never : (b : Bool) → (b && false) ≡ false
never true = refl
never false = refl

none_out : (channel used : ℕ) → state_in_range (no_state channel used) ≡ false
unfolding no_state state_in_range start_in_range
none_out channel used = rw (never (channel_in_range channel false))

module _ (main : List ℕ) (m : Lent) (s : State) (h : state_in_range s ≡ false) where
  entry_refused : OneToFive (entry_refusal main m s)
  unfolding entry_refusal
  entry_refused = by_tests _ _ _ _ (lengths_most (unit_of s.channel) m s.used) (rw h)

  play_refused_lem : (a : ℕ) → OneToFive (play_refusal main m s a)
  unfolding play_refusal
  play_refused_lem a = by_tests _ _ _ _ (lengths_most Vif1 m s.used) (rw h)

not_zero : {n : ℕ} → OneToFive n → n ≡ 0 → ⊥
not_zero h z = omega arith

module _ (block : List ℕ) (h : length block ≡ state_size) (unknown : (state_in_block block).known ≡ false) where
  -- the channel and the entries used are the block's
  abbrev pub stand_in : State
  stand_in = no_state (get_or block 0 0) (used_in_block block)

  out : state_in_range stand_in ≡ false
  out = none_out (get_or block 0 0) (used_in_block block)

  none : state_in_block block ≡ read_state false stand_in
  none = none_read block h unknown

  -- a start answers 5
  pub none_started : (channel tadr tte : ℕ) → start_call block channel tadr tte ≡ blocked 5 block
  unfolding start_call start_of written_back if
  none_started channel tadr tte =
      rw (eq-eqb (length block) state_size h)
      (if_ind (λ (x : Blocked). x ≡ blocked 5 block) (ltb 1 tte) refl (rw (none, out)))

  -- a run answers its entry refusal and counts no step
  pub none_run : (main : List ℕ) (m : Lent) (allowance : ℕ) (result : List ℕ) → counts_size ≤ length result
      → {n : ℕ}
      → n ≡ entry_refusal main m stand_in
      → (run_call main m block allowance result ≡ leftByRun n m block (written (count_numbers noCounts) result)) × OneToFive n
  unfolding run_call run_of written_back if
  none_run main m allowance result l e =
      let f = entry_refused main m stand_in out in
      (rw (eq-eqb (length block) state_size h, le-ltb (length result) counts_size l, none, ne_eqb _ 0 (not_zero f), ← e), rw e f)

  -- building and running answers the refusal before the sheet's
  pub none_played : (sheet main : List ℕ) (address : ℕ) (m : Lent) (allowance : ℕ) (result : List ℕ) → 1 + counts_size ≤ length result
      → {n : ℕ}
      → n ≡ play_refusal main m stand_in address
      → (play_call sheet main address m block allowance result ≡ leftByPlay n main m block (written (0 ∷ count_numbers noCounts) result)) × OneToFive n
  unfolding play_call play_of written_back if
  none_played sheet main address m allowance result l e =
      let f = play_refused_lem main m stand_in out address in
      (rw (eq-eqb (length block) state_size h, le-ltb (length result) (1 + counts_size) l, none, ne_eqb _ 0 (not_zero f), ← e), rw e f)

  -- why a run would stop: the same entry refusal
  pub none_why : (main : List ℕ) (m : Lent) (result : List ℕ) → 4 ≤ length result
      → {n : ℕ}
      → n ≡ entry_refusal main m stand_in
      → (why_call main m block result ≡ answered 2 (written (n ∷ 0 ∷ 0 ∷ 0 ∷ []) result)) × OneToFive n
  unfolding why_call why_of if
  none_why main m result l e =
      let f = entry_refused main m stand_in out in
      (rw (eq-eqb (length block) state_size h, le-ltb (length result) 4 l, none, ne_eqb _ 0 (not_zero f), ← e), rw e f)
