-- Demand 3 speaks of something: for every accepted sheet of either edition the reset state, with memories of the right lengths, meets every premise.
use mathlib.Core.Path.{◌≡◌, refl, sym, ap, ◌∙◌}
use mathlib.Core.Bool.{true, false, not}
use mathlib.Core.List.{List, [], ◌++◌, append-nil}
use Prim.Native.Nat.{ℕ, ◌+◌, ◌*◌, ◌%◌, ◌^◌, ◌≤◌}
use native.Mathlib.Omega.{arith}
use borrow.Author.Tests.{ltb-false, le-ltb, lt-ltb, eq-eqb}
use lib.ListN.{length, take, drop, length-drop}
use lib.Seq.{take_at}
use lib.Dec.{eqb, ltb}
use Rattle.fields.specs.Fields.{if}
use Rattle.fields.proofs.ChoiceLaws.{or_right}
use Rattle.gif.specs.Log.{entry_size, log_most, entries_in, log_refused}
use Rattle.memories.specs.declared.VifUnit.TheVariants.{Vif1}
use Rattle.memories.specs.Units.{data_words, code_bytes}
use Rattle.memories.specs.Lengths.{Lent, LengthsFit}
use Rattle.vif_codes.specs.Range.{registers_in_range, waiting_in_range, unit_in_range}
use Rattle.chain_state.specs.StartAnswer.{Started}
use Rattle.chain_state.specs.Range.{main_refused, channel_in_range, state_in_range, start_in_range, stack_in_range, tags_in_range, payload_in_range}
use Rattle.chain_state.specs.Start.{StartResult, reset_state, start_result, started_from, start_of}
use Rattle.sheet.specs.BuildAnswer.{Built}
use Rattle.sheet.specs.Records.{Record, longest}
use Rattle.sheet.specs.Reader.{valid}
use Rattle.sheet.specs.Items.{Items, expanded}
use Rattle.sheet.specs.Editions.{deepest, longest_chain, contents_of}
use Rattle.sheet.specs.Whole.{AllMeet, sheet_bytes, items_bytes, edition_bytes, ItemsMeet}
use Rattle.sheet.specs.Sizes.{sheet_quadwords, sheet_steps}
use Rattle.sheet.specs.Layout.{chain_of}
use Rattle.sheet.specs.Build.{stored, build_of}
use Rattle.sheet.specs.Meaning.{plain}
use Rattle.sheet.proofs.EditionLaws.{contents_meet, contents_short}
use Rattle.sheet.proofs.AcceptLaws.{reader_takes_all}
use Rattle.sheet.proofs.TakenLaws.{tree_takes_all}
use Rattle.sheet.proofs.MeasureLaws.{quadwords_some, entries_few}
use Rattle.sheet.proofs.LayoutLaws.{chain_length}
use Rattle.sheet.proofs.MeaningLaws.{meaning_count}
use Rattle.conformance.specs.Demand.{records_of, means_from, Premises}
use Rattle.conformance.specs.Play.{PlayPremises}
use Rattle.conformance.proofs.StartLaws.{start_accepted, start_ready, main_passes}
use Rattle.conformance.proofs.PlayLaws.{passed_by}

-- ---- the reset state

pub reset_ranged : state_in_range reset_state ≡ true
unfolding reset_state state_in_range start_in_range channel_in_range stack_in_range tags_in_range payload_in_range unit_in_range registers_in_range waiting_in_range
reset_ranged = refl

pub reset_used : reset_state.used ≡ 0
unfolding reset_state
reset_used = refl

-- ---- the premises

module _ (sheet : List ℕ) (rs : List Record) (c : contents_of sheet ≡ valid rs) where
  chain_whole : length (chain_of rs) ≡ 16 * sheet_quadwords rs
  chain_whole = chain_length (contents_meet sheet rs c)

  records_are : records_of sheet ≡ rs
  unfolding records_of
  records_are = rw c

  built_all : (output : List ℕ) → length (chain_of rs) ≤ length output
      → ((build_of sheet output).answer ≡ Built (length (chain_of rs))) × ((build_of sheet output).output ≡ stored (chain_of rs) output)
  unfolding build_of if
  built_all output wide = rw (c, le-ltb (length output) (length (chain_of rs)) wide) (refl, refl)

  -- a place in main memory that the chain fits in
  module _ (main : List ℕ) (a allowance : ℕ) (m : Lent) (inside : a + length (chain_of rs) ≤ length main) (aligned : a % 16 ≡ 0)
      (size : main_refused (length main) ≡ false) (words : length m.mem ≡ data_words Vif1) (bytes : length m.code ≡ code_bytes Vif1) (log : length m.log ≡ log_most)
      (allowed : sheet_steps rs ≤ allowance) where
    most : length main ≤ 1048576
    unfolding main_refused
    most = ltb-false 1048576 (length main) (or_right (not (eqb (length main % 16) 0)) (ltb 1048576 (length main)) (or_right (eqb (length main) 0) _ size))

    starts : start_in_range 1 a false ≡ true
    unfolding start_in_range channel_in_range
    starts = let l = most in rw (eq-eqb (a % 16) 0 aligned, lt-ltb a (2 ^ 31) (omega arith))

    begun : start_of reset_state 1 a false ≡ start_result Started (started_from reset_state 1 a false)
    begun = start_accepted reset_state a reset_ranged starts

    fit : LengthsFit Vif1 m reset_state.used
    unfolding log_refused reset_state
    fit = record { long = words; wide = bytes; logged = rw log }

    -- the log has room for every entry
    room_all : entry_size * length (means_from sheet reset_state m).entries ≤ length m.log
    unfolding reset_state
    room_all =
        let n = meaning_count rs (plain m.mem m.code (entries_in m.log 0)) in
        let e = entries_few rs in
        let l = contents_short sheet rs c in
        let w = chain_whole in
        rw records_are (omega arith)

    -- the chain built there
    pub reset_plays : PlayPremises sheet main a allowance reset_state m
    unfolding reset_state
    reset_plays =
        let d = length-drop a main in
        record {
          passed = passed_by (record { size = size; fit = fit; ranged = reset_ranged; starts = starts });
          size = length (chain_of rs);
          built = (built_all (drop a main) (omega arith)).0;
          idle = refl;
          path_idle = refl;
          room = room_all;
          allowed = rw records_are allowed;
        }

    -- and the chain built anywhere that lies there
    pub reset_meets : (output rest : List ℕ) → length (chain_of rs) ≤ length output → drop a main ≡ chain_of rs ++ rest
        → Premises sheet output main a (length (chain_of rs)) allowance reset_state m
    unfolding reset_state
    reset_meets output rest wide placed =
        let b = built_all output wide in
        record {
          built = b.0;
          rest = rest;
          placed = placed ∙ ap (λ (l : List ℕ). l ++ rest) (sym (take_at (chain_of rs) (drop (length (chain_of rs)) output) (length (chain_of rs)) refl) ∙ ap (take (length (chain_of rs))) (sym b.1));
          aligned = aligned;
          started = ap (λ (r : StartResult). r.answer) begun;
          entered = rw begun (start_ready reset_state a reset_ranged starts main m size fit).passed;
          idle = refl;
          path_idle = refl;
          room = room_all;
          allowed = rw records_are allowed;
        }

  -- there is such a place: a main memory as long as the chain
  module _ (main : List ℕ) (m : Lent) (long : length main ≡ length (chain_of rs)) (words : length m.mem ≡ data_words Vif1) (bytes : length m.code ≡ code_bytes Vif1)
      (log : length m.log ≡ log_most) where
    taken_whole : main_refused (length main) ≡ false
    taken_whole =
        let s = quadwords_some rs in
        let l = contents_short sheet rs c in
        let w = chain_whole in
        main_passes (length main) (λ z. omega arith) (omega arith) (omega arith)

    pub play_not_empty : PlayPremises sheet main 0 (sheet_steps rs) reset_state m
    play_not_empty = reset_plays main 0 (sheet_steps rs) m (omega arith) (omega arith) taken_whole words bytes log (omega arith)

  -- or the chain itself
  pub not_empty : (m : Lent) → length m.mem ≡ data_words Vif1 → length m.code ≡ code_bytes Vif1 → length m.log ≡ log_most
      → Premises sheet (chain_of rs) (chain_of rs) 0 (length (chain_of rs)) (sheet_steps rs) reset_state m
  not_empty m words bytes log =
      reset_meets (chain_of rs) 0 (sheet_steps rs) m (omega arith) (omega arith) (taken_whole (chain_of rs) m refl words bytes log) words bytes log (omega arith) (chain_of rs) [] (omega arith) (sym (append-nil (chain_of rs)))

-- and there are accepted sheets of both editions: all records that meet their rows, and all items that meet theirs and whose chain is not too long
module _ (m : Lent) (words : length m.mem ≡ data_words Vif1) (bytes : length m.code ≡ code_bytes Vif1) (log : length m.log ≡ log_most) where
  pub first_not_empty : (rs : List Record) → AllMeet rs → length (sheet_bytes rs) ≤ longest
      → Premises (sheet_bytes rs) (chain_of rs) (chain_of rs) 0 (length (chain_of rs)) (sheet_steps rs) reset_state m
  first_not_empty rs ms h = not_empty (sheet_bytes rs) rs (reader_takes_all rs ms h) m words bytes log

  pub second_not_empty : (is : Items) → ItemsMeet deepest is → length (edition_bytes ++ items_bytes is) ≤ longest → length (chain_of (expanded is)) ≤ longest_chain
      → Premises (edition_bytes ++ items_bytes is) (chain_of (expanded is)) (chain_of (expanded is)) 0 (length (chain_of (expanded is))) (sheet_steps (expanded is)) reset_state m
  second_not_empty is ms h l = not_empty (edition_bytes ++ items_bytes is) (expanded is) (tree_takes_all is ms h l) m words bytes log
