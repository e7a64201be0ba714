-- Demand 3 of build_and_run: where the sheet is accepted, what it leaves is demand 3's conclusion.
use mathlib.Core.Path.{◌≡◌, refl, sym, ap, ◌∙◌}
use mathlib.Core.Bool.{true, false, not, ◌&&◌}
use mathlib.Core.List.{List, [], ◌∷◌, ◌++◌}
use Prim.Native.Nat.{ℕ, ◌≤◌}
use native.Mathlib.Omega.{arith}
use borrow.Author.Tests.{ltb-false, not-false}
use lib.ListN.{length, take, drop, length-append, length-drop, take-append-drop}
use lib.Seq.{length-take-le, drop_at}
use lib.Dec.{ltb}
use Rattle.fields.specs.Fields.{if}
use Rattle.fields.specs.Refusals.{main_length, out_of_range}
use Rattle.fields.proofs.ChoiceLaws.{if_ind_by, if_zero, and_left, and_right}
use Rattle.memories.specs.declared.VifUnit.TheVariants.{Vif1}
use Rattle.memories.specs.Lengths.{Lent, LengthsFit}
use Rattle.memories.proofs.LengthLaws.{fit_lengths, fit_first}
use Rattle.chain_state.specs.StartAnswer.{Started}
use Rattle.chain_state.specs.declared.State.{State}
use Rattle.chain_state.specs.Range.{main_refused, state_in_range, start_in_range}
use Rattle.chain_state.specs.Start.{StartResult, start_result, started_from, start_of}
use Rattle.chain.specs.Inner.{Ready}
use Rattle.chain.proofs.ReadyLaws.{tadr_whole}
use Rattle.sheet.specs.BuildAnswer.{Built}
use Rattle.sheet.specs.Records.{Record}
use Rattle.sheet.specs.Reader.{Contents, valid, refused}
use Rattle.sheet.specs.Editions.{contents_of}
use Rattle.sheet.specs.Layout.{laid_out, chain_of}
use Rattle.sheet.specs.Build.{Left, built_from, build_of}
use Rattle.conformance.specs.PlayAnswer.{Ended}
use Rattle.conformance.specs.Demand.{Typed, Premises, run_from}
use Rattle.conformance.specs.Play.{play_ran, play_refusal, play_of, PlayPremises, PlayConclusion}
use Rattle.conformance.proofs.StartLaws.{start_accepted, start_ready}
use Rattle.conformance.proofs.Theorem.{demand_3}

-- ---- the builder's output

-- a chain has an end tag at least
chain_some : (rs : List Record) → 1 ≤ length (chain_of rs)
unfolding chain_of
chain_some [] = omega arith
chain_some (r ∷ rs) = let h = chain_some rs in let l = length-append (laid_out r) (chain_of rs) in omega arith

-- an output that took a chain
record Took (output after : List ℕ) : Type 0 where
  some : 1 ≤ length output
  same : length after ≡ length output

took_by : (c : Contents) (output : List ℕ) {size : ℕ} → (built_from c output).answer ≡ Built size → Took output (built_from c output).output
took_by (refused n offset) output h = absurd (let z : ◌≡◌ {A = ℕ} 0 1 = cc in omega arith)
took_by (valid rs) output {size} h =
    if_ind_by (λ (l : Left). l.answer ≡ Built size → Took output l.output) (ltb (length output) (length (chain_of rs)))
    (λ t q. absurd (let z : ◌≡◌ {A = ℕ} 0 1 = cc in omega arith)) (λ t q. stores (ltb-false (length output) (length (chain_of rs)) t)) h
  where
    stores : length (chain_of rs) ≤ length output → Took output (chain_of rs ++ drop (length (chain_of rs)) output)
    stores f =
        let k = chain_some rs in
        let d = length-drop (length (chain_of rs)) output in
        let l = length-append (chain_of rs) (drop (length (chain_of rs)) output) in
        record { some = omega arith; same = omega arith }

took : (sheet output : List ℕ) {size : ℕ} → (build_of sheet output).answer ≡ Built size → Took output (build_of sheet output).output
unfolding build_of
took sheet output h = took_by (contents_of sheet) output h

-- ---- the tests before the sheet's

pub record Passed (main : List ℕ) (m : Lent) (s : State) (a : ℕ) : Type 0 where
  pub size : main_refused (length main) ≡ false
  pub fit : LengthsFit Vif1 m s.used
  pub ranged : state_in_range s ≡ true
  pub starts : start_in_range 1 a false ≡ true

passed_of : (main : List ℕ) (m : Lent) (s : State) (a : ℕ) → play_refusal main m s a ≡ 0 → Passed main m s a
unfolding play_refusal
passed_of main m s a h =
    let b = if_zero (main_refused (length main)) main_length (omega arith) h in
    let c = fit_first Vif1 m s.used b.1 in
    let d = not-false (state_in_range s && start_in_range 1 a false) (if_zero (not (state_in_range s && start_in_range 1 a false)) out_of_range (omega arith) c.1).0 in
    record { size = b.0; fit = c.0; ranged = and_left _ _ d; starts = and_right (state_in_range s) _ d }

pub passed_by : {main : List ℕ} {m : Lent} {s : State} {a : ℕ} → Passed main m s a → play_refusal main m s a ≡ 0
unfolding play_refusal if
passed_by {main} {m} {s} {a} p = rw (p.size, fit_lengths Vif1 m s.used p.fit, p.ranged, p.starts)

-- ---- demand 3

module _ (sheet main : List ℕ) (a allowance : ℕ) (s : State) (m : Lent) (t : Typed sheet s) (p : PlayPremises sheet main a allowance s m) where
  abbrev after : List ℕ
  after = (build_of sheet (drop a main)).output

  abbrev built_in : List ℕ
  built_in = take a main ++ after

  passes : Passed main m s a
  passes = passed_of main m s a p.passed

  inside : a ≤ length main
  inside =
      let k = (took sheet (drop a main) p.built).some in
      let d = length-drop a main in
      omega arith

  before_length : length (take a main) ≡ a
  before_length = length-take-le a main inside

  same_length : length built_in ≡ length main
  same_length =
      let k = (took sheet (drop a main) p.built).same in
      let d = length-drop a main in
      let b = before_length in
      let i = inside in
      length-append (take a main) after ∙ omega arith

  begun : start_of s 1 a false ≡ start_result Started (started_from s 1 a false)
  begun = start_accepted s a passes.ranged passes.starts

  ready : Ready built_in (started_from s 1 a false) m
  ready = start_ready s a passes.ranged passes.starts built_in m (rw same_length passes.size) passes.fit

  premises : Premises sheet (drop a main) built_in a p.size allowance s m
  premises =
      record {
        built = p.built;
        rest = drop p.size after;
        placed = drop_at (take a main) after a before_length ∙ sym (take-append-drop p.size after);
        aligned = tadr_whole ready;
        started = ap (λ (r : StartResult). r.answer) begun;
        entered = rw begun ready.passed;
        idle = p.idle;
        path_idle = p.path_idle;
        room = p.room;
        allowed = p.allowed;
      }

  play_is : play_of sheet main a s m allowance ≡ play_ran (run_from built_in a allowance s m) built_in
  unfolding play_of if
  play_is = rw (p.passed, p.built)

  -- demand 3 in one call: the sheet built in main memory, started and run
  pub play_demand_3 : PlayConclusion sheet main a s m (play_of sheet main a s m allowance)
  play_demand_3 =
      let c = demand_3 sheet (drop a main) built_in a p.size allowance s m t premises in
      rw play_is
      (record {
        done = ap Ended c.done;
        steps = c.steps;
        main_memory = refl;
        mem = c.mem;
        code = c.code;
        used = c.used;
        entries = c.entries;
        log_length_lem = c.log_length_lem;
        log_rest = c.log_rest;
      })
