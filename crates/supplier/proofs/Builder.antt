-- Request 13: "The chain our builder makes of the sheet is accepted when allowance and log suffice." It comes from demand 3, for sheets of both editions.
use mathlib.Core.Path.{◌≡◌, refl, ap, ◌∙◌}
use mathlib.Core.List.{List}
use Prim.Native.Nat.{ℕ}
use native.Mathlib.Omega.{arith}
use lib.ListN.{length}
use Rattle.gif.specs.Log.{log_most}
use Rattle.memories.specs.declared.VifUnit.TheVariants.{Vif1}
use Rattle.memories.specs.Units.{data_words, code_bytes}
use Rattle.memories.specs.Lengths.{Lent}
use Rattle.chain_state.specs.Start.{StartResult, reset_state}
use Rattle.sheet.specs.BuildAnswer.{Built}
use Rattle.sheet.specs.Records.{Record}
use Rattle.sheet.specs.Reader.{Contents, valid, refused}
use Rattle.sheet.specs.Editions.{contents_of}
use Rattle.sheet.specs.Whole.{Bytes}
use Rattle.sheet.specs.Layout.{chain_of}
use Rattle.sheet.specs.Sizes.{sheet_steps}
use Rattle.sheet.specs.Build.{built_from, build_of}
use Rattle.conformance.specs.Demand.{records_in, records_of, Premises, Conclusion}
use Rattle.conformance.proofs.Theorem.{demand_3}
use Rattle.conformance.proofs.NotEmpty.{not_empty}
use Rattle.supplier.specs.Check.{begun, check_of}
use Rattle.supplier.specs.Claims.{Matches, BuiltHere, AcceptedWhole}
use Rattle.supplier.proofs.RunLaws.{reset_starts}
use Rattle.supplier.proofs.Theorems.{accepted_exactly, matches_run}

-- the builder accepts valid sheets alone
built_valid : (c : Contents) (output : List ℕ) {size : ℕ} → (built_from c output).answer ≡ Built size → c ≡ valid (records_in c)
built_valid (valid rs) output h = refl
built_valid (refused n offset) output h = absurd (let z : ◌≡◌ {A = ℕ} 0 1 = cc in omega arith)

module _ (sheet output main : List ℕ) (size allowance : ℕ) (m : Lent) (p : BuiltHere sheet output main size allowance m) where
  contents : contents_of sheet ≡ valid (records_of sheet)
  unfolding build_of records_of
  contents = built_valid (contents_of sheet) output p.built

  premises : Premises sheet output main 0 size allowance reset_state m
  unfolding begun reset_state
  premises =
      record {
        built = p.built;
        rest = p.rest;
        placed = p.placed;
        aligned = refl;
        started = ap (λ (r : StartResult). r.answer) reset_starts;
        entered = p.entered;
        idle = refl;
        path_idle = refl;
        room = p.room;
        allowed = p.allowed;
      }

  concluded : Conclusion sheet main 0 allowance reset_state m
  unfolding reset_state
  concluded = demand_3 sheet output main 0 size allowance reset_state m (record { bytes = p.bytes; row = refl }) premises

  built_matches : Matches sheet main m allowance
  unfolding begun reset_state
  built_matches =
      let c = concluded in
      record { records = records_of sheet; accepted = contents; ended = c.done; equal = record { mem = c.mem; code = c.code; entries = c.entries } }

  -- our own chain is accepted, in the sheet's steps and with its entries
  pub builder_accepted : AcceptedWhole sheet m (check_of sheet main m allowance)
  unfolding begun reset_state
  builder_accepted =
      let c = concluded in
      let w = matches_run sheet main m allowance built_matches in
      record { accepted = (accepted_exactly sheet main m allowance).1 built_matches; steps = w.0 ∙ c.steps; used = w.1 ∙ c.used }

-- not empty: every valid sheet's chain, alone in main memory, with the longest log and the sheet's steps allowed, and so it is accepted
module _ (sheet : List ℕ) (rs : List Record) (typed : Bytes sheet) (read : contents_of sheet ≡ valid rs) (m : Lent)
    (words : length m.mem ≡ data_words Vif1) (bytes : length m.code ≡ code_bytes Vif1) (log : length m.log ≡ log_most) where
  pub own_built : BuiltHere sheet (chain_of rs) (chain_of rs) (length (chain_of rs)) (sheet_steps rs) m
  unfolding begun reset_state
  own_built =
      let p = not_empty sheet rs read m words bytes log in
      record { bytes = typed; built = p.built; rest = p.rest; placed = p.placed; entered = p.entered; room = p.room; allowed = p.allowed }

  pub own_accepted : AcceptedWhole sheet m (check_of sheet (chain_of rs) m (sheet_steps rs))
  own_accepted = builder_accepted sheet (chain_of rs) (chain_of rs) (length (chain_of rs)) (sheet_steps rs) m own_built
