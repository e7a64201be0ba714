-- The lengths that are refused, as facts.
use mathlib.Core.Path.{◌≡◌, refl}
use mathlib.Core.Bool.{Bool, true, false, not}
use Prim.Native.Nat.{ℕ, ◌≤◌}
use native.Mathlib.Omega.{arith}
use borrow.Author.Tests.{eq-eqb, eqb-true, eqb-false, not-false}
use lib.ListN.{length}
use lib.Dec.{eqb}
use Rattle.fields.specs.Fields.{if}
use Rattle.fields.specs.Refusals.{data_length, code_length, log_length}
use Rattle.fields.proofs.ChoiceLaws.{if_zero, if_ind}
use Rattle.gif.specs.Log.{log_refused}
use Rattle.memories.specs.declared.VifUnit.{VifUnit}
use Rattle.memories.specs.Units.{data_words, code_bytes}
use Rattle.memories.specs.Lengths.{Lent, lengths_refusal, LengthsFit}

pub lengths_fit : (u : VifUnit) (m : Lent) (used : ℕ) → lengths_refusal u m used ≡ 0 → LengthsFit u m used
unfolding lengths_refusal
lengths_fit u m used e =
    let e2 = if_zero (not (eqb (length m.mem) (data_words u))) data_length (omega arith) e in
    let e3 = if_zero (not (eqb (length m.code) (code_bytes u))) code_length (omega arith) e2.1 in
    let e4 = if_zero (log_refused m.log used) log_length (omega arith) e3.1 in
    record {
      long = eqb-true (length m.mem) (data_words u) (not-false _ e2.0);
      wide = eqb-true (length m.code) (code_bytes u) (not-false _ e3.0);
      logged = e4.0;
    }

pub fit_lengths : (u : VifUnit) (m : Lent) (used : ℕ) → LengthsFit u m used → lengths_refusal u m used ≡ 0
unfolding lengths_refusal if
fit_lengths u m used f = rw (eq-eqb (length m.mem) (data_words u) f.long, eq-eqb (length m.code) (code_bytes u) f.wide, f.logged)

-- no other number
pub lengths_most : (u : VifUnit) (m : Lent) (used : ℕ) → lengths_refusal u m used ≤ log_length
unfolding lengths_refusal
lengths_most u m used =
    if_ind (λ (n : ℕ). n ≤ log_length) _ (omega arith) (if_ind (λ (n : ℕ). n ≤ log_length) _ (omega arith) (if_ind (λ (n : ℕ). n ≤ log_length) _ (omega arith) (omega arith)))

-- where the lengths are the first of several refusals and there is none, they fit
pub fit_first : (u : VifUnit) (m : Lent) (used : ℕ) {next : ℕ} → if (not (eqb (lengths_refusal u m used) 0)) (lengths_refusal u m used) next ≡ 0
    → LengthsFit u m used × (next ≡ 0)
unfolding if
fit_first u m used {next} e = by (eqb (lengths_refusal u m used) 0) refl e
  where
    by : (b : Bool) → eqb (lengths_refusal u m used) 0 ≡ b → if (not b) (lengths_refusal u m used) next ≡ 0 → LengthsFit u m used × (next ≡ 0)
    by true q e = (lengths_fit u m used (eqb-true _ 0 q), e)
    by false q e = absurd (eqb-false _ 0 q e)
