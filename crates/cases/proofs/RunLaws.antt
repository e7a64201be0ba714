-- Cases run one after another.
use Rattle.std.proofs.Common.{◌≡◌, ◌+◌, ◌<◌, ◌≤◌, ℕ, List, length, true, false, Result, Ok, Err, is_err}
use Rattle.wire.specs.declared.Output.{Output}
use Rattle.cases.specs.declared.run.Damaged.{Damaged}
use Rattle.cases.specs.Runs.{Runs, damaged, next}

module _ {H C : Type 0} {got : H → List ℕ → ℕ → H → List ℕ → Type 0} {ran : C → Output → List ℕ → Result Unit Damaged → C → Output → Type 0}
    {number n : ℕ} {h i : H} {b s : List ℕ} {c d : C} {o : Output} where
  -- a case that was not damaged, and those after it
  pub run_on : {p : Output} {j : H} {t : List ℕ} {l : C} (r : Result Unit Damaged) → is_err r ≡ false → got h b n i s → 0 < n → length s ≤ n → ran c o s r d p
      → Runs got ran (number + 1) i s d p j t l → Runs got ran number h b c o j t l
  run_on (Ok u) e g k m x rest = next g k m x rest
  run_on (Err f) e g k m x rest = absurd (cc e)

  -- a damaged case is the last
  pub run_damaged : (p : Output) (r : Result Unit Damaged) → is_err r ≡ true → got h b n i s → 0 < n → length s ≤ n → ran c o s r d p → Runs got ran number h b c o i s d
  run_damaged p (Ok u) e g k m x = absurd (cc e)
  run_damaged p (Err f) e g k m x = damaged g k m x
