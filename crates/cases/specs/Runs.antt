-- Cases run one after another.
use Rattle.std.specs.Prelude.{◌+◌, ◌<◌, ◌≤◌, ℕ, List, length, Result, Ok, Err}
use Rattle.wire.specs.declared.Output.{Output}
use Rattle.cases.specs.declared.run.Damaged.{Damaged}

-- What is left where cases run one after another, from the case with a given number on: from a source of headers, a header's buffer, what cases run on and the
-- results so far, to the source, the buffer and what cases run on afterwards. `got` is what a read may leave: of the source and the buffer before it, how many
-- bytes were read, and both after it. `ran` is what a case may leave: of what it runs on and the results before it, its header, its answer, and both after it.
-- Each header comes from a read, and each case goes on where the one before ended. The end is a read of nothing or of less than a header, a damaged case, or the
-- number 2^64 - 1, which no case has.
pub data Runs {H C : Type 0} (got : H → List ℕ → ℕ → H → List ℕ → Type 0) (ran : C → Output → List ℕ → Result Unit Damaged → C → Output → Type 0) : ℕ → H → List ℕ → C → Output → H → List ℕ → C → Type 0 where
  counted : {h : H} {b : List ℕ} {c : C} {o : Output} → Runs got ran 18446744073709551615 h b c o h b c
  ended : {number : ℕ} {h i : H} {b r : List ℕ} {c : C} {o : Output} → got h b 0 i r → Runs got ran number h b c o i r c
  short : {number n : ℕ} {h i : H} {b r : List ℕ} {c : C} {o : Output} → got h b n i r → 0 < n → n < length r → Runs got ran number h b c o i r c
  damaged : {number n : ℕ} {h i : H} {b r : List ℕ} {c d : C} {o p : Output} {e : Damaged} → got h b n i r → 0 < n → length r ≤ n → ran c o r (Err e) d p
      → Runs got ran number h b c o i r d
  next : {number n : ℕ} {h i j : H} {b r s : List ℕ} {c d l : C} {o p : Output} → got h b n i r → 0 < n → length r ≤ n → ran c o r (Ok tt) d p
      → Runs got ran (number + 1) i r d p j s l → Runs got ran number h b c o j s l
