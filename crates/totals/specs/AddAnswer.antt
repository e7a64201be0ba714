-- The answer to an addition in the papers' words: added, or refused, by number.
use Rattle.std.specs.Prelude.{ℕ}

pub data AddAnswer : Type 0 where
  Added : AddAnswer
  Refused : ℕ → AddAnswer
