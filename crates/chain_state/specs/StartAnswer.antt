-- The answer to a start in the papers' words: started, or refused, by number.
use Rattle.std.specs.Prelude.{ℕ}

pub data StartAnswer : Type 0 where
  Started : StartAnswer
  Refused : ℕ → StartAnswer
