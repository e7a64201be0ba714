-- The answer to a quadword in the papers' words: taken, and whether it closed a packet, or refused, by number.
use Rattle.std.specs.Prelude.{ℕ, Bool, Result, Ok, Err}
use Rattle.fields.specs.declared.refusals.Refusal.{Refusal}
use Rattle.fields.specs.Refusals.{refusal_number}

pub data GifAnswer : Type 0 where
  Taken : Bool → GifAnswer
  Refused : ℕ → GifAnswer

abbrev pub gif_answer : Result Bool Refusal → GifAnswer
gif_answer (Ok closed) = Taken closed
gif_answer (Err e) = Refused (refusal_number e)
