-- The answer to a word in the papers' words: a word or a quadword taken, whether that completed a code with its interrupt bit, and whether a quadword closed a
-- packet; or refused, by number.
use Rattle.std.specs.Prelude.{ℕ, Bool, Result, Ok, Err}
use Rattle.fields.specs.declared.refusals.Refusal.{Refusal}
use Rattle.fields.specs.Refusals.{refusal_number}
use Rattle.vif_codes.specs.declared.Taken.{Taken}
use Rattle.vif_codes.specs.declared.Taken.TheVariants.{Word as TakenWord, Quadword as TakenQuadword}

pub data VifAnswer : Type 0 where
  Word : Bool → VifAnswer
  Quadword : Bool → Bool → VifAnswer
  Refused : ℕ → VifAnswer

abbrev pub vif_answer : Result Taken Refusal → VifAnswer
vif_answer (Ok (TakenWord i)) = Word i
vif_answer (Ok (TakenQuadword i closed)) = Quadword i closed
vif_answer (Err e) = Refused (refusal_number e)
