-- Why the next step of a run would not be taken, in the papers' words: a refusal by its number.
use Rattle.std.specs.Prelude.{ℕ}
use Rattle.fields.specs.Refusals.{refusal_number}
use Rattle.diagnosis.specs.declared.Reason.{Reason as Told}
use Rattle.diagnosis.specs.declared.Reason.TheVariants.{Entry as ToldEntry, Ended as ToldEnded, NoComplaint as ToldNoComplaint, Step as ToldStep}

pub data Reason : Type 0 where
  Entry : ℕ → Reason
  Ended : Reason
  NoComplaint : Reason
  Step : ℕ → ℕ → ℕ → ℕ → Reason

abbrev pub reason : Told → Reason
reason (ToldEntry e) = Entry (refusal_number e)
reason ToldEnded = Ended
reason ToldNoComplaint = NoComplaint
reason (ToldStep e a x y) = Step (refusal_number e) a x y
