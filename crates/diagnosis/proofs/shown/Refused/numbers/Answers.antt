use Rattle.diagnosis.specs.Why.{next_numbers}
use Rattle.diagnosis.proofs.WhyLaws.{by_tags}
use Rattle.diagnosis.proofs.shown.Refused.numbers.Goals as goal

pub returns-in-None : goal.returns-in-None
unfolding next_numbers
returns-in-None c = by_tags c.in-None.is _ _ _ _ _ _ c.payload_or_tag_numbers.ensures

pub returns-in-Some : goal.returns-in-Some
unfolding next_numbers
returns-in-Some c = by_tags c.in-Some.is _ _ _ _ _ _ c.unit_numbers.ensures
