use Rattle.std.proofs.Common.{◌∙◌, arith}
use Rattle.conformance.proofs.AnswerLaws.{place_is}
use Rattle.conformance.proofs.play.place.Goals as goal

pub returns : goal.returns
returns c = (c.min.ensures ∙ place_is _ _, omega arith)
