use Rattle.std.proofs.Common.{◌+◌, ◌%◌, ◌^◌, ◌∙◌, length, refl}
use Rattle.cases.specs.Memories.{fill_number, low_wraps}
use Rattle.cases.proofs.Laws.{filled_wrapped}
use Rattle.cases.proofs.memories.Memories.fill.Goals as goal

pub returns-clause-filled : goal.returns-clause-filled
unfolding fill_number
returns-clause-filled c = let a = c.args in (
  c.fill.ensures,
  c.fill-2.ensures ∙ filled_wrapped (λ x. x % 2 ^ 8) (low_wraps (2 ^ 8) refl) (a.first + 1) (length a.self.now.code.now),
  c.fill-3.ensures ∙ filled_wrapped (λ x. x % 2 ^ 64) (low_wraps (2 ^ 64) refl) (a.first + 2) (length a.self.now.log.now),
)
