use native.Mathlib.Omega.{arith}
use Rattle.vif.proofs.CodesLaws.{mpg_leads, mpg_stores}
use Rattle.vif.proofs.codes.mpg_words.Goals as goal

pub store_words-requires : goal.store_words-requires
store_words-requires c =
    let h = c.requires in
    rw c.instructions-size.ensures.0 (mpg_stores h.1 h.3 h.4 h.5)

pub returns : goal.returns
returns c =
    λ p used mem log.
    let h = c.requires in
    mpg_leads _ _ _ _ _ c.instructions-size.ensures.0 _ p used mem log h.0 h.2 h.1.left h.1.due_most h.3 (omega arith) c.store_words.ensures c.mpg_left.ensures c.with_waiting.ensures
