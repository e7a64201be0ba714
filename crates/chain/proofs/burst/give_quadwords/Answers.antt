use mathlib.Core.Path.{◌∙◌}
use native.Mathlib.Omega.{arith}
use Rattle.chain.proofs.BurstLaws.{quadwords_given, quadwords_fit}
use Rattle.chain.proofs.burst.give_quadwords.Goals as goal

pub overflow_mul-r : goal.overflow_mul-r
overflow_mul-r c =
    let h = quadwords_fit c.requires.1.0 _ _ _ c.take_quadwords-r.ensures (omega (arith, c.min-most.ensures, c.from.ensures)) in
    omega arith

pub payload_after-requires : goal.payload_after-requires
payload_after-requires c =
    let h = quadwords_fit c.requires.1.0 _ _ _ c.take_quadwords-r.ensures (omega (arith, c.min-most.ensures, c.from.ensures)) in
    omega arith

pub returns : goal.returns
returns c =
    λ mem code.
    rw (c.quadwords_alone.ensures, c.from-2.ensures)
    (quadwords_given c.requires.0 _ mem code _ _ _ c.take_quadwords-r.ensures c.requires.1.1
    (omega (arith, c.min-most.ensures, c.from.ensures), omega (arith, c.min-most.ensures))
    (c.with_pending.ensures ∙ rw (c.with_path3.ensures, c.payload_after.ensures)))
