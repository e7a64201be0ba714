use native.Mathlib.Omega.{arith}
use Rattle.vif.proofs.CodesLaws.{words_accepted, unpack_leads}
use Rattle.vif.proofs.codes.unpack_words.Goals as goal

pub unwrap-r-requires : goal.unwrap-r-requires
unwrap-r-requires c =
    let q = c.requires in
    words_accepted _ c.args.unit _ _ _ _ (rw (← c.quadwords-size.ensures.0) at q.1) q.2 (omega arith) c.write_registers-registers.ensures c.take_words.ensures

pub returns : goal.returns
returns c =
    λ p used code log.
    let q = c.requires in
    let e = c.quadwords-size.ensures.0 in
    rw (c.with_waiting.ensures, c.with_row.ensures)
    (unpack_leads _ _ e _ _ _ p used code log _ _ (rw e q.1) q.2 (omega arith) c.write_registers-registers.ensures c.take_words.ensures q.0 c.unwrap-r.ensures)
