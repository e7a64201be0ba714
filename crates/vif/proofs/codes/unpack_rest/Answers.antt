use native.Mathlib.Omega.{arith}
use Rattle.vif.proofs.CodesLaws.{words_accepted, word_accepted, unpack_all}
use Rattle.vif.proofs.codes.unpack_rest.Goals as goal

pub unwrap-r-requires : goal.unwrap-r-requires
unwrap-r-requires c =
    let q = c.requires in
    words_accepted _ c.args.unit _ _ _ _ (rw (← c.quadwords-size.ensures.0) at q.1) (omega arith) (omega arith) c.write_registers-registers.ensures c.take_words.ensures

pub unwrap-row-requires : goal.unwrap-row-requires
unwrap-row-requires c =
    let q = c.requires in
    word_accepted _ c.args.unit _ _ _ _ (rw (← c.quadwords-size.ensures.0) at q.1) (omega arith) (omega arith) c.write_registers-registers.ensures c.take_words.ensures _ c.unwrap-r.ensures _ _ c.take_word.ensures

pub returns : goal.returns
returns c =
    λ p used code log.
    let q = c.requires in
    let e = c.quadwords-size.ensures.0 in
    rw (c.with_waiting.ensures, c.with_row.ensures)
    (unpack_all _ _ e _ _ _ p used code log _ _ (rw e q.1) (omega arith) (omega arith) c.write_registers-registers.ensures c.take_words.ensures q.0 c.unwrap-r.ensures
    q.2 (omega arith) c.word_at-word.ensures _ c.take_word.ensures c.unwrap-row.ensures)
