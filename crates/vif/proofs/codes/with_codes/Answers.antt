use native.Mathlib.Omega.{arith}
use Rattle.fields.specs.Counts.{Counted}
use Rattle.fields.proofs.CountLaws.{plus_units_fits}
use Rattle.vif.specs.Inner.{words_with}
use Rattle.vif.proofs.codes.with_codes.Goals as goal

pub returns : goal.returns
returns c =
    let h = c.requires in
    let w : Counted (words_with c.args.words c.args.nops) = record { few_packets = omega arith; few_words = omega arith; few_nops = h.3 } in
    rw (c.plus_units.ensures, plus_units_fits h.2 w h.1)
