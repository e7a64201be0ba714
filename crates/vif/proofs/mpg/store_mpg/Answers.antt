use Rattle.vif_codes.specs.Payload.{mpg_stored}
use Rattle.vif.proofs.MpgLaws.{word_stored}
use mathlib.Core.Path.{◌∙◌}
use native.Mathlib.Omega.{arith}
use Rattle.vif.proofs.mpg.store_mpg.Goals as goal

pub returns : goal.returns
unfolding mpg_stored
returns c =
    let p = c.word_place-at.ensures in
    let w = c.requires.wide in
    let inside = p.1 in
    rw (← p.0) (word_stored c.args.code.now _ _ c.args.word (omega arith) (omega arith) (omega arith) (c.copy_from_slice.ensures.after ∙ c.to_le_bytes.ensures))
