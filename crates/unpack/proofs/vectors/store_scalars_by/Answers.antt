use mathlib.Core.Path.{sym, ◌∙◌}
use Rattle.unpack.proofs.vectors.store_scalars_by.Goals as goal

pub store_scalars-requires-then-width-eq8 : goal.store_scalars-requires-then-width-eq8
store_scalars-requires-then-width-eq8 c =
    let h = c.requires in
    (h.0, h.1, sym c.if-width-eq8.true ∙ h.2, h.3)

pub returns-then-usn : goal.returns-then-usn
returns-then-usn c = rw c.if-usn.true c.store_scalars.ensures

pub returns-then-width-eq8 : goal.returns-then-width-eq8
returns-then-width-eq8 c = rw c.if-usn.false c.store_scalars-then-width-eq8.ensures

pub returns : goal.returns
returns c = rw c.if-usn.false c.store_scalars-2.ensures
