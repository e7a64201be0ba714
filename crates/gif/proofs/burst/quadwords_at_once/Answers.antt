use Rattle.gif.proofs.RangeLaws.{tag_fits}
use Rattle.gif.proofs.burst.quadwords_at_once.Goals as goal

pub tag_data-requires : goal.tag_data-requires
tag_data-requires c =
    let h = c.requires in
    (h.0, (tag_fits _ (rw c.in-Some.is at h.2.held), h.3))
