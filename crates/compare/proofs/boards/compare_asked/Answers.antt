use Rattle.std.proofs.Common.{◌∙◌}
use Rattle.memories.specs.declared.VifUnit.TheVariants.{Vif0, Vif1}
use Rattle.gif.specs.Log.{entry_size}
use Rattle.compare.proofs.LengthLaws.{accepted}
use Rattle.compare.proofs.ListLaws.{numbers_found}
use Rattle.compare.proofs.CompareLaws.{entries_inside, comparison_is}
use Rattle.compare.proofs.boards.compare_asked.Goals as goal

pub unit_found-requires : goal.unit_found-requires
unit_found-requires c =
    (accepted _ _ _ c.requires).units Vif1

pub unit_found-requires-2 : goal.unit_found-requires-2
unit_found-requires-2 c =
    (accepted _ _ _ c.requires).units Vif0

pub found_in-requires : goal.found_in-requires
found_in-requires c =
    entries_inside _ _ _ c.asks-asked.ensures c.looked_at.ensures c.looked_at-2.ensures c.min-both.ensures c.requires

pub returns : goal.returns
returns c =
    let p = entries_inside _ _ _ c.asks-asked.ensures c.looked_at.ensures c.looked_at-2.ensures c.min-both.ensures c.requires in
    comparison_is _ _ _ c.asks-asked.ensures c.looked_at.ensures c.looked_at-2.ensures c.min-both.ensures
    c.unit_found.ensures c.unit_found-2.ensures (c.found_in.ensures ∙ numbers_found entry_size _ _ _ p)
