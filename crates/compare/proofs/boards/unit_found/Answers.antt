use Rattle.std.proofs.Common.{◌∙◌}
use Rattle.compare.proofs.ListLaws.{numbers_found}
use Rattle.compare.proofs.CompareLaws.{looked_at_is, quadwords_inside, instructions_inside, unit_found_is}
use Rattle.compare.proofs.boards.unit_found.Goals as goal

pub found_in-requires : goal.found_in-requires
found_in-requires c =
    quadwords_inside _ _ c.requires.mem
    (looked_at_is _ c.data_part.ensures.0 c.asks.ensures c.quadwords.ensures.0 c.looked_at-q.ensures)

pub found_in-requires-2 : goal.found_in-requires-2
found_in-requires-2 c =
    instructions_inside _ _ c.requires.code
    (looked_at_is _ c.code_part.ensures.0 c.asks-2.ensures c.instructions.ensures.0 c.looked_at-i.ensures)

pub returns : goal.returns
returns c =
    let q = looked_at_is _ c.data_part.ensures.0 c.asks.ensures c.quadwords.ensures.0 c.looked_at-q.ensures in
    let i = looked_at_is _ c.code_part.ensures.0 c.asks-2.ensures c.instructions.ensures.0 c.looked_at-i.ensures in
    unit_found_is _ _ _ _ q i
    (c.found_in.ensures ∙ numbers_found 4 _ _ _ (quadwords_inside _ _ c.requires.mem q))
    (c.found_in-2.ensures ∙ numbers_found 8 _ _ _ (instructions_inside _ _ c.requires.code i))
