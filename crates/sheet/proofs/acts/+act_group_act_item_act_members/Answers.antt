use Rattle.std.proofs.Common.{arith, ◌∙◌, ◌+◌, ◌-◌}
use Rattle.sheet.proofs.ItemLaws.{opened}
use Rattle.sheet.proofs.PlaceLaws.{item_after}
use Rattle.sheet.proofs.HeaderLaws.{single_stands}
use Rattle.sheet.proofs.ActLaws.{Action, first_fits, first_found, others_fit, others_done, members_done_lem, turn_fits, turn_next, turns_fit, turns_done_lem, turns_none, header_ok, header_some, single_room, single_done, group_fits, group_done}
use Rattle.sheet.proofs.acts.+act_group_act_item_act_members.Given.{Over}
use Rattle.sheet.proofs.acts.+act_group_act_item_act_members.Goals as goal

-- the actor's action
abbrev acting : (g : Over) → Action g.row.A.Denot
acting g = record { act = g.A.Act.act; Room = g.A.Act.Room; nothing = g.met.A.Act.nothing; onward = g.met.A.Act.onward; before = g.met.A.Act.before; behind = g.met.A.Act.behind }

pub act_group-act_members-next-requires : goal.act_group-act_members-next-requires
act_group-act_members-next-requires g t c = λ κs lives. (omega arith, (lives, turn_fits (acting g) _ _ _ c.loop-turn.invariant.fits (omega arith)))

pub act_group-loop-turn-preserved : goal.act_group-loop-turn-preserved
act_group-loop-turn-preserved g t c =
    let i = c.loop-turn.invariant in
    let left = c.args.repetitions - (c.loop-turn._turn + 1) in
    record {
      fits = turns_fit (acting g) _ left _ _ i.fits (omega arith) c.act_members-next.ensures;
      after = λ l. turn_next (acting g) _ left _ _ i.fits (omega arith) c.act_members-next.ensures;
      same = turns_done_lem (acting g) _ left _ _ i.fits (omega arith) c.act_members-next.ensures ∙ i.same;
    }

pub act_group-returns : goal.act_group-returns
act_group-returns g t c =
    turns_none (acting g) _ _ _ c.loop-turn.invariant.fits c.loop-turn.invariant.same (omega arith) (c.loop-turn.invariant.after (omega arith))

pub act_item-unwrap-requires : goal.act_item-unwrap-requires
act_item-unwrap-requires g t c = header_ok (acting g) _ _ _ _ c.requires _ c.read_header.ensures

pub act_item-unwrap-requires-2 : goal.act_item-unwrap-requires-2
act_item-unwrap-requires-2 g t c = header_some (acting g) _ _ _ _ c.requires _ (rw c.unwrap.ensures at c.read_header.ensures)

pub act_item-overflow_add-at : goal.act_item-overflow_add-at
act_item-overflow_add-at g t c =
    let s = single_stands _ _ _ (rw (c.unwrap.ensures, c.unwrap-2.ensures, c.in-Single.is) at c.read_header.ensures) in let i = s.inside in omega arith

pub act_item-take-requires-clause-there : goal.act_item-take-requires-clause-there
act_item-take-requires-clause-there g t c = single_stands _ _ _ (rw (c.unwrap.ensures, c.unwrap-2.ensures, c.in-Single.is) at c.read_header.ensures)

pub act_item-take-requires-clause-room : goal.act_item-take-requires-clause-room
act_item-take-requires-clause-room g t c =
    single_room (acting g) _ _ _ _ c.requires (rw (c.unwrap.ensures, c.unwrap-2.ensures, c.in-Single.is) at c.read_header.ensures)

pub act_item-overflow_sub-depth : goal.act_item-overflow_sub-depth
act_item-overflow_sub-depth g t c = (opened _ _ _ (rw (c.unwrap.ensures, c.unwrap-2.ensures, c.in-Group.is) at c.read_header.ensures)).0

pub act_item-overflow_add-at-in-Group : goal.act_item-overflow_add-at-in-Group
act_item-overflow_add-at-in-Group g t c = let o = opened _ _ _ (rw (c.unwrap.ensures, c.unwrap-2.ensures, c.in-Group.is) at c.read_header.ensures) in omega arith

pub act_item-act_group-requires : goal.act_item-act_group-requires
act_item-act_group-requires g t c =
    let e = rw (c.unwrap.ensures, c.unwrap-2.ensures, c.in-Group.is) at c.read_header.ensures in
    let o = opened _ _ _ e in
    λ κs lives. (omega arith, (lives, group_fits (acting g) _ _ _ _ c.requires e))

pub act_item-returns-in-Single : goal.act_item-returns-in-Single
act_item-returns-in-Single g t c =
    single_done (acting g) _ _ _ _ c.requires (rw (c.unwrap.ensures, c.unwrap-2.ensures, c.in-Single.is) at c.read_header.ensures) c.take.ensures

pub act_item-returns-in-Group : goal.act_item-returns-in-Group
act_item-returns-in-Group g t c =
    group_done (acting g) _ _ _ _ c.requires (rw (c.unwrap.ensures, c.unwrap-2.ensures, c.in-Group.is) at c.read_header.ensures) c.act_group.ensures

pub act_members-act_item-next-requires : goal.act_members-act_item-next-requires
act_members-act_item-next-requires g t c =
    let p = c.loop-member.invariant.past in
    λ κs lives. (omega arith, (lives, first_fits (acting g) _ _ _ _ _ c.loop-member.invariant.fits (omega arith)))

pub act_members-loop-member-preserved : goal.act_members-loop-member-preserved
act_members-loop-member-preserved g t c =
    let i = c.loop-member.invariant in
    let left = c.args.members - (c.loop-member._member + 1) in
    let f = first_found (acting g) _ _ _ left _ _ i.fits (omega arith) c.act_item-next.ensures in
    let a = item_after _ _ _ _ f.0 f.1 in
    record {
      past = omega arith;
      fits = others_fit (acting g) _ _ _ left _ _ i.fits (omega arith) c.act_item-next.ensures;
      same = others_done (acting g) _ _ _ left _ _ i.fits (omega arith) c.act_item-next.ensures ∙ i.same;
    }

pub act_members-returns : goal.act_members-returns
act_members-returns g t c = members_done_lem (acting g) _ _ _ _ _ c.loop-member.invariant.same (omega arith)
