-- The item, the group and its members: bytes left and depth fall from the item to the group.
use Rattle.std.proofs.Common.{◌≡◌, ◌+◌, ◌*◌, ◌<◌, ◌≤◌, length, ◌-◌}
use Rattle.sheet.specs.Groups.{item_at, members_from}
use Rattle.sheet.specs.Acts.{members_done, turns_done, MembersFit, TurnsFit}
use Rattle.sheet.proofs.ActLaws.{next_in}
use Rattle.sheet.proofs.acts.+act_group_act_item_act_members.Given as goal

abbrev pub decreases-act_group : goal.decreases-act_group
decreases-act_group g l = 3 * (length l.sheet.now - l.at + l.depth) + 2

abbrev pub decreases-act_item : goal.decreases-act_item
decreases-act_item g l = 3 * (length l.sheet.now - l.at + l.depth)

abbrev pub decreases-act_members : goal.decreases-act_members
decreases-act_members g l = 3 * (length l.sheet.now - l.at + l.depth) + 1

-- the turns that are left
abbrev pub invariant-act_group-loop-turn : goal.invariant-act_group-loop-turn
invariant-act_group-loop-turn g l = record {
  fits : TurnsFit g.A.Act.Room (l.repetitions - l._turn) (members_from (item_at l.sheet l.depth) (length l.sheet) l.members l.at) l.actor;
  after : 0 < l._turn → l.next ≡ next_in (members_from (item_at l.sheet l.depth) (length l.sheet) l.members l.at);
  same : turns_done g.A.Act.act (l.repetitions - l._turn) (members_from (item_at l.sheet l.depth) (length l.sheet) l.members l.at) l.actor
      ≡ turns_done g.A.Act.act l.repetitions (members_from (item_at l.sheet l.depth) (length l.sheet) l.members l.at) l.fn.actor;
}

-- the members that are left
abbrev pub invariant-act_members-loop-member : goal.invariant-act_members-loop-member
invariant-act_members-loop-member g l = record {
  past : l.at ≤ l.next;
  fits : MembersFit g.A.Act.Room (members_from (item_at l.sheet l.depth) (length l.sheet) (l.members - l._member) l.next) l.actor;
  same : members_done g.A.Act.act (members_from (item_at l.sheet l.depth) (length l.sheet) (l.members - l._member) l.next) l.actor
      ≡ members_done g.A.Act.act (members_from (item_at l.sheet l.depth) (length l.sheet) l.members l.at) l.fn.actor;
}
