-- The record reader and the group reader: bytes left and depth fall from the one to the other.
use Rattle.std.proofs.Common.{◌≡◌, length, ◌+◌, ◌-◌, ◌*◌, ◌≤◌}
use Rattle.sheet.specs.Groups.{item_at, group_from, members_from}
use Rattle.sheet.specs.Sums.{answered, answered_from}
use Rattle.sheet.proofs.items.+read_group_read_item.Given as goal

-- bytes left and depth; the group reader stands between two calls of the record reader
abbrev pub decreases-read_group : goal.decreases-read_group
decreases-read_group l = 2 * (length l.sheet.now - l.at + l.depth) + 1

abbrev pub decreases-read_item : goal.decreases-read_item
decreases-read_item l = 2 * (length l.sheet.now - l.at + l.depth)

abbrev pub invariant-read_group-loop-member : goal.invariant-read_group-loop-member
invariant-read_group-loop-member l = record {
  past : l.at ≤ l.next;
  same : answered_from l.repetitions l.sum (members_from (item_at l.sheet l.depth) (length l.sheet) (l.members - l._member) l.next)
      ≡ answered (group_from (item_at l.sheet l.depth) (length l.sheet) l.at l.repetitions l.members);
}
