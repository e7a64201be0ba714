use Rattle.tejborun.proofs.BoardLaws.{within_short, within_told}
use Rattle.tejborun.proofs.boards.tejborun_compare_within.Goals as goal

pub returns-then-res-lt10 : goal.returns-then-res-lt10
returns-then-res-lt10 c = within_short _ _ _ _ _ _ c.if-res-lt10.true

pub returns : goal.returns
returns c = within_told _ _ _ _ _ _ c.if-res-lt10.false (rw (c.make_board-a.ensures, c.make_board-b.ensures) at c.compare_within.ensures) c.put_answer.ensures
