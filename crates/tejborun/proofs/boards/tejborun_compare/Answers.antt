use Rattle.tejborun.proofs.BoardLaws.{compare_short, compare_told}
use Rattle.tejborun.proofs.boards.tejborun_compare.Goals as goal

pub returns-then-res-lt10 : goal.returns-then-res-lt10
returns-then-res-lt10 c = compare_short _ _ _ _ c.if-res-lt10.true

pub returns : goal.returns
returns c = compare_told _ _ _ _ c.if-res-lt10.false (rw (c.make_board-a.ensures, c.make_board-b.ensures) at c.compare.ensures) c.put_answer.ensures
