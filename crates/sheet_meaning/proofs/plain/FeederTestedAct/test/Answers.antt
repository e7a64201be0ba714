use Rattle.std.proofs.Common.{arith}
use Rattle.std.proofs.lemmas.Result.{err_from_is_err_and}
use Rattle.sheet_meaning.specs.Feeding.{fed_in}
use Rattle.sheet_meaning.proofs.FeederLaws.{feed_lengths, feed_held, feed_full, feed_enough}
use Rattle.sheet_meaning.proofs.plain.FeederTestedAct.test.Goals as goal

pub returns-in_err-test_lengths : goal.returns-in_err-test_lengths
returns-in_err-test_lengths c =
    let p = err_from_is_err_and c.from_residual.result c.from_residual.ensures.1 in
    rw (p.1, p.2) (feed_lengths (fed_in c.args.self.now) _ _ c.in_err-test_lengths.ensures)

pub overflow_sub-room : goal.overflow_sub-room
overflow_sub-room c = let h = feed_held (fed_in c.args.self.now) c.args.sums c.in_ok-test_lengths.ensures in omega arith

pub returns-then-room-sums : goal.returns-then-room-sums
returns-then-room-sums c = feed_full (fed_in c.args.self.now) _ c.in_ok-test_lengths.ensures c.if-room-sums.true

pub returns : goal.returns
returns c = feed_enough (fed_in c.args.self.now) _ c.in_ok-test_lengths.ensures c.if-room-sums.false
