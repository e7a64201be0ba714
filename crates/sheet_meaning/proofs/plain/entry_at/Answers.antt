use Rattle.std.proofs.Common.{◌≤◌, ◌+◌, length, arith}
use Rattle.sheet_meaning.proofs.BodyLaws.{number_long}
use Rattle.sheet_meaning.proofs.plain.entry_at.Goals as goal

pub returns : goal.returns
returns c = let h : c.args.at + 8 ≤ length c.args.sheet.now = omega arith in rw (c.from.ensures, c.long_inside.ensures, number_long c.args.sheet.now c.args.at h)
