use Rattle.gif.proofs.LogLaws.{entry_fits, entry_full}
use borrow.Author.Tests.{lt-ltb, le-ltb}
use native.Mathlib.Omega.{arith}
use Rattle.gif.proofs.log.write_entry.Goals as goal

pub returns-then-fits : goal.returns-then-fits
returns-then-fits c = let l = c.if-fits.true in rw (lt-ltb _ _ l) (entry_fits _ _ _ (omega arith) c.put.ensures)

pub returns-else-fits : goal.returns-else-fits
returns-else-fits c = let l = c.if-fits.false in rw (le-ltb _ _ l) (entry_full _ _ _ (omega arith))
