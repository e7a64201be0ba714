use Rattle.gif.proofs.LogLaws.{logged_two}
use Rattle.gif.specs.Log.{logged}
use Rattle.gif.proofs.log.store.Goals as goal

pub returns-in-Nothing : goal.returns-in-Nothing
unfolding logged
returns-in-Nothing c = rw c.in-Nothing.is

pub returns-in-Two : goal.returns-in-Two
returns-in-Two c =
    rw c.in-Two.is
    (logged_two _ _ _ _ (rw c.entry_by-in-Two.ensures at c.put-in-Two.ensures) (rw c.entry_by-in-Two-2.ensures at c.put-in-Two-2.ensures))
