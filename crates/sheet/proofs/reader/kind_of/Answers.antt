use Rattle.fields.specs.Fields.{if}
use Rattle.std.proofs.Common.{◌≡◌, false, rules}
use borrow.Author.Tests.{tests}
use Rattle.sheet.specs.Reader.{kind_listed, kind_of}
use Rattle.sheet.proofs.reader.kind_of.Goals as goal

pub returns-in-1 : goal.returns-in-1
unfolding kind_of if
returns-in-1 c = rw c.in-1.is

pub returns-in-2 : goal.returns-in-2
unfolding kind_of if
returns-in-2 c = rw c.in-2.is

pub returns-in-3 : goal.returns-in-3
unfolding kind_of if
returns-in-3 c = rw c.in-3.is

pub returns-in-4 : goal.returns-in-4
unfolding kind_of if
returns-in-4 c = rw c.in-4.is

pub returns-in_default : goal.returns-in_default
unfolding kind_of if
returns-in_default c = let z : kind_listed c.args.k ≡ false = search (rules, tests) in rw z
