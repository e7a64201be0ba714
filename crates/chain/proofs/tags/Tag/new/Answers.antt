use native.Mathlib.Omega.{arith}
use Rattle.fields.specs.Fields.{bits}
use Rattle.chain.proofs.tags.Tag.new.Goals as goal

pub returns-clause-qwc : goal.returns-clause-qwc
unfolding bits
returns-clause-qwc c = grind arith

pub returns-clause-id : goal.returns-clause-id
unfolding bits
returns-clause-id c = grind arith

pub returns-clause-addr : goal.returns-clause-addr
unfolding bits
returns-clause-addr c = grind arith

pub returns-clause-spr : goal.returns-clause-spr
unfolding bits
returns-clause-spr c = grind arith
