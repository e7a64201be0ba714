use Rattle.vif_codes.proofs.CodeLaws.{program_started, program_refused}
use Rattle.gif.proofs.LogLaws.{entry_stored}
use native.Mathlib.Omega.{arith}
use Rattle.vif_codes.proofs.execute.start_program.Goals as goal

pub overflow_add-used : goal.overflow_add-used
overflow_add-used c = let s = entry_stored _ _ _ c.write_entry.ensures c.if-write_entry.true in omega arith

pub returns-then-write_entry : goal.returns-then-write_entry
returns-then-write_entry c = λ mem. rw (c.done.ensures, c.start.ensures) (program_started _ _ _ _ _ _ mem _ c.write_entry.ensures c.if-write_entry.true)

pub returns-else-write_entry : goal.returns-else-write_entry
returns-else-write_entry c = λ mem. rw c.answered.ensures (program_refused _ _ _ _ _ _ mem _ c.write_entry.ensures c.if-write_entry.false)
