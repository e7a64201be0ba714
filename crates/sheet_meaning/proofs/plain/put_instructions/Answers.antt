use Rattle.sheet.proofs.MeaningLaws.{instruction_turns}
use Rattle.sheet_meaning.proofs.BodyLaws.{turns_begin, turns_end, instruction_on}
use Rattle.sheet_meaning.proofs.plain.put_instructions.Goals as goal

pub loop-j-init : goal.loop-j-init
loop-j-init c = turns_begin

pub loop-j-preserved : goal.loop-j-preserved
loop-j-preserved c = instruction_on _ _ _ c.loop-j.invariant c.loop-j-test.true c.put_instruction.ensures

pub returns : goal.returns
returns c = turns_end (instruction_turns _ _) c.loop-j.invariant c.loop-j-test.false
