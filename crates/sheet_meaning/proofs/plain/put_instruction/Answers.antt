use Rattle.sheet.proofs.ListLaws.{part_copied}
use Rattle.sheet_meaning.proofs.plain.put_instruction.Goals as goal

pub returns : goal.returns
returns c = part_copied _ _ c.args.at c.args.to 8 c.requires.0 c.requires.1 c.copy_from_slice.ensures.after
