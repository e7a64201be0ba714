use Rattle.std.proofs.Common.{ap}
use Rattle.sheet_builder.specs.Writing.{with_out}
use Rattle.sheet_builder.proofs.WriterLaws.{record_room, write_one}
use Rattle.sheet_builder.proofs.writer.WriterAct.take.Goals as goal

pub put_record-self-requires : goal.put_record-self-requires
put_record-self-requires c = record_room _ _ _ _ _ c.requires.there _ _ c.requires.room

pub returns : goal.returns
returns c = ap (with_out c.args.self.now) (write_one _ _ _ _ _ c.requires.there _ _ c.put_record-self.ensures)
