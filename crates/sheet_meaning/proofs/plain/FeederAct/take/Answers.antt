use Rattle.std.proofs.Common.{arith}
use Rattle.sheet_meaning.proofs.FeederLaws.{entries_room, fed_data, fed_code, fed_entries, fed_start}
use Rattle.sheet_meaning.proofs.plain.FeederAct.take.Goals as goal

pub put_vectors-requires : goal.put_vectors-requires
put_vectors-requires c = (rw c.in-Data.is at c.requires.there.inside, omega arith, c.requires.room.words)

pub put_instructions-requires : goal.put_instructions-requires
put_instructions-requires c = (rw c.in-Code.is at c.requires.there.inside, omega arith, c.requires.room.bytes)

pub put_entries-requires : goal.put_entries-requires
put_entries-requires c = (rw c.in-Gs.is at c.requires.there.inside, rw c.in-Gs.is at (entries_room _ _ _ _ _ c.requires.room.room))

pub put_entry-requires : goal.put_entry-requires
put_entry-requires c = rw c.in-Start.is at (entries_room _ _ _ _ _ c.requires.room.room)

pub returns-in-Data : goal.returns-in-Data
returns-in-Data c = rw c.in-Data.is (fed_data c.args.self.now _ _ _ c.put_vectors.ensures)

pub returns-in-Code : goal.returns-in-Code
returns-in-Code c = rw c.in-Code.is (fed_code c.args.self.now _ _ _ c.put_instructions.ensures)

pub returns-in-Gs : goal.returns-in-Gs
returns-in-Gs c = rw c.in-Gs.is (fed_entries c.args.self.now _ _ _ c.put_entries.ensures)

pub returns-in-Start : goal.returns-in-Start
returns-in-Start c = rw c.in-Start.is (fed_start c.args.self.now _ _ _ (rw c.start_entry.ensures at c.put_entry.ensures))
