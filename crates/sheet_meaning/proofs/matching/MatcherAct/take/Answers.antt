use Rattle.std.proofs.Common.{arith}
use Rattle.sheet_meaning.proofs.MatchLaws.{matched_data, matched_code, matched_entries, matched_start}
use Rattle.sheet_meaning.proofs.matching.MatcherAct.take.Goals as goal

pub put_vectors-requires : goal.put_vectors-requires
put_vectors-requires c = (rw c.in-Data.is at c.requires.there.inside, omega arith, c.requires.room.words)

pub put_instructions-requires : goal.put_instructions-requires
put_instructions-requires c = (rw c.in-Code.is at c.requires.there.inside, omega arith, c.requires.room.bytes)

pub meet_entries-self-requires : goal.meet_entries-self-requires
meet_entries-self-requires c = (rw c.in-Gs.is at c.requires.there.inside, c.requires.room.held)

pub meet-self-requires : goal.meet-self-requires
meet-self-requires c = c.requires.room.held

pub returns-in-Data : goal.returns-in-Data
returns-in-Data c = rw c.in-Data.is (matched_data c.args.self.now _ _ _ c.put_vectors.ensures)

pub returns-in-Code : goal.returns-in-Code
returns-in-Code c = rw c.in-Code.is (matched_code c.args.self.now _ _ _ c.put_instructions.ensures)

pub returns-in-Gs : goal.returns-in-Gs
returns-in-Gs c = rw c.in-Gs.is (matched_entries c.args.self.now _ _ _ c.meet_entries-self.ensures)

pub returns-in-Start : goal.returns-in-Start
returns-in-Start c = rw c.in-Start.is (matched_start c.args.self.now _ _ _ (rw c.start_entry.ensures at c.meet-self.ensures))
