use Rattle.std.proofs.Common.{[], ◌∷◌, ap, ◌∙◌}
use Rattle.gif.specs.declared.Entry.{Entry}
use Rattle.gif.specs.Log.{numbers}
use Rattle.sheet_meaning.proofs.BodyLaws.{turns_begin, turns_on, turns_end, entry_turns, entry_inside, entries_all}
use Rattle.sheet_meaning.proofs.plain.put_entries.Goals as goal

pub loop-j-init : goal.loop-j-init
loop-j-init c = turns_begin

pub loop-j-preserved : goal.loop-j-preserved
loop-j-preserved c =
    turns_on (entry_turns _ _) c.loop-j.invariant c.loop-j-test.true c.put_entry.ensures
    (ap (λ (e : Entry). numbers (e ∷ [])) (entry_inside c.args.sheet.now c.args.body _ _ c.loop-j-test.true c.requires.0 c.entry_at.ensures))

pub returns : goal.returns
returns c = turns_end (entry_turns _ _) c.loop-j.invariant c.loop-j-test.false ∙ entries_all _ _ _ _
