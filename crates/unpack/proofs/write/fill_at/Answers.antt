use borrow.Author.Rules.{rules}
use Rattle.unpack_rules.proofs.WriteLaws.{unfed_written_lem}
use Rattle.unpack.proofs.write.fill_at.Goals as goal

pub returns : goal.returns
returns c =
    let p = c.requires in
    unfed_written_lem _ _ _ _ _ _ p.1 p.0.some (search (rules, c.well_formed.1.1.1.1.0)) c.wrapped-quad.ensures p.5 p.6 c.put_fields.ensures
