use mathlib.Core.Path.{sym, ◌∙◌}
use borrow.Author.Rules.{rules}
use Rattle.unpack.proofs.ReadLaws.{even_inside, even_writes}
use Rattle.unpack.proofs.vectors.write_all.Goals as goal

pub store_runs-requires : goal.store_runs-requires
store_runs-requires c =
    let p = c.requires.0 in
    let a = c.args in
    (p.memory, p.inside, p.few, p.some, even_inside a.f a.usn a.w.registers _ a.a a.w.size a.w.address a.w.first a.w.last a.n p c.requires.1 c.if-r.true)

pub returns-then-is_bare : goal.returns-then-is_bare
returns-then-is_bare c =
    let a = c.args in
    even_writes a.f a.usn a.w.registers _ a.a a.w.size a.w.address a.w.first a.w.last a.n c.requires.0 c.requires.1 _ (search (rules, c.well_formed.1.1.1.1.1.1.0)) c.if-r.true (sym c.is_bare.ensures ∙ c.if-is_bare.true) c.store_runs.ensures
