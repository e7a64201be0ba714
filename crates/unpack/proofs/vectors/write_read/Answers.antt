use mathlib.Core.Path.{sym, ◌∙◌}
use borrow.Author.Rules.{rules}
use Rattle.unpack.proofs.ReadLaws.{read_writes, read_stores}
use Rattle.unpack.proofs.vectors.write_read.Goals as goal

pub returns-then-is_bare : goal.returns-then-is_bare
returns-then-is_bare c =
    let a = c.args in
    let y = c.requires.1.most in
    read_stores a.f a.usn a.w.registers _ a.a a.w.size a.w.address a.w.first a.w.last a.n c.requires.0 c.requires.1 _ _ c.store_run.ensures (search (rules, y)) _ (search (rules, c.well_formed.1.1.1.1.1.1.0)) (sym c.is_bare.ensures ∙ c.if-is_bare.true) c.store_apart.ensures

pub returns : goal.returns
returns c =
    let a = c.args in
    let y = c.requires.1.most in
    read_writes a.f a.usn a.w.registers _ a.a a.w.size a.w.address a.w.first a.w.last a.n c.requires.0 c.requires.1 _ _ c.store_run.ensures (search (rules, y)) _ c.write_apart.ensures
