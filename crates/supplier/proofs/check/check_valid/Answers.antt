use Rattle.std.proofs.Common.{sym}
use Rattle.supplier.proofs.RunLaws.{lent_fits}
use Rattle.supplier.proofs.CheckLaws.{ran_judges, ran_checked}
use Rattle.supplier.proofs.check.check_valid.Goals as goal

pub copy_from_slice-requires : goal.copy_from_slice-requires
copy_from_slice-requires c = sym (lent_fits _ _ c.requires.entered).long

pub copy_from_slice-requires-2 : goal.copy_from_slice-requires-2
copy_from_slice-requires-2 c = sym (lent_fits _ _ c.requires.entered).wide

pub judge-requires : goal.judge-requires
judge-requires c =
    let n = c.new-after.ensures in
    rw (n.0, n.1)
    (ran_judges c.requires c.copy_from_slice.ensures.after c.copy_from_slice-2.ensures.after _ c.started.ensures _ c.run-r.ensures)

pub returns : goal.returns
returns c =
    let n = c.new-after.ensures in
    ran_checked c.requires c.copy_from_slice.ensures.after c.copy_from_slice-2.ensures.after _ c.started.ensures _ c.run-r.ensures (rw (n.0, n.1) at c.judge.ensures)
