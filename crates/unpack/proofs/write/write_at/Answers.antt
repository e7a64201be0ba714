use native.Mathlib.Omega.{arith}
use Rattle.unpack_rules.proofs.WriteLaws.{position_inside, at_written}
use Rattle.unpack.proofs.write.write_at.Goals as goal

pub write_quadword-requires : goal.write_quadword-requires
write_quadword-requires c =
    let m = c.requires.1 in
    let p = position_inside c.args.w.size c.args.w.address c.args.w.registers.cl c.args.w.registers.wl c.args.i m.some in
    let l = m.long in
    omega (arith, c.place-quad.ensures)

pub returns : goal.returns
returns c =
    let w = c.write_quadword.ensures in
    at_written _ _ _ _ _ _ _ c.place-quad.ensures c.mode_at-mode.ensures c.requires.4 c.requires.5 w.0 w.1
