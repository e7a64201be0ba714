use Prim.Native.Nat.{◌+◌, ◌*◌, ◌-◌}
use mathlib.Core.Path.{◌≡◌}
use Rattle.sheet.specs.Records.{pads_zero}
use Rattle.sheet.proofs.reader.pads_zero.Given as goal

abbrev pub invariant-loop-j : goal.invariant-loop-j
invariant-loop-j l = pads_zero l.sheet (l.at + 16 * l.j) (l.n - l.j) ≡ pads_zero l.sheet l.at l.n
