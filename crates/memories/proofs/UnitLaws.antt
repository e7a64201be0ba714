-- The units' sizes: what holds of each.
use Prim.Native.Nat.{◌≤◌}
use native.Mathlib.Omega.{arith}
use Rattle.memories.specs.declared.VifUnit.{VifUnit}
use Rattle.memories.specs.declared.VifUnit.TheVariants.{Vif0, Vif1}
use Rattle.memories.specs.Units.{quadwords, instructions}

pub quadwords_some : (u : VifUnit) → 1 ≤ quadwords u
quadwords_some Vif0 = omega arith
quadwords_some Vif1 = omega arith

pub quadwords_most : (u : VifUnit) → quadwords u ≤ 1024
quadwords_most Vif0 = omega arith
quadwords_most Vif1 = omega arith

pub instructions_some : (u : VifUnit) → 1 ≤ instructions u
instructions_some Vif0 = omega arith
instructions_some Vif1 = omega arith

pub instructions_most : (u : VifUnit) → instructions u ≤ 2048
instructions_most Vif0 = omega arith
instructions_most Vif1 = omega arith
