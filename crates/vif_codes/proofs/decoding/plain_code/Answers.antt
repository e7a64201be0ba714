use native.Mathlib.Nat.{div-one}
use native.Mathlib.Omega.{arith}
use borrow.Author.Tests.{ne_eqb}
use Rattle.fields.specs.Fields.{if, bits}
use Rattle.vif_codes.specs.Codes.{plain_code}
use Rattle.vif_codes.proofs.decoding.plain_code.Goals as goal

pub returns-in_default : goal.returns-in_default
unfolding plain_code if
returns-in_default c =
    let n = c.args.cmd in
    rw (
      ne_eqb n 0x00 (λ e. omega arith),
      ne_eqb n 0x01 (λ e. omega arith),
      ne_eqb n 0x02 (λ e. omega arith),
      ne_eqb n 0x03 (λ e. omega arith),
      ne_eqb n 0x04 (λ e. omega arith),
      ne_eqb n 0x05 (λ e. omega arith),
      ne_eqb n 0x06 (λ e. omega arith),
      ne_eqb n 0x07 (λ e. omega arith),
      ne_eqb n 0x10 (λ e. omega arith),
      ne_eqb n 0x11 (λ e. omega arith),
      ne_eqb n 0x13 (λ e. omega arith),
      ne_eqb n 0x14 (λ e. omega arith),
      ne_eqb n 0x15 (λ e. omega arith),
      ne_eqb n 0x17 (λ e. omega arith),
      ne_eqb n 0x20 (λ e. omega arith),
      ne_eqb n 0x30 (λ e. omega arith),
      ne_eqb n 0x31 (λ e. omega arith),
      ne_eqb n 0x4A (λ e. omega arith),
      ne_eqb n 0x50 (λ e. omega arith),
      ne_eqb n 0x51 (λ e. omega arith),
    )

pub returns-in-0 : goal.returns-in-0
unfolding plain_code bits if
returns-in-0 c = simp (c.in-0.is, div-one)

pub returns-in-1 : goal.returns-in-1
unfolding plain_code bits if
returns-in-1 c = simp (c.in-1.is, div-one)

pub returns-in-2 : goal.returns-in-2
unfolding plain_code bits if
returns-in-2 c = simp (c.in-2.is, div-one)

pub returns-in-3 : goal.returns-in-3
unfolding plain_code bits if
returns-in-3 c = simp (c.in-3.is, div-one)

pub returns-in-4 : goal.returns-in-4
unfolding plain_code bits if
returns-in-4 c = simp (c.in-4.is, div-one)

pub returns-in-5 : goal.returns-in-5
unfolding plain_code bits if
returns-in-5 c = simp (c.in-5.is, div-one)

pub returns-in-6 : goal.returns-in-6
unfolding plain_code bits if
returns-in-6 c = simp (c.in-6.is, div-one)

pub returns-in-7 : goal.returns-in-7
unfolding plain_code bits if
returns-in-7 c = simp (c.in-7.is, div-one)

pub returns-in-16 : goal.returns-in-16
unfolding plain_code bits if
returns-in-16 c = simp (c.in-16.is, div-one)

pub returns-in-17 : goal.returns-in-17
unfolding plain_code bits if
returns-in-17 c = simp (c.in-17.is, div-one)

pub returns-in-19 : goal.returns-in-19
unfolding plain_code bits if
returns-in-19 c = simp (c.in-19.is, div-one)

pub returns-in-20 : goal.returns-in-20
unfolding plain_code bits if
returns-in-20 c = simp (c.in-20.is, div-one)

pub returns-in-21 : goal.returns-in-21
unfolding plain_code bits if
returns-in-21 c = simp (c.in-21.is, div-one)

pub returns-in-23 : goal.returns-in-23
unfolding plain_code bits if
returns-in-23 c = simp (c.in-23.is, div-one)

pub returns-in-32 : goal.returns-in-32
unfolding plain_code bits if
returns-in-32 c = simp (c.in-32.is, div-one)

pub returns-in-48 : goal.returns-in-48
unfolding plain_code bits if
returns-in-48 c = simp (c.in-48.is, div-one)

pub returns-in-49 : goal.returns-in-49
unfolding plain_code bits if
returns-in-49 c = simp (c.in-49.is, div-one)

pub returns-in-74 : goal.returns-in-74
unfolding plain_code bits if
returns-in-74 c = simp (c.in-74.is, div-one)

pub returns-in-80 : goal.returns-in-80
unfolding plain_code bits if
returns-in-80 c = simp (c.in-80.is, c.quadwords_of.ensures)

pub returns-in-81 : goal.returns-in-81
unfolding plain_code bits if
returns-in-81 c = simp (c.in-81.is, c.quadwords_of-in-81.ensures)
