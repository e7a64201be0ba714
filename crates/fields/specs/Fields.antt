-- Fields of numbers, and the choice by a test.
use Rattle.std.specs.Prelude.{ℕ, ◌+◌, ◌-◌, ◌*◌, ◌/◌, ◌%◌, ◌^◌, Bool, true, false}

-- the choice by a test
unfoldable pub if : {A : Type 0} → Bool → A → A → A
if true a b = a
if false a b = b

-- bits `from` to `to` of a number, both included, numbered from 0
unfoldable pub bits : ℕ → ℕ → ℕ → ℕ
bits x from to = x / 2 ^ from % 2 ^ (to + 1 - from)

-- "a quadword is 16 bytes": the number of 128 bits, from its low and its high 64 bits
unfoldable pub quadword : ℕ → ℕ → ℕ
quadword low high = low + high * 2 ^ 64
