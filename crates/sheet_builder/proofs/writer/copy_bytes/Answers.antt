use mathlib.Core.Path.{◌≡◌, ◌∙◌}
use mathlib.Core.List.{List, append-nil}
use Prim.Native.Nat.{ℕ}
use native.Mathlib.Omega.{arith}
use lib.ListN.{length, drop_of_length-le}
use lib.Seq.{sets}
use Rattle.sheet.proofs.ListLaws.{sets_front}
use Rattle.sheet_builder.proofs.writer.copy_bytes.Goals as goal

-- as many as there are
all_copied : (xs l : List ℕ) → length xs ≡ length l → sets l 0 xs ≡ xs
all_copied xs l e = sets_front l xs (omega arith) ∙ rw (drop_of_length-le l {i = length xs} (omega arith), append-nil xs)

pub returns : goal.returns
returns c = rw (drop_of_length-le _ c.loop-i-test.false) at c.loop-i.invariant.same ∙ all_copied _ _ c.requires
