-- A payload word keeps the length of data memory.
use Rattle.std.proofs.Common.{◌≡◌, ℕ, length}
use Rattle.unpack_rules.specs.declared.Format.{Format}
use Rattle.unpack_rules.specs.declared.Unpacking.{Unpacking}
use Rattle.unpack_rules.specs.declared.Registers.{Registers}
use Rattle.unpack_rules.specs.Write.{Written}
use Rattle.unpack_rules.specs.Step.{word_of, unpack_word, unfed_writes}
use Rattle.unpack_rules.proofs.WholeLaws.{writes_length}

pub word_length : (size : ℕ) (f : Format) (u : Unpacking) (r : Registers) (word : ℕ) (w : Written)
    → length (unpack_word size f u r word w).mem ≡ length w.mem
unfolding unpack_word word_of
word_length size f u r word w = writes_length size _ _ _ _ _ w

pub unfed_length : (size : ℕ) (f : Format) (u : Unpacking) (r : Registers) (w : Written) → length (unfed_writes size f u r w).mem ≡ length w.mem
unfolding unfed_writes
unfed_length size f u r w = writes_length size _ _ _ _ _ w
