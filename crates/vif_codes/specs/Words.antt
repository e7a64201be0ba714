-- Words as they come to the unit.
use Rattle.std.specs.Prelude.{ℕ, ◌+◌, ◌/◌, ◌%◌, Bool, true, false, List, eqb}
use Rattle.fields.specs.Fields.{if}
use Rattle.fields.specs.Memory.{word_at}
use Rattle.vif_codes.specs.declared.Incoming.{Incoming}
use Rattle.vif_codes.specs.declared.Incoming.TheVariants.{Word0, Word1, Word2, Word3}

-- the word at an address, by its number in its quadword
unfoldable pub incoming_at : List ℕ → ℕ → Incoming
incoming_at main a =
    if (eqb (a / 4 % 4) 0) (Word0 (word_at main a) (word_at main (a + 4)) (word_at main (a + 8)) (word_at main (a + 12)))
    (if (eqb (a / 4 % 4) 1) (Word1 (word_at main a))
    (if (eqb (a / 4 % 4) 2) (Word2 (word_at main a))
    (Word3 (word_at main a))))

-- the next word
abbrev pub word_in : Incoming → ℕ
word_in (Word0 a b c d) = a
word_in (Word1 a) = a
word_in (Word2 a) = a
word_in (Word3 a) = a

-- whether it is word 1 or 3 of its quadword
abbrev pub odd_word : Incoming → Bool
odd_word (Word0 a b c d) = false
odd_word (Word1 a) = true
odd_word (Word2 a) = false
odd_word (Word3 a) = true
