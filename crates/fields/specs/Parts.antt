-- A block of words put together of parts.
use Rattle.std.specs.Prelude.{ℕ, List}
use Rattle.std.proofs.lemmas.List.Edits.{sets}

-- a block with words stored one after another from a place on; those past its end are dropped
unfoldable pub with_words : List ℕ → ℕ → List ℕ → List ℕ
with_words block at words = sets block at words
