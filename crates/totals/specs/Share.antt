-- Request 14: "the NOP share as two whole numbers in lowest terms (0 over 1 when no words)".
use Rattle.std.specs.Prelude.{ℕ, ◌*◌, ◌≡◌}
use Rattle.std.specs.Int.{◌∣◌}
use Rattle.totals.specs.declared.Share.{Share}

abbrev pub share : ℕ → ℕ → Share
share nops words = record { nops = nops; words = words }

-- r is the share of so many NOPs among so many VIF words; there is no other (`share-only`)
pub record NopShare (nops words : ℕ) (r : Share) : Type 0 where
  -- "(0 over 1 when no words)"
  pub empty : words ≡ 0 → (r.nops ≡ 0) × (r.words ≡ 1)
  -- else the same share
  pub same : (words ≡ 0 → ⊥) → r.nops * words ≡ nops * r.words
  -- "in lowest terms": 1 alone divides both
  pub lowest : (d : ℕ) → d ∣ r.nops → d ∣ r.words → d ≡ 1
