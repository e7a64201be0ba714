-- What a word says in the papers' words: a code that is listed, or refused, by number.
use Rattle.std.specs.Prelude.{ℕ, Result, Ok, Err}
use Rattle.fields.specs.declared.refusals.Refusal.{Refusal}
use Rattle.fields.specs.Refusals.{refusal_number}
use Rattle.vif_codes.specs.declared.Code.{Code}

pub data Decoded : Type 0 where
  Known : Code → Decoded
  Unknown : ℕ → Decoded

abbrev pub decoded : Result Code Refusal → Decoded
decoded (Ok c) = Known c
decoded (Err e) = Unknown (refusal_number e)
