-- Formats and numbers, each way.
use Rattle.std.specs.Prelude.{Option, Some}
use Rattle.std.proofs.Common.{◌≡◌, ℕ, eqb, List, [], ◌∷◌, sym, refl, arith, eqb-true}
use Rattle.fields.specs.Fields.{if}
use Rattle.fields.proofs.ChoiceLaws.{if_ind_by}
use Rattle.unpack_rules.specs.declared.Format.{Format}
use Rattle.unpack_rules.specs.declared.Format.TheVariants.{S32, S16, S8, V2x32, V2x16, V2x8, V3x32, V3x16, V3x8, V4x32, V4x16, V4x8, V4x5}
use Rattle.unpack_rules.specs.Formats.{format_number, formats, named_in, format_named}

-- the number of a format names it
pub named_number : (f : Format) → format_named (format_number f) ≡ Some f
unfolding named_in if
named_number S32 = refl
named_number S16 = refl
named_number S8 = refl
named_number V2x32 = refl
named_number V2x16 = refl
named_number V2x8 = refl
named_number V3x32 = refl
named_number V3x16 = refl
named_number V3x8 = refl
named_number V4x32 = refl
named_number V4x16 = refl
named_number V4x8 = refl
named_number V4x5 = refl

pub names : {n : ℕ} (f : Format) → n ≡ format_number f → Some f ≡ format_named n
names f e = rw e (sym (named_number f))

-- a format that a number names has it
module _ (n : ℕ) (f : Format) where
  found : (fs : List Format) → named_in fs n ≡ Some f → format_number f ≡ n
  unfolding named_in
  found [] = λ e. absurd (let z : ◌≡◌ {A = ℕ} 0 1 = cc in omega arith)
  found (g ∷ fs) =
      if_ind_by (λ (x : Option Format). x ≡ Some f → format_number f ≡ n) (eqb n (format_number g))
      (λ q e. let s : g ≡ f = cc in rw (← s) (sym (eqb-true n (format_number g) q)))
      (λ q. found fs)

  pub number_named : format_named n ≡ Some f → format_number f ≡ n
  number_named e = found formats e
