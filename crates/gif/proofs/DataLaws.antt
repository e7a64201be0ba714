-- The data steps from what their parts give.
use Rattle.std.specs.Prelude.{Option}
use mathlib.Core.Path.{◌≡◌, refl}
use mathlib.Core.Bool.{Bool, true, false, ◌||◌, ◌&&◌}
use mathlib.Core.List.{List, [], ◌++◌}
use Prim.Native.Nat.{ℕ, ◌+◌, ◌*◌, ◌<◌, ◌^◌}
use borrow.Author.Tests.{eq-eqb, ne_eqb}
use lib.Dec.{eqb, ltb}
use Rattle.gif.specs.declared.TagFormat.{TagFormat}
use Rattle.gif.specs.declared.HeldTag.{HeldTag}
use Rattle.gif.specs.declared.Path.{Path}
use Rattle.gif.specs.declared.GifPath.{GifPath}
use Rattle.gif.specs.declared.Write.{Write}
use Rattle.gif.specs.declared.GifResult.{GifResult}
use Rattle.fields.specs.declared.refusals.Refusal.TheVariants.{DescriptorB}
use Rattle.fields.specs.Fields.{if, quadword}
use Rattle.gif.specs.Tag.{path_of, place_after, taken_of, descriptor_at, data_closes}
use Rattle.gif.specs.Packed.{packed_writes, packed_q}
use Rattle.gif.specs.Reglist.{reglist_write, reglist_writes, reglist_refused}
use Rattle.gif.specs.Step.{Left, left, refused_result, commit, packed_with, packed_step, reglist_step, data_step, step_at}
use Rattle.fields.proofs.FieldLaws.{whole_low, whole_high}

module _ (which : GifPath) (p : Path) (t : HeldTag) (quad used : ℕ) (log : List ℕ) {k d : ℕ} (ek : k ≡ taken_of t) (ed : d ≡ descriptor_at t k) where
  pub packed_refused : d ≡ 11 → {r : GifResult} → r ≡ refused_result DescriptorB p used → left r log ≡ packed_step which p t quad used log
  unfolding packed_with if
  packed_refused h e = simp (← ek, ← ed, eq-eqb _ _ h, e)

  pub packed_taken : (d ≡ 11 → ⊥) → {q : ℕ} {es : List Write} {o : Left} → q ≡ packed_q d p.q quad → es ≡ packed_writes d p.q quad
      → o ≡ commit which p (path_of q (place_after t)) (data_closes t) es used log → o ≡ packed_step which p t quad used log
  unfolding packed_with if
  packed_taken h eq ee eo = simp (← ek, ← ed, ne_eqb _ _ h, ← eq, ← ee) eo

-- the descriptor of a high half, that of no write where the half is dropped
module _ (which : GifPath) (p : Path) (t : HeldTag) (low high used : ℕ) (log : List ℕ) {k d s : ℕ} (ek : k ≡ taken_of t) (ed : d ≡ descriptor_at t (2 * k))
    (es : s ≡ if (ltb (2 * k + 1) (t.nloop * t.nreg)) (descriptor_at t (2 * k + 1)) 15) where
  second_b : (b : Bool) (x : ℕ) → eqb (if b x 15) 11 ≡ (b && eqb x 11)
  unfolding if
  second_b true x = refl
  second_b false x = refl

  second_write : (b : Bool) (x v : ℕ) → reglist_write (if b x 15) v ≡ if b (reglist_write x v) []
  unfolding if reglist_write
  second_write true x v = refl
  second_write false x v = refl

  refused_as : (eqb d 11 || eqb s 11) ≡ reglist_refused t
  unfolding reglist_refused
  refused_as = rw (es, second_b, ed, ek)

  writes_as : low < 2 ^ 64 → high < 2 ^ 64 → reglist_write d low ++ reglist_write s high ≡ reglist_writes t (quadword low high)
  unfolding reglist_writes
  writes_as l h = rw (whole_low low high l, whole_high low high l h, es, second_write, ed, ek)

  pub reglist_refused_lem : (eqb d 11 || eqb s 11) ≡ true → {r : GifResult} → r ≡ refused_result DescriptorB p used
      → left r log ≡ reglist_step which p t (quadword low high) used log
  unfolding reglist_step if
  reglist_refused_lem h e = simp (← refused_as, h, e)

  pub reglist_taken : (eqb d 11 || eqb s 11) ≡ false → low < 2 ^ 64 → high < 2 ^ 64 → {xs : List Write} {o : Left} → xs ≡ reglist_write d low ++ reglist_write s high
      → o ≡ commit which p (path_of p.q (place_after t)) (data_closes t) xs used log → o ≡ reglist_step which p t (quadword low high) used log
  unfolding reglist_step if
  reglist_taken h l m ex eo = rw (← refused_as, h) (rw (← writes_as l m, ← ex) eo)

-- what holds at the format or the place that an arm knows holds at the value itself
pub by_format : {f g : TagFormat} → f ≡ g → (which : GifPath) (p : Path) (t : HeldTag) (quad used : ℕ) (log : List ℕ) {o : Left} → o ≡ data_step g which p t quad used log
    → o ≡ data_step f which p t quad used log
by_format e which p t quad used log h = rw e h

pub by_place : {w v : Option HeldTag} → w ≡ v → (which : GifPath) (p : Path) (quad used : ℕ) (log : List ℕ) {o : Left} → o ≡ step_at v which p quad used log
    → o ≡ step_at w which p quad used log
by_place e which p quad used log h = rw e h
