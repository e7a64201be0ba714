-- What a refused quadword shows is found there and breaks the rule.
use Rattle.std.specs.Prelude.{None, Option, Some}
use mathlib.Core.Path.{◌≡◌, refl, sym, ◌∙◌}
use mathlib.Core.Bool.{Bool, true, false, ◌&&◌, ◌||◌}
use mathlib.Core.List.{List}
use Prim.Native.Nat.{ℕ, ◌+◌, ◌*◌, ◌<◌, ◌≤◌}
use native.Mathlib.Omega.{arith}
use borrow.Author.Tests.{ltb-true, eqb-true}
use lib.ListN.{length}
use lib.Dec.{eqb}
use Rattle.fields.specs.Fields.{if}
use Rattle.fields.specs.Refusals.{descriptor_b, log_full}
use Rattle.fields.proofs.ChoiceLaws.{if_ind_by, and_left, and_right}
use Rattle.gif.specs.declared.GifPath.{GifPath}
use Rattle.gif.specs.declared.Write.{Write}
use Rattle.gif.specs.declared.TagFormat.{TagFormat}
use Rattle.gif.specs.declared.TagFormat.TheVariants.{Packed, Reglist, Image}
use Rattle.gif.specs.declared.HeldTag.{HeldTag}
use Rattle.gif.specs.declared.Path.{Path}
use Rattle.gif.specs.GifAnswer.{Taken, Refused}
use Rattle.gif.specs.Log.{entry_size, lacks_room}
use Rattle.gif.specs.Tag.{taken_of, descriptor_at}
use Rattle.gif.specs.Range.{path_in_range}
use Rattle.gif.specs.Reglist.{first_item, has_second, reglist_refused}
use Rattle.gif.specs.Step.{Left, refused, commit, tag_step, packed_with, reglist_step, image_step, data_step, step_at, gif_step}
use Rattle.gif_reason.specs.Reason.{numbers, free_entries, data_writes, quadword_writes, quadword_needs, quadword_numbers}
use Rattle.gif.specs.Met.{reglist_met, data_met, place_met, met_descriptor}
use Rattle.gif_reason.specs.Fault.{QuadwordFault, packed_b, reglist_low_b, reglist_high_b, no_room}

-- a log that lacks room for so many entries has fewer free
pub free_below : (log : List ℕ) (used k : ℕ) → entry_size * used ≤ length log → lacks_room log used k ≡ true → free_entries log used < k
unfolding free_entries lacks_room
free_below log used k h e = let l = ltb-true (length log) (entry_size * (used + k)) e in omega arith

-- what holds at the case that an arm knows holds at the value itself
pub by_place : {w v : Option HeldTag} → w ≡ v → {n : ℕ} → n ≡ place_met v → n ≡ place_met w
by_place e h = rw e h

met_low : (t : HeldTag) → eqb (descriptor_at t (first_item t)) 11 ≡ true → reglist_met t ≡ descriptor_at t (first_item t)
unfolding reglist_met if
met_low t e = rw e

met_high : (t : HeldTag) → eqb (descriptor_at t (first_item t)) 11 ≡ false → reglist_met t ≡ descriptor_at t (first_item t + 1)
unfolding reglist_met if
met_high t e = rw e

no_taken : {c : Bool} {n : ℕ} → Taken c ≡ Refused n → ⊥
no_taken e = let z : ◌≡◌ {A = ℕ} 0 1 = cc in omega arith

module _ (which : GifPath) (p : Path) (r : path_in_range p ≡ true) (quad used : ℕ) (log : List ℕ) (h : entry_size * used ≤ length log) where
  abbrev Shown : ℕ → Type 0
  Shown n = QuadwordFault p quad used log n (quadword_numbers n p (quadword_needs p quad) used log)

  record Told (o : Left) : Type 0 where
    told : (n : ℕ) → o.answer ≡ Refused n → Shown n

  told_refused : (k : ℕ) → Shown k → Told (refused k p used log)
  told_refused k s = record { told = λ n e. let q : k ≡ n = cc in rw (sym q) s }

  told_commit : (after : Path) (closed : Bool) (ws : List Write) → quadword_needs p quad ≡ length ws → Told (commit which p after closed ws used log)
  unfolding commit quadword_numbers if
  told_commit after closed ws k =
      if_ind_by Told (lacks_room log used (length ws))
      (λ e. told_refused log_full (no_room (rw k (free_below log used (length ws) h e))))
      (λ e. record { told = λ n q. absurd (no_taken q) })

  met : (t : HeldTag) → p.place ≡ Some t → met_descriptor p ≡ data_met t.format t
  unfolding met_descriptor if
  met t e = rw (r, e)

  -- refused with 30, by the descriptor that is met
  shown_b : (d : ℕ) → met_descriptor p ≡ d → QuadwordFault p quad used log descriptor_b (numbers d 0) → Shown descriptor_b
  unfolding quadword_numbers if
  shown_b d e f = rw e f

  reglist_b : (t : HeldTag) → p.place ≡ Some t → t.format ≡ Reglist → reglist_refused t ≡ true → Shown descriptor_b
  unfolding reglist_refused
  reglist_b t e f q = go (eqb (descriptor_at t (first_item t)) 11) refl q
    where
      met_there : met_descriptor p ≡ reglist_met t
      met_there = met t e ∙ rw f

      go : (b : Bool) → eqb (descriptor_at t (first_item t)) 11 ≡ b → (b || (has_second t && eqb (descriptor_at t (first_item t + 1)) 11)) ≡ true → Shown descriptor_b
      go true w z = shown_b _ (met_there ∙ met_low t w) (reglist_low_b t e f (eqb-true _ _ w))
      go false w z = shown_b _ (met_there ∙ met_high t w) (reglist_high_b t e f (and_left _ _ z) (eqb-true _ _ (and_right (has_second t) _ z)))

  told_data : (f : TagFormat) (t : HeldTag) → p.place ≡ Some t → t.format ≡ f → quadword_needs p quad ≡ length (data_writes f t p.q quad)
      → Told (data_step f which p t quad used log)
  unfolding packed_with reglist_step image_step
  told_data Packed t e f k =
      if_ind_by Told (eqb (descriptor_at t (taken_of t)) 11)
      (λ q.
      let m : met_descriptor p ≡ descriptor_at t (taken_of t) = met t e ∙ rw f in
      told_refused descriptor_b (shown_b _ m (packed_b t e f (eqb-true _ _ q))))
      (λ q. told_commit _ _ _ k)
  told_data Reglist t e f k = if_ind_by Told (reglist_refused t) (λ q. told_refused descriptor_b (reglist_b t e f q)) (λ q. told_commit _ _ _ k)
  told_data Image t e f k = told_commit _ _ _ k

  told_at : (w : Option HeldTag) → p.place ≡ w → Told (step_at w which p quad used log)
  unfolding tag_step quadword_writes
  told_at None e = told_commit _ _ _ (rw e)
  told_at (Some t) e = told_data t.format t e refl (rw e)

  -- "the shown number is the one found there and does break the rule"
  pub quadword_told : (n : ℕ) → (gif_step which p quad used log).answer ≡ Refused n → QuadwordFault p quad used log n (quadword_numbers n p (quadword_needs p quad) used log)
  unfolding gif_step
  quadword_told n e = (told_at p.place refl).told n e
