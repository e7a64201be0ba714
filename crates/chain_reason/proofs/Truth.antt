-- What a refused tag shows is found there and breaks the rule.
use mathlib.Core.Path.{◌≡◌, refl, sym}
use mathlib.Core.Bool.{Bool, true, false, not, ◌&&◌}
use mathlib.Core.List.{List}
use Prim.Native.Nat.{ℕ, ◌+◌, ◌*◌, ◌%◌, ◌<◌}
use native.Mathlib.Omega.{arith}
use borrow.Author.Tests.{ltb-true, eqb-true, eqb-false}
use lib.ListN.{length}
use lib.Dec.{eqb, ltb}
use Rattle.fields.specs.declared.Counts.{Counts}
use Rattle.fields.specs.Fields.{if}
use Rattle.fields.specs.Refusals.{tadr_outside, addr_unaligned, scratchpad_set, stack_full, payload_outside}
use Rattle.fields.proofs.ChoiceLaws.{if_ind_by, and_left, and_right, not-true}
use Rattle.chain_state.specs.declared.Stack.{Stack}
use Rattle.chain_state.specs.declared.Stack.TheVariants.{Empty, One, Two}
use Rattle.chain.specs.StepAnswer.{Completed, Refused, StateStepped}
use Rattle.chain_state.specs.declared.State.{State}
use Rattle.chain.specs.Tags.{qwc_of, id_of, addr_of, spr_of, uses_addr, payload_at, is_full, tag_refusal, completed_result, refused_result, tag_read, tag_step}
use Rattle.chain_reason.specs.Reason.{stack_depth, most_fits, read_numbers, tag_numbers}
use Rattle.chain_reason.specs.Fault.{tag_at, TagFault, tadr_outside_lem, addr_unaligned_lem, scratchpad_set_lem, stack_full_lem, payload_outside_lem}

full_depth : (k : Stack) → is_full k ≡ true → stack_depth k ≡ 2
full_depth Empty e = absurd (let z : ◌≡◌ {A = ℕ} 0 1 = cc in omega arith)
full_depth (One a) e = absurd (let z : ◌≡◌ {A = ℕ} 0 1 = cc in omega arith)
full_depth (Two a b) e = refl

fits_below : (size start qwc : ℕ) → (qwc ≡ 0 → ⊥) → size < start + 16 * qwc → most_fits size start < qwc
unfolding most_fits
fits_below size start qwc z l = omega arith

no_completed : {i : Bool} {n : ℕ} → Completed i ≡ Refused n → ⊥
no_completed e = let z : ◌≡◌ {A = ℕ} 0 1 = cc in omega arith

module _ (main : List ℕ) (s : State) where
  abbrev Shown : ℕ → Type 0
  Shown n = TagFault main s n (tag_numbers n main s)

  outside_told : ltb (length main) (s.tadr + 16) ≡ true → Shown tadr_outside
  unfolding read_numbers if
  outside_told e = tadr_outside_lem (ltb-true _ _ e)

  addr_told : (uses_addr (id_of (tag_at main s)) && not (eqb (addr_of (tag_at main s) % 16) 0)) ≡ true → Shown addr_unaligned
  unfolding read_numbers if
  addr_told e =
      addr_unaligned_lem (and_left _ _ e) (eqb-false _ _ (not-true _ (and_right (uses_addr (id_of (tag_at main s))) _ e)))

  spr_told : (uses_addr (id_of (tag_at main s)) && spr_of (tag_at main s)) ≡ true → Shown scratchpad_set
  unfolding read_numbers if
  spr_told e = scratchpad_set_lem (and_left _ _ e) (eqb-true _ _ (and_right (uses_addr (id_of (tag_at main s))) _ e))

  call_told : (eqb (id_of (tag_at main s)) 5 && is_full s.stack) ≡ true → Shown stack_full
  unfolding read_numbers if
  call_told e = stack_full_lem (eqb-true _ _ (and_left _ _ e)) (full_depth s.stack (and_right (eqb (id_of (tag_at main s)) 5) _ e))

  payload_told : (not (eqb (qwc_of (tag_at main s)) 0) && ltb (length main) (payload_at (id_of (tag_at main s)) (addr_of (tag_at main s)) s.tadr + 16 * qwc_of (tag_at main s))) ≡ true
      → Shown payload_outside
  unfolding read_numbers if
  payload_told e =
      payload_outside_lem
      (fits_below _ _ _ (eqb-false _ _ (not-true _ (and_left _ _ e))) (ltb-true _ _ (and_right (not (eqb (qwc_of (tag_at main s)) 0)) _ e)))

  abbrev Unless0 : ℕ → Type 0
  Unless0 n = (n ≡ 0 → ⊥) → Shown n

  refusal_told : Unless0 (tag_refusal (length main) s.tadr (id_of (tag_at main s)) (addr_of (tag_at main s)) (spr_of (tag_at main s)) (qwc_of (tag_at main s)) s.stack)
  unfolding tag_refusal
  refusal_told =
      if_ind_by Unless0 _ (λ e z. outside_told e)
      (λ e1.
      if_ind_by Unless0 _ (λ e z. addr_told e)
      (λ e2.
      if_ind_by Unless0 _ (λ e z. spr_told e)
      (λ e3. if_ind_by Unless0 _ (λ e z. call_told e) (λ e4. if_ind_by Unless0 _ (λ e z. payload_told e) (λ e5 z. absurd (z refl))))))

  record Told (r : StateStepped) : Type 0 where
    told : (n : ℕ) → r.answer ≡ Refused n → Shown n

  told_refused : (k : ℕ) → Shown k → Told (refused_result k s)
  told_refused k h = record { told = λ n e. let q : k ≡ n = cc in rw (sym q) h }

  told_completed : (c : Counts) (t : State) → Told (completed_result false c t)
  told_completed c t = record { told = λ n e. absurd (no_completed e) }

  -- "the shown number is the one found there and does break the rule"
  pub tag_told : (n : ℕ) → (tag_step main s).answer ≡ Refused n → TagFault main s n (tag_numbers n main s)
  unfolding tag_read
  tag_told n e =
      (if_ind_by Told (eqb (tag_refusal (length main) s.tadr (id_of (tag_at main s)) (addr_of (tag_at main s)) (spr_of (tag_at main s)) (qwc_of (tag_at main s)) s.stack) 0)
      (λ z. told_completed _ _)
      (λ z. told_refused _ (refusal_told (eqb-false _ _ z)))
      ).told n e
