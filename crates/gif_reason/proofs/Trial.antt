-- A step tried on a log with room is refused as it would be on another, but for want of room there.
use Rattle.std.specs.Prelude.{None, Option, Some}
use mathlib.Core.Path.{◌≡◌, refl, sym, ◌∙◌}
use mathlib.Core.Bool.{Bool, true, false}
use mathlib.Core.List.{List, []}
use Prim.Native.Nat.{ℕ, ◌+◌, ◌*◌, ◌≤◌}
use native.Mathlib.Nat.{zero-add}
use native.Mathlib.Omega.{arith}
use borrow.Author.Tests.{le-ltb}
use lib.ListN.{length, length-append}
use lib.Dec.{eqb}
use Rattle.fields.specs.Fields.{if, bits}
use Rattle.fields.specs.Refusals.{descriptor_b, log_full}
use Rattle.fields.proofs.ChoiceLaws.{if_ind}
use Rattle.gif.specs.declared.GifPath.{GifPath}
use Rattle.gif.specs.declared.Write.{Write}
use Rattle.gif.specs.declared.TagFormat.{TagFormat}
use Rattle.gif.specs.declared.TagFormat.TheVariants.{Packed, Reglist, Image}
use Rattle.gif.specs.declared.HeldTag.{HeldTag}
use Rattle.gif.specs.declared.Path.{Path}
use Rattle.gif.specs.GifAnswer.{GifAnswer, Taken, Refused}
use Rattle.gif.specs.Log.{entry_size, entries_by, logged, lacks_room}
use Rattle.gif.specs.Tag.{taken_of, descriptor_at, tag_writes}
use Rattle.gif.specs.Packed.{packed_writes}
use Rattle.gif.specs.Reglist.{first_item, has_second, reglist_write, reglist_writes}
use Rattle.gif.specs.Step.{Left, refused, commit, tag_step, packed_with, reglist_step, image_step, data_step, step_at, gif_step}
use Rattle.gif_reason.specs.Reason.{data_writes, writes_at, quadword_writes, quadword_needs}

-- what comes of a step: it goes, or it is refused
pub data Outcome : Type 0 where
  goes : Outcome
  refuses : ℕ → Outcome

pub no_goes : {n : ℕ} → goes ≡ refuses n → ⊥
no_goes e = let z : ◌≡◌ {A = ℕ} 0 1 = cc in omega arith

pub same_number : {m n : ℕ} → refuses m ≡ refuses n → m ≡ n
same_number e = cc

-- what comes of it on another log, where it needs k entries
abbrev pub with_room : List ℕ → ℕ → Outcome → ℕ → Outcome
with_room log used goes k = if (lacks_room log used k) (refuses log_full) goes
with_room log used (refuses n) k = refuses n

-- the outcome a on this log, and a' with k entries used on one with room
pub record Tried (log : List ℕ) (used needed : ℕ) (a a' : Outcome) (k : ℕ) : Type 0 where
  pub alike : a ≡ with_room log used a' k
  pub needs : a ≡ refuses log_full → k ≡ needed
  pub other : (n : ℕ) → a' ≡ refuses n → n ≡ log_full → ⊥

module _ (log : List ℕ) (used needed : ℕ) where
  pub refuses_tried : (n k : ℕ) → (n ≡ log_full → ⊥) → Tried log used needed (refuses n) (refuses n) k
  refuses_tried n k h =
      record {
        alike = refl;
        needs = λ e. absurd (h (same_number e));
        other = λ j e q. h (same_number e ∙ q);
      }

  -- a step that needs no entry
  pub goes_tried : entry_size * used ≤ length log → Tried log used needed goes goes 0
  unfolding lacks_room if
  goes_tried h =
      record {
        alike = rw (le-ltb (length log) (entry_size * (used + 0)) (omega arith));
        needs = λ e. absurd (no_goes e);
        other = λ j e q. no_goes e;
      }

  -- a step that needs some
  pub needs_tried : (b : Bool) → lacks_room log used needed ≡ b → Tried log used needed (if b (refuses log_full) goes) goes needed
  unfolding if
  needs_tried true e = record { alike = rw e; needs = λ q. refl; other = λ j q r. no_goes q }
  needs_tried false e = record { alike = rw e; needs = λ q. refl; other = λ j q r. no_goes q }

  -- only the entries of a step that goes count
  pub carried : {a : Outcome} (a' : Outcome) {k : ℕ} (j : ℕ) → Tried log used needed a a' k → (a' ≡ goes → j ≡ k) → Tried log used needed a a' j
  carried goes j t h =
      let e = h refl in
      record { alike = rw e t.alike; needs = λ q. e ∙ t.needs q; other = t.other }
  carried (refuses n) j t h =
      record {
        alike = t.alike;
        needs = λ q. absurd (t.other n refl (same_number (sym t.alike ∙ q)));
        other = t.other;
      }

-- ---- the GIF's step

abbrev pub outcome_of : GifAnswer → Outcome
outcome_of (Taken c) = goes
outcome_of (Refused n) = refuses n

-- "Each write is a log entry", and a step has two at most
abbrev Few : List Write → Type 0
Few ws = length ws ≤ 2

tag_few : (quad : ℕ) → length (tag_writes quad) ≤ 2
unfolding tag_writes
tag_few quad = if_ind Few _ (omega arith) (omega arith)

packed_few : (d q quad : ℕ) → length (packed_writes d q quad) ≤ 2
unfolding packed_writes
packed_few d q quad =
    if_ind Few _ (omega arith)
    (if_ind Few _ (omega arith)
    (if_ind Few _ (omega arith)
    (if_ind Few _ (omega arith)
    (if_ind Few _ (omega arith)
    (if_ind Few _ (omega arith)
    (if_ind Few _ (omega arith)
    (if_ind Few _ (omega arith) (omega arith))))))))

half_few : (d x : ℕ) → length (reglist_write d x) ≤ 1
unfolding reglist_write
half_few d x = if_ind (λ (ws : List Write). length ws ≤ 1) _ (omega arith) (omega arith)

second_few : (t : HeldTag) (quad : ℕ) → length (if (has_second t) (reglist_write (descriptor_at t (first_item t + 1)) (bits quad 64 127)) []) ≤ 1
second_few t quad = if_ind (λ (ws : List Write). length ws ≤ 1) (has_second t) (half_few (descriptor_at t (first_item t + 1)) (bits quad 64 127)) (omega arith)

reglist_few : (t : HeldTag) (quad : ℕ) → length (reglist_writes t quad) ≤ 2
unfolding reglist_writes
reglist_few t quad =
    let low = half_few (descriptor_at t (first_item t)) (bits quad 0 63) in
    let high = second_few t quad in
    rw (length-append (reglist_write (descriptor_at t (first_item t)) (bits quad 0 63)) _) (omega arith)

module _ (which : GifPath) (p : Path) (used : ℕ) (log spare : List ℕ) (long : length spare ≡ 6) where
  has_room : (n : ℕ) → n ≤ 2 → lacks_room spare 0 n ≡ false
  unfolding lacks_room
  has_room n few = le-ltb (length spare) (entry_size * (0 + n)) (omega arith)

  -- a step on this log, and on the spare one, of which no entry is used
  record TriedStep (k : ℕ) (x y : Left) : Type 0 where
    tried : Tried log used k (outcome_of x.answer) (outcome_of y.answer) y.used

  tried_refused : (k n : ℕ) → (n ≡ log_full → ⊥) → TriedStep k (refused n p used log) (refused n p 0 spare)
  tried_refused k n h = record { tried = refuses_tried log used k n 0 h }

  tried_commit : (after : Path) (closed : Bool) (ws : List Write) → length ws ≤ 2
      → TriedStep (length ws) (commit which p after closed ws used log) (commit which p after closed ws 0 spare)
  unfolding commit if
  tried_commit after closed ws few = rw (has_room (length ws) few) (go (lacks_room log used (length ws)) refl)
    where
      done : Left
      done = record { answer = Taken closed; number = 0; path = after; used = 0 + length ws; log = logged spare 0 (entries_by which ws) }

      go : (b : Bool) → lacks_room log used (length ws) ≡ b
          → TriedStep (length ws) (if b (refused log_full p used log) (record { answer = Taken closed; number = 0; path = after; used = used + length ws; log = logged log used (entries_by which ws) })) done
      go true e = record { tried = carried log used (length ws) goes (0 + length ws) (needs_tried log used (length ws) true e) (λ q. zero-add (length ws)) }
      go false e = record { tried = carried log used (length ws) goes (0 + length ws) (needs_tried log used (length ws) false e) (λ q. zero-add (length ws)) }

  tried_either : (k : ℕ) (b : Bool) {x x' y y' : Left} → TriedStep k x x' → TriedStep k y y' → TriedStep k (if b x y) (if b x' y')
  unfolding if
  tried_either k true t u = t
  tried_either k false t u = u

  tried_data : (f : TagFormat) (t : HeldTag) (quad : ℕ)
      → TriedStep (length (data_writes f t p.q quad)) (data_step f which p t quad used log) (data_step f which p t quad 0 spare)
  unfolding packed_with reglist_step image_step
  tried_data Packed t quad =
      tried_either _ (eqb (descriptor_at t (taken_of t)) 11) (tried_refused _ descriptor_b (λ e. omega arith)) (tried_commit _ _ _ (packed_few (descriptor_at t (taken_of t)) p.q quad))
  tried_data Reglist t quad = tried_either _ _ (tried_refused _ descriptor_b (λ e. omega arith)) (tried_commit _ _ _ (reglist_few t quad))
  tried_data Image t quad = tried_commit _ _ _ (omega arith)

  tried_at : (w : Option HeldTag) (quad : ℕ) → TriedStep (length (writes_at w p.q quad)) (step_at w which p quad used log) (step_at w which p quad 0 spare)
  unfolding tag_step
  tried_at None quad = tried_commit _ _ _ (tag_few quad)
  tried_at (Some t) quad = tried_data t.format t quad

  -- a quadword tried on a log of its own
  pub quadword_tried : (quad : ℕ) → Tried log used (quadword_needs p quad) (outcome_of (gif_step which p quad used log).answer) (outcome_of (gif_step which p quad 0 spare).answer) (gif_step which p quad 0 spare).used
  unfolding gif_step quadword_writes
  quadword_tried quad = (tried_at p.place quad).tried
