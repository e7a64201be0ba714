-- Data of a tag taken many quadwords at a time: one more of them.
use Rattle.std.specs.Prelude.{None, Some, Ok}
use mathlib.Core.Path.{◌≡◌, refl, ap, ◌∙◌}
use mathlib.Core.Bool.{Bool, true, false, ◌&&◌}
use mathlib.Core.List.{List, ◌++◌}
use Prim.Native.Nat.{ℕ, ◌+◌, ◌*◌, ◌-◌, ◌/◌, ◌%◌, ◌^◌, ◌<◌, ◌≤◌}
use native.Mathlib.Nat.{zero-add, sub-zero}
use native.Mathlib.Omega.{arith}
use borrow.Author.Tests.{eq-eqb, ne_eqb, eqb-true, eqb-false}
use lib.ListN.{length}
use lib.Dec.{eqb, ltb}
use Rattle.fields.specs.Counts.{one_if}
use Rattle.fields.specs.Fields.{if, quadword}
use Rattle.fields.specs.Memory.{quadword_at}
use Rattle.fields.proofs.ChoiceLaws.{if_ind, and_false}
use Rattle.fields.proofs.CountLaws.{one_most}
use Rattle.fields.proofs.FieldLaws.{whole_low, whole_high}
use Rattle.gif.specs.declared.GifPath.{GifPath}
use Rattle.gif.specs.declared.Write.{Write}
use Rattle.gif.specs.declared.Writes.{Writes}
use Rattle.gif.specs.declared.TagFormat.TheVariants.{Packed, Reglist, Image}
use Rattle.gif.specs.declared.HeldTag.{HeldTag}
use Rattle.gif.specs.declared.Path.{Path}
use Rattle.gif.specs.declared.QuadwordsResult.{QuadwordsResult}
use Rattle.gif.specs.Log.{entry_size, HasRoom, entries_by, logged}
use Rattle.gif.specs.Tag.{path_of, with_due, taken_of, descriptor_at, place_after, place_at_tag, tag_closes, data_closes, tag_q, tag_writes}
use Rattle.gif.specs.Packed.{packed_writes, packed_q}
use Rattle.gif.specs.Reglist.{reglist_write}
use Rattle.gif.specs.Range.{TagFits}
use Rattle.gif.specs.Step.{commit, tag_step, image_step, gif_step}
use Rattle.gif.specs.Feed.{quadwords_result}
use Rattle.gif.specs.Inner.{listed, Leads, place_after_many, many_close, DataFits, TakenAtOnce, image_writes}
use Rattle.gif.proofs.LogLaws.{listed_most, logged_length, commit_fits}
use Rattle.gif.proofs.TagLaws.{nibble_descriptor}
use Rattle.gif.proofs.DataLaws.{by_format, by_place, packed_taken, reglist_taken}
use Rattle.gif.proofs.FeedLaws.{at_quadword_lem, leads_none, leads_one, leads_then}

-- ---- the tag after k of its data quadwords

module _ (t : HeldTag) (k : ℕ) where
  -- no packet more than quadwords
  pub closed_few : 0 < t.due → one_if (many_close t k) ≤ k
  unfolding many_close one_if
  closed_few h = go (eqb t.due k) refl
    where
      go : (b : Bool) → eqb t.due k ≡ b → one_if (t.eop && b) ≤ k
      go true e = let m = eqb-true t.due k e in let o = one_most (t.eop && true) refl in omega arith
      go false e = rw (and_false t.eop) (omega arith)

  module _ (h : k < t.due) where
    -- before its last one
    place_before : place_after_many t k ≡ Some (with_due t (t.due - k))
    unfolding place_after_many if
    place_before = rw (ne_eqb t.due k (λ e. omega arith))

    none_closed : many_close t k ≡ false
    unfolding many_close
    none_closed = rw (ne_eqb t.due k (λ e. omega arith)) (and_false t.eop)

    taken_rest : TagFits t → taken_of t + k ≡ taken_of (with_due t (t.due - k))
    unfolding taken_of
    taken_rest f = let m = f.most in omega arith

    -- one more
    due_next : eqb (t.due - k) 1 ≡ eqb t.due (k + 1)
    due_next = go (eqb t.due (k + 1)) refl
      where
        go : (b : Bool) → eqb t.due (k + 1) ≡ b → eqb (t.due - k) 1 ≡ b
        go true e = let m = eqb-true t.due (k + 1) e in eq-eqb (t.due - k) 1 (omega arith)
        go false e = ne_eqb (t.due - k) 1 (λ (f : t.due - k ≡ 1). eqb-false t.due (k + 1) e (omega arith))

    place_next : place_after (with_due t (t.due - k)) ≡ place_after_many t (k + 1)
    unfolding place_after place_after_many
    place_next = let d : t.due - k - 1 ≡ t.due - (k + 1) = omega arith in rw (due_next, d)

    closed_next : data_closes (with_due t (t.due - k)) ≡ many_close t (k + 1)
    unfolding data_closes many_close
    closed_next = rw due_next

-- the step of a data quadword that nothing refuses but a full log
abbrev Commits : GifPath → ℕ → ℕ → HeldTag → List Write → ℕ → ℕ → List ℕ → Type 0
Commits which q q' t ws quad used log =
    commit which (path_of q (Some t)) (path_of q' (place_after t)) (data_closes t) ws used log ≡ gif_step which (path_of q (Some t)) quad used log

-- ---- k of n data quadwords that are taken at once

pub record Came (which : GifPath) (main : List ℕ) (a n used₀ : ℕ) (log₀ : List ℕ) (q₀ : ℕ) (t : HeldTag) (k q used : ℕ) (log : List ℕ) : Type 0 where
  pub lengths : length log ≡ length log₀
  pub few : k ≤ n
  pub room : HasRoom log used (2 * (n - k))
  pub leads : Leads which main a k (one_if (many_close t k)) (path_of q₀ (Some t)) used₀ log₀ (path_of q (place_after_many t k)) used log

module _ (which : GifPath) (main : List ℕ) (a n used₀ : ℕ) (log₀ : List ℕ) (q₀ : ℕ) (t : HeldTag) (g : DataFits t main a n log₀ used₀) where
  pub none_came : Came which main a n used₀ log₀ q₀ t 0 q₀ used₀ log₀
  unfolding one_if
  none_came =
      let d = g.held.left in
      let r = g.room in
      record {
        lengths = refl;
        few = omega arith;
        room = omega arith;
        leads = rw (place_before t 0 d, none_closed t 0 d, sub-zero t.due) leads_none;
      }

  module _ {k q used : ℕ} {log : List ℕ} (i : Came which main a n used₀ log₀ q₀ t k q used log) where
    -- what a call hands back
    pub came_all : {r : QuadwordsResult} → r ≡ quadwords_result (path_of q (place_after_many t k)) used k (one_if (many_close t k)) (Ok tt)
        → TakenAtOnce which main a n (path_of q₀ (Some t)) used₀ log₀ r log
    came_all e =
        let r = i.room in
        let l = i.lengths in
        rw e (record { few = i.few; closed = closed_few t k g.held.left; holds = omega arith; leads = i.leads })

    -- after the last of them
    pub came_end : n ≤ k → {r : QuadwordsResult} → r ≡ quadwords_result (path_of q (place_after_many t n)) used n (one_if (many_close t n)) (Ok tt)
        → TakenAtOnce which main a n (path_of q₀ (Some t)) used₀ log₀ r log
    came_end l e = let few = i.few in let z : n ≡ k = omega arith in came_all (rw z at e)

    pub room_for : k < n → (w : Writes) → HasRoom log used (length (listed w))
    room_for h w =
        let r = i.room in
        let m = listed_most w in
        omega arith

    -- one more, by what its step writes
    module _ (h : k < n) {low high : ℕ} (eq : quadword low high ≡ quadword_at main (a + 16 * k)) (l : low < 2 ^ 64) (m : high < 2 ^ 64)
        (w : Writes) {used' : ℕ} {log' : List ℕ} (eu : used' ≡ used + length (listed w)) (e : log' ≡ logged log used (entries_by which (listed w))) where
      due : k < t.due
      due = let d = g.due in omega arith

      one_came : {q' : ℕ} → Commits which q q' (with_due t (t.due - k)) (listed w) (quadword low high) used log
          → Came which main a n used₀ log₀ q₀ t (k + 1) q' used' log'
      unfolding one_if
      one_came {q'} s =
          let rest = with_due t (t.due - k) in
          let o = commit_fits which (path_of q (Some rest)) (path_of q' (place_after rest)) (data_closes rest) (listed w) used log refl (room_for h w) e ∙ s in
          let next = leads_one (at_quadword_lem which main (a + 16 * k) eq (path_of q (Some rest)) used log o) refl in
          let first = rw (place_before t k due, none_closed t k due) at i.leads in
          let b = logged_length log used (entries_by which (listed w)) in
          let c = listed_most w in
          let r = i.room in
          record {
            lengths = ap length e ∙ b ∙ i.lengths;
            few = omega arith;
            room = rw (e, eu) (omega arith);
            leads = rw (← place_next t k due, ← closed_next t k due, eu) (rw (zero-add (one_if (data_closes rest))) at (leads_then first next));
          }

      pub packed_came : t.format ≡ Packed → {d b q' : ℕ} → b ≡ (taken_of t + k) % t.nreg → d ≡ t.descriptors / 2 ^ (4 * b) % 16 → (d ≡ 11 → ⊥)
          → q' ≡ packed_q d q (quadword low high) → listed w ≡ packed_writes d q (quadword low high) → Came which main a n used₀ log₀ q₀ t (k + 1) q' used' log'
      unfolding gif_step
      packed_came p eb ed f eq ew =
          let rest = with_due t (t.due - k) in
          let x = path_of q (Some rest) in
          one_came
          (by_format p which x rest (quadword low high) used log
          (packed_taken which x rest (quadword low high) used log (taken_rest t k due g.held) (nibble_descriptor rest (taken_of t + k) eb ed) f eq ew refl))

      pub reglist_came : t.format ≡ Reglist → {j d b s : ℕ} → j ≡ 2 * (taken_of t + k) → b ≡ j % t.nreg → d ≡ t.descriptors / 2 ^ (4 * b) % 16
          → s ≡ if (ltb (j + 1) (t.nloop * t.nreg)) (descriptor_at t (j + 1)) 15 → (d ≡ 11 → ⊥) → (s ≡ 11 → ⊥)
          → listed w ≡ reglist_write d low ++ reglist_write s high → Came which main a n used₀ log₀ q₀ t (k + 1) q used' log'
      unfolding gif_step descriptor_at
      reglist_came p {j} ej eb ed es f f' ew =
          let rest = with_due t (t.due - k) in
          let x = path_of q (Some rest) in
          one_came
          (by_format p which x rest (quadword low high) used log
          (reglist_taken which x rest low high used log (taken_rest t k due g.held) (rw ej at (nibble_descriptor rest j eb ed)) (rw ej at es) (simp (ne_eqb _ _ f, ne_eqb _ _ f')) l m ew refl))

      pub image_came : t.format ≡ Image → listed w ≡ image_writes low high → Came which main a n used₀ log₀ q₀ t (k + 1) q used' log'
      unfolding gif_step image_step
      image_came p ew =
          let rest = with_due t (t.due - k) in
          one_came
          (by_format p which (path_of q (Some rest)) rest (quadword low high) used log (rw (whole_low low high l, whole_high low high l m, ew)))

-- room for one entry is room for a tag's own writes
pub tag_room : (log : List ℕ) (used quad : ℕ) {ws : List Write} → ws ≡ tag_writes quad → HasRoom log used 1 → HasRoom log used (length ws)
unfolding tag_writes
tag_room log used quad e h = rw e (if_ind (λ (ws : List Write). HasRoom log used (length ws)) _ h (omega arith))

-- ---- by the place and the format

module _ {which : GifPath} {main : List ℕ} {a used : ℕ} {p : Path} {log : List ℕ} where
  pub taken_fewer : {n left : ℕ} {r : QuadwordsResult} {log' : List ℕ} → n ≤ left → TakenAtOnce which main a n p used log r log'
      → TakenAtOnce which main a left p used log r log'
  taken_fewer l x = let f = x.few in record { few = omega arith; closed = x.closed; holds = x.holds; leads = x.leads }

  pub none_taken : (left : ℕ) → entry_size * used ≤ length log → TakenAtOnce which main a left p used log (quadwords_result p used 0 0 (Ok tt)) log
  none_taken left h = record { few = omega arith; closed = omega arith; holds = h; leads = leads_none }

  -- a tag, where the log has room for one entry
  pub tag_taken : p.place ≡ None → HasRoom log used 1 → {quad used' c : ℕ} {q : Path} {ws : List Write} {log' : List ℕ} → quad ≡ quadword_at main a
      → q ≡ path_of tag_q (place_at_tag quad) → c ≡ one_if (tag_closes quad) → ws ≡ tag_writes quad
      → used' ≡ used + length ws → log' ≡ logged log used (entries_by which ws) → TakenAtOnce which main a 1 p used log (quadwords_result q used' 1 c (Ok tt)) log'
  unfolding gif_step tag_step
  tag_taken i h {quad} eq es ec ew eu e =
      let few : 1 ≤ 1 = omega arith in
      let r = tag_room log used quad refl h in
      let o = commit_fits which p (path_of tag_q (place_at_tag quad)) (tag_closes quad) (tag_writes quad) used log refl r (rw ew at e) in
      let g = leads_one (at_quadword_lem which main a eq p used log (by_place i which p quad used log o)) refl in
      rw (es, ec, eu, ew) (record { few = few; closed = one_most (tag_closes quad) refl; holds = r; leads = g })

  -- what holds of the tag that a path holds holds of the path
  pub taken_held : {t : HeldTag} → p.place ≡ Some t → {n : ℕ} {r : QuadwordsResult} {log' : List ℕ}
      → TakenAtOnce which main a n (path_of p.q (Some t)) used log r log' → TakenAtOnce which main a n p used log r log'
  taken_held e h = rw (← e) at h
