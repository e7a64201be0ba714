-- The laws of a step that the crates above cite.
use Rattle.std.specs.Prelude.{None, Option, Some}
use mathlib.Core.Path.{◌≡◌, refl, sym, ap}
use mathlib.Core.Bool.{Bool, true, false}
use mathlib.Core.List.{List, []}
use Prim.Native.Nat.{ℕ, ◌+◌, ◌*◌, ◌-◌, ◌<◌, ◌≤◌}
use native.Mathlib.Nat.{add-zero, le_refl, mul-pos}
use native.Mathlib.Omega.{arith}
use borrow.Author.Tests.{ltb-false, eqb-false}
use lib.ListN.{length}
use lib.Dec.{eqb, ltb}
use Rattle.gif.specs.declared.GifPath.{GifPath}
use Rattle.gif.specs.declared.Write.{Write}
use Rattle.gif.specs.declared.Entry.{Entry}
use Rattle.gif.specs.declared.TagFormat.{TagFormat}
use Rattle.gif.specs.declared.TagFormat.TheVariants.{Packed, Reglist, Image}
use Rattle.gif.specs.declared.HeldTag.{HeldTag}
use Rattle.gif.specs.declared.Path.{Path}
use Rattle.gif.specs.GifAnswer.{Refused}
use Rattle.fields.specs.Fields.{if, bits}
use Rattle.gif.specs.Log.{entry_size, entries_by, logged, lacks_room, log_refused}
use Rattle.gif.specs.Tag.{format_of, nreg_of, quadwords_of, tag_of, place_after, place_at_tag, with_due, nloop_of}
use Rattle.gif.specs.Range.{place_in_range, path_in_range, TagFits}
use Rattle.gif.specs.Step.{Left, refused, commit, tag_step, packed_with, reglist_step, image_step, data_step, step_at, gif_step, take_of}
use Rattle.fields.proofs.ChoiceLaws.{if_ind, if_ind_by}
use Rattle.gif.proofs.LogLaws.{entries_length}
use Rattle.fields.proofs.FieldLaws.{bits_below}
use Rattle.gif.proofs.TagLaws.{nreg_some}
use Rattle.gif.proofs.RangeLaws.{tag_fits, fits_tag}

-- What a step leaves of the log: some entries more, none where it is refused.
pub record Wrote (p : Path) (used : ℕ) (log : List ℕ) (o : Left) : Type 0 where
  -- a refusal changes nothing
  pub same : (n : ℕ) → o.answer ≡ Refused n → o ≡ refused n p used log
  -- the entries written, by which `used` grows, and the log with them
  pub entries : List Entry
  pub counted : o.used ≡ used + length entries
  pub stored : o.log ≡ logged log used entries
  pub room : entry_size * o.used ≤ length log

module _ (which : GifPath) (p : Path) (used : ℕ) (log : List ℕ) (h : entry_size * used ≤ length log) where
  wrote_refused : (n : ℕ) → Wrote p used log (refused n p used log)
  unfolding logged
  wrote_refused n =
      record {
        same = λ m e. let q : n ≡ m = cc in ap (λ (k : ℕ). refused k p used log) q;
        entries = [];
        counted = sym (add-zero used);
        stored = refl;
        room = h;
      }

  wrote_commit : (after : Path) (closed : Bool) (ws : List Write) → Wrote p used log (commit which p after closed ws used log)
  unfolding commit lacks_room
  wrote_commit after closed ws =
      if_ind_by (Wrote p used log) (ltb (length log) (entry_size * (used + length ws)))
      (λ e. wrote_refused 31)
      (λ e.
      record {
        same = λ m q. absurd (let z : ◌≡◌ {A = ℕ} 0 1 = cc in omega arith);
        entries = entries_by which ws;
        counted = rw (entries_length which ws);
        stored = refl;
        room = ltb-false (length log) (entry_size * (used + length ws)) e;
      })

  wrote_data : (f : TagFormat) (t : HeldTag) (quad : ℕ) → Wrote p used log (data_step f which p t quad used log)
  unfolding packed_with reglist_step image_step
  wrote_data Packed t quad = if_ind (Wrote p used log) _ (wrote_refused 30) (wrote_commit _ _ _)
  wrote_data Reglist t quad = if_ind (Wrote p used log) _ (wrote_refused 30) (wrote_commit _ _ _)
  wrote_data Image t quad = wrote_commit _ _ _

  wrote_at : (w : Option HeldTag) (quad : ℕ) → Wrote p used log (step_at w which p quad used log)
  unfolding tag_step
  wrote_at None quad = wrote_commit _ _ _
  wrote_at (Some t) quad = wrote_data t.format t quad

  pub step_wrote : (quad : ℕ) → Wrote p used log (gif_step which p quad used log)
  unfolding gif_step
  step_wrote quad = wrote_at p.place quad

-- ---- a path in range stays in range

pub range_after : (t : HeldTag) → TagFits t → place_in_range (place_after t) ≡ true
unfolding place_after
range_after t f =
    if_ind_by (λ (w : Option HeldTag). place_in_range w ≡ true) (eqb t.due 1) (λ e. refl)
    (λ e.
    let n = eqb-false t.due 1 e in
    let d = f.left in
    let m = f.most in
    fits_tag (with_due t (t.due - 1))
    (record { looped = f.looped; loops = f.loops; some = f.some; regs = f.regs; left = omega arith; most = omega arith }))

pub quadwords_some : (f : TagFormat) (n r : ℕ) → 0 < n → 0 < r → 0 < quadwords_of f n r
unfolding quadwords_of
quadwords_some Packed n r p q = mul-pos p q
quadwords_some Reglist n r p q = let m : 0 < n * r = mul-pos p q in omega arith
quadwords_some Image n r p q = p

pub range_at_tag : (quad : ℕ) → place_in_range (place_at_tag quad) ≡ true
unfolding place_at_tag tag_of
range_at_tag quad =
    if_ind_by (λ (w : Option HeldTag). place_in_range w ≡ true) (eqb (nloop_of quad) 0) (λ e. refl)
    (λ e.
    let z = eqb-false (nloop_of quad) 0 e in
    let a : nloop_of quad < 32768 = bits_below quad 0 14 in
    let n = nreg_some (bits quad 60 63) (bits_below quad 60 63) in
    fits_tag (tag_of quad)
    (record {
      looped = omega arith;
      loops = omega arith;
      some = n.0;
      regs = n.1;
      left = quadwords_some (format_of (bits quad 58 59)) (nloop_of quad) (nreg_of (bits quad 60 63)) (omega arith) n.0;
      most = le_refl _;
    }))

-- what a taken step and a refused one leave is in range
record Ranged (o : Left) : Type 0 where
  held : path_in_range o.path ≡ true

module _ (which : GifPath) (p : Path) (r : path_in_range p ≡ true) (used : ℕ) (log : List ℕ) where
  ranged_commit : (after : Path) (closed : Bool) (ws : List Write) → path_in_range after ≡ true → Ranged (commit which p after closed ws used log)
  unfolding commit
  ranged_commit after closed ws h = if_ind Ranged _ (record { held = r }) (record { held = h })

  ranged_data : (f : TagFormat) (t : HeldTag) (quad : ℕ) → TagFits t → Ranged (data_step f which p t quad used log)
  unfolding packed_with reglist_step image_step
  ranged_data Packed t quad h = if_ind Ranged _ (record { held = r }) (ranged_commit _ _ _ (range_after t h))
  ranged_data Reglist t quad h = if_ind Ranged _ (record { held = r }) (ranged_commit _ _ _ (range_after t h))
  ranged_data Image t quad h = ranged_commit _ _ _ (range_after t h)

  ranged_at : (w : Option HeldTag) (quad : ℕ) → place_in_range w ≡ true → Ranged (step_at w which p quad used log)
  unfolding tag_step
  ranged_at None quad h = ranged_commit _ _ _ (range_at_tag quad)
  ranged_at (Some t) quad h = ranged_data t.format t quad (tag_fits t h)

  pub step_ranged : (quad : ℕ) → path_in_range (gif_step which p quad used log).path ≡ true
  unfolding gif_step
  step_ranged quad = (ranged_at p.place quad r).held

-- ---- the tests of the public step

-- a log and a path that pass the tests get document 01's step
pub tested : (which : GifPath) (p : Path) (quad used : ℕ) (log : List ℕ) → log_refused log used ≡ false → path_in_range p ≡ true
    → take_of which p quad used log ≡ gif_step which p quad used log
unfolding take_of if
tested which p quad used log h r = simp (h, r)
