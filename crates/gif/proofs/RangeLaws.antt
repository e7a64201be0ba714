-- Tests as facts.
use mathlib.Core.Path.{◌≡◌}
use mathlib.Core.Bool.{true, false, not}
use mathlib.Core.List.{List}
use Prim.Native.Nat.{ℕ, ◌%◌, ◌≤◌}
use Rattle.fields.proofs.ChoiceLaws.{and_left, and_right, or_left, or_right}
use borrow.Author.Tests.{ltb-false, leb-true, le-leb}
use lib.ListN.{length}
use lib.Dec.{eqb, ltb, leb}
use Rattle.gif.specs.declared.HeldTag.{HeldTag}
use Rattle.gif.specs.Log.{entry_size, log_most, log_refused, LogFits}
use Rattle.gif.specs.Tag.{quadwords_of}
use Rattle.gif.specs.Range.{within, tag_in_range, TagFits}

pub within_fits : (a b n : ℕ) → within a b n ≡ true → (a ≤ n) × (n ≤ b)
within_fits a b n h = (leb-true _ _ (and_left _ _ h), leb-true _ _ (and_right (leb a n) _ h))

pub fits_within : (a b n : ℕ) → a ≤ n → n ≤ b → within a b n ≡ true
fits_within a b n p q = simp (le-leb _ _ p, le-leb _ _ q)

-- a tag in range
pub tag_fits : (t : HeldTag) → tag_in_range t ≡ true → TagFits t
unfolding tag_in_range
tag_fits t h =
    let l = within_fits 1 32767 t.nloop (and_left _ _ h) in
    let h' = and_right (within 1 32767 t.nloop) _ h in
    let r = within_fits 1 16 t.nreg (and_left _ _ h') in
    let d = within_fits 1 (quadwords_of t.format t.nloop t.nreg) t.due (and_right (within 1 16 t.nreg) _ h') in
    record { looped = l.0; loops = l.1; some = r.0; regs = r.1; left = d.0; most = d.1 }

pub fits_tag : (t : HeldTag) → TagFits t → tag_in_range t ≡ true
unfolding tag_in_range
fits_tag t f =
    simp (fits_within 1 32767 t.nloop f.looped f.loops, fits_within 1 16 t.nreg f.some f.regs, fits_within 1 (quadwords_of t.format t.nloop t.nreg) t.due f.left f.most)

-- a log that 4 does not name
pub log_fits : (log : List ℕ) (used : ℕ) → log_refused log used ≡ false → LogFits log used
unfolding log_refused
log_fits log used h =
    let h' = or_right (not (eqb (length log % entry_size) 0)) _ h in
    record {
      short = ltb-false _ _ (or_left _ _ h');
      holds = ltb-false _ _ (or_right (ltb log_most (length log)) _ h');
    }
