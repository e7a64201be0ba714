-- The tag's fields from the two halves of its quadword.
use mathlib.Core.Path.{◌≡◌, refl, ◌∙◌}
use mathlib.Core.Bool.{Bool, true, false}
use Prim.Native.Nat.{ℕ, ◌+◌, ◌*◌, ◌/◌, ◌%◌, ◌^◌, ◌<◌, ◌≤◌}
use native.Mathlib.Nat.{mul-le-mul, mod-eq_of_lt, mod-add-mod}
use native.Mathlib.Omega.{arith}
use borrow.Author.Tests.{eqb-false, ne_eqb}
use lib.Dec.{eqb}
use Rattle.gif.specs.declared.TagFormat.{TagFormat}
use Rattle.gif.specs.declared.TagFormat.TheVariants.{Packed, Reglist, Image}
use Rattle.gif.specs.declared.HeldTag.{HeldTag}
use Rattle.fields.specs.Fields.{if, bits, quadword}
use Rattle.gif.specs.Tag.{format_of, nreg_of, quadwords_of, tag_of, taken_of, descriptor_at, is_packed}
use Rattle.gif.specs.Range.{TagFits}
use Rattle.fields.proofs.FieldLaws.{bits_low, bits_first, whole_high}

pub product_most : {n r : ℕ} → n ≤ 32767 → r ≤ 16 → n * r ≤ 524272
product_most p q = mul-le-mul p q

pub quadwords_most : (f : TagFormat) {n r : ℕ} → n ≤ 32767 → r ≤ 16 → quadwords_of f n r ≤ 524272
unfolding quadwords_of
quadwords_most Packed p q = product_most p q
quadwords_most Reglist p q = let m = product_most p q in omega arith
quadwords_most Image p q = omega arith

-- 1 to 16
pub nreg_some : (n : ℕ) → n < 16 → (0 < nreg_of n) × (nreg_of n ≤ 16)
unfolding nreg_of if
nreg_some n h = go (eqb n 0) refl
  where
    go : (b : Bool) → eqb n 0 ≡ b → (0 < if b 16 n) × (if b 16 n ≤ 16)
    go true e = (omega arith, omega arith)
    go false e = (let f = eqb-false n 0 e in omega arith, omega arith)

module _ (low high : ℕ) (l : low < 2 ^ 64) where
  pub flg_at : bits (quadword low high) 58 59 ≡ low / 288230376151711744 % 4
  flg_at = bits_low low high 58 59 (omega arith) (omega arith)

  pub nreg_at : bits (quadword low high) 60 63 ≡ low / 1152921504606846976
  nreg_at = bits_low low high 60 63 (omega arith) (omega arith) ∙ mod-eq_of_lt (omega arith)

  pub nloop_at : bits (quadword low high) 0 14 ≡ low % 32768
  nloop_at = bits_first low high 14 (omega arith)

  pub pre_at : bits (quadword low high) 46 46 ≡ low / 70368744177664 % 2
  pre_at = bits_low low high 46 46 (omega arith) (omega arith)

  pub prim_at : bits (quadword low high) 47 57 ≡ low / 140737488355328 % 2048
  prim_at = bits_low low high 47 57 (omega arith) (omega arith)

  pub eop_at : bits (quadword low high) 15 15 ≡ low / 32768 % 2
  eop_at = bits_low low high 15 15 (omega arith) (omega arith)

  pub tag_made : high < 2 ^ 64 → {f : TagFormat} {n d : ℕ} → f ≡ format_of (low / 288230376151711744 % 4) → n ≡ nreg_of (low / 1152921504606846976)
      → d ≡ quadwords_of f (low % 32768) n
      → ◌≡◌ {A = HeldTag}
      (record { nloop = low % 32768; eop = eqb (low / 32768 % 2) 1; format = f; nreg = n; descriptors = high; due = d })
      (tag_of (quadword low high))
  unfolding tag_of
  tag_made h pf pn pd = simp (flg_at, nreg_at, nloop_at, eop_at, whole_high low high l h, pd, pf, pn)

pub taken_most : (t : HeldTag) → TagFits t → taken_of t ≤ 524272
unfolding taken_of
taken_most t f = let m = quadwords_most t.format f.loops f.regs in omega arith

pub due_most : (t : HeldTag) → TagFits t → t.due ≤ 524272
due_most t f = let m = quadwords_most t.format f.loops f.regs in let d = f.most in omega arith

pub not_packed : (flg : ℕ) → (flg ≡ 0 → ⊥) → is_packed (format_of flg) ≡ false
unfolding format_of if
not_packed flg h = rw (ne_eqb flg 0 h) (go (eqb flg 1))
  where
    go : (b : Bool) → is_packed (if b Reglist Image) ≡ false
    go true = refl
    go false = refl

-- the nibble of the next item
pub nibble_next : (n j : ℕ) {i b r : ℕ} → i ≡ j + 1 → b ≡ j % n → r ≡ (b + 1) % n → r ≡ i % n
nibble_next n j e f g = g ∙ rw (f, mod-add-mod j n 1, e)

-- the descriptor at an item's nibble
pub nibble_descriptor : (t : HeldTag) (j : ℕ) {b d : ℕ} → b ≡ j % t.nreg → d ≡ t.descriptors / 2 ^ (4 * b) % 16 → d ≡ descriptor_at t j
unfolding descriptor_at
nibble_descriptor t j e f = rw (← e) f
