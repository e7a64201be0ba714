-- A path's block gives the path back.
use Rattle.gif.specs.declared.HeldTag.{HeldTag}
use Rattle.std.specs.Prelude.{None, Option, Some}
use mathlib.Core.Path.{◌≡◌, refl}
use mathlib.Core.Bool.{Bool, true, false}
use mathlib.Core.List.{List}
use Prim.Native.Nat.{ℕ, zero, suc}
use native.Mathlib.Omega.{arith}
use borrow.Author.Tests.{leb-true, eq-eqb, ne_eqb}
use lib.ListN.{length, get_or}
use lib.Dec.{eqb, leb}
use Rattle.std.specs.Bool.{then_some}
use Rattle.std.proofs.Math.Bool.{and-false}
use Rattle.fields.specs.Fields.{if}
use Rattle.fields.proofs.ChoiceLaws.{if_ind}
use Rattle.gif.specs.Tag.{path_of}
use Rattle.gif.specs.declared.TagFormat.{TagFormat}
use Rattle.gif.specs.declared.TagFormat.TheVariants.{Packed, Reglist, Image}
use Rattle.gif.specs.declared.Path.{Path}
use Rattle.state_block.specs.Sizes.{path_size}
use Rattle.state_block.specs.Words.{long_of, numbered}
use Rattle.state_block.specs.Read.{ReadPath, known_path}
use Rattle.state_block.specs.PathBlock.{tag_format_number, tag_format_numbered, place_block, path_block, tag_exists, no_path, read_path, a_path, path_in_block}
use Rattle.state_block.proofs.WordLaws.{bit_is, bit_back, long_back, true_false, then_is}

-- ---- formats and their numbers

format_is : (f : TagFormat) → leb (tag_format_number f) 2 ≡ true
format_is Packed = refl
format_is Reglist = refl
format_is Image = refl

pub format_back : (f : TagFormat) → tag_format_numbered (tag_format_number f) ≡ f
unfolding tag_format_numbered numbered if
format_back Packed = refl
format_back Reglist = refl
format_back Image = refl

pub format_has : (n : ℕ) → leb n 2 ≡ true → tag_format_number (tag_format_numbered n) ≡ n
unfolding tag_format_numbered numbered if
format_has zero h = refl
format_has (suc zero) h = refl
format_has (suc (suc zero)) h = refl
format_has (suc (suc (suc n))) h = absurd (omega (arith, leb-true (suc (suc (suc n))) 2 h))

-- ---- paths

place_length : (q : ℕ) (w : Option HeldTag) → length (place_block q w) ≡ path_size
place_length q None = refl
place_length q (Some t) = refl

pub path_length : (p : Path) → length (path_block p) ≡ path_size
path_length p = place_length p.q p.place

place_back : (q : ℕ) (w : Option HeldTag) → path_in_block (place_block q w) ≡ a_path q w
unfolding path_in_block tag_exists if
place_back q None = refl
place_back q (Some t) =
    rw (format_is t.format, bit_is t.eop, bit_back t.eop, format_back t.format, long_back t.descriptors)

-- writing a path and reading the block gives the path back
pub path_back : (p : Path) → path_in_block (path_block p) ≡ read_path true p
path_back p = place_back p.q p.place

-- ---- what is read

module _ (b : List ℕ) where
  pub none_long : (length b ≡ path_size → ⊥) → None ≡ known_path (path_in_block b)
  unfolding path_in_block if
  none_long h = rw (ne_eqb (length b) path_size h)

  module _ (h : length b ≡ path_size) where
    pub idle_read : get_or b 1 0 ≡ 0 → Some (path_of (get_or b 0 0) None) ≡ known_path (path_in_block b)
    unfolding path_in_block if
    idle_read e = rw (eq-eqb (length b) path_size h, e)

    pub no_tag_read : (get_or b 1 0 ≡ 0 → ⊥) → tag_exists b ≡ false → None ≡ known_path (path_in_block b)
    unfolding path_in_block if
    no_tag_read n e = rw (eq-eqb (length b) path_size h, ne_eqb _ _ n, e)

    pub tag_read : get_or b 1 0 ≡ 1 → {e : Bool} → Some e ≡ then_some (leb (get_or b 4 0) 1) (eqb (get_or b 4 0) 1)
        → {f : TagFormat}
        → Some f ≡ then_some (leb (get_or b 2 0) 2) (tag_format_numbered (get_or b 2 0))
        → {d : ℕ}
        → d ≡ long_of (get_or b 6 0) (get_or b 7 0)
        → Some (path_of (get_or b 0 0) (Some (record { nloop = get_or b 3 0; eop = e; format = f; nreg = get_or b 5 0; descriptors = d; due = get_or b 8 0 })))
        ≡ known_path (path_in_block b)
    unfolding path_in_block tag_exists if
    tag_read n p q r =
        let x = then_is _ _ _ p in
        let y = then_is _ _ _ q in
        rw (eq-eqb (length b) path_size h, n, x.0, y.0, x.1, y.1, r)

  -- words that are no tag's
  pub not_held : (get_or b 1 0 ≡ 1 → ⊥) → tag_exists b ≡ false
  unfolding tag_exists
  not_held n = rw (ne_eqb _ _ n)

  pub no_bit : leb (get_or b 4 0) 1 ≡ false → tag_exists b ≡ false
  unfolding tag_exists
  no_bit e = rw (e, and-false (leb (get_or b 2 0) 2), and-false (eqb (get_or b 1 0) 1))

  pub no_format : leb (get_or b 2 0) 2 ≡ false → tag_exists b ≡ false
  unfolding tag_exists
  no_format e = rw (e, and-false (eqb (get_or b 1 0) 1))

  -- what stands for the path of words that are none's
  pub none_stands : (path_in_block b).known ≡ false → (path_in_block b).path ≡ no_path
  unfolding path_in_block
  none_stands =
      let P : ReadPath → Type 0 = λ r. r.known ≡ false → r.path ≡ no_path in
      if_ind P _ (if_ind P _ (λ h. absurd (true_false h)) (if_ind P _ (λ h. absurd (true_false h)) (λ h. refl))) (λ h. refl)
