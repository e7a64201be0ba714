-- A test sheet's GIF tag and its A+D quadwords, over their number.
use Rattle.std.specs.Prelude.{None, Option, Some}
use mathlib.Core.Path.{◌≡◌, refl, ◌∙◌}
use mathlib.Core.Bool.{Bool, true, false}
use mathlib.Core.List.{List, [], ◌∷◌}
use Prim.Native.Nat.{ℕ, zero, suc, ◌+◌, ◌*◌, ◌-◌, ◌/◌, ◌%◌, ◌^◌, ◌<◌, ◌≤◌}
use native.Mathlib.Nat.{add-zero, mul-one, mod-one}
use native.Mathlib.Omega.{arith}
use borrow.Author.Tests.{le-ltb, ne_eqb}
use lib.ListN.{length}
use lib.Dec.{eqb}
use Rattle.gif.specs.declared.GifPath.{GifPath}
use Rattle.gif.specs.declared.Write.{Write}
use Rattle.gif.specs.declared.TagFormat.TheVariants.{Packed}
use Rattle.gif.specs.declared.HeldTag.{HeldTag}
use Rattle.gif.specs.declared.Path.{Path}
use Rattle.gif.specs.GifAnswer.{Taken}
use Rattle.fields.specs.Fields.{if, bits}
use Rattle.gif.specs.Log.{entry_size, HasRoom, entries_by, logged, lacks_room}
use Rattle.gif.specs.Tag.{path_of, format_of, nreg_of, quadwords_of, tag_of, tag_q, tag_writes, taken_of, descriptor_at, place_after, place_at_tag, eop_of, tag_closes, data_closes}
use Rattle.gif.specs.Packed.{packed_writes, packed_q}
use Rattle.gif.specs.Step.{Left, commit, tag_step, packed_with, gif_step}
use Rattle.gif.specs.Run.{sheet_tag, address_data}
use Rattle.fields.proofs.FieldLaws.{whole_high}
use Rattle.gif.proofs.TagLaws.{flg_at, nreg_at, nloop_at, pre_at, eop_at}
use Rattle.fields.proofs.ChoiceLaws.{and_false}

-- a sheet's tag with some of its data due
abbrev pub sheet_held : ℕ → ℕ → HeldTag
sheet_held n d = record { nloop = n; eop = true; format = Packed; nreg = 1; descriptors = 14; due = d }

-- the place with k of its quadwords due
abbrev pub sheet_place : ℕ → ℕ → Option HeldTag
sheet_place n zero = None
sheet_place n (suc k) = Some (sheet_held n (suc k))

abbrev pub took : Bool → Path → ℕ → List ℕ → Left
took closed p used log = record { answer = Taken closed; number = 0; path = p; used = used; log = log }

-- a step's writes that fit
pub commit_room : (which : GifPath) (p after : Path) (closed : Bool) (ws : List Write) (used : ℕ) (log : List ℕ) → HasRoom log used (length ws)
    → commit which p after closed ws used log ≡ took closed after (used + length ws) (logged log used (entries_by which ws))
unfolding commit lacks_room if
commit_room which p after closed ws used log h = simp (le-ltb _ _ h)

-- the low half of a sheet's tag
abbrev low : ℕ → ℕ
low n = n + 2 ^ 15 + 2 ^ 60

module _ (which : GifPath) (n : ℕ) (some : 0 < n) (few : n < 32768) where
  fits : low n < 2 ^ 64
  fits = omega arith

  loops_at : bits (sheet_tag n) 0 14 ≡ n
  unfolding sheet_tag
  loops_at = nloop_at (low n) 14 fits ∙ omega arith

  tag_held : tag_of (sheet_tag n) ≡ sheet_held n n
  unfolding tag_of sheet_tag format_of nreg_of quadwords_of if
  tag_held =
      let b : low n / 32768 % 2 ≡ 1 = omega arith in
      let c : low n / 288230376151711744 ≡ 4 = omega arith in
      let d : low n / 1152921504606846976 ≡ 1 = omega arith in
      simp (flg_at (low n) 14 fits, nreg_at (low n) 14 fits, loops_at, eop_at (low n) 14 fits, whole_high (low n) 14 fits (omega arith), b, c, d, mul-one)

  tag_place : place_at_tag (sheet_tag n) ≡ Some (sheet_held n n)
  unfolding place_at_tag if
  tag_place = rw (loops_at, ne_eqb n 0 (λ e. omega arith), tag_held)

  tag_silent : tag_writes (sheet_tag n) ≡ []
  unfolding tag_writes sheet_tag if
  tag_silent =
      let e : bits (sheet_tag n) 46 46 ≡ 0 = pre_at (low n) 14 fits ∙ omega arith in
      simp (loops_at, ne_eqb n 0 (λ e. omega arith), e)

  -- it has data, so that it closes no packet itself
  tag_open : tag_closes (sheet_tag n) ≡ false
  unfolding tag_closes
  tag_open = rw (loops_at, ne_eqb n 0 (λ e. omega arith)) (and_false (eop_of (sheet_tag n)))

  -- the tag's own step writes nothing
  pub sheet_tag_lem : (q used : ℕ) (log : List ℕ) → entry_size * used ≤ length log
      → gif_step which (path_of q None) (sheet_tag n) used log ≡ took false (path_of tag_q (sheet_place n n)) used log
  unfolding gif_step tag_step logged
  sheet_tag_lem q used log h =
      rw (tag_silent, tag_open, tag_place)
      (commit_room which _ _ false [] used log (rw add-zero h) ∙ rw (add-zero, placed n some))
    where
      placed : (m : ℕ) → 0 < m → sheet_place n m ≡ Some (sheet_held n m)
      placed zero l = absurd (omega arith)
      placed (suc m) l = refl

  place_next : (k : ℕ) → place_after (sheet_held n (suc k)) ≡ sheet_place n k
  unfolding place_after if
  place_next zero = refl
  place_next (suc k) =
      let e : suc (suc k) - 1 ≡ suc k = omega arith in
      rw (ne_eqb (suc (suc k)) 1 (λ q. omega arith), e)

  descriptor_e : (d j : ℕ) → descriptor_at (sheet_held n d) j ≡ 14
  unfolding descriptor_at
  descriptor_e d j = rw (mod-one j)

  -- the last of them closes a packet
  data_closed : (k : ℕ) → data_closes (sheet_held n (suc k)) ≡ eqb k 0
  unfolding data_closes
  data_closed zero = refl
  data_closed (suc k) = rw (ne_eqb (suc (suc k)) 1 (λ e. omega arith), ne_eqb (suc k) 0 (λ e. omega arith))

  -- a data quadword is one entry
  pub sheet_data : (k q quad used : ℕ) (log : List ℕ) → HasRoom log used 1
      → gif_step which (path_of q (sheet_place n (suc k))) quad used log
      ≡ took (eqb k 0) (path_of q (sheet_place n k)) (used + 1) (logged log used (entries_by which (address_data quad ∷ [])))
  unfolding gif_step packed_with packed_q packed_writes if
  sheet_data k q quad used log h =
      rw (descriptor_e (suc k) (taken_of (sheet_held n (suc k))), place_next k, data_closed k)
      (commit_room which _ _ (eqb k 0) (address_data quad ∷ []) used log h)
