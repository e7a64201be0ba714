-- What a decoded word says of the word.
use Rattle.std.specs.Prelude.{None, Option, Some}
use mathlib.Core.Path.{◌≡◌, refl}
use mathlib.Core.Bool.{Bool, true, false}
use Prim.Native.Nat.{ℕ, ◌+◌, ◌/◌, ◌%◌, ◌<◌, ◌≤◌}
use native.Mathlib.Omega.{arith}
use borrow.Author.Tests.{leb-true, eqb-true, eqb-false}
use lib.Dec.{eqb, leb}
use Rattle.fields.specs.Fields.{bits}
use Rattle.fields.specs.Refusals.{cmd_unlisted, format_missing}
use Rattle.fields.proofs.ChoiceLaws.{if_ind_by, and_false}
use Rattle.fields.proofs.FieldLaws.{bits_below}
use Rattle.memories.specs.declared.VifUnit.{VifUnit}
use Rattle.unpack_rules.specs.declared.Format.{Format}
use Rattle.unpack_rules.specs.Formats.{named_in, format_named}
use Rattle.vif_codes.specs.declared.Code.{Code}
use Rattle.vif_codes.specs.declared.Code.TheVariants.{Nop, Stcycl, Offset, Base, Itop, Stmod, Mskpath3, Mark, Flushe, Flush, Flusha, Mscal, Mscalf, Mscnt, Stmask, Strow, Stcol, Mpg, Direct, Directhl, Unpack}
use Rattle.vif_codes.specs.declared.UnpackCode.{UnpackCode}
use Rattle.vif_codes.specs.Decoded.{Decoded, Known, Unknown}
use Rattle.vif_codes.specs.Codes.{cmd_of, num_of, imm_of, code_listed, plain_code, unpack_code, unpack_numbers, code_of, decode_of}
use Rattle.vif_reason.specs.Reason.{vl_of, vn_of}
use Rattle.vif_reason.specs.Fault.{listed, listed_on, IsUnpack, StartsProgram, mscal, mscalf, mscnt}

-- why a word is no code
pub data Cause (which : VifUnit) (word : ℕ) : ℕ → Type 0 where
  unlisted : listed_on which (cmd_of word) ≡ false → Cause which word cmd_unlisted
  missing : IsUnpack word → vl_of word ≡ 3 → vn_of word < 3 → Cause which word format_missing

-- what is to be known of the codes that can be refused
pub record ModeOf (word m : ℕ) : Type 0 where
  pub is_stmod : cmd_of word ≡ 0x05
  pub mode : m ≡ bits (imm_of word) 0 1

pub record UnpackOf (word : ℕ) (u : UnpackCode) : Type 0 where
  pub is_unpack : IsUnpack word
  pub bit15 : u.tops ≡ eqb (bits (imm_of word) 15 15) 1

abbrev pub CodeSays : ℕ → Code → Type 0
CodeSays word Nop = Unit
CodeSays word (Stcycl cl wl) = Unit
CodeSays word (Offset x) = Unit
CodeSays word (Base x) = Unit
CodeSays word (Itop x) = Unit
CodeSays word (Stmod m) = ModeOf word m
CodeSays word (Mskpath3 b) = Unit
CodeSays word (Mark x) = Unit
CodeSays word Flushe = Unit
CodeSays word Flush = Unit
CodeSays word Flusha = Unit
CodeSays word (Mscal x) = StartsProgram word
CodeSays word (Mscalf x) = StartsProgram word
CodeSays word Mscnt = StartsProgram word
CodeSays word Stmask = Unit
CodeSays word Strow = Unit
CodeSays word Stcol = Unit
CodeSays word (Mpg a num) = Unit
CodeSays word (Direct n) = Unit
CodeSays word (Directhl n) = Unit
CodeSays word (Unpack f u) = UnpackOf word u

abbrev pub Says : VifUnit → ℕ → Decoded → Type 0
Says which word (Known c) = CodeSays word c
Says which word (Unknown n) = Cause which word n

-- a code below 60h that is none of these is not listed
out_of_list : (cmd : ℕ) → eqb cmd 0x00 ≡ false
    → eqb cmd 0x01 ≡ false
    → eqb cmd 0x02 ≡ false
    → eqb cmd 0x03 ≡ false
    → eqb cmd 0x04 ≡ false
    → eqb cmd 0x05 ≡ false
    → eqb cmd 0x06 ≡ false
    → eqb cmd 0x07 ≡ false
    → eqb cmd 0x10 ≡ false
    → eqb cmd 0x11 ≡ false
    → eqb cmd 0x13 ≡ false
    → eqb cmd 0x14 ≡ false
    → eqb cmd 0x15 ≡ false
    → eqb cmd 0x17 ≡ false
    → eqb cmd 0x20 ≡ false
    → eqb cmd 0x30 ≡ false
    → eqb cmd 0x31 ≡ false
    → eqb cmd 0x4A ≡ false
    → eqb cmd 0x50 ≡ false
    → eqb cmd 0x51 ≡ false
    → leb 0x60 cmd ≡ false → listed cmd ≡ false
unfolding listed
out_of_list cmd e00 e01 e02 e03 e04 e05 e06 e07 e10 e11 e13 e14 e15 e17 e20 e30 e31 e4a e50 e51 l = rw (e00, e01, e02, e03, e04, e05, e06, e07, e10, e11, e13, e14, e15, e17, e20, e30, e31, e4a, e50, e51, l)

module _ (which : VifUnit) (word : ℕ) where
  unlisted_here : listed (cmd_of word) ≡ false → Says which word (Unknown cmd_unlisted)
  unlisted_here e = unlisted (rw e)

  abbrev P : Decoded → Type 0
  P d = Says which word d

  plain_says : leb 0x60 (cmd_of word) ≡ false → Says which word (plain_code (cmd_of word) (num_of word) (imm_of word))
  unfolding plain_code
  plain_says l =
      if_ind_by P (eqb (cmd_of word) 0x00) (λ e. tt)
      (λ e00.
      if_ind_by P (eqb (cmd_of word) 0x01) (λ e. tt)
      (λ e01.
      if_ind_by P (eqb (cmd_of word) 0x02) (λ e. tt)
      (λ e02.
      if_ind_by P (eqb (cmd_of word) 0x03) (λ e. tt)
      (λ e03.
      if_ind_by P (eqb (cmd_of word) 0x04) (λ e. tt)
      (λ e04.
      if_ind_by P (eqb (cmd_of word) 0x05) (λ e. record { is_stmod = eqb-true _ _ e; mode = refl })
      (λ e05.
      if_ind_by P (eqb (cmd_of word) 0x06) (λ e. tt)
      (λ e06.
      if_ind_by P (eqb (cmd_of word) 0x07) (λ e. tt)
      (λ e07.
      if_ind_by P (eqb (cmd_of word) 0x10) (λ e. tt)
      (λ e10.
      if_ind_by P (eqb (cmd_of word) 0x11) (λ e. tt)
      (λ e11.
      if_ind_by P (eqb (cmd_of word) 0x13) (λ e. tt)
      (λ e13.
      if_ind_by P (eqb (cmd_of word) 0x14) (λ e. mscal (eqb-true _ _ e))
      (λ e14.
      if_ind_by P (eqb (cmd_of word) 0x15) (λ e. mscalf (eqb-true _ _ e))
      (λ e15.
      if_ind_by P (eqb (cmd_of word) 0x17) (λ e. mscnt (eqb-true _ _ e))
      (λ e17.
      if_ind_by P (eqb (cmd_of word) 0x20) (λ e. tt)
      (λ e20.
      if_ind_by P (eqb (cmd_of word) 0x30) (λ e. tt)
      (λ e30.
      if_ind_by P (eqb (cmd_of word) 0x31) (λ e. tt)
      (λ e31.
      if_ind_by P (eqb (cmd_of word) 0x4A) (λ e. tt)
      (λ e4a.
      if_ind_by P (eqb (cmd_of word) 0x50) (λ e. tt)
      (λ e50.
      if_ind_by P (eqb (cmd_of word) 0x51) (λ e. tt)
      (λ e51.
      unlisted_here (out_of_list (cmd_of word) e00 e01 e02 e03 e04 e05 e06 e07 e10 e11 e13 e14 e15 e17 e20 e30 e31 e4a e50 e51 l)))))))))))))))))))))

-- ---- the formats

no_named : {f : Format} → Some f ≡ None → ⊥
no_named e = let z : ◌≡◌ {A = ℕ} 0 1 = cc in omega arith

-- "21 vl 3 with vn below 3"
pub record NoFormat (n : ℕ) : Type 0 where
  pub vl : n % 4 ≡ 3
  pub vn : n / 4 % 4 < 3

above : (k n : ℕ) → k ≤ n → eqb n k ≡ false → k + 1 ≤ n
above k n l e = let z = eqb-false n k e in omega arith

three : (n : ℕ) → n ≡ 3 → NoFormat n
three n e = record { vl = rw e; vn = rw e (omega arith) }

seven : (n : ℕ) → n ≡ 7 → NoFormat n
seven n e = record { vl = rw e; vn = rw e (omega arith) }

eleven : (n : ℕ) → n ≡ 11 → NoFormat n
eleven n e = record { vl = rw e; vn = rw e (omega arith) }

-- a number of four bits that no format has is 3, 7 or 11
leftover : (n : ℕ) → n < 16 → eqb n 0 ≡ false → eqb n 1 ≡ false → eqb n 2 ≡ false → eqb n 4 ≡ false → eqb n 5 ≡ false → eqb n 6 ≡ false → eqb n 8 ≡ false → eqb n 9 ≡ false → eqb n 10 ≡ false → eqb n 12 ≡ false → eqb n 13 ≡ false → eqb n 14 ≡ false → eqb n 15 ≡ false → NoFormat n
leftover n l e0 e1 e2 e4 e5 e6 e8 e9 e10 e12 e13 e14 e15 = at_three (eqb n 3) refl
  where
    low : 3 ≤ n
    low = above 2 n (above 1 n (above 0 n (omega arith) e0) e1) e2

    at_eleven : (b : Bool) → eqb n 11 ≡ b → 11 ≤ n → NoFormat n
    at_eleven true w g = eleven n (eqb-true n 11 w)
    at_eleven false w g = absurd (let z = above 15 n (above 14 n (above 13 n (above 12 n (above 11 n g w) e12) e13) e14) e15 in omega arith)

    at_seven : (b : Bool) → eqb n 7 ≡ b → 7 ≤ n → NoFormat n
    at_seven true w g = seven n (eqb-true n 7 w)
    at_seven false w g = at_eleven (eqb n 11) refl (above 10 n (above 9 n (above 8 n (above 7 n g w) e8) e9) e10)

    at_three : (b : Bool) → eqb n 3 ≡ b → NoFormat n
    at_three true w = three n (eqb-true n 3 w)
    at_three false w = at_seven (eqb n 7) refl (above 6 n (above 5 n (above 4 n (above 3 n low w) e4) e5) e6)

missing_format : (n : ℕ) → n < 16 → format_named n ≡ None → NoFormat n
unfolding named_in
missing_format n l =
    if_ind_by (λ (f : Option Format). f ≡ None → NoFormat n) (eqb n 0) (λ e q. absurd (no_named q))
    (λ e0.
    if_ind_by (λ (f : Option Format). f ≡ None → NoFormat n) (eqb n 1) (λ e q. absurd (no_named q))
    (λ e1.
    if_ind_by (λ (f : Option Format). f ≡ None → NoFormat n) (eqb n 2) (λ e q. absurd (no_named q))
    (λ e2.
    if_ind_by (λ (f : Option Format). f ≡ None → NoFormat n) (eqb n 4) (λ e q. absurd (no_named q))
    (λ e4.
    if_ind_by (λ (f : Option Format). f ≡ None → NoFormat n) (eqb n 5) (λ e q. absurd (no_named q))
    (λ e5.
    if_ind_by (λ (f : Option Format). f ≡ None → NoFormat n) (eqb n 6) (λ e q. absurd (no_named q))
    (λ e6.
    if_ind_by (λ (f : Option Format). f ≡ None → NoFormat n) (eqb n 8) (λ e q. absurd (no_named q))
    (λ e8.
    if_ind_by (λ (f : Option Format). f ≡ None → NoFormat n) (eqb n 9) (λ e q. absurd (no_named q))
    (λ e9.
    if_ind_by (λ (f : Option Format). f ≡ None → NoFormat n) (eqb n 10) (λ e q. absurd (no_named q))
    (λ e10.
    if_ind_by (λ (f : Option Format). f ≡ None → NoFormat n) (eqb n 12) (λ e q. absurd (no_named q))
    (λ e12.
    if_ind_by (λ (f : Option Format). f ≡ None → NoFormat n) (eqb n 13) (λ e q. absurd (no_named q))
    (λ e13.
    if_ind_by (λ (f : Option Format). f ≡ None → NoFormat n) (eqb n 14) (λ e q. absurd (no_named q))
    (λ e14.
    if_ind_by (λ (f : Option Format). f ≡ None → NoFormat n) (eqb n 15) (λ e q. absurd (no_named q))
    (λ e15.
    λ q. leftover n l e0 e1 e2 e4 e5 e6 e8 e9 e10 e12 e13 e14 e15)))))))))))))

module _ (which : VifUnit) (word : ℕ) where
  unpack_says : 0x60 ≤ cmd_of word → (f : Option Format) → format_named (bits (cmd_of word) 0 3) ≡ f → Says which word (unpack_code f (unpack_numbers (cmd_of word) (num_of word) (imm_of word)))
  unfolding unpack_numbers bits
  unpack_says l (Some f) e = record { is_unpack = record { above = l }; bit15 = refl }
  unpack_says l None e =
      let m = missing_format (bits (cmd_of word) 0 3) (bits_below (cmd_of word) 0 3) e in
      let a = m.vl in
      let b = m.vn in
      missing (record { above = l }) (omega arith) (omega arith)

  -- what a word says that is decoded so
  pub decoded_says : Says which word (decode_of which word)
  unfolding decode_of code_of
  decoded_says =
      if_ind_by (Says which word) (leb 0x60 (cmd_of word)) (λ e. unpack_says (leb-true _ _ e) (format_named (bits (cmd_of word) 0 3)) refl)
      (λ e. if_ind_by (Says which word) (code_listed which (cmd_of word)) (λ c. plain_says which word e) (λ c. unlisted (not_on c)))
    where
      not_on : code_listed which (cmd_of word) ≡ false → listed_on which (cmd_of word) ≡ false
      not_on c = rw c (and_false (listed (cmd_of word)))
