-- "Refusals: 46 for a sheet above 131,072 bytes, then 55 exactly if the kept bytes exceed the output, then 56 exactly if the ranges exceed their list, which holds
-- half its length in numbers, rounded down; both buffers untouched."
use mathlib.Core.Path.{◌≡◌, sym, ap, ◌∙◌}
use mathlib.Core.Logic.{◌↔◌}
use mathlib.Core.Bool.{false}
use mathlib.Core.List.{List}
use Prim.Native.Nat.{ℕ, ◌*◌, ◌/◌, ◌<◌, ◌≤◌}
use native.Mathlib.Omega.{arith}
use borrow.Author.Tests.{ltb-true, ltb-false}
use lib.ListN.{length, take, drop}
use lib.Seq.{take_at, drop_at}
use lib.Dec.{ltb}
use Rattle.fields.specs.Refusals.{sheet_long, kept_exceed, ranges_exceed}
use Rattle.fields.proofs.ChoiceLaws.{if_ind_by}
use Rattle.sheet.specs.Records.{Record, longest}
use Rattle.sheet.specs.Reader.{valid}
use Rattle.sheet.specs.Groups.{starts_second}
use Rattle.sheet.specs.Editions.{contents_of}
use Rattle.sheet.specs.Whole.{Bytes}
use Rattle.sheet.specs.Build.{stored}
use Rattle.sheet.proofs.EditionLaws.{sheet_short}
use Rattle.salvage.specs.SalvageAnswer.{Salvaged, Refused}
use Rattle.salvage.specs.Salvage.{kept_bytes, dropped_ranges, numbers_of, Left, left, salvage_of}
use Rattle.salvage.specs.Claims.{Wrote}
use Rattle.salvage.proofs.LoopLaws.{numbers_length}
use Rattle.salvage.proofs.AnswerLaws.{refuses_long, refuses_kept, refuses_ranges, salvages}
use Rattle.salvage.proofs.Claims.{valid_unchanged}

other : {m n : ℕ} → (m ≡ n → ⊥) → Refused m ≡ Refused n → ⊥
other h e = h cc

not_salvaged : {b r n : ℕ} → Salvaged b r ≡ Refused n → ⊥
not_salvaged e = let z : ◌≡◌ {A = ℕ} 0 1 = cc in omega arith

stored_parts : (xs l : List ℕ) (n : ℕ) → length xs ≡ n → (take n (stored xs l) ≡ xs) × (drop n (stored xs l) ≡ drop n l)
stored_parts xs l n e = (take_at xs (drop (length xs) l) n e, drop_at xs (drop (length xs) l) n e ∙ rw e)

module _ (sheet output ranges : List ℕ) where
  -- the four cases, and what is left in each
  data Case : Left → Type 0 where
    long : longest < length sheet → Case (left (Refused sheet_long) output ranges)
    output_short_lem : length sheet ≤ longest → length output < length (kept_bytes sheet) → Case (left (Refused kept_exceed) output ranges)
    list_short : length sheet ≤ longest → length (kept_bytes sheet) ≤ length output → length ranges / 2 < length (dropped_ranges sheet)
        → Case (left (Refused ranges_exceed) output ranges)
    fits : Case (left (Salvaged (length (kept_bytes sheet)) (length (dropped_ranges sheet))) (stored (kept_bytes sheet) output) (stored (numbers_of (dropped_ranges sheet)) ranges))

  one_case : Case (salvage_of sheet output ranges)
  unfolding salvage_of
  one_case =
      if_ind_by Case (ltb longest (length sheet)) (λ t. long (ltb-true _ _ t))
      (λ s. if_ind_by Case (ltb (length output) (length (kept_bytes sheet))) (λ t. output_short_lem (ltb-false _ _ s) (ltb-true _ _ t))
      (λ k. if_ind_by Case (ltb (length ranges / 2) (length (dropped_ranges sheet))) (λ t. list_short (ltb-false _ _ s) (ltb-false _ _ k) (ltb-true _ _ t))
      (λ f. fits)))

  -- the answer of the tool is that of a case
  answer_of : {x : Left} → x ≡ salvage_of sheet output ranges → (salvage_of sheet output ranges).answer ≡ x.answer
  answer_of e = ap (λ (y : Left). y.answer) (sym e)

  only_long : {x : Left} → Case x → x.answer ≡ Refused sheet_long → longest < length sheet
  only_long (long l) e = l
  only_long (output_short_lem s k) e = absurd (other (λ q. omega arith) e)
  only_long (list_short s k r) e = absurd (other (λ q. omega arith) e)
  only_long fits e = absurd (not_salvaged e)

  pub long_exactly : ((salvage_of sheet output ranges).answer ≡ Refused sheet_long) ↔ (longest < length sheet)
  long_exactly = (only_long one_case, λ l. answer_of (refuses_long sheet output ranges l))

  only_kept : {x : Left} → Case x → x.answer ≡ Refused kept_exceed → (length sheet ≤ longest) × (length output < length (kept_bytes sheet))
  only_kept (long l) e = absurd (other (λ q. omega arith) e)
  only_kept (output_short_lem s k) e = (s, k)
  only_kept (list_short s k r) e = absurd (other (λ q. omega arith) e)
  only_kept fits e = absurd (not_salvaged e)

  pub kept_exactly : ((salvage_of sheet output ranges).answer ≡ Refused kept_exceed) ↔ ((length sheet ≤ longest) × (length output < length (kept_bytes sheet)))
  kept_exactly = (only_kept one_case, λ h. answer_of (refuses_kept sheet output ranges h.0 h.1))

  only_ranges : {x : Left} → Case x → x.answer ≡ Refused ranges_exceed
      → (length sheet ≤ longest) × (length (kept_bytes sheet) ≤ length output) × (length ranges / 2 < length (dropped_ranges sheet))
  only_ranges (long l) e = absurd (other (λ q. omega arith) e)
  only_ranges (output_short_lem s k) e = absurd (other (λ q. omega arith) e)
  only_ranges (list_short s k r) e = (s, k, r)
  only_ranges fits e = absurd (not_salvaged e)

  pub ranges_exactly :
      ((salvage_of sheet output ranges).answer ≡ Refused ranges_exceed)
      ↔ ((length sheet ≤ longest) × (length (kept_bytes sheet) ≤ length output) × (length ranges / 2 < length (dropped_ranges sheet)))
  ranges_exactly = (only_ranges one_case, λ h. answer_of (refuses_ranges sheet output ranges h.0 h.1 h.2))

  -- "both buffers untouched"
  untouched : {x : Left} (n : ℕ) → Case x → x.answer ≡ Refused n → x ≡ left (Refused n) output ranges
  untouched n (long l) e = rw e
  untouched n (output_short_lem s k) e = rw e
  untouched n (list_short s k r) e = rw e
  untouched n fits e = absurd (not_salvaged e)

  pub refused_untouched : (n : ℕ) → (salvage_of sheet output ranges).answer ≡ Refused n → salvage_of sheet output ranges ≡ left (Refused n) output ranges
  refused_untouched n = untouched n one_case

  -- "It answers how many bytes and ranges it wrote." "Beyond what is written both buffers keep their contents."
  wrote : {x : Left} (bytes count : ℕ) → Case x → x.answer ≡ Salvaged bytes count → Wrote sheet output ranges bytes count x
  wrote bytes count (long l) e = absurd (not_salvaged (sym e))
  wrote bytes count (output_short_lem s k) e = absurd (not_salvaged (sym e))
  wrote bytes count (list_short s k r) e = absurd (not_salvaged (sym e))
  wrote bytes count fits e =
      let b : length (kept_bytes sheet) ≡ bytes = cc in
      let c : length (dropped_ranges sheet) ≡ count = cc in
      let n = numbers_length (dropped_ranges sheet) in
      let o = stored_parts (kept_bytes sheet) output bytes b in
      let l = stored_parts (numbers_of (dropped_ranges sheet)) ranges (2 * count) (omega arith) in
      record { kept = o.0; dropped = l.0; output_beyond = o.1; ranges_beyond = l.1 }

  pub answer_true : (bytes count : ℕ) → (salvage_of sheet output ranges).answer ≡ Salvaged bytes count → Wrote sheet output ranges bytes count (salvage_of sheet output ranges)
  answer_true bytes count = wrote bytes count one_case

-- "A valid sheet comes back unchanged with no range."; request 12: a sheet of the first edition
module _ (sheet : List ℕ) (rs : List Record) (first : starts_second sheet ≡ false) (v : contents_of sheet ≡ valid rs) where
  pub valid_back : (output ranges : List ℕ) → Bytes sheet → length sheet ≤ length output
      → salvage_of sheet output ranges
      ≡ left (Salvaged (length sheet) 0) (stored sheet output) ranges
  unfolding numbers_of
  valid_back output ranges b room =
      let u = valid_unchanged sheet rs b first v in
      sym (salvages sheet output ranges (sheet_short sheet rs v) (rw u.0 room) (rw u.1 (omega arith))) ∙ rw (u.0, u.1)
