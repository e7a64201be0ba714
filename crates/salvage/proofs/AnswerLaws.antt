-- The tool's four answers, each exactly in its case.
use mathlib.Core.Path.{◌≡◌}
use mathlib.Core.List.{List}
use Prim.Native.Nat.{ℕ, ◌*◌, ◌/◌, ◌<◌, ◌≤◌}
use native.Mathlib.Omega.{arith}
use borrow.Author.Tests.{lt-ltb, le-ltb}
use lib.ListN.{length}
use lib.Seq.{sets}
use Rattle.fields.specs.Fields.{if}
use Rattle.fields.specs.Refusals.{sheet_long, kept_exceed, ranges_exceed}
use Rattle.sheet.specs.Records.{longest}
use Rattle.sheet.specs.Build.{stored}
use Rattle.sheet.proofs.ListLaws.{sets_front}
use Rattle.salvage.specs.declared.Sums.{Sums}
use Rattle.salvage.specs.SalvageAnswer.{Salvaged, Refused}
use Rattle.salvage.specs.Salvage.{kept_bytes, dropped_ranges, numbers_of, left, salvage_of}
use Rattle.salvage.specs.Inner.{sums_of, Room}
use Rattle.salvage.proofs.LoopLaws.{numbers_length}

module _ (sheet output ranges : List ℕ) where
  pub refuses_long : longest < length sheet → left (Refused sheet_long) output ranges ≡ salvage_of sheet output ranges
  unfolding salvage_of if
  refuses_long h = rw (lt-ltb longest (length sheet) h)

  module _ (short : length sheet ≤ longest) where
    pub refuses_kept : length output < length (kept_bytes sheet) → left (Refused kept_exceed) output ranges ≡ salvage_of sheet output ranges
    unfolding salvage_of if
    refuses_kept h = rw (le-ltb longest (length sheet) short, lt-ltb (length output) (length (kept_bytes sheet)) h)

    module _ (room : length (kept_bytes sheet) ≤ length output) where
      pub refuses_ranges : length ranges / 2 < length (dropped_ranges sheet) → left (Refused ranges_exceed) output ranges ≡ salvage_of sheet output ranges
      unfolding salvage_of if
      refuses_ranges h =
          rw (
            le-ltb longest (length sheet) short,
            le-ltb (length output) (length (kept_bytes sheet)) room,
            lt-ltb (length ranges / 2) (length (dropped_ranges sheet)) h,
          )

      pub salvages : length (dropped_ranges sheet) ≤ length ranges / 2
          → left (Salvaged (length (kept_bytes sheet)) (length (dropped_ranges sheet))) (stored (kept_bytes sheet) output) (stored (numbers_of (dropped_ranges sheet)) ranges)
          ≡ salvage_of sheet output ranges
      unfolding salvage_of if
      salvages h =
          rw (
            le-ltb longest (length sheet) short,
            le-ltb (length output) (length (kept_bytes sheet)) room,
            le-ltb (length ranges / 2) (length (dropped_ranges sheet)) h,
          )

  -- what was measured decides
  module _ (short : length sheet ≤ longest) {m : Sums} (e : m ≡ sums_of sheet) where
    pub measured_kept : length output < m.bytes → left (Refused kept_exceed) output ranges ≡ salvage_of sheet output ranges
    measured_kept h = refuses_kept short (rw e at h)

    module _ (room : m.bytes ≤ length output) where
      pub measured_ranges : length ranges / 2 < m.ranges → left (Refused ranges_exceed) output ranges ≡ salvage_of sheet output ranges
      measured_ranges h = refuses_ranges short (rw e at room) (rw e at h)

      module _ (h : m.ranges ≤ length ranges / 2) where
        few : 2 * length (dropped_ranges sheet) ≤ length ranges
        few = let g : length (dropped_ranges sheet) ≤ length ranges / 2 = rw e at h in omega arith

        pub has_room : Room sheet output ranges
        has_room = let l = numbers_length (dropped_ranges sheet) in let f = few in record { short = short; bytes = rw e at room; numbers = omega arith }

        pub written : {o r : List ℕ} → o ≡ sets output 0 (kept_bytes sheet) → r ≡ sets ranges 0 (numbers_of (dropped_ranges sheet))
            → left (Salvaged m.bytes m.ranges) o r ≡ salvage_of sheet output ranges
        written p q =
            rw (p, q, e, sets_front output (kept_bytes sheet) has_room.bytes, sets_front ranges (numbers_of (dropped_ranges sheet)) has_room.numbers)
            (salvages short (rw e at room) (rw e at h))
