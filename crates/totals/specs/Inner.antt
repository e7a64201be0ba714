-- What inner functions promise; no promise of a public function cites it.
use Rattle.std.specs.Prelude.{ℕ, Option, Some, None}
use Rattle.std.specs.Int.{◌∣◌}
use Rattle.fields.specs.Fields.{if}
use Rattle.fields.specs.declared.Qwc.{Qwc}
use Rattle.fields.specs.declared.Counts.{Counts}
use Rattle.fields.specs.Counts.{plus_qwc, qwc_numbers}
use Rattle.totals.specs.declared.Totals.{Totals}
use Rattle.totals.specs.Totals.{numbers_of, added, any_passes}

-- g divides both, and whatever divides both divides g
pub record Greatest (a b g : ℕ) : Type 0 where
  pub first : g ∣ a
  pub second : g ∣ b
  pub greatest : (d : ℕ) → d ∣ a → d ∣ b → d ∣ g

-- the sums, none where one passes
unfoldable pub qwc_added : Qwc → Qwc → Option Qwc
qwc_added a b = if (any_passes (qwc_numbers (plus_qwc a b))) None (Some (plus_qwc a b))

unfoldable pub sums_added : Totals → Counts → Option Totals
sums_added t c = if (any_passes (numbers_of (added t c))) None (Some (added t c))
