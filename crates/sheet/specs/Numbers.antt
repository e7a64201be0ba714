-- The numbers that a sheet is refused with.
use Rattle.std.specs.Prelude.{ℕ}
use Rattle.fields.specs.Refusals.{mark_wrong, kind_wrong, count_wrong, address_wrong, record_cut, pad_wrong, sheet_long, output_short, chain_long, group_deep}

-- document 01's "46 sheet too long, first; then records in order, each: 44 header cut, 40 mark, 41 kind, 42 count, 43 address, 44 body cut, 45 non-zero pad";
-- request 12's "49 (offset 0) if the expanded chain exceeds 1,048,576 bytes" and "52 for depth 9"
pub data SheetNumber : ℕ → Type 0 where
  mark : SheetNumber mark_wrong
  kind : SheetNumber kind_wrong
  count : SheetNumber count_wrong
  address : SheetNumber address_wrong
  cut : SheetNumber record_cut
  pad : SheetNumber pad_wrong
  long : SheetNumber sheet_long
  chain : SheetNumber chain_long
  deep : SheetNumber group_deep

-- those of the builder: "last 47, exactly if the chain is longer than the output"
pub data BuildNumber : ℕ → Type 0 where
  of_sheet : {n : ℕ} → SheetNumber n → BuildNumber n
  short : BuildNumber output_short
