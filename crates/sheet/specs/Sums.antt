-- Sums over the expansion, "worked out without wrapping": each is counted up to a number that no accepted sheet's sums exceed.
-- Of the promises of public functions only that of `measure` cites them.
use Rattle.std.specs.Prelude.{ℕ, ◌+◌, ◌*◌, min, List, [], ◌∷◌, ltb}
use Rattle.fields.specs.Fields.{if}
use Rattle.fields.specs.Refusals.{chain_long}
use Rattle.sheet.specs.declared.sums.Totals.{Totals}
use Rattle.sheet.specs.ItemAnswer.{ItemAnswer, End, Found, Refused}
use Rattle.sheet.specs.Measured.{Measured, Whole, Refused as MeasureRefused}
use Rattle.sheet.specs.Records.{Record}
use Rattle.sheet.specs.Reader.{Contents, valid, refused}
use Rattle.sheet.specs.Sizes.{record_quadwords, record_steps, entries_of, sheet_quadwords, sheet_steps, sheet_entries}
use Rattle.sheet.specs.Items.{Item, single, group, Items, none, then, expanded_item, expanded}
use Rattle.sheet.specs.Groups.{ItemRead, ended, item, refused as itemRefused, MembersRead, members, broken}

-- a sum over records
unfoldable pub sum_of : (Record → ℕ) → List Record → ℕ
sum_of f [] = 0
sum_of f (r ∷ rs) = f r + sum_of f rs

abbrev pub quadwords : Record → ℕ
quadwords r = record_quadwords r.kind r.count

abbrev pub steps : Record → ℕ
steps r = record_steps r.kind r.count

abbrev pub entries : Record → ℕ
entries r = entries_of r.kind r.count

-- the same sum by the tree, without its expansion
unfoldable mutual
  pub item_size : (Record → ℕ) → Item → ℕ
  item_size f (single r) = f r
  item_size f (group n is) = n * size_of f is

  pub size_of : (Record → ℕ) → Items → ℕ
  size_of f none = 0
  size_of f (then i is) = item_size f i + size_of f is

-- sums are counted up to here; no accepted sheet has more of anything
abbrev pub most : ℕ
most = 1048576

abbrev pub capped : ℕ → ℕ
capped n = min n most

abbrev pub totals : ℕ → ℕ → ℕ → Totals
totals q s e = record { quadwords = q; steps = s; entries = e }

-- three sums, each counted up to `most`
abbrev pub capped_totals : ℕ → ℕ → ℕ → Totals
capped_totals q s e = totals (capped q) (capped s) (capped e)

-- the sums over records
unfoldable pub totals_of : List Record → Totals
totals_of rs = capped_totals (sum_of quadwords rs) (sum_of steps rs) (sum_of entries rs)

-- the end tag is one quadword and one step
abbrev pub end_totals : Totals
end_totals = totals 1 1 0

-- two sums as one, and a sum so many times
unfoldable pub joined : Totals → Totals → Totals
joined t u = totals (capped (t.quadwords + u.quadwords)) (capped (t.steps + u.steps)) (capped (t.entries + u.entries))

unfoldable pub scaled : ℕ → Totals → Totals
scaled n t = totals (capped (n * t.quadwords)) (capped (n * t.steps)) (capped (n * t.entries))

-- what `read_item` answers
unfoldable pub answered : ItemRead → ItemAnswer
answered ended = End
answered (item i next) = Found next (totals_of (expanded_item i))
answered (itemRefused n offset) = Refused n offset

-- sums that go on from others, so many times
unfoldable pub answered_from : ℕ → Totals → MembersRead → ItemAnswer
answered_from n t (members is next) = Found next (scaled n (joined t (totals_of (expanded is))))
answered_from n t (broken k offset) = Refused k offset

-- the sums of a sheet, or its refusal
abbrev pub sheet_totals : List Record → Totals
sheet_totals rs = totals (sheet_quadwords rs) (sheet_steps rs) (sheet_entries rs)

abbrev pub measured_of : Contents → Measured
measured_of (valid rs) = Whole (sheet_totals rs)
measured_of (refused n offset) = MeasureRefused n offset

-- 49 where the chain is longer than 65,536 quadwords
unfoldable pub within : Totals → Measured
within t = if (ltb 65536 t.quadwords) (MeasureRefused chain_long 0) (Whole t)

-- sums that go on from others to the end tag
unfoldable pub summed : Totals → Contents → Measured
summed t (valid rs) = within (joined t (joined (totals_of rs) end_totals))
summed t (refused n offset) = MeasureRefused n offset
