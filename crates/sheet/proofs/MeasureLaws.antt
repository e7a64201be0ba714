-- The sums of a sheet: one item more, the end and a refusal; where they stop, and that they are exact where the chain is not too long.
use mathlib.Core.Path.{◌≡◌, refl, sym, ap, ◌∙◌}
use mathlib.Core.Bool.{Bool, true, false}
use mathlib.Core.List.{List, [], ◌∷◌}
use Prim.Native.Nat.{ℕ, ◌+◌, ◌*◌, ◌<◌, ◌≤◌}
use native.Mathlib.Omega.{arith}
use lib.ListN.{length}
use lib.Dec.{ltb}
use borrow.Author.Tests.{lt-ltb, le-ltb, ltb-true, ltb-false}
use Rattle.fields.specs.Fields.{if}
use Rattle.sheet.specs.declared.Kind.{Kind}
use Rattle.sheet.specs.declared.Kind.TheVariants.{Data, Code, Gs, Start}
use Rattle.sheet.specs.Records.{Record}
use Rattle.sheet.specs.Reader.{Contents, valid, refused}
use Rattle.sheet.specs.Whole.{AllMeet}
use Rattle.sheet.specs.Sizes.{record_quadwords, record_steps, entries_of, sheet_quadwords, sheet_entries}
use Rattle.sheet.specs.Layout.{chain_of}
use Rattle.sheet.proofs.LayoutLaws.{chain_length}
use Rattle.sheet.specs.declared.sums.Totals.{Totals}
use Rattle.sheet.specs.ItemAnswer.{End, Found, Refused}
use Rattle.sheet.specs.Measured.{Measured, Refused as MeasureRefused}
use Rattle.sheet.specs.Items.{expanded_item}
use Rattle.sheet.specs.Groups.{ItemRead, ended, item, refused as itemRefused, item_at}
use Rattle.sheet.specs.Sums.{sum_of, quadwords, steps, entries, most, capped, totals, totals_of, end_totals, joined, answered, measured_of, within, summed}
use Rattle.sheet.specs.Editions.{before_all, on_item, deepest, expansion_from, limited}
use Rattle.sheet.proofs.SumLaws.{totals_append, joined_more, quadwords_sum, steps_sum, entries_sum}
use Rattle.sheet.proofs.ExpansionLaws.{from_turn, expansion_meets}

-- ---- one turn

records_more : (t : Totals) (rs : List Record) (c : Contents) → summed t (before_all rs c) ≡ summed (joined t (totals_of rs)) c
unfolding summed
records_more t rs (valid ss) =
    rw (totals_append rs ss, ← joined_more (totals_of rs) (totals_of ss) end_totals, joined_more t (totals_of rs) (joined (totals_of ss) end_totals))
records_more t rs (refused n offset) = refl

module _ (t : Totals) (g : ℕ → Contents) where
  turn_end : (x : ItemRead) → answered x ≡ End → summed t (on_item g x) ≡ within (joined t end_totals)
  unfolding answered summed joined totals_of sum_of
  turn_end ended q = refl
  turn_end (item i next) q = absurd (let z : ◌≡◌ {A = ℕ} 0 1 = cc in omega arith)
  turn_end (itemRefused k offset) q = absurd (let z : ◌≡◌ {A = ℕ} 0 1 = cc in omega arith)

  turn_refused : {k offset : ℕ} (x : ItemRead) → answered x ≡ Refused k offset → summed t (on_item g x) ≡ MeasureRefused k offset
  unfolding answered summed
  turn_refused ended q = absurd (let z : ◌≡◌ {A = ℕ} 0 1 = cc in omega arith)
  turn_refused (item i next) q = absurd (let z : ◌≡◌ {A = ℕ} 0 1 = cc in omega arith)
  turn_refused {k} {offset} (itemRefused a b) q = let p : a ≡ k = cc in let s : b ≡ offset = cc in rw (p, s)

  turn_found : {next : ℕ} {u : Totals} (x : ItemRead) → answered x ≡ Found next u → summed t (on_item g x) ≡ summed (joined t u) (g next)
  unfolding answered
  turn_found ended q = absurd (let z : ◌≡◌ {A = ℕ} 0 1 = cc in omega arith)
  turn_found {next} {u} (item i at) q =
      let p : at ≡ next = cc in
      let s : totals_of (expanded_item i) ≡ u = cc in
      records_more t (expanded_item i) (g at) ∙ rw (p, s)
  turn_found (itemRefused k offset) q = absurd (let z : ◌≡◌ {A = ℕ} 0 1 = cc in omega arith)

module _ (sheet : List ℕ) (t : Totals) (at : ℕ) {x : Measured} (e : summed t (expansion_from sheet at) ≡ x) where
  turn : summed t (on_item (expansion_from sheet) (item_at sheet deepest at)) ≡ x
  turn = ap (summed t) (sym (from_turn sheet at)) ∙ e

  pub at_end : End ≡ answered (item_at sheet deepest at) → {s : Totals} {m : Measured} → s ≡ joined t end_totals → m ≡ within s → m ≡ x
  at_end q se me = me ∙ rw se (sym (turn_end t (expansion_from sheet) (item_at sheet deepest at) (sym q)) ∙ turn)

  pub at_refused : {k offset : ℕ} → Refused k offset ≡ answered (item_at sheet deepest at) → MeasureRefused k offset ≡ x
  at_refused q = sym (turn_refused t (expansion_from sheet) (item_at sheet deepest at) (sym q)) ∙ turn

  pub at_found : {next : ℕ} {u s : Totals} → Found next u ≡ answered (item_at sheet deepest at) → s ≡ joined t u → summed s (expansion_from sheet next) ≡ x
  at_found q se = rw se (sym (turn_found t (expansion_from sheet) (item_at sheet deepest at) (sym q)) ∙ turn)

-- ---- where the sums stop

steps_few : (k : Kind) (n : ℕ) → record_steps k n ≤ 4 * record_quadwords k n
steps_few Data n = omega arith
steps_few Code n = omega arith
steps_few Gs n = omega arith
steps_few Start n = omega arith

row_entries : (k : Kind) (n : ℕ) → entries_of k n ≤ record_quadwords k n
row_entries Data n = omega arith
row_entries Code n = omega arith
row_entries Gs n = omega arith
row_entries Start n = omega arith

-- a sheet has at most four steps and one entry a quadword
sums_few : (rs : List Record) → (sum_of steps rs ≤ 4 * sum_of quadwords rs) × (sum_of entries rs ≤ sum_of quadwords rs)
unfolding sum_of
sums_few [] = (omega arith, omega arith)
sums_few (r ∷ rs) =
    let h = sums_few rs in
    let s = steps_few r.kind r.count in
    let e = row_entries r.kind r.count in
    (omega arith, omega arith)

pub entries_few : (rs : List Record) → sheet_entries rs ≤ sheet_quadwords rs
entries_few rs = let h = sums_few rs in let q = quadwords_sum rs in let e = entries_sum rs in omega arith

pub quadwords_some : (rs : List Record) → 1 ≤ sheet_quadwords rs
quadwords_some rs = let q = quadwords_sum rs in omega arith

-- the sums with the end tag, as they are counted
counted : ℕ → ℕ → ℕ
counted a b = capped (0 + capped (capped a + b))

exact : (a b : ℕ) → a + b ≤ most → counted a b ≡ a + b
unfolding counted
exact a b h = omega arith

above : (a : ℕ) → 65536 < a + 1 → 65536 < counted a 1
unfolding counted
above a h = omega arith

start_valid : (rs : List Record) → AllMeet rs → summed (totals 0 0 0) (valid rs) ≡ measured_of (limited (valid rs))
unfolding summed limited within joined totals_of if counted
start_valid rs meet = go (ltb 1048576 (length (chain_of rs))) refl
  where
    go : (b : Bool) → ltb 1048576 (length (chain_of rs)) ≡ b
        → within (totals (counted (sum_of quadwords rs) 1) (counted (sum_of steps rs) 1) (counted (sum_of entries rs) 0)) ≡ measured_of (if b (refused 49 0) (valid rs))
    go true h =
        let l = ltb-true 1048576 (length (chain_of rs)) h in
        let c = chain_length meet in
        let q = quadwords_sum rs in
        rw (lt-ltb 65536 (counted (sum_of quadwords rs) 1) (above (sum_of quadwords rs) (omega arith)))
    go false h =
        let l = ltb-false 1048576 (length (chain_of rs)) h in
        let c = chain_length meet in
        let q = quadwords_sum rs in
        let f = sums_few rs in
        rw (exact (sum_of quadwords rs) 1 (omega arith), exact (sum_of steps rs) 1 (omega arith), exact (sum_of entries rs) 0 (omega arith), le-ltb 65536 (sum_of quadwords rs + 1) (omega arith), quadwords_sum rs, steps_sum rs, entries_sum rs)

pub starts : (sheet : List ℕ) (at : ℕ) {t : Totals} → t ≡ totals 0 0 0 → summed t (expansion_from sheet at) ≡ measured_of (limited (expansion_from sheet at))
starts sheet at te = rw te (go (expansion_from sheet at) refl)
  where
    go : (c : Contents) → expansion_from sheet at ≡ c → summed (totals 0 0 0) c ≡ measured_of (limited c)
    go (valid rs) e = start_valid rs (expansion_meets sheet at rs e)
    go (refused n offset) e = unfold summed limited in refl
