-- The answers of the meaning, with a log for its entries and beside one.
use mathlib.Core.Path.{◌≡◌, refl, sym, ap, ◌∙◌}
use mathlib.Core.Bool.{Bool, true, false}
use mathlib.Core.List.{List, []}
use Prim.Native.Nat.{ℕ, ◌+◌, ◌*◌, ◌-◌, ◌/◌, ◌<◌, ◌≤◌}
use native.Mathlib.Omega.{arith}
use borrow.Author.Tests.{ne_eqb, eqb-false, lt-ltb, le-ltb, ltb-true, ltb-false}
use lib.Dec.{ltb}
use lib.ListN.{length}
use Rattle.fields.specs.Fields.{if}
use Rattle.fields.specs.declared.refusals.Refusal.{Refusal}
use Rattle.fields.specs.Refusals.{refusal_number, log_full}
use Rattle.fields.proofs.ChoiceLaws.{if_zero}
use Rattle.fields.proofs.RefusalLaws.{refusal_not_none}
use Rattle.gif.proofs.RangeLaws.{log_fits}
use Rattle.gif.specs.Log.{entry_size, entries_in}
use Rattle.gif.proofs.LogLaws.{in_count}
use Rattle.memories.specs.declared.VifUnit.TheVariants.{Vif1}
use Rattle.memories.specs.Units.{data_words, code_bytes}
use Rattle.memories.specs.Lengths.{lent}
use Rattle.memories.proofs.LengthLaws.{lengths_fit, fit_first}
use Rattle.sheet.specs.MeaningAnswer.{Meant, Refused}
use Rattle.sheet.specs.MatchAnswer.{Matched, Refused as MatchRefused}
use Rattle.sheet_meaning.specs.declared.matching.Front.{Front}
use Rattle.sheet.specs.declared.sums.Totals.{Totals}
use Rattle.sheet.specs.Measured.{Whole, Refused as MeasureRefused}
use Rattle.sheet.specs.Records.{Record}
use Rattle.sheet.specs.Reader.{valid}
use Rattle.sheet.specs.Editions.{expansion_from, contents_of}
use Rattle.sheet.specs.Acts.{SheetFits, records_in, first_item}
use Rattle.sheet.specs.Sizes.{sheet_entries}
use Rattle.sheet.specs.Meaning.{Plain, plain, meaning_of}
use Rattle.sheet.specs.Results.{left, length_refusal, meaning_of_sheet}
use Rattle.sheet.specs.Match.{left as leftMatched, leading, match_of_sheet}
use Rattle.sheet.specs.Sums.{measured_of}
use Rattle.sheet.specs.Fed.{Fed, fed, fed_all}
use Rattle.sheet_meaning.specs.Feeding.{RecordsRoom, feed_refusal}
use Rattle.sheet_meaning.specs.Met.{front, met_all, Matching, matching, matched_all, MatchRoom}
use Rattle.sheet.proofs.EditionLaws.{contents_items}
use Rattle.sheet.proofs.TotalsLaws.{measured_whole, measured_refused}
use Rattle.sheet.proofs.ActedLaws.{items_whole, Stopped, by_sheet, by_actor, Passed}
use Rattle.sheet.proofs.MeaningLaws.{meaning_count, log_same}
use Rattle.sheet.proofs.FedLaws.{fed_plain, fed_sheet}
use Rattle.sheet_meaning.proofs.MatchLaws.{met_leading, matched_plain, match_meant}

-- lengths that are accepted
pub record Lengths (mem code log : List ℕ) (used : ℕ) : Type 0 where
  pub words : length mem ≡ data_words Vif1
  pub bytes : length code ≡ code_bytes Vif1
  pub held : entry_size * used ≤ length log

pub lengths_of : (mem code log : List ℕ) (used : ℕ) → length_refusal mem code log used ≡ 0 → Lengths mem code log used
lengths_of mem code log used h =
    let f = lengths_fit Vif1 (lent mem code log) used h in
    record { words = f.long; bytes = f.wide; held = (log_fits log used f.logged).holds }

-- an accepted sheet with so many entries, and memories and a log whose lengths are accepted
pub record Means (sheet mem code log : List ℕ) (used entries : ℕ) : Type 0 where
  pub records : List Record
  pub accepted : contents_of sheet ≡ valid records
  pub sum : entries ≡ sheet_entries records
  pub lengths : length_refusal mem code log used ≡ 0

-- such a sheet, and the room of the log
module _ {sheet mem code log : List ℕ} {used entries : ℕ} (m : Means sheet mem code log used entries) where
  pub means_lengths : Lengths mem code log used
  means_lengths = lengths_of mem code log used m.lengths

  pub mean_full : length log / entry_size - used < entries → left (Refused 31 0) mem code log ≡ meaning_of_sheet sheet mem code log used
  unfolding meaning_of_sheet if
  mean_full h =
      let l = means_lengths in
      let s = m.sum in
      rw (m.lengths, m.accepted, lt-ltb (length log) (entry_size * (used + sheet_entries m.records)) (omega arith))

  module _ (h : entries ≤ length log / entry_size - used) where
    room : entry_size * (used + sheet_entries m.records) ≤ length log
    room =
        let l = means_lengths in
        let s = m.sum in
        omega arith

    pub mean_feeds : SheetFits RecordsRoom sheet (first_item sheet) (fed mem code log used)
    mean_feeds =
        let l = means_lengths in
        record {
          records = m.records;
          accepted = contents_items sheet m.records m.accepted;
          room = record { words = l.words; bytes = l.bytes; room = room };
        }

    -- the whole sheet fed is its meaning
    fed_meaning : fed_all (records_in (expansion_from sheet (first_item sheet))) (fed mem code log used) ≡ fed_plain (meaning_of m.records (plain mem code (entries_in log used))) log
    fed_meaning =
        let l = means_lengths in
        let n = in_count log used l.held in
        let s : fed_plain (plain mem code (entries_in log used)) log ≡ fed mem code log used = rw (log_same log used l.held, n) in
        rw (contents_items sheet m.records m.accepted, ← s) (fed_sheet m.records (plain mem code (entries_in log used)) log (rw n room))

    pub mean_fed : {mem' code' log' : List ℕ} {r : ℕ} → fed mem' code' log' r ≡ fed_all (records_in (expansion_from sheet (first_item sheet))) (fed mem code log used)
        → left (Meant r) mem' code' log' ≡ meaning_of_sheet sheet mem code log used
    unfolding meaning_of_sheet if
    mean_fed e =
        rw (m.lengths, m.accepted, le-ltb (length log) (entry_size * (used + sheet_entries m.records)) room)
        (ap (λ (x : Fed). left (Meant x.used) x.mem x.code x.log) (e ∙ fed_meaning))

-- ---- refusals

some_refusal : (e : Refusal) → refusal_number e ≡ 0 → ⊥
some_refusal e = eqb-false (refusal_number e) 0 (refusal_not_none e)

-- of the lengths
pub mean_lengths : (sheet mem code log : List ℕ) (used : ℕ) {n : ℕ} → n ≡ length_refusal mem code log used → (n ≡ 0 → ⊥)
    → left (Refused n 0) mem code log ≡ meaning_of_sheet sheet mem code log used
unfolding meaning_of_sheet if
mean_lengths sheet mem code log used e z = rw (← e, ne_eqb _ _ z)

-- the same of a refusal
pub mean_lengths_refused : (sheet mem code log : List ℕ) (used : ℕ) (e : Refusal) → refusal_number e ≡ length_refusal mem code log used
    → left (Refused (refusal_number e) 0) mem code log ≡ meaning_of_sheet sheet mem code log used
mean_lengths_refused sheet mem code log used e q = mean_lengths sheet mem code log used q (some_refusal e)

-- of the sheet, which is measured
module _ (sheet mem code log : List ℕ) (used : ℕ) (l : 0 ≡ length_refusal mem code log used) where
  pub mean_refused : {k offset : ℕ} → MeasureRefused k offset ≡ measured_of (contents_of sheet) → left (Refused k offset) mem code log ≡ meaning_of_sheet sheet mem code log used
  unfolding meaning_of_sheet if
  mean_refused q = rw (← l, measured_refused (contents_of sheet) q)

  pub mean_means : {t : Totals} → Whole t ≡ measured_of (contents_of sheet) → Means sheet mem code log used t.entries
  mean_means q =
      let a = measured_whole (contents_of sheet) q in
      record { records = a.records; accepted = a.are; sum = ap (λ (t : Totals). t.entries) a.sums; lengths = sym l }

-- ---- beside a log

pub match_lengths : (sheet mem code log : List ℕ) (used : ℕ) {n : ℕ} → n ≡ length_refusal mem code log used → (n ≡ 0 → ⊥)
    → leftMatched (MatchRefused n 0) mem code ≡ match_of_sheet sheet mem code log used
unfolding match_of_sheet if
match_lengths sheet mem code log used e z = rw (← e, ne_eqb _ _ z)

-- the same of a refusal
pub match_lengths_refused : (sheet mem code log : List ℕ) (used : ℕ) (e : Refusal) → refusal_number e ≡ length_refusal mem code log used
    → leftMatched (MatchRefused (refusal_number e) 0) mem code ≡ match_of_sheet sheet mem code log used
match_lengths_refused sheet mem code log used e q = match_lengths sheet mem code log used q (some_refusal e)

-- the parts of what is left, where nothing is refused
match_left : (sheet mem code log : List ℕ) (used : ℕ) {rs : List Record} → length_refusal mem code log used ≡ 0 → contents_of sheet ≡ valid rs → {k n : ℕ} {mem' code' : List ℕ}
    → k ≡ leading (meaning_of rs (plain mem code [])).entries (entries_in log used)
    → n ≡ length (meaning_of rs (plain mem code [])).entries
    → mem' ≡ (meaning_of rs (plain mem code [])).mem
    → code' ≡ (meaning_of rs (plain mem code [])).code
    → leftMatched (Matched k n) mem' code' ≡ match_of_sheet sheet mem code log used
unfolding match_of_sheet if
match_left sheet mem code log used l a ek en em ec = rw (l, a, ek, en, em, ec)

module _ (sheet mem code log : List ℕ) (used : ℕ) (l : 0 ≡ length_refusal mem code log used) where
  pub match_refused : {k offset : ℕ} → MeasureRefused k offset ≡ measured_of (contents_of sheet) → leftMatched (MatchRefused k offset) mem code ≡ match_of_sheet sheet mem code log used
  unfolding match_of_sheet if
  match_refused q = rw (← l, measured_refused (contents_of sheet) q)

  module _ {t : Totals} (q : Whole t ≡ measured_of (contents_of sheet)) where
    accepted : Means sheet mem code log used t.entries
    accepted = mean_means sheet mem code log used l q

    pub match_fits : SheetFits (MatchRoom log used) sheet (first_item sheet) (matching mem code (front 0 true))
    match_fits =
        let a = accepted in
        let s = means_lengths a in
        record {
          records = a.records;
          accepted = contents_items sheet a.records a.accepted;
          room = record { words = s.words; bytes = s.bytes; held = s.held };
        }

    abbrev meant : Plain
    meant = meaning_of accepted.records (plain mem code [])

    entries_meant : t.entries ≡ length meant.entries
    entries_meant =
        let c = meaning_count accepted.records (plain mem code []) in
        let s = accepted.sum in
        omega arith

    -- the whole sheet matched: the memories of its meaning, and how far its entries go with the log's
    pub match_done : {mem' code' : List ℕ} {f : Front}
        → matching mem' code' f ≡ matched_all log used (records_in (expansion_from sheet (first_item sheet))) (matching mem code (front 0 true))
        → leftMatched (Matched f.leading t.entries) mem' code' ≡ match_of_sheet sheet mem code log used
    unfolding met_all
    match_done {mem'} {code'} {f} g =
        let a = accepted in
        let w : matching mem' code' f ≡ matched_plain log used meant (front 0 true) =
        g ∙ rw (contents_items sheet a.records a.accepted) (match_meant log used a.records (plain mem code []) (front 0 true)) in
        match_left sheet mem code log used a.lengths a.accepted
        (ap (λ (x : Matching). x.front.leading) w ∙ met_leading log used (means_lengths a).held meant.entries) entries_meant
        (ap (λ (x : Matching). x.mem) w) (ap (λ (x : Matching). x.code) w)

-- ---- the actions on a sheet, whose lengths are accepted

module _ (sheet mem code log : List ℕ) (used : ℕ) (l : 0 ≡ length_refusal mem code log used) where
  abbrev feeder_refuses : Totals → ℕ
  feeder_refuses t = feed_refusal t (fed mem code log used)

  -- the feeder refuses entries that the log has no room for, with 31 alone
  full_of : (t : Totals) {n : ℕ} → n ≡ feeder_refuses t → (n ≡ 0 → ⊥) → (n ≡ 31) × (length log / entry_size - used < t.entries)
  unfolding feed_refusal if
  full_of t {n} e z = go (ltb (length log) (entry_size * (used + t.entries))) refl (rw (← l) at e)
    where
      go : (b : Bool) → ltb (length log) (entry_size * (used + t.entries)) ≡ b → n ≡ if b log_full 0 → (n ≡ 31) × (length log / entry_size - used < t.entries)
      go true q h = (h, let k = (lengths_of mem code log used (sym l)).held in let x = ltb-true (length log) (entry_size * (used + t.entries)) q in omega arith)
      go false q h = absurd (z h)

  pub mean_stopped : {n offset : ℕ} → Stopped feeder_refuses (contents_of sheet) n offset → left (Refused n offset) mem code log ≡ meaning_of_sheet sheet mem code log used
  mean_stopped (by_sheet q) = mean_refused sheet mem code log used l q
  mean_stopped (by_actor {t} q r z o) = let f = full_of t r z in rw (f.0, o) (mean_full (mean_means sheet mem code log used l q) f.1)

  module _ {t : Totals} (p : Passed feeder_refuses (contents_of sheet) t) where
    enough : t.entries ≤ length log / entry_size - used
    unfolding feed_refusal
    enough =
        let f = fit_first Vif1 (lent mem code log) used p.tested in
        let z = if_zero (ltb (length log) (entry_size * (used + t.entries))) log_full (omega arith) f.1 in
        let x = ltb-false (length log) (entry_size * (used + t.entries)) z.0 in
        omega arith

    pub mean_passed : {mem' code' log' : List ℕ} {r : ℕ} → fed mem' code' log' r ≡ fed_all (records_in (contents_of sheet)) (fed mem code log used)
        → left (Meant r) mem' code' log' ≡ meaning_of_sheet sheet mem code log used
    mean_passed e = mean_fed (mean_means sheet mem code log used l p.whole) enough (rw (items_whole sheet p.whole) e)

  -- the matcher refuses lengths alone
  pub match_stopped : {n offset : ℕ} → Stopped (λ t. length_refusal mem code log used) (contents_of sheet) n offset → leftMatched (MatchRefused n offset) mem code ≡ match_of_sheet sheet mem code log used
  match_stopped (by_sheet q) = match_refused sheet mem code log used l q
  match_stopped (by_actor q r z o) = absurd (z (r ∙ sym l))

  pub match_passed : {t : Totals} → Whole t ≡ measured_of (contents_of sheet) → {mem' code' : List ℕ} {f : Front}
      → matching mem' code' f ≡ matched_all log used (records_in (contents_of sheet)) (matching mem code (front 0 true))
      → leftMatched (Matched f.leading t.entries) mem' code' ≡ match_of_sheet sheet mem code log used
  match_passed q {f = f} g = match_done sheet mem code log used l q {f = f} (rw (items_whole sheet q) g)
