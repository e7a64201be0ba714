-- One record that is fed: the room that it takes, and what it makes of a feeder; and the feeder's test.
use Rattle.std.proofs.Common.{◌≡◌, ℕ, ◌+◌, ◌-◌, ◌*◌, ◌/◌, ◌<◌, ◌≤◌, List, [], ◌∷◌, length, sym, arith, add-zero, lt-ltb, le-ltb}
use lib.Seq.{sets}
use Rattle.fields.specs.Fields.{if}
use Rattle.fields.specs.declared.refusals.Refusal.{Refusal}
use Rattle.fields.specs.Refusals.{refusal_number, log_full}
use Rattle.fields.proofs.RefusalLaws.{refusal_not_none}
use Rattle.gif.proofs.RangeLaws.{log_fits}
use Rattle.gif.specs.Log.{entry_size, entry, numbers}
use Rattle.memories.specs.declared.VifUnit.TheVariants.{Vif1}
use Rattle.memories.specs.Lengths.{lent}
use Rattle.memories.proofs.LengthLaws.{lengths_fit}
use Rattle.sheet.specs.declared.sums.Totals.{Totals}
use Rattle.sheet.specs.declared.Kind.{Kind}
use Rattle.sheet.specs.declared.Kind.TheVariants.{Data, Code, Gs, Start}
use Rattle.sheet.specs.Records.{record_of}
use Rattle.sheet.specs.Sizes.{entries_of, sheet_entries}
use Rattle.sheet.specs.Meaning.{put_vectors, put_instructions, entries_at}
use Rattle.sheet.specs.Results.{length_refusal}
use Rattle.sheet.specs.Fed.{Fed, fed_by, fed_all}
use Rattle.sheet_meaning.specs.declared.plain.Feeder.{Feeder}
use Rattle.sheet_meaning.specs.Feeding.{fed_in, with_fed, feed_refusal}

pub entries_room : (k : Kind) (n a : ℕ) (body : List ℕ) (used : ℕ) {l : ℕ} → entry_size * (used + sheet_entries (record_of k n a body ∷ [])) ≤ l → entry_size * (used + entries_of k n) ≤ l
unfolding sheet_entries
entries_room k n a body used h = omega arith

module _ (f : Feeder) (n a : ℕ) (body : List ℕ) where
  pub fed_data : {mem : List ℕ} → mem ≡ put_vectors a body n 0 f.data.now
      → ◌≡◌ {A = Feeder} (record f { «data» = record f.data { now = mem } }) (with_fed f (fed_all (record_of Data n a body ∷ []) (fed_in f)))
  unfolding fed_all fed_by
  fed_data e = rw (e, add-zero)

  pub fed_code : {code : List ℕ} → code ≡ put_instructions a body n 0 f.code.now
      → ◌≡◌ {A = Feeder} (record f { code = record f.code { now = code } }) (with_fed f (fed_all (record_of Code n a body ∷ []) (fed_in f)))
  unfolding fed_all fed_by
  fed_code e = rw (e, add-zero)

  pub fed_entries : {log : List ℕ} → log ≡ sets f.log.now (entry_size * f.used) (numbers (entries_at body n 0))
      → ◌≡◌ {A = Feeder} (record f { log = record f.log { now = log }; used = f.used + n }) (with_fed f (fed_all (record_of Gs n a body ∷ []) (fed_in f)))
  unfolding fed_all fed_by
  fed_entries e = rw e

  pub fed_start : {log : List ℕ} → log ≡ sets f.log.now (entry_size * f.used) (numbers (entry 0 256 a ∷ []))
      → ◌≡◌ {A = Feeder} (record f { log = record f.log { now = log }; used = f.used + 1 }) (with_fed f (fed_all (record_of Start n a body ∷ []) (fed_in f)))
  unfolding fed_all fed_by
  fed_start e = rw e

-- ---- its test

module _ (x : Fed) (t : Totals) where
  pub feed_lengths : (e : Refusal) → refusal_number e ≡ length_refusal x.mem x.code x.log x.used → refusal_number e ≡ feed_refusal t x
  unfolding feed_refusal if
  feed_lengths e q = rw (← q, refusal_not_none e)

  module _ (l : 0 ≡ length_refusal x.mem x.code x.log x.used) where
    pub feed_held : entry_size * x.used ≤ length x.log
    feed_held = let f = lengths_fit Vif1 (lent x.mem x.code x.log) x.used (sym l) in (log_fits x.log x.used f.logged).holds

    pub feed_full : length x.log / entry_size - x.used < t.entries → log_full ≡ feed_refusal t x
    unfolding feed_refusal if
    feed_full h = let k = feed_held in rw (← l, lt-ltb (length x.log) (entry_size * (x.used + t.entries)) (omega arith))

    pub feed_enough : t.entries ≤ length x.log / entry_size - x.used → 0 ≡ feed_refusal t x
    unfolding feed_refusal if
    feed_enough h = let k = feed_held in rw (← l, le-ltb (length x.log) (entry_size * (x.used + t.entries)) (omega arith))
