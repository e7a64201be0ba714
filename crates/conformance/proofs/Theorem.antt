-- Demand 3.
use mathlib.Core.Path.{◌≡◌, refl, ap, ◌∙◌}
use mathlib.Core.Bool.{false, ◌&&◌}
use mathlib.Core.List.{List, [], ◌∷◌, ◌++◌}
use Prim.Native.Nat.{ℕ, ◌+◌, ◌*◌, ◌-◌, ◌≤◌}
use native.Mathlib.Omega.{arith}
use lib.ListN.{length, take, drop, length-append, length-drop}
use lib.Seq.{take_at, drop_at}
use lib.Dec.{ltb}
use Rattle.fields.specs.declared.Counts.{Counts}
use Rattle.fields.proofs.CountLaws.{plus_none}
use Rattle.fields.specs.Fields.{if}
use Rattle.fields.proofs.ChoiceLaws.{if_ind_by}
use Rattle.gif.proofs.RangeLaws.{log_fits}
use Rattle.gif.specs.declared.Entry.{Entry}
use Rattle.gif.specs.Log.{entry_size, numbers, entries_in}
use Rattle.gif.proofs.LogLaws.{numbers_length, in_count}
use Rattle.memories.specs.Lengths.{Lent, lent}
use Rattle.chain.specs.Answer.{Done}
use Rattle.chain_state.specs.StartAnswer.{Started}
use Rattle.chain_state.specs.declared.State.{State}
use Rattle.chain_state.specs.Range.{entry_refusal, state_in_range, start_in_range}
use Rattle.chain_state.specs.Start.{StartResult, started_from, start_of}
use Rattle.chain.specs.Run.{Ran, ran, counted, steps_of, run_of}
use Rattle.chain.proofs.ReadyLaws.{facts_of}
use Rattle.chain.proofs.RunLaws.{run_done}
use Rattle.chain.proofs.Theorems.{run_from_lem}
use Rattle.sheet.specs.BuildAnswer.{Built}
use Rattle.sheet.specs.Records.{Record}
use Rattle.sheet.specs.Reader.{Contents, valid, refused}
use Rattle.sheet.specs.Editions.{contents_of}
use Rattle.sheet.specs.Sizes.{sheet_steps, sheet_entries}
use Rattle.sheet.specs.Layout.{chain_of}
use Rattle.sheet.specs.Build.{Left, built_from, build_of}
use Rattle.sheet.specs.Meaning.{Plain, plain, meaning_of}
use Rattle.sheet.specs.Results.{log_with}
use Rattle.sheet.specs.Fed.{Fed, fed, fed_all}
use Rattle.sheet.specs.Whole.{sheet_bytes}
use Rattle.sheet.proofs.SoundLaws.{reader_sound}
use Rattle.sheet.proofs.MeaningLaws.{meaning_count, log_same}
use Rattle.sheet.proofs.FedLaws.{fed_plain, fed_sheet}
use Rattle.conformance.specs.Demand.{records_of, means_from, Typed, Premises, run_from, Conclusion}
use Rattle.conformance.proofs.WordLaws.{octets}
use Rattle.conformance.proofs.TagLaws.{IdleAt}
use Rattle.conformance.proofs.SheetLaws.{Ended, sheet_ends}

-- ---- the builder accepts

-- an accepted sheet has records, and its chain is what the output begins with
record Accepted (sheet output : List ℕ) (size : ℕ) : Type 0 where
  records : List Record
  contents : contents_of sheet ≡ valid records
  chain : take size (build_of sheet output).output ≡ chain_of records

accepted_by : (c : Contents) (sheet output : List ℕ) (size : ℕ) → contents_of sheet ≡ c → (built_from c output).answer ≡ Built size → Accepted sheet output size
unfolding build_of
accepted_by (refused n offset) sheet output size e h = absurd (let z : ◌≡◌ {A = ℕ} 0 1 = cc in omega arith)
accepted_by (valid rs) sheet output size e h =
    record {
      records = rs;
      contents = e;
      chain = rw e (if_ind_by (λ (l : Left). l.answer ≡ Built size → take size l.output ≡ chain_of rs) (ltb (length output) (length (chain_of rs))) (λ t q. absurd (let z : ◌≡◌ {A = ℕ} 0 1 = cc in omega arith)) (λ t q. take_at (chain_of rs) (drop (length (chain_of rs)) output) size (built_size q)) h);
    }
  where
    built_size : {n : ℕ} → Built n ≡ Built size → n ≡ size
    built_size q = cc

accepted : (sheet output : List ℕ) (size : ℕ) → (build_of sheet output).answer ≡ Built size → Accepted sheet output size
unfolding build_of
accepted sheet output size h = accepted_by (contents_of sheet) sheet output size refl h

-- ---- the start

-- a start that answers Started has made its state
pub start_made : (s : State) (a : ℕ) → (start_of s 1 a false).answer ≡ Started → (start_of s 1 a false).state ≡ started_from s 1 a false
unfolding start_of
start_made s a h =
    if_ind_by (λ (r : StartResult). r.answer ≡ Started → r.state ≡ started_from s 1 a false) (state_in_range s && start_in_range 1 a false) (λ t q. refl) (λ t q. absurd (let z : ◌≡◌ {A = ℕ} 0 1 = cc in omega arith)) h

-- ---- the log

-- the entries at a log's front
entries_front : (es : List Entry) (xs : List ℕ) → entries_in (numbers es ++ xs) (length es) ≡ es
entries_front [] xs = refl
entries_front (e ∷ es) xs = rw (entries_front es xs)

-- the numbers past a log's first entries
log_past : (es : List Entry) (log : List ℕ) → drop (entry_size * length es) (log_with es log) ≡ drop (entry_size * length es) log
log_past es log = drop_at (numbers es) (drop (entry_size * length es) log) (entry_size * length es) (numbers_length es)

log_whole : (es : List Entry) (log : List ℕ) → entry_size * length es ≤ length log → length (log_with es log) ≡ length log
log_whole es log h =
    let n = numbers_length es in
    let d = length-drop (entry_size * length es) log in
    length-append (numbers es) (drop (entry_size * length es) log) ∙ omega arith

-- ---- the run

-- a run that passes its entry tests is its steps
run_entered : (main : List ℕ) (allowance : ℕ) (s : State) (m : Lent) → entry_refusal main m s ≡ 0 → run_of main allowance s m ≡ steps_of main allowance s m
unfolding run_of if
run_entered main allowance s m h = rw h

-- a machine that ends within the allowance
run_ends : (main : List ℕ) (k allowance : ℕ) (s : State) (m : Lent) (o : Fed) (e : Ended main k s m o) → k ≤ allowance
    → steps_of main allowance s m ≡ ran Done e.state e.reached.counts (lent o.mem o.code o.log)
run_ends main k allowance s m o e h =
    let n = allowance - k in
    let d = e.reached.counts in
    let j = e.reached.number in
    let c : allowance ≡ d.steps + n = omega arith in
    rw c
    (run_from_lem e.reached.reached n
    ∙ ap (counted d) (run_done main e.state (lent o.mem o.code o.log) n e.done)
    ∙ ap (λ (x : Counts). ran Done e.state x (lent o.mem o.code o.log)) (plus_none d))

-- what a sheet's records make of the memories, the log and the entries used is its meaning
fed_means : (rs : List Record) (mem code log : List ℕ) (used : ℕ) → entry_size * used ≤ length log → entry_size * (used + sheet_entries rs) ≤ length log
    → fed_all rs (fed mem code log used) ≡ fed_plain (meaning_of rs (plain mem code (entries_in log used))) log
fed_means rs mem code log used h room =
    let c = in_count log used h in
    let same : fed mem code log used ≡ fed_plain (plain mem code (entries_in log used)) log = rw (log_same log used h, c) in
    ap (fed_all rs) same ∙ fed_sheet rs (plain mem code (entries_in log used)) log (rw c room)

-- ---- demand 3

module _ (sheet output main : List ℕ) (a size allowance : ℕ) (s : State) (m : Lent) (t : Typed sheet s) (p : Premises sheet output main a size allowance s m) where
  rs : List Record
  rs = (accepted sheet output size p.built).records

  contents : contents_of sheet ≡ valid rs
  unfolding rs
  contents = (accepted sheet output size p.built).contents

  records_same : records_of sheet ≡ rs
  unfolding records_of
  records_same = rw contents

  abbrev begun : State
  begun = started_from s 1 a false

  begun_same : (start_of s 1 a false).state ≡ begun
  begun_same = start_made s a p.started

  passed : entry_refusal main m begun ≡ 0
  passed = rw begun_same at p.entered

  holds : entry_size * s.used ≤ length m.log
  holds = (log_fits m.log s.used (facts_of {main = main} {s = begun} {m = m} (record { passed = passed })).fit.logged).holds

  abbrev means : Plain
  means = meaning_of rs (plain m.mem m.code (entries_in m.log s.used))

  means_same : means_from sheet s m ≡ means
  means_same = rw records_same

  fits : entry_size * length means.entries ≤ length m.log
  fits = rw means_same at p.room

  room : entry_size * (s.used + sheet_entries rs) ≤ length m.log
  room =
      let h = fits in
      let c = meaning_count rs (plain m.mem m.code (entries_in m.log s.used)) in
      let d = in_count m.log s.used holds in
      omega arith

  idle_begun : IdleAt a begun
  idle_begun =
      record {
        channel = refl;
        tadr = refl;
        tte = refl;
        ended = refl;
        tags = refl;
        payload = refl;
        waiting = p.idle;
        row = t.row;
        path_idle = p.path_idle;
      }

  placed : drop a main ≡ chain_of rs ++ p.rest
  unfolding rs
  placed = rw (accepted sheet output size p.built).chain at p.placed

  ends : Ended main (sheet_steps rs) begun m (fed_plain means m.log)
  ends =
      let w = reader_sound sheet rs t.bytes contents in
      rw (← fed_means rs m.mem m.code m.log s.used holds room)
      (sheet_ends main w.meet (octets (sheet_bytes rs) w.octets.bytes) a begun m idle_begun p.aligned room p.rest placed)

  run_is : run_from main a allowance s m ≡ ran Done ends.state ends.reached.counts (lent means.mem means.code (log_with means.entries m.log))
  run_is =
      let k : sheet_steps rs ≤ allowance = rw records_same at p.allowed in
      rw begun_same (run_entered main allowance begun m passed ∙ run_ends main (sheet_steps rs) allowance begun m (fed_plain means m.log) ends k)

  used_is : (run_from main a allowance s m).after.state.used ≡ length means.entries
  used_is = ap (λ (r : Ran). r.after.state.used) run_is ∙ ends.used

  -- demand 3: the sheet's chain ends with done in exactly the sheet's steps and leaves exactly its meaning
  pub demand_3 : Conclusion sheet main a allowance s m
  demand_3 =
      record {
        done = ap (λ (r : Ran). r.answer) run_is;
        steps = rw records_same (ap (λ (r : Ran). r.counts.steps) run_is ∙ ends.reached.number);
        mem = rw records_same (ap (λ (r : Ran). r.after.memories.mem) run_is);
        code = rw records_same (ap (λ (r : Ran). r.after.memories.code) run_is);
        used = rw records_same used_is;
        entries = rw (records_same, used_is, run_is) (entries_front means.entries (drop (entry_size * length means.entries) m.log));
        log_length_lem = rw run_is (log_whole means.entries m.log fits);
        log_rest = rw (records_same, run_is) (log_past means.entries m.log);
      }
