-- What the chain of a whole sheet does: by its records, then the end tag.
use Rattle.std.specs.Prelude.{None}
use mathlib.Core.Path.{◌≡◌, refl, ap, ◌∙◌}
use mathlib.Core.Bool.{true, ◌&&◌}
use mathlib.Core.List.{List, [], ◌∷◌, ◌++◌, append_assoc}
use Prim.Native.Nat.{ℕ, ◌+◌, ◌*◌, ◌%◌, ◌≤◌}
use native.Mathlib.Omega.{arith}
use borrow.Author.Tests.{leb-true, ltb-true, eqb-true}
use lib.ListN.{length, drop}
use lib.Seq.{sets, length-sets}
use lib.Dec.{leb}
use Rattle.fields.proofs.ChoiceLaws.{and_left, and_right}
use Rattle.gif.specs.declared.Entry.{Entry}
use Rattle.gif.specs.Log.{entry_size, numbers}
use Rattle.memories.specs.declared.VifUnit.TheVariants.{Vif1}
use Rattle.memories.specs.Units.{quadwords, instructions}
use Rattle.memories.specs.Lengths.{Lent, lent}
use Rattle.chain_state.specs.declared.Payload.TheVariants.{Nothing as NoPayload}
use Rattle.chain_state.specs.declared.State.{State}
use Rattle.chain_state.specs.Setters.{with_tag}
use Rattle.chain.specs.Step.{machine}
use Rattle.chain.specs.Run.{done}
use Rattle.sheet.specs.declared.Kind.{Kind}
use Rattle.sheet.specs.declared.Kind.TheVariants.{Data, Code, Gs, Start}
use Rattle.sheet.specs.Records.{Record, record_of, count_fits, address_fits, body_length}
use Rattle.sheet.specs.Whole.{AllMeet, none, more, record_bytes, sheet_bytes}
use Rattle.sheet.specs.Sizes.{record_quadwords, record_steps, entries_of, sheet_steps, sheet_entries}
use Rattle.sheet.specs.Layout.{laid_out, end_tag, chain_of}
use Rattle.sheet.specs.Meaning.{entries_by, mem_by, code_by}
use Rattle.sheet.specs.Fed.{Fed, fed, fed_by, fed_all}
use Rattle.sheet.proofs.MeaningLaws.{row_count}
use Rattle.sheet.proofs.LayoutLaws.{laid_length}
use Rattle.conformance.proofs.WordLaws.{Octets, one_byte, octets_left, octets_right, placed_next}
use Rattle.conformance.proofs.TagLaws.{IdleAt, idle_going, end_step}
use Rattle.conformance.proofs.FeedLaws.{InSteps, no_steps, step_first, steps_join}
use Rattle.conformance.proofs.RecordLaws.{Arrived, placed_inside, tag_placed, data_record, code_record, gs_record, start_record}

-- ---- one record, whatever its kind

-- what a row of the table says of a count
some_count : (n : ℕ) → (leb 1 n && leb n 255) ≡ true → (1 ≤ n) × (n ≤ 255)
some_count n h = (leb-true 1 n (and_left (leb 1 n) (leb n 255) h), leb-true n 255 (and_right (leb 1 n) (leb n 255) h))

module _ (main : List ℕ) (a : ℕ) (s : State) (m : Lent) (i : IdleAt a s) (aligned : a % 16 ≡ 0) (rest : List ℕ) where
  kind_arrives : (k : Kind) (n b : ℕ) (body : List ℕ) → count_fits k n ≡ true → address_fits k b ≡ true → length body ≡ body_length k n → Octets body
      → entry_size * (s.used + entries_of k n) ≤ length m.log → drop a main ≡ laid_out (record_of k n b body) ++ rest
      → Arrived main (record_steps k n) (a + 16 * record_quadwords k n) s m (mem_by k n b body m.mem) (code_by k n b body m.code) (entries_by k n b body)
  kind_arrives Data n b body c d l o room e =
      let h = some_count n c in
      data_record main a s m i n b body rest h.0 h.1 (ltb-true b (quadwords Vif1) d) o l e
  kind_arrives Code n b body c d l o room e =
      let h = some_count n c in
      code_record main a s m i n b body rest h.0 h.1 (ltb-true b (instructions Vif1) d) o l aligned e
  kind_arrives Gs n b body c d l o room e =
      let h = some_count n c in
      let z = eqb-true b 0 d in
      gs_record main a s m i n body rest h.0 h.1 o l aligned room (rw z at e)
  kind_arrives Start n b [] c d l o room e =
      let z = eqb-true n 0 c in
      start_record main a s m i b rest (ltb-true b (instructions Vif1) d) room (rw z at e)
  kind_arrives Start n b (x ∷ body) c d l o room e = absurd (omega arith)

-- the part that a record does to the memories, the log and the entries used
abbrev given : State → Lent → Fed
given s m = fed m.mem m.code m.log s.used

-- where a sheet's steps lead
pub record Ended (main : List ℕ) (k : ℕ) (s : State) (m : Lent) (o : Fed) : Type 0 where
  pub state : State
  pub reached : InSteps main k (machine s m) (machine state (lent o.mem o.code o.log))
  pub done : done state ≡ true
  pub used : state.used ≡ o.used

-- a step count and what is left may be written in another way
ended_as : {main : List ℕ} {k l : ℕ} {s : State} {m : Lent} {o p : Fed} → Ended main k s m o → k ≡ l → o ≡ p → Ended main l s m p
ended_as e q r = rw (← q, ← r) e

-- steps before
ended_after : {main : List ℕ} {j k b : ℕ} {s : State} {m : Lent} {mem code : List ℕ} {es : List Entry} {o : Fed} (x : Arrived main j b s m mem code es)
    → Ended main k x.state (lent mem code x.log) o → Ended main (j + k) s m o
ended_after x e = record { state = e.state; reached = steps_join x.reached e.reached; done = e.done; used = e.used }

-- the end tag
end_arrives : (main : List ℕ) (a : ℕ) (s : State) (m : Lent) → IdleAt a s → (rest : List ℕ) → drop a main ≡ end_tag ++ rest → Ended main 1 s m (given s m)
unfolding done
end_arrives main a s m i rest e =
    record {
      state = with_tag s a true s.stack None NoPayload;
      reached = step_first (idle_going main a s m i) (end_step main a s m i (tag_placed main a 7 0 rest (omega arith) (omega arith) e) (placed_inside main a end_tag rest e (omega arith))) refl no_steps;
      done = refl;
      used = refl;
    }

-- ---- the records one after another

-- the bytes of a record's body, and of the records after it
body_octets : (r : Record) (rs : List Record) → Octets (record_bytes r ++ sheet_bytes rs) → Octets (r.body ++ sheet_bytes rs)
body_octets r rs (one_byte a (one_byte b (one_byte c (one_byte d (one_byte e (one_byte f o)))))) = o

same_fed : (s : State) (m : Lent) (r : Record) {log : List ℕ} {used : ℕ}
    → log ≡ sets m.log (entry_size * s.used) (numbers (entries_by r.kind r.count r.address r.body))
    → used ≡ s.used + entries_of r.kind r.count
    → fed (mem_by r.kind r.count r.address r.body m.mem) (code_by r.kind r.count r.address r.body m.code) log used
    ≡ fed_by r (given s m)
unfolding fed_by
same_fed s m r p q = rw (p, q)

pub sheet_ends : (main : List ℕ) {rs : List Record} → AllMeet rs → Octets (sheet_bytes rs) → (a : ℕ) (s : State) (m : Lent) → IdleAt a s → a % 16 ≡ 0
    → entry_size * (s.used + sheet_entries rs) ≤ length m.log
    → (rest : List ℕ) → drop a main ≡ chain_of rs ++ rest
    → Ended main (sheet_steps rs) s m (fed_all rs (given s m))
unfolding sheet_steps sheet_entries chain_of fed_all sheet_bytes
sheet_ends main none o a s m i aligned room rest e = end_arrives main a s m i rest e
sheet_ends main (more {r} {rs} f fs) o a s m i aligned room rest e =
    let os = body_octets r rs o in
    let p : drop a main ≡ laid_out r ++ (chain_of rs ++ rest) = e ∙ append_assoc (laid_out r) (chain_of rs) rest in
    let x = kind_arrives main a s m i aligned (chain_of rs ++ rest) r.kind r.count r.address r.body f.count f.address f.size (octets_left r.body (sheet_bytes rs) os) (omega arith) p in
    let c = row_count r.kind r.count r.address r.body in
    let u = x.used in
    let l : length x.log ≡ length m.log = ap length x.logged ∙ length-sets m.log (entry_size * s.used) (numbers (entries_by r.kind r.count r.address r.body)) in
    let q = placed_next main a (16 * record_quadwords r.kind r.count) (laid_out r) (chain_of rs ++ rest) (laid_length r f.size) p in
    let m1 = lent (mem_by r.kind r.count r.address r.body m.mem) (code_by r.kind r.count r.address r.body m.code) x.log in
    let y = sheet_ends main fs (octets_right r.body (sheet_bytes rs) os) (a + 16 * record_quadwords r.kind r.count) x.state m1 x.idle (omega arith) (omega arith) rest q in
    ended_as (ended_after x y) refl (ap (fed_all rs) (same_fed s m r x.logged (u ∙ rw c)))
