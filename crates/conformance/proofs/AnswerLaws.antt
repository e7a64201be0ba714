-- The answers of building and running, in their order.
use Rattle.std.specs.Prelude.{Result, Ok, Err}
use Rattle.std.specs.Result.{MatchResult, IsErrAnd}
use Rattle.std.proofs.lemmas.Result.{err_from_is_err_and}
use mathlib.Core.Path.{◌≡◌, refl, sym, ap, ◌∙◌}
use mathlib.Core.Bool.{Bool, true, false, not, ◌&&◌}
use mathlib.Core.List.{List, [], ◌++◌, append-nil}
use Prim.Native.Nat.{ℕ, ◌-◌, ◌<◌, min}
use native.Mathlib.Omega.{arith}
use borrow.Author.Tests.{ltb-true, ltb-false, ne_eqb}
use lib.ListN.{length, take, drop, take-append-drop, length-drop, drop_of_length-le}
use lib.Seq.{take_all}
use lib.Dec.{eqb, ltb}
use Rattle.fields.specs.Counts.{none}
use Rattle.fields.specs.Fields.{if}
use Rattle.fields.specs.declared.refusals.Refusal.{Refusal}
use Rattle.fields.specs.Refusals.{refusal_number, main_length, out_of_range}
use Rattle.fields.proofs.ChoiceLaws.{if_ind_by}
use Rattle.fields.proofs.RefusalLaws.{refusal_small}
use Rattle.memories.specs.declared.VifUnit.TheVariants.{Vif1}
use Rattle.memories.specs.Lengths.{Lent, lengths_refusal}
use Rattle.chain.specs.declared.Ending.{Ending}
use Rattle.chain.specs.declared.RunResult.{RunResult}
use Rattle.chain.specs.Run.{Ran, left_by, run_of}
use Rattle.chain.specs.Answer.{run_answer}
use Rattle.chain_state.specs.StartAnswer.{Started, Refused as StartRefused}
use Rattle.chain_state.specs.declared.State.{State}
use Rattle.chain_state.specs.Range.{main_refused, state_in_range, start_in_range}
use Rattle.chain_state.specs.Start.{StartResult, started_by, start_of}
use Rattle.sheet.specs.BuildAnswer.{BuildAnswer, Built, Refused as BuildRefused, build_answer}
use Rattle.sheet.specs.declared.SheetError.{SheetError}
use Rattle.sheet.specs.Reader.{Contents, valid, refused}
use Rattle.sheet.specs.Editions.{contents_of}
use Rattle.sheet.specs.Layout.{chain_of}
use Rattle.sheet.specs.Build.{Left, left, built_from, build_of}
use Rattle.conformance.specs.declared.PlayError.{PlayError}
use Rattle.conformance.specs.declared.PlayError.TheVariants.{Run}
use Rattle.conformance.specs.PlayAnswer.{Ended, Refused, play_answer}
use Rattle.conformance.specs.Play.{played, play_refused, play_ran, play_refusal, play_of}
use Rattle.conformance.specs.Inner.{memories_refusal, place_of, built_at, Begins}

-- ---- the place

pub place_is : (a size : ℕ) → min size a ≡ place_of a size
unfolding place_of
place_is a size = if_ind_by (λ (k : ℕ). min size a ≡ k) (ltb size a) (λ t. omega (arith, ltb-true)) (λ t. omega (arith, ltb-false))

-- memory is parted at an address as at its place
parted_at : (main : List ℕ) (a : ℕ) → (take (place_of a (length main)) main ≡ take a main) × (drop (place_of a (length main)) main ≡ drop a main)
unfolding place_of
parted_at main a =
    if_ind_by (λ (n : ℕ). (take n main ≡ take a main) × (drop n main ≡ drop a main)) (ltb (length main) a)
    (λ t. beyond (ltb-true (length main) a t)) (λ t. (refl, refl))
  where
    beyond : length main < a → (take (length main) main ≡ take a main) × (drop (length main) main ≡ drop a main)
    beyond h = (
      take_all (length main) main (omega arith) ∙ sym (take_all a main (omega arith)),
      drop_of_length-le main {i = length main} (omega arith) ∙ sym (drop_of_length-le main {i = a} (omega arith)),
    )

-- ---- the refusals before the sheet's

-- the lengths' refusals come first
lengths_first : (b : Bool) (r n : ℕ) → if b main_length (if (not (eqb r 0)) r n) ≡ if (eqb (if b main_length r) 0) n (if b main_length r)
unfolding if
lengths_first true r n = refl
lengths_first false r n = go (eqb r 0) refl
  where
    go : (c : Bool) → eqb r 0 ≡ c → if (not (eqb r 0)) r n ≡ if (eqb r 0) n r
    go true q = rw q
    go false q = rw q

-- a refused start is out of range
start_refused : (s : State) (a : ℕ) {n : ℕ} → (start_of s 1 a false).answer ≡ StartRefused n → ((state_in_range s && start_in_range 1 a false) ≡ false) × (n ≡ out_of_range)
unfolding start_of
start_refused s a {n} h =
    if_ind_by (λ (r : StartResult). r.answer ≡ StartRefused n → ((state_in_range s && start_in_range 1 a false) ≡ false) × (n ≡ out_of_range)) (state_in_range s && start_in_range 1 a false)
    (λ t q. absurd (let z : ◌≡◌ {A = ℕ} 0 1 = cc in omega arith)) (λ t q. (t, (cc))) h

start_passed : (s : State) (a : ℕ) → (start_of s 1 a false).answer ≡ Started → (state_in_range s && start_in_range 1 a false) ≡ true
unfolding start_of
start_passed s a h =
    if_ind_by (λ (r : StartResult). r.answer ≡ Started → (state_in_range s && start_in_range 1 a false) ≡ true) (state_in_range s && start_in_range 1 a false)
    (λ t q. t) (λ t q. absurd (let z : ◌≡◌ {A = ℕ} 0 1 = cc in omega arith)) h

-- a refused sheet leaves the output
build_keeps_by : (c : Contents) (output : List ℕ) {n offset : ℕ} → (built_from c output).answer ≡ BuildRefused n offset → (built_from c output).output ≡ output
build_keeps_by (refused k at) output h = refl
build_keeps_by (valid rs) output {n} {offset} h =
    if_ind_by (λ (l : Left). l.answer ≡ BuildRefused n offset → l.output ≡ output) (ltb (length output) (length (chain_of rs)))
    (λ t q. refl) (λ t q. absurd (let z : ◌≡◌ {A = ℕ} 0 1 = cc in omega arith)) h

build_keeps : (sheet output : List ℕ) {n offset : ℕ} → (build_of sheet output).answer ≡ BuildRefused n offset → (build_of sheet output).output ≡ output
unfolding build_of
build_keeps sheet output h = build_keeps_by (contents_of sheet) output h

-- ---- the sheet's

-- what the builder leaves in the part from a place to the end
pub built_placed : (sheet main : List ℕ) (a : ℕ) {p : ℕ} → p ≡ place_of a (length main) → {r : BuildAnswer} {o : List ℕ}
    → left r o ≡ build_of sheet (take (length main - p) (drop p main)) → left r (take p main ++ (o ++ drop (length main - p) (drop p main))) ≡ built_at sheet main a
unfolding built_at
built_placed sheet main a {p} e b =
    let q = rw (← e) at (parted_at main a) in
    let n = length-drop p main in
    let w : take (length main - p) (drop p main) ≡ drop p main = take_all (length main - p) (drop p main) (omega arith) in
    let z : drop (length main - p) (drop p main) ≡ [] = drop_of_length-le (drop p main) {i = length main - p} (omega arith) in
    let b' = rw (w, q.1) at b in
    rw (z, append-nil, q.0, ← b')

-- ---- refusals

module _ (sheet main : List ℕ) (a : ℕ) (s : State) (m : Lent) (allowance : ℕ) {n : ℕ} (l : n ≡ memories_refusal main m s.used) where
  refusal_is : play_refusal main m s a ≡ if (eqb n 0) (if (not (state_in_range s && start_in_range 1 a false)) out_of_range 0) n
  unfolding play_refusal memories_refusal
  refusal_is = rw l (lengths_first (main_refused (length main)) (lengths_refusal Vif1 m s.used) _)

  pub play_lengths : (n ≡ 0 → ⊥) → played (Refused n 0) s none main m ≡ play_of sheet main a s m allowance
  unfolding play_of if
  play_lengths z = simp (refusal_is, ne_eqb n 0 z)

  module _ (z : n ≡ 0) {r : StartResult} (e : r ≡ start_of s 1 a false) where
    pub play_start : {k : ℕ} → r.answer ≡ StartRefused k → played (Refused k 0) s none main m ≡ play_of sheet main a s m allowance
    unfolding play_of if
    play_start q = let f = start_refused s a (rw e at q) in simp (refusal_is, z, f.0, f.1)

    module _ (q : r.answer ≡ Started) {x : BuildAnswer} {main' : List ℕ} (b : left x main' ≡ built_at sheet main a) where
      accepted : play_refusal main m s a ≡ 0
      unfolding if
      accepted = let f = start_passed s a (rw e at q) in simp (refusal_is, z, f)

      pub play_build : {k offset : ℕ} → x ≡ BuildRefused k offset → played (Refused k offset) s none main' m ≡ play_of sheet main a s m allowance
      unfolding play_of built_at if
      play_build y =
          let f : (build_of sheet (drop a main)).answer ≡ BuildRefused _ _ = sym (ap (λ (o : Left). o.answer) b) ∙ y in
          let o : main' ≡ main = ap (λ (o : Left). o.output) b ∙ rw (build_keeps sheet (drop a main) f) (take-append-drop a main) in
          simp (accepted, f, o)

      -- the run on what the builder and the start left
      built_runs : {size : ℕ} → x ≡ Built size → play_ran (run_of main' allowance r.state m) main' ≡ play_of sheet main a s m allowance
      unfolding play_of built_at if
      built_runs {size} y =
          let f : (build_of sheet (drop a main)).answer ≡ Built size = sym (ap (λ (o : Left). o.answer) b) ∙ y in
          let o : main' ≡ take a main ++ (build_of sheet (drop a main)).output = ap (λ (o : Left). o.output) b in
          simp (accepted, f, ← o, ← e)

      pub play_run : {size : ℕ} → x ≡ Built size → (u : RunResult) {m' : Lent} → left_by u m' ≡ run_of main' allowance r.state m
          → played (Ended (run_answer u.answer)) u.state u.counts main' m' ≡ play_of sheet main a s m allowance
      play_run y u v = ap (λ (r : Ran). play_ran r main') v ∙ built_runs y

-- ---- what is done before the run

-- a refusal is the whole answer
refuses : {sheet main after : List ℕ} {a : ℕ} {s : State} {m : Lent} {r : Result State SheetError} (e : SheetError) → IsErrAnd r (λ x. x ≡ e)
    → ((allowance : ℕ) → play_refused (refusal_number e.refusal) e.offset s after m ≡ play_of sheet main a s m allowance)
    → Begins r sheet main after a s m
refuses {r = r} e p h =
    let q = err_from_is_err_and r p in
    let k : r ≡ Err e = rw q.2 at q.1 in
    record {
      refused = λ x y allowance. (let z : x ≡ e = cc in rw z (h allowance));
      begun = λ t y allowance. absurd (let z : ◌≡◌ {A = ℕ} 0 1 = cc in omega arith);
    }

-- a refusal that is not the sheet's has the offset 0
abbrev pub whole : Refusal → SheetError
whole e = record { refusal = e; offset = 0 }

module _ (sheet main : List ℕ) (a : ℕ) (s : State) (m : Lent) where
  pub begins_lengths : (e : Refusal) → refusal_number e ≡ memories_refusal main m s.used → {r : Result State SheetError} → IsErrAnd r (λ x. x ≡ whole e)
      → Begins r sheet main main a s m
  begins_lengths e l p = refuses (whole e) p (λ allowance. play_lengths sheet main a s m allowance l (let h = refusal_small e in λ q. omega arith))

  module _ (z : 0 ≡ memories_refusal main m s.used) where
    pub begins_start : (e : Refusal) → started_by s (Err e) ≡ start_of s 1 a false → {r : Result State SheetError} → IsErrAnd r (λ x. x ≡ whole e)
        → Begins r sheet main main a s m
    begins_start e b p = refuses (whole e) p (λ allowance. play_start sheet main a s m allowance z refl b refl)

    module _ {t : State} (b : started_by s (Ok t) ≡ start_of s 1 a false) where
      pub begins_build : {after : List ℕ} (e : SheetError) → left (build_answer (Err e)) after ≡ built_at sheet main a
          → {r : Result State SheetError}
          → IsErrAnd r (λ x. x ≡ e)
          → Begins r sheet main after a s m
      begins_build e y p = refuses e p (λ allowance. play_build sheet main a s m allowance z refl b refl y refl)

      pub begins_run : {after : List ℕ} {size : ℕ} → left (build_answer (Ok size)) after ≡ built_at sheet main a → Begins (Ok t) sheet main after a s m
      begins_run y =
          record {
            refused = λ e p allowance. absurd (let z : ◌≡◌ {A = ℕ} 0 1 = cc in omega arith);
            begun = λ x p allowance. (let e : x ≡ t = cc in rw e (built_runs sheet main a s m allowance z refl b refl y refl));
          }

-- ---- the run

-- a run's refusal is one of the play's
run_played : (r : Result Ending Refusal) (x : Result Ending PlayError) → MatchResult r (λ y. x ≡ Ok y) (λ e. IsErrAnd x (λ d. d ≡ Run e))
    → play_answer x ≡ Ended (run_answer r)
run_played (Ok y) x p = rw p
run_played (Err e) x p = let q = err_from_is_err_and x p in rw (q.1, q.2)

pub play_is : (main : List ℕ) {x : Ran} (u : RunResult) {m : Lent} → left_by u m ≡ x → (r : Result Ending PlayError)
    → MatchResult u.answer (λ y. r ≡ Ok y) (λ e. IsErrAnd r (λ d. d ≡ Run e))
    → played (play_answer r) u.state u.counts main m ≡ play_ran x main
play_is main u e r p = rw (run_played u.answer r p) (ap (λ (k : Ran). play_ran k main) e)
