-- Steps of VIF1 as steps of the chain.
use Rattle.std.specs.Prelude.{None}
use mathlib.Core.Path.{◌≡◌, refl, sym, ◌∙◌}
use mathlib.Core.Bool.{Bool, false}
use mathlib.Core.List.{List, [], ◌∷◌}
use Prim.Native.Nat.{ℕ, zero, suc, ◌+◌, ◌*◌, ◌-◌, ◌≤◌}
use native.Mathlib.Nat.{zero-add, mul-zero}
use native.Mathlib.Omega.{arith}
use borrow.Author.Tests.{le-leb, lt-leb}
use Rattle.fields.specs.declared.Counts.{Counts}
use Rattle.fields.specs.declared.UnitCounts.{UnitCounts}
use Rattle.fields.specs.Counts.{of_unit, none as noCounts, plus}
use Rattle.fields.specs.Fields.{if}
use Rattle.gif.specs.declared.Path.{Path}
use Rattle.memories.specs.declared.VifUnit.TheVariants.{Vif1}
use Rattle.memories.specs.Lengths.{Lent}
use Rattle.vif_codes.specs.declared.Vif.{Vif}
use Rattle.vif_codes.specs.VifAnswer.{VifAnswer}
use Rattle.vif_codes.specs.declared.Incoming.{Incoming}
use Rattle.vif_codes.specs.Counting.{counts_in}
use Rattle.vif.specs.Step.{leaves, vif_step}
use Rattle.vif.specs.Feeds.{Fed, Feeds, none, more, a_word, a_quadword}
use Rattle.chain_state.specs.declared.Payload.{Payload}
use Rattle.chain_state.specs.declared.Payload.TheVariants.{Nothing as NoPayload, Words as PayloadWords}
use Rattle.chain.specs.StepAnswer.{Completed}
use Rattle.chain_state.specs.declared.State.{State}
use Rattle.chain_state.specs.Setters.{with_pending, with_unit}
use Rattle.vif_codes.specs.Words.{incoming_at}
use Rattle.chain_state.specs.Pending.{payload_after}
use Rattle.chain.specs.Step.{Machine, Stepped, stepped, after_vif}
use Rattle.chain.specs.Run.{done}
use Rattle.chain.specs.Stops.{step_from, Reaches, here}
use Rattle.chain.proofs.BurstLaws.{step_by, pending_going, feeding, fed_step}
use Rattle.chain.proofs.UnitLaws.{channel_vif1}
use Rattle.chain.proofs.AfterLaws.{step_one}
use Rattle.chain.proofs.Theorems.{reaches_join}

-- payload words pending
abbrev pub pending : ℕ → ℕ → Payload
pending a zero = NoPayload
pending a (suc n) = PayloadWords a (suc n)

pub pending_some : (a n : ℕ) → 1 ≤ n → pending a n ≡ PayloadWords a n
pending_some a zero h = absurd (omega arith)
pending_some a (suc n) h = refl

-- after w of them
payload_next : (a n w : ℕ) → payload_after a (w + n) w ≡ pending (a + 4 * w) n
unfolding payload_after if
payload_next a zero w = rw (le-leb (w + 0) w (omega arith))
payload_next a (suc n) w =
    let e : w + suc n - w ≡ suc n = omega arith in
    rw (lt-leb (w + suc n) w (omega arith), e)

-- what comes from an address on, w words at each step
unfoldable pub incomings : ℕ → List ℕ → ℕ → ℕ → List Incoming
incomings w main a zero = []
incomings w main a (suc j) = incoming_at main a ∷ incomings w main (a + 4 * w) j

-- so many steps, whatever else they count for
pub record InSteps (main : List ℕ) (k : ℕ) (x y : Machine) : Type 0 where
  pub counts : Counts
  pub number : counts.steps ≡ k
  pub reached : Reaches main counts x y

pub no_steps : {main : List ℕ} {x : Machine} → InSteps main 0 x x
no_steps = record { counts = noCounts; number = refl; reached = here }

pub step_first : {main : List ℕ} {k : ℕ} {x z : Machine} {o : Stepped} → done x.state ≡ false → step_from main x ≡ o → o.answer ≡ Completed false
    → InSteps main k o.after z → InSteps main (suc k) x z
step_first {main} {k} {x} {z} {o} d e q r =
    let one = step_one main x.state x.memories o (sym e) false q in
    let n = r.number in
    record { counts = plus o.counts r.counts; number = omega arith; reached = step_by d e q r.reached }

pub steps_join : {main : List ℕ} {i j : ℕ} {x y z : Machine} → InSteps main i x y → InSteps main j y z → InSteps main (i + j) x z
steps_join p q =
    let m = p.number in
    let n = q.number in
    record { counts = plus p.counts q.counts; number = omega arith; reached = reaches_join p.reached q.reached }

-- what an answer makes of the chain: a step completed, and w words taken
pub record Takes (b : Bool → VifAnswer) (w : ℕ) : Type 0 where
  pub some : 1 ≤ w
  pub given : (closed : Bool) (v : Vif) (q : Path) (used : ℕ) (m' : Lent) (p : ℕ → Payload) (s : State) (m : Lent)
      → (c : UnitCounts) → after_vif Vif1 (b closed) c (leaves (b closed) v q used m') None p s m
      ≡ stepped (Completed false) (of_unit c) (with_pending (with_unit Vif1 s v q used) None (p w)) m'

pub word_takes : Takes a_word 1
word_takes = record { some = omega arith; given = λ closed v q used m' p s m c. refl }

pub quadword_takes : Takes a_quadword 4
quadword_takes = record { some = omega arith; given = λ closed v q used m' p s m c. refl }

module _ (main : List ℕ) (s : State) (channel : s.channel ≡ 1) {b : Bool → VifAnswer} {w : ℕ} (t : Takes b w) where
  -- one step
  taken_step : (closed : Bool) (x y : Fed) (a n : ℕ)
      → vif_step Vif1 x.unit x.path2 (incoming_at main a) x.used x.memories ≡ leaves (b closed) y.unit y.path2 y.used y.memories
      → step_from main (feeding s x (PayloadWords a (w + n)))
      ≡ stepped (Completed false) (of_unit (counts_in x.unit.waiting (incoming_at main a) (b closed))) (feeding s y (pending (a + 4 * w) n)).state y.memories
  taken_step closed x y a n e =
      let h : 1 ≤ w = t.some in
      fed_step main s (λ z. omega arith) x a (w + n) (λ z. omega arith)
      ∙ rw (channel_vif1 s.channel (λ z. omega arith), e)
      (t.given closed y.unit y.path2 y.used y.memories (payload_after a (w + n)) _ x.memories _ ∙ rw (payload_next a n w))

  none_fed : (a n : ℕ) (x : Fed) → InSteps main 0 (feeding s x (pending a (w * 0 + n))) (feeding s x (pending (a + 4 * (w * 0)) n))
  none_fed a n x =
      let e : w * 0 + n ≡ n = rw mul-zero (zero-add n) in
      let f : a + 4 * (w * 0) ≡ a = rw mul-zero (omega arith) in
      rw (e, f) no_steps

  one_fed : (closed : Bool) (j a n : ℕ) (x y z : Fed)
      → vif_step Vif1 x.unit x.path2 (incoming_at main a) x.used x.memories ≡ leaves (b closed) y.unit y.path2 y.used y.memories
      → InSteps main j (feeding s y (pending (a + 4 * w) (w * j + n))) (feeding s z (pending (a + 4 * w + 4 * (w * j)) n))
      → InSteps main (suc j) (feeding s x (pending a (w * suc j + n))) (feeding s z (pending (a + 4 * (w * suc j)) n))
  one_fed closed j a n x y z e r =
      let h : 1 ≤ w = t.some in
      let c : w * suc j + n ≡ w + (w * j + n) = omega arith in
      let g : a + 4 * (w * suc j) ≡ a + 4 * w + 4 * (w * j) = omega arith in
      rw (c, g, pending_some a (w + (w * j + n)) (omega arith))
      (step_first (pending_going _ a (w + (w * j + n)) refl (λ z. omega arith)) (taken_step closed x y a (w * j + n) e) refl r)

  -- steps of VIF1 are steps of the chain
  pub feeds_reach : (j a n : ℕ) {x y : Fed} → Feeds Vif1 b x (incomings w main a j) y
      → InSteps main j (feeding s x (pending a (w * j + n))) (feeding s y (pending (a + 4 * (w * j)) n))
  unfolding incomings
  feeds_reach zero a n (none {x}) = none_fed a n x
  feeds_reach (suc j) a n (more {x} {y} {z} closed e f) = one_fed closed j a n x y z e (feeds_reach j (a + 4 * w) n f)
