-- Quadwords given one after another: the turns, and what the tests give.
use Rattle.std.specs.Prelude.{Err}
use mathlib.Core.Path.{◌≡◌, refl, sym, ap, ◌∙◌}
use mathlib.Core.Bool.{Bool, true, false, not}
use mathlib.Core.List.{List}
use Prim.Native.Nat.{ℕ, zero, suc, ◌+◌, ◌*◌, ◌-◌, ◌<◌, ◌≤◌}
use native.Mathlib.Nat.{zero-add, add-zero, add_assoc, sub-zero, mul-zero}
use native.Mathlib.Numerals.{one-add}
use native.Mathlib.Omega.{arith}
use borrow.Author.Tests.{leb-true, ne_eqb, not-false}
use lib.ListN.{length}
use lib.Dec.{leb}
use Rattle.fields.specs.Counts.{one_if}
use Rattle.fields.specs.Fields.{if}
use Rattle.fields.specs.declared.refusals.Refusal.{Refusal}
use Rattle.fields.specs.Refusals.{refusal_number, log_length, out_of_range, payload_outside}
use Rattle.fields.specs.Memory.{quadword_at, inside}
use Rattle.fields.proofs.CountLaws.{one_most}
use Rattle.fields.proofs.ChoiceLaws.{if_ind, if_zero, and_left, and_right}
use Rattle.gif.specs.declared.GifPath.{GifPath}
use Rattle.gif.specs.declared.Path.{Path}
use Rattle.gif.specs.GifAnswer.{GifAnswer, Taken, Refused, gif_answer}
use Rattle.gif.specs.declared.GifResult.{GifResult}
use Rattle.gif.specs.Log.{entry_size, log_refused, LogFits}
use Rattle.gif.specs.Range.{path_in_range, PlaceFits}
use Rattle.gif.specs.Step.{Left, left, gif_step}
use Rattle.gif.specs.Feed.{Fed, fed, one_more, after_quadword, on_quadword, feeds_of, feed_refusal, feed_of}
use Rattle.gif.specs.Inner.{plus, Leads, QuadwordsInside}
use Rattle.gif.proofs.LogLaws.{logged_length}
use Rattle.gif.proofs.RangeLaws.{log_fits}
use Rattle.gif.proofs.StepLaws.{step_wrote, step_ranged}

by_answer : {x y : GifAnswer} → x ≡ y → (f : Path → ℕ → List ℕ → Fed) (o : Left) (p : Path) (used : ℕ) (log : List ℕ) {w : Fed}
    → after_quadword f y o p used log ≡ w → after_quadword f x o p used log ≡ w
by_answer q f o p used log h = rw q h

module _ (which : GifPath) (main : List ℕ) (a : ℕ) (p : Path) (used : ℕ) (log : List ℕ) where
  pub feeds_none : (n : ℕ) → n ≡ 0 → feeds_of which main a n p used log ≡ fed p used log 0 0 0
  unfolding feeds_of
  feeds_none n z = rw z

  -- one quadword, by the answer to it
  module _ (n n' : ℕ) (z : n ≡ suc n') {o : Left} (e : o ≡ gif_step which p (quadword_at main a) used log) where
    one_turn : feeds_of which main a n p used log ≡ on_quadword (feeds_of which main (a + 16) n') o p used log
    unfolding feeds_of
    one_turn = rw (z, ← e)

    pub feeds_taken : {c : Bool} → o.answer ≡ Taken c → feeds_of which main a n p used log ≡ one_more c (feeds_of which main (a + 16) n' o.path o.used o.log)
    feeds_taken q = one_turn ∙ by_answer q (feeds_of which main (a + 16) n') o p used log refl

    pub feeds_refused : {m : ℕ} → o.answer ≡ Refused m → feeds_of which main a n p used log ≡ fed p used log 0 0 m
    feeds_refused q = one_turn ∙ by_answer q (feeds_of which main (a + 16) n') o p used log refl

-- a step of the quadword that lies at an address
pub at_quadword_lem : (which : GifPath) (main : List ℕ) (a : ℕ) {quad : ℕ} → quad ≡ quadword_at main a
    → (p : Path) (used : ℕ) (log : List ℕ) {o : Left} → o ≡ gif_step which p quad used log → o ≡ gif_step which p (quadword_at main a) used log
at_quadword_lem which main a eq p used log e = rw (← eq) e

-- ---- quadwords that lead on

pub leads_none : {which : GifPath} {main : List ℕ} {a used : ℕ} {p : Path} {log : List ℕ} → Leads which main a 0 0 p used log p used log
leads_none {which} {main} {a} {used} {p} {log} =
    record {
      goes = λ c. rw (zero-add c, add-zero a, zero-add (feeds_of which main a c p used log).taken, zero-add (feeds_of which main a c p used log).packets);
      stays = λ f. f;
    }

-- none of them leave the log as it is
pub leads_still : {which : GifPath} {main : List ℕ} {a n c used used' : ℕ} {p p' : Path} {log log' : List ℕ} → Leads which main a n c p used log p' used' log' → n ≡ 0 → log' ≡ log
leads_still {which} {main} {a} {n} {c} {used} {used'} {p} {p'} {log} {log'} g z =
    let none = feeds_none which main (a + 16 * n) p' used' log' 0 refl in
    let all = feeds_none which main a p used log (n + 0) (omega arith) in
    ap (λ (x : Fed). x.log) (sym (ap (plus n c) none) ∙ sym (g.goes 0) ∙ all)

-- a quadword that is taken
pub leads_one : {which : GifPath} {main : List ℕ} {a used : ℕ} {p : Path} {log : List ℕ} {o : Left} {k : Bool} → o ≡ gif_step which p (quadword_at main a) used log
    → o.answer ≡ Taken k → Leads which main a 1 (one_if k) p used log o.path o.used o.log
leads_one {which} {main} {a} {used} {p} {log} {o} e q =
    record {
      goes =
          λ c.
          feeds_taken which main a p used log (1 + c) c (one-add c) e q
          ∙ rw (one-add (feeds_of which main (a + 16) c o.path o.used o.log).taken);
      stays = λ f. record { held = rw (← e) at (step_ranged which p f.held used log (quadword_at main a)) };
    }

-- quadwords, and then more of them
pub leads_then : {which : GifPath} {main : List ℕ} {a i j k h u v w : ℕ} {p q r : Path} {l m n : List ℕ} → Leads which main a i k p u l q v m → Leads which main (a + 16 * i) j h q v m r w n
    → Leads which main a (i + j) (k + h) p u l r w n
leads_then {which} {main} {a} {i} {j} {k} {h} {u} {v} {w} {p} {q} {r} {l} {m} {n} x y =
    record {
      goes =
          λ c.
          let b : a + 16 * i + 16 * j ≡ a + 16 * (i + j) = omega arith in
          let x' = feeds_of which main (a + 16 * (i + j)) c r w n in
          rw (add_assoc i j c) (x.goes (j + c) ∙ ap (plus i k) (y.goes c) ∙ rw (b, add_assoc i j x'.taken, add_assoc k h x'.packets));
      stays = λ f. y.stays (x.stays f);
    }

-- ---- the loop's turns, with the quadwords before them

module _ (which : GifPath) (main : List ℕ) (a count : ℕ) (p : Path) (used : ℕ) (log : List ℕ) where
  -- before the first quadword all of them are left
  pub feeds_begin : plus 0 0 (feeds_of which main (a + 16 * 0) (count - 0) p used log) ≡ feeds_of which main a count p used log
  feeds_begin =
      let x = feeds_of which main a count p used log in
      rw (mul-zero, add-zero, sub-zero, zero-add x.taken, zero-add x.packets)

  module _ (k c : ℕ) {w : Fed} (i : plus k c (feeds_of which main (a + 16 * k) (count - k) p used log) ≡ w) where
    pub ends_all : count ≤ k → fed p used log k c 0 ≡ w
    ends_all l =
        let z : count - k ≡ 0 = omega arith in
        sym (ap (plus k c) (feeds_none which main (a + 16 * k) p used log (count - k) z) ∙ rw (add-zero k, add-zero c)) ∙ i

    -- quadwords that lead on
    pub goes_on : (n h : ℕ) → k + n ≤ count → {p' : Path} {used' : ℕ} {log' : List ℕ} → Leads which main (a + 16 * k) n h p used log p' used' log'
        → plus (k + n) (c + h) (feeds_of which main (a + 16 * (k + n)) (count - (k + n)) p' used' log') ≡ w
    goes_on n h l {p'} {used'} {log'} g =
        let m : n + (count - (k + n)) ≡ count - k = omega arith in
        let b : a + 16 * k + 16 * n ≡ a + 16 * (k + n) = omega arith in
        let x = feeds_of which main (a + 16 * (k + n)) (count - (k + n)) p' used' log' in
        sym (ap (plus k c) (rw m at (g.goes (count - (k + n)))) ∙ rw (b, add_assoc k n x.taken, add_assoc c h x.packets)) ∙ i

    pub ends_refused : k < count → {r : GifResult} {log' : List ℕ} → left r log' ≡ gif_step which p (quadword_at main (a + 16 * k)) used log
        → {x : Refusal} → r.answer ≡ Err x → entry_size * used ≤ length log → fed p used log' k c (refusal_number x) ≡ w
    ends_refused l {r} {log'} e {x} q h =
        let d : count - k ≡ suc (count - (k + 1)) = omega arith in
        let told : gif_answer r.answer ≡ Refused (refusal_number x) = ap gif_answer q in
        let s : log' ≡ log = ap (λ (o : Left). o.log) (rw (← e) at ((step_wrote which p used log h (quadword_at main (a + 16 * k))).same (refusal_number x)) told) in
        rw s
        (sym (ap (plus k c) (feeds_refused which main (a + 16 * k) p used log (count - k) (count - (k + 1)) d e told) ∙ rw (add-zero k, add-zero c)) ∙ i)

-- a step keeps what the next one asks of the log
pub next_log_fits : (which : GifPath) (p : Path) (quad used : ℕ) (log : List ℕ) (r : GifResult) {log' : List ℕ} → left r log' ≡ gif_step which p quad used log
    → LogFits log used → length log' ≡ length log → LogFits log' r.used
next_log_fits which p quad used log r e f n =
    let s = f.short in
    let o : entry_size * r.used ≤ length log = rw (← e) at (step_wrote which p used log f.holds quad).room in
    record { short = omega arith; holds = omega arith }

-- ---- the tests of the public function

inside_facts : (main : List ℕ) (a n : ℕ) → inside main a n ≡ true → (length main ≤ 1048576) × (a + n ≤ length main)
unfolding inside
inside_facts main a n h =
    (leb-true (length main) 1048576 (and_left _ _ h), leb-true (a + n) (length main) (and_right (leb (length main) 1048576) _ h))

pub inside_most : (main : List ℕ) (a n : ℕ) → inside main a n ≡ true → a + n ≤ 1048576
inside_most main a n h = let i = inside_facts main a n h in omega arith

-- by the outcome of the tests
module _ (main : List ℕ) (a n : ℕ) (p : Path) (used : ℕ) (log : List ℕ) {r : ℕ} (t : r ≡ feed_refusal main a n p used log) where
  pub fed_fits : r ≡ 0 → QuadwordsInside main a n × (PlaceFits p.place × LogFits log used)
  unfolding feed_refusal
  fed_fits z =
      let l = if_zero (log_refused log used) log_length (omega arith) (sym t ∙ z) in
      let g = if_zero (not (path_in_range p)) out_of_range (omega arith) l.1 in
      let i = if_zero (not (inside main a (16 * n))) payload_outside (omega arith) g.1 in
      let x = inside_facts main a (16 * n) (not-false _ i.0) in
      (record { most = x.0; inner = x.1 }, (record { held = not-false _ g.0 }, log_fits log used l.0))

  pub fed_tested : (which : GifPath) → r ≡ 0 → {x : Fed} → x ≡ feeds_of which main a n p used log → x ≡ feed_of which main a n p used log
  unfolding feed_of if
  fed_tested which z e = rw (sym t ∙ z) e

  pub fed_none : (which : GifPath) → (r ≡ 0 → ⊥) → fed p used log 0 0 r ≡ feed_of which main a n p used log
  unfolding feed_of if
  fed_none which h = rw (← t, ne_eqb r 0 h)

-- input that passes the tests
pub feed_tested : (which : GifPath) (main : List ℕ) (a n : ℕ) (p : Path) (used : ℕ) (log : List ℕ)
    → inside main a (16 * n) ≡ true → log_refused log used ≡ false → path_in_range p ≡ true → feed_of which main a n p used log ≡ feeds_of which main a n p used log
unfolding feed_of feed_refusal if
feed_tested which main a n p used log i l g = rw (l, g, i)

-- ---- for callers: the quadwords taken, one step each

-- as many quadwords as were taken, from address a on, each taken by a step of its own, lead to what is left
pub data Takes (which : GifPath) (main : List ℕ) : ℕ → Path → ℕ → List ℕ → Fed → Type 0 where
  none : {a used r : ℕ} {p : Path} {log : List ℕ} → Takes which main a p used log (fed p used log 0 0 r)
  more : {a used : ℕ} {p : Path} {log : List ℕ} {x : Fed} {c : Bool} → (gif_step which p (quadword_at main a) used log).answer ≡ Taken c
      → Takes which main (a + 16) (gif_step which p (quadword_at main a) used log).path (gif_step which p (quadword_at main a) used log).used
      (gif_step which p (quadword_at main a) used log).log x
      → Takes which main a p used log (one_more c x)

-- by the answer to a quadword
answer_ind : (P : Fed → Type 0) (f : Path → ℕ → List ℕ → Fed) (g : GifAnswer) (o : Left) (p : Path) (used : ℕ) (log : List ℕ)
    → ((c : Bool) → g ≡ Taken c → P (one_more c (f o.path o.used o.log))) → ((m : ℕ) → g ≡ Refused m → P (fed p used log 0 0 m)) → P (after_quadword f g o p used log)
answer_ind P f (Taken c) o p used log t r = t c refl
answer_ind P f (Refused m) o p used log t r = r m refl

pub feeds_quadwords : (which : GifPath) (main : List ℕ) (a n : ℕ) (p : Path) (used : ℕ) (log : List ℕ) → Takes which main a p used log (feeds_of which main a n p used log)
unfolding feeds_of
feeds_quadwords which main a zero p used log = none
feeds_quadwords which main a (suc n) p used log =
    let o = gif_step which p (quadword_at main a) used log in
    answer_ind (Takes which main a p used log) (feeds_of which main (a + 16) n) o.answer o p used log
    (λ c e. more e (feeds_quadwords which main (a + 16) n o.path o.used o.log))
    (λ m e. none)

-- what the public function leaves, for any input
pub feed_quadwords : (which : GifPath) (main : List ℕ) (a n : ℕ) (p : Path) (used : ℕ) (log : List ℕ) {x : Fed} → x ≡ feed_of which main a n p used log → Takes which main a p used log x
unfolding feed_of
feed_quadwords which main a n p used log e = rw e (if_ind (Takes which main a p used log) _ (feeds_quadwords which main a n p used log) none)

-- no more than were given
record Few (n : ℕ) (x : Fed) : Type 0 where
  few : x.taken ≤ n

feeds_few : (which : GifPath) (main : List ℕ) (a n : ℕ) (p : Path) (used : ℕ) (log : List ℕ) → Few n (feeds_of which main a n p used log)
unfolding feeds_of
feeds_few which main a zero p used log = record { few = omega arith }
feeds_few which main a (suc n) p used log =
    let o = gif_step which p (quadword_at main a) used log in
    let h = (feeds_few which main (a + 16) n o.path o.used o.log).few in
    answer_ind (Few (suc n)) (feeds_of which main (a + 16) n) o.answer o p used log (λ c e. record { few = omega arith }) (λ m e. record { few = omega arith })

pub feed_few : (which : GifPath) (main : List ℕ) (a n : ℕ) (p : Path) (used : ℕ) (log : List ℕ) {x : Fed} → x ≡ feed_of which main a n p used log → x.taken ≤ n
unfolding feed_of
feed_few which main a n p used log e =
    let z : Few n (fed p used log 0 0 (feed_refusal main a n p used log)) = record { few = omega arith } in
    rw e (if_ind (Few n) _ (feeds_few which main a n p used log) z).few

-- no more packets than quadwords
pub takes_packets : {which : GifPath} {main : List ℕ} {a used : ℕ} {p : Path} {log : List ℕ} {x : Fed} → Takes which main a p used log x → x.packets ≤ x.taken
takes_packets none = omega arith
takes_packets (more {x = x} {c = c} e t) =
    let h = takes_packets t in
    let m : one_if c ≤ 1 = one_most c refl in
    omega arith

-- the path stays in range, and the log's length and its room for the entries stay
pub takes_ranged : {which : GifPath} {main : List ℕ} {a used : ℕ} {p : Path} {log : List ℕ} {x : Fed} → Takes which main a p used log x
    → path_in_range p ≡ true → path_in_range x.path ≡ true
takes_ranged none r = r
takes_ranged {which} {main} {a} {used} {p} {log} (more e t) r = takes_ranged t (step_ranged which p r used log (quadword_at main a))

pub takes_fits : {which : GifPath} {main : List ℕ} {a used : ℕ} {p : Path} {log : List ℕ} {x : Fed} → Takes which main a p used log x → entry_size * used ≤ length log
    → (length x.log ≡ length log) × (entry_size * x.used ≤ length log)
takes_fits none h = (refl, h)
takes_fits {which} {main} {a} {used} {p} {log} (more e t) h =
    let w = step_wrote which p used log h (quadword_at main a) in
    let n : length (gif_step which p (quadword_at main a) used log).log ≡ length log = ap length w.stored ∙ logged_length log used w.entries in
    let i = takes_fits t (rw n w.room) in
    (i.0 ∙ n, rw (← n) i.1)
