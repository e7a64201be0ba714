-- Quadwords of DIRECT taken at once: one more of them.
use mathlib.Core.Path.{◌≡◌, refl, sym, ap, ◌∙◌}
use mathlib.Core.Bool.{Bool, true, false}
use mathlib.Core.List.{List}
use Prim.Native.Nat.{ℕ, suc, ◌+◌, ◌*◌, ◌-◌, ◌/◌, ◌%◌, ◌<◌}
use native.Mathlib.Nat.{sub-zero}
use native.Mathlib.Numerals.{one-add}
use native.Mathlib.Omega.{arith}
use borrow.Author.Tests.{ne_eqb}
use lib.Dec.{eqb}
use Rattle.fields.specs.Fields.{if}
use Rattle.fields.specs.Memory.{word_at, long_at, quadword_at}
use Rattle.fields.proofs.ChoiceLaws.{if_ind}
use Rattle.gif.specs.declared.GifPath.TheVariants.{Two}
use Rattle.gif.specs.declared.Path.{Path}
use Rattle.gif.specs.GifAnswer.{Taken}
use Rattle.gif.specs.declared.QuadwordsResult.{QuadwordsResult}
use Rattle.gif.specs.Step.{gif_step}
use Rattle.gif.specs.Feed.{Fed as GifFed, fed_by, feed_of as gifFeedOf}
use Rattle.fields.specs.declared.UnitCounts.{UnitCounts}
use Rattle.fields.specs.Counts.{quadwords_alone, plus_units, Counted}
use Rattle.fields.proofs.CountLaws.{counted_quadwords, counted_plus}
use Rattle.gif.proofs.FeedLaws.{Takes, none, more, feed_quadwords, feed_few, takes_packets}
use Rattle.memories.specs.declared.VifUnit.{VifUnit}
use Rattle.memories.specs.Lengths.{Lent, lent}
use Rattle.vif_codes.specs.declared.Incoming.{Incoming}
use Rattle.vif_codes.specs.declared.Incoming.TheVariants.{Word0}
use Rattle.vif_codes.specs.declared.Waiting.{Waiting}
use Rattle.vif_codes.specs.declared.Vif.{Vif}
use Rattle.vif_codes.specs.Setters.{with_waiting}
use Rattle.vif_codes.specs.Payload.{completes, or_nothing}
use Rattle.vif_codes.specs.Words.{incoming_at, word_in}
use Rattle.vif.specs.declared.WordsResult.{WordsResult}
use Rattle.vif.specs.Step.{leaves, give_quadword, direct_step, step_by, vif_step}
use Rattle.vif.specs.Feeds.{Fed, fed, a_quadword}
use Rattle.vif.specs.Inner.{Leads, directs, Quadwords, fed_in, Going, Bursts, taken_with}
use Rattle.vif.proofs.FeedLaws.{leads_none, leads_one, leads_then, rest_leads}

-- the word at an address is the one that comes
pub incoming_word : (main : List ℕ) (a : ℕ) → word_in (incoming_at main a) ≡ word_at main a
unfolding incoming_at
incoming_word main a =
    if_ind (λ (n : Incoming). word_in n ≡ word_at main a) (eqb (a / 4 % 4) 0) refl
    (if_ind (λ (n : Incoming). word_in n ≡ word_at main a) (eqb (a / 4 % 4) 1) refl
    (if_ind (λ (n : Incoming). word_in n ≡ word_at main a) (eqb (a / 4 % 4) 2) refl refl))

-- before the last unit no code is completed
pub not_last : (due : ℕ) (i : Bool) → 1 < due → completes due i ≡ false
unfolding completes if
not_last due i h = rw (ne_eqb due 1 (λ e. omega arith))

pub waits_still : (due : ℕ) (w : Waiting) → 1 < due → or_nothing due w ≡ w
unfolding or_nothing if
waits_still due w h = rw (ne_eqb due 1 (λ e. omega arith))

-- ---- DIRECT and DIRECTHL

-- a whole quadword comes
incoming_quadword : (main : List ℕ) (a : ℕ) → a % 16 ≡ 0
    → incoming_at main a ≡ Word0 (word_at main a) (word_at main (a + 4)) (word_at main (a + 8)) (word_at main (a + 12))
unfolding incoming_at if
incoming_quadword main a h = let e : a / 4 % 4 ≡ 0 = omega arith in rw e

by_hl : (which : VifUnit) (hl : Bool) (due : ℕ) (i : Bool) (v : Vif) (p : Path) (n : Incoming) (used : ℕ) (m : Lent)
    → step_by which (directs hl due i) v p n used m ≡ direct_step n v p due i (directs hl (due - 1) i) used m
by_hl which true due i v p n used m = refl
by_hl which false due i v p n used m = refl

module _ (which : VifUnit) (main : List ℕ) (v : Vif) (mem code : List ℕ) (hl i : Bool) where
  -- the unit with a DIRECT that waits
  abbrev giving : ℕ → Path → ℕ → List ℕ → Fed
  giving due p used log = fed (with_waiting v (directs hl due i)) p used (lent mem code log)

  direct_step_lem : (a due : ℕ) (p : Path) (used : ℕ) (log : List ℕ) {c : Bool} → a % 16 ≡ 0 → 1 < due → (gif_step Two p (quadword_at main a) used log).answer ≡ Taken c
      → vif_step which (with_waiting v (directs hl due i)) p (incoming_at main a) used (lent mem code log)
      ≡ leaves (a_quadword c) (with_waiting v (directs hl (due - 1) i)) (gif_step Two p (quadword_at main a) used log).path (gif_step Two p (quadword_at main a) used log).used
      (lent mem code (gif_step Two p (quadword_at main a) used log).log)
  unfolding vif_step give_quadword long_at
  direct_step_lem a due p used log h l e =
      let j : a + 8 + 4 ≡ a + 12 = omega arith in
      by_hl which hl due i (with_waiting v (directs hl due i)) p (incoming_at main a) used (lent mem code log)
      ∙ rw (incoming_quadword main a h) (rw (← j) (rw (e, not_last due i l, waits_still due (directs hl (due - 1) i) l)))

  pub direct_leads : {a due used : ℕ} {p : Path} {log : List ℕ} {x : GifFed} → Takes Two main a p used log x → ((x.taken ≡ 0 → ⊥) → a % 16 ≡ 0) → x.taken < due
      → Leads which main a (4 * x.taken) (quadwords_alone x.taken x.packets) (giving due p used log) (giving (due - x.taken) x.path x.used x.log)
  direct_leads {a} {due} none h l = rw (sub-zero due) leads_none
  direct_leads {a} {due} {used} {p} {log} (more {x = x} e t) h l =
      let z : a % 16 ≡ 0 = h (λ q. omega arith) in
      let b : 4 * suc x.taken ≡ 4 + 4 * x.taken = omega arith in
      let c : due - suc x.taken ≡ due - 1 - x.taken = omega arith in
      rw (b, c, ← one-add x.taken)
      (leads_then (leads_one (sym (direct_step_lem a due p used log z (omega arith) e)) refl (λ q. omega arith) refl)
      (direct_leads t (λ q. omega arith) (omega arith)))

pub quadwords_taken : {main : List ℕ} {a due words steps n used : ℕ} {p : Path} {log log' : List ℕ} {r : QuadwordsResult}
    → (n < due) × (4 * n < words) × (n < steps) × ((n ≡ 0 → ⊥) → a % 16 ≡ 0) → fed_by r log' ≡ gifFeedOf Two main a n p used log
    → Quadwords main a due words steps p used log r log'
quadwords_taken {main} {a} {due} {words} {steps} {n} {used} {p} {log} {log'} {r} h e =
    let f = feed_few Two main a n p used log e in
    let j = h.0 in
    let k = h.1 in
    let l = h.2 in
    record {
      few = omega arith;
      few_words = omega arith;
      few_steps = omega arith;
      few_packets = takes_packets (feed_quadwords Two main a n p used log e);
      leads = λ which v mem code hl i. direct_leads which main v mem code hl i (feed_quadwords Two main a n p used log e) (λ z. h.3 (λ y. z (omega arith))) (omega arith);
    }

-- ---- a burst

pub burst_none : {which : VifUnit} {main : List ℕ} {limit a count : ℕ} {s : WordsResult} {m : Lent} → Going limit a count s → Bursts which main limit a count s m s m
burst_none g = record { same = refl; stays = λ r. r; later = omega arith; going = g }

pub burst_leads : {which : VifUnit} {main : List ℕ} {limit a count k used : ℕ} {n : UnitCounts} {s t : WordsResult} {m m' : Lent} {v : Vif} {p : Path} → Going limit a count s
    → k < count - s.words → n.steps < limit - s.counts.steps → Counted n → Leads which main (a + 4 * s.words) k n (fed_in s m) (fed v p used m')
    → t ≡ taken_with v p used (s.words + k) (plus_units s.counts n) s.interrupt → Bursts which main limit a count s m t m'
burst_leads {which} {main} {limit} {a} {count} {k} {used} {n} {s} {t} {m} {m'} g h l x i e =
    rw e
    (record {
      same = rest_leads which main limit a count s m i (omega arith) (omega arith) s.interrupt;
      stays = i.stays;
      later = omega arith;
      going = record { near = g.near; few_words = omega arith; few_steps = omega arith; counted = counted_plus g.counted x; quiet = g.quiet };
    })

pub burst_quadwords : {which : VifUnit} {main : List ℕ} {limit a count due : ℕ} {s t : WordsResult} (mem code : List ℕ) {log log' : List ℕ} {r : QuadwordsResult} {rest : Waiting} (hl i : Bool)
    → Going limit a count s → s.unit.waiting ≡ directs hl due i
    → Quadwords main (a + 4 * s.words) due (count - s.words) (limit - s.counts.steps) s.path2 s.used log r log'
    → rest ≡ directs hl (due - r.taken) i
    → t ≡ taken_with (with_waiting s.unit rest) r.path r.used (s.words + 4 * r.taken) (plus_units s.counts (quadwords_alone r.taken r.packets)) s.interrupt
    → Bursts which main limit a count s (lent mem code log) t (lent mem code log')
burst_quadwords {which} {s = s} mem code {log} hl i g q x w e =
    burst_leads g x.few_words x.few_steps (counted_quadwords x.few_packets)
    (rw (← ap (λ (w : Waiting). fed (with_waiting s.unit w) s.path2 s.used (lent mem code log)) q) at (x.leads which s.unit mem code hl i))
    (rw w at e)
