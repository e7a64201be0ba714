use mathlib.Core.Logic.{⊎_elim}
use mathlib.Core.Path.{sym, ◌∙◌}
use mathlib.Core.List.{[]}
use native.Mathlib.Omega.{arith}
use Rattle.fields.proofs.CountLaws.{counted_none}
use Rattle.vif.proofs.FeedLaws.{rest_begins, rest_out, rest_used, rest_ends}
use Rattle.vif.proofs.feed.give_words.Goals as goal

pub loop-s-init : goal.loop-s-init
loop-s-init c =
    let e = c.nothing_taken-s.ensures in
    record {
      ready = rw e c.requires.0;
      quiet = rw e;
      counted = rw e counted_none;
      same = rest_begins _ _ _ _ _ c.nothing_taken-s.result _ (rw e) (rw e);
    }

pub returns-then-s-limit : goal.returns-then-s-limit
returns-then-s-limit c =
    ⊎_elim
    (λ l. rest_ends _ _ _ _ _ _ c.nothing_taken-s.ensures c.loop-s.invariant.same (rest_out _ _ _ _ _ _ _ c.loop-s.invariant.quiet l))
    (λ l. rest_ends _ _ _ _ _ _ c.nothing_taken-s.ensures c.loop-s.invariant.same (rest_used _ _ _ _ _ _ _ c.loop-s.invariant.quiet l.1))
    c.then-s-limit.either

pub take_codes-s-requires : goal.take_codes-s-requires
take_codes-s-requires c =
    let q = c.loop-s.invariant in (
      q.ready,
      record { near = c.requires.1; few_words = c.if-s-count.false; few_steps = c.if-s-limit.false; counted = q.counted; quiet = q.quiet },
      c.requires.2,
    )

pub burst-s-requires : goal.burst-s-requires
burst-s-requires c =
    let u = c.take_codes-s.ensures in
    (u.ready.ranged, u.idle c.if-s-start.false)

pub give_word-s-requires : goal.give_word-s-requires
give_word-s-requires c =
    let u = c.burst-s.ensures _ _ in
    let g = u.going in
    let l = c.ranges.limit in
    (u.stays c.take_codes-s.ensures.ready, omega arith, omega arith, g.counted)

pub returns-then-s : goal.returns-then-s
returns-then-s c =
    let u = c.burst-s.ensures _ _ in
    let e = c.take_codes-s.ensures.same ∙ u.same in
    ⊎_elim
    (λ i. rest_ends _ _ _ _ _ _ c.nothing_taken-s.ensures c.loop-s.invariant.same (e ∙ c.give_word-s.ensures.stops _ _ u.going i))
    (λ q. rest_ends _ _ _ _ _ _ c.nothing_taken-s.ensures c.loop-s.invariant.same (e ∙ c.give_word-s.ensures.refuses _ _ u.going q.1))
    c.then-s.either

pub loop-s-smaller-then-s-start : goal.loop-s-smaller-then-s-start
loop-s-smaller-then-s-start c =
    let u = c.take_codes-s.ensures in
    let z = c.if-s-start.true in
    let l = c.if-s-limit.false in
    let k = u.later in
    omega arith

pub loop-s-preserved-then-s-start : goal.loop-s-preserved-then-s-start
loop-s-preserved-then-s-start c =
    let u = c.take_codes-s.ensures in
    record {
      ready = u.ready;
      quiet = u.quiet;
      counted = u.counted;
      same = sym u.same ∙ c.loop-s.invariant.same;
    }

pub loop-s-smaller : goal.loop-s-smaller
loop-s-smaller c =
    let u = c.burst-s.ensures [] [] in
    let v = c.take_codes-s.ensures.later in
    let g = c.give_word-s.ensures in
    let l = c.if-s-limit.false in
    let z = c.if-s-before.false in
    omega arith

pub loop-s-preserved : goal.loop-s-preserved
loop-s-preserved c =
    let u = c.burst-s.ensures _ _ in
    let g = c.give_word-s.ensures in
    let quiet = c.if-s.false in
    record {
      ready = g.ready;
      quiet = quiet;
      counted = g.counted;
      same = sym (c.take_codes-s.ensures.same ∙ u.same ∙ g.goes _ _ u.going quiet) ∙ c.loop-s.invariant.same;
    }
