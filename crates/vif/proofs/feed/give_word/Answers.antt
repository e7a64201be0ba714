use mathlib.Core.Path.{refl, ap, ◌∙◌}
use Prim.Native.Nat.{◌≤◌}
use native.Mathlib.Omega.{arith}
use Rattle.vif_codes.specs.VifAnswer.{vif_answer}
use Rattle.vif.proofs.FeedLaws.{taken_most, taken_counted, gives_taken, gives_refused}
use Rattle.std.specs.Prelude.{Ok}
use Rattle.vif.proofs.feed.give_word.Goals.{in-Word, in-Quadword}
use Rattle.vif.proofs.feed.give_word.Goals as goal

pub one_more-counts-requires : goal.one_more-counts-requires
one_more-counts-requires c =
    let p = c.requires in
    let e = c.counts_in.ensures in
    let most : c.counts_in.result.steps ≤ 1 = rw e (taken_most c.args.s.unit.waiting c.incoming_at-next.result (vif_answer c.step-r.result.answer)) in
    (p.3, rw e (taken_counted c.args.s.unit.waiting c.incoming_at-next.result (vif_answer c.step-r.result.answer)), omega arith)

pub returns-in_default : goal.returns-in_default
returns-in_default c =
    gives_refused _ _ _ _ _ c.requires.0 c.incoming_at-next.ensures c.step-r.ensures (ap vif_answer c.in_default.is) c.requires.3

pub returns : goal.returns
returns c =
    elim c.match-taken.branch [
      | in-Word w ↦
          gives_taken _ _ _ _ _ c.requires.0 c.incoming_at-next.ensures c.step-r.ensures (ap vif_answer (c.in-Ok.is ∙ ap Ok w.in-Word.is)) (rw w.words-is) (rw w.words-is)
          (rw w.words-is (omega arith)) c.requires.3 (c.one_more-counts.ensures ∙ rw c.counts_in.ensures) refl
      | in-Quadword w ↦
          gives_taken _ _ _ _ _ c.requires.0 c.incoming_at-next.ensures c.step-r.ensures (ap vif_answer (c.in-Ok.is ∙ ap Ok w.in-Quadword.is)) (rw w.words-is) (rw w.words-is)
          (rw w.words-is (omega arith)) c.requires.3 (c.one_more-counts.ensures ∙ rw c.counts_in.ensures) refl
    ]
