use mathlib.Core.Path.{sym, ◌∙◌}
use native.Mathlib.Omega.{arith}
use Rattle.vif.proofs.ReadyLaws.{code_ready}
use Rattle.vif.proofs.CodesLaws.{codes_more, words_more, code_leads, code_left, ahead_is, waiting_fits, still_few, codes_taken}
use Rattle.vif.proofs.codes.take_codes.Goals as goal

pub words_ahead-m-requires : goal.words_ahead-m-requires
words_ahead-m-requires c =
    (omega arith, waiting_fits _ c.loop-k.unit (c.loop-k.invariant.leads.stays c.requires.0).ranged)

pub take_code-r-requires : goal.take_code-r-requires
take_code-r-requires c =
    let r = c.loop-k.invariant.leads.stays c.requires.0 in
    code_ready _ c.loop-k.unit _ r.ranged r.fit.long

pub loop-k-preserved-then-j-ne0 : goal.loop-k-preserved-then-j-ne0
loop-k-preserved-then-j-ne0 c =
    let q = c.loop-k.invariant in
    let e = c.nops_ahead-j.ensures in
    record {
      few = still_few q.few e.0;
      few_nops = omega (arith, q.few_nops);
      leads = codes_more q.leads (e.2 _ _ c.in-Nothing.is);
    }

pub loop-k-preserved-in-Nothing : goal.loop-k-preserved-in-Nothing
loop-k-preserved-in-Nothing c =
    let q = c.loop-k.invariant in
    let w = c.in-Nothing.is in
    let a = ahead_is _ _ _ w (c.words_ahead-m.ensures.1 c.if-m-eq0.false) in
    record {
      few = omega arith;
      few_nops = omega (arith, q.few_nops);
      leads = words_more q.leads (code_leads _ _ _ c.loop-k.unit _ _ _ _ _ w a.1 c.word_at.ensures _ c.take_code-r.ensures (c.nops_ahead-j.ensures.1 c.if-j-ne0.false (omega arith)) (sym c.is_err.ensures.value ∙ c.if-is_err.false));
    }

pub loop-k-preserved : goal.loop-k-preserved
loop-k-preserved c =
    let q = c.loop-k.invariant in
    let m = c.words_ahead-m.ensures.0 in
    record {
      few = omega arith;
      few_nops = omega (arith, q.few_nops);
      leads = words_more q.leads (c.payload_words-unit.ensures _ _ _);
    }

pub returns-then-m-eq0 : goal.returns-then-m-eq0
returns-then-m-eq0 c =
    let q = c.loop-k.invariant in
    codes_taken c.requires.0 c.requires.1 q.few (omega arith, omega arith) q.few_nops q.leads c.with_codes.ensures

pub returns-then-is_err : goal.returns-then-is_err
returns-then-is_err c =
    let q = c.loop-k.invariant in
    let w = c.in-Nothing.is in
    let a = ahead_is _ _ _ w (c.words_ahead-m.ensures.1 c.if-m-eq0.false) in
    let e = sym c.is_err.ensures.value ∙ c.if-is_err.true in
    let kept = code_left _ _ _ c.loop-k.unit _ _ _ _ _ w a.1 c.word_at.ensures c.take_code-r.result c.take_code-r.ensures (q.leads.stays c.requires.0) e in
    rw (kept.0, kept.1)
    (codes_taken c.requires.0 c.requires.1 q.few (omega arith, omega arith) q.few_nops q.leads c.with_codes-then-is_err.ensures)

pub returns : goal.returns
returns c =
    let q = c.loop-k.invariant in
    codes_taken c.requires.0 c.requires.1 q.few (omega arith, omega arith) q.few_nops q.leads c.with_codes-2.ensures
