-- The totals and the history.
use mathlib.Core.Path.{◌≡◌, refl, sym, ap, ◌∙◌}
use mathlib.Core.List.{List, [], ◌∷◌, ◌++◌}
use Prim.Native.Nat.{ℕ, ◌+◌}
use native.Mathlib.Omega.{arith}
use Rattle.fields.specs.Counts.{qwc_under, plus_qwc, total_qwc}
use Rattle.fields.proofs.CountLaws.{plus_qwc_none, plus_plus_qwc, total_none, total_plus, total_under}
use Rattle.fields.proofs.FieldLaws.{bits_below}
use Rattle.chain_state.specs.declared.State.{State}
use Rattle.chain.specs.Tags.{qwc_of, id_of}
use Rattle.chain.specs.Run.{run_of}
use Rattle.totals.specs.declared.Totals.{Totals}
use Rattle.totals.proofs.AddLaws.{added_exact}
use Rattle.history.specs.Trace.{Event, tag, payload, tag_word, trace_of, sum_of, qwc_in, qwc_with, qwc_read, qwcs_in, qwcs_read}
use Rattle.history.specs.History.{History, begins, runs}
use Rattle.history.specs.Totalled.{Totalled, begins as begins-total, runs as runs-total, TotalsTrue}
use Rattle.history.proofs.HistoryFact.{sum_append, run_kept, history_fact}

-- ---- QWC by ID

qwcs_append : (es ds : List Event) → qwcs_read (es ++ ds) ≡ plus_qwc (qwcs_read es) (qwcs_read ds)
qwcs_append es ds =
    let at : (id : ℕ) → sum_of (qwc_with id) (es ++ ds) ≡ sum_of (qwc_with id) es + sum_of (qwc_with id) ds = λ id. sum_append (qwc_with id) es ds in
    rw (at 0, at 1, at 2, at 3, at 4, at 5, at 6, at 7)

-- a tag is read under one ID
total_one : (e : Event) → total_qwc (qwcs_in e) ≡ qwc_in e
unfolding total_qwc qwc_under
total_one (tag t) = total_under (id_of t) (qwc_of t) (let b = bits_below t 28 30 in omega arith)
total_one (payload k) = refl
total_one tag_word = refl

-- all IDs together are all tags
pub total_read : (es : List Event) → total_qwc (qwcs_read es) ≡ qwc_read es
unfolding sum_of
total_read [] = total_none
total_read (e ∷ es) = total_plus (qwcs_in e) (qwcs_read es) ∙ rw (total_one e, total_read es)

-- ---- the fact with totals

-- its history
pub history_of : {main : List ℕ} {before : Totals} {es : List Event} {t : Totals} {s : State} → Totalled main before es t s → History main es s
history_of (begins-total s channel tadr tte e) = begins s channel tadr tte e
history_of (runs-total m allowance h e) = runs m allowance (history_of h)

totals_by_id : {main : List ℕ} {before : Totals} {es : List Event} {t : Totals} {s : State} → Totalled main before es t s → t.qwc ≡ plus_qwc before.qwc (qwcs_read es)
unfolding sum_of
totals_by_id {before = before} (begins-total s channel tadr tte e) = sym (plus_qwc_none before.qwc)
totals_by_id {main} {before} (runs-total {es} {t} {s} m allowance h e) =
    ap (λ (x : Totals). x.qwc) (added_exact t (run_of main allowance s m).counts e)
    ∙ rw (totals_by_id h, (run_kept main allowance s m).counts) (plus_plus_qwc before.qwc (qwcs_read es) (qwcs_read (trace_of main allowance s m)))
    ∙ ap (plus_qwc before.qwc) (sym (qwcs_append es (trace_of main allowance s m)))

-- where no 54 came, what the totals of QWC have grown by is that of the tags in the history
pub totals_fact : {main : List ℕ} {before : Totals} {es : List Event} {t : Totals} {s : State} → Totalled main before es t s → TotalsTrue before es t s
totals_fact {before = before} {es = es} h =
    let q = totals_by_id h in
    let b = (history_fact (history_of h)).balance in
    let w = total_read es in
    let p = total_plus before.qwc (qwcs_read es) in
    record { by_id_lem = q; balance = rw q (omega arith) }
