-- The entries that a step needs are shown with 31 alone.
use Rattle.std.specs.Prelude.{None, Option, Some}
use mathlib.Core.Path.{◌≡◌, refl}
use mathlib.Core.List.{List}
use Prim.Native.Nat.{ℕ}
use borrow.Author.Tests.{ne_eqb}
use Rattle.fields.specs.Fields.{if}
use Rattle.fields.specs.Refusals.{log_full}
use Rattle.gif.specs.declared.Path.{Path}
use Rattle.vif_codes.specs.declared.Incoming.{Incoming}
use Rattle.vif_codes.specs.declared.Incoming.TheVariants.{Word0, Word1, Word2, Word3}
use Rattle.vif_codes.specs.declared.Waiting.{Waiting}
use Rattle.vif_codes.specs.declared.Waiting.TheVariants.{Nothing, MaskDue, RowDue, ColDue, MpgDue, DirectDue, DirecthlDue, UnpackDue}
use Rattle.vif_codes.specs.declared.Vif.{Vif}
use Rattle.vif_codes.specs.Words.{incoming_at}
use Rattle.chain_state.specs.declared.Payload.{Payload}
use Rattle.chain_state.specs.declared.Payload.TheVariants.{Nothing as NoPayload, Words}
use Rattle.chain_state.specs.declared.State.{State}
use Rattle.chain.specs.Step.{fed_unit}
use Rattle.chain_state.specs.Setters.{held_by}
use Rattle.gif_reason.specs.Reason.{quadword_numbers}
use Rattle.vif_reason.specs.Reason.{code_numbers, direct_numbers, waiting_numbers, word_numbers}
use Rattle.diagnosis.specs.Why.{unit_numbers, payload_numbers, payload_or_tag_numbers, pending_numbers, next_numbers}

module _ (r : ℕ) (h : r ≡ log_full → ⊥) (j k used : ℕ) (log : List ℕ) where
  quadword_needless : (p : Path) → quadword_numbers r p j used log ≡ quadword_numbers r p k used log
  unfolding quadword_numbers if
  quadword_needless p = rw (ne_eqb r log_full h)

  code_needless : (word : ℕ) (v : Vif) → code_numbers r word v j used log ≡ code_numbers r word v k used log
  unfolding code_numbers if
  code_needless word v = rw (ne_eqb r log_full h)

  direct_needless : (n : Incoming) (p : Path) → direct_numbers r n p j used log ≡ direct_numbers r n p k used log
  direct_needless (Word0 a b c d) p = quadword_needless p
  direct_needless (Word1 a) p = refl
  direct_needless (Word2 a) p = refl
  direct_needless (Word3 a) p = refl

  waiting_needless : (w : Waiting) (v : Vif) (p : Path) (n : Incoming) → waiting_numbers w r v p n j used log ≡ waiting_numbers w r v p n k used log
  waiting_needless Nothing v p n = code_needless _ v
  waiting_needless (MaskDue i) v p n = refl
  waiting_needless (RowDue due i) v p n = refl
  waiting_needless (ColDue due i) v p n = refl
  waiting_needless (MpgDue a c due i) v p n = refl
  waiting_needless (DirectDue due i) v p n = direct_needless n p
  waiting_needless (DirecthlDue due i) v p n = direct_needless n p
  waiting_needless (UnpackDue f u) v p n = refl

  word_needless : (v : Vif) (p : Path) (n : Incoming) → word_numbers r v p n j used log ≡ word_numbers r v p n k used log
  unfolding word_numbers
  word_needless v p n = waiting_needless v.waiting v p n

module _ (r : ℕ) (h : r ≡ log_full → ⊥) (j k : ℕ) (main : List ℕ) (s : State) (log : List ℕ) where
  unit_needless : (a : ℕ) → unit_numbers r j main a s log ≡ unit_numbers r k main a s log
  unit_needless a = word_needless r h j k s.used log (held_by (fed_unit s) s) s.path2 (incoming_at main a)

  payload_needless : (at : ℕ) → payload_numbers r j main at s log ≡ payload_numbers r k main at s log
  unfolding payload_numbers
  payload_needless at = rw (quadword_needless r h j k s.used log s.path3, unit_needless at)

  payload_or_tag_needless : (p : Payload) → payload_or_tag_numbers p r j main s log ≡ payload_or_tag_numbers p r k main s log
  payload_or_tag_needless NoPayload = refl
  payload_or_tag_needless (Words at n) = rw (payload_needless at)

  pending_needless : (t : Option ℕ) (p : Payload) → pending_numbers t p r j main s log ≡ pending_numbers t p r k main s log
  pending_needless None p = payload_or_tag_needless p
  pending_needless (Some a) p = unit_needless a

  pub next_needless : next_numbers r j main s log ≡ next_numbers r k main s log
  unfolding next_numbers
  next_needless = pending_needless s.tags s.payload
