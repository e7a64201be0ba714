-- The reason from what its parts give; what holds at the case that an arm knows holds at the value itself.
use Rattle.std.specs.Prelude.{Option}
use mathlib.Core.Path.{◌≡◌, sym, ◌∙◌}
use mathlib.Core.Bool.{true, false}
use mathlib.Core.List.{List}
use Prim.Native.Nat.{ℕ, ◌+◌, ◌*◌, ◌<◌, ◌≤◌}
use native.Mathlib.Omega.{arith}
use borrow.Author.Tests.{lt-ltb, le-ltb, eq-eqb, ne_eqb}
use lib.ListN.{length}
use Rattle.fields.specs.Fields.{if}
use Rattle.fields.specs.Refusals.{log_full}
use Rattle.gif.specs.Log.{entry_size, lacks_room}
use Rattle.memories.specs.Lengths.{Lent}
use Rattle.chain_state.specs.declared.Payload.{Payload}
use Rattle.chain_state.specs.declared.State.{State}
use Rattle.chain_state.specs.Range.{entry_refusal}
use Rattle.chain.specs.Run.{done}
use Rattle.gif_reason.specs.declared.Numbers.{Numbers}
use Rattle.gif_reason.specs.Reason.{free_entries}
use Rattle.diagnosis.specs.Reason.{Reason, Entry, Ended}
use Rattle.diagnosis.specs.Inner.{Trial, Needs}
use Rattle.diagnosis.specs.Inner.{Outlook}
use Rattle.diagnosis.specs.Inner.{Clear, Refuses}
use Rattle.diagnosis.specs.Why.{payload_or_tag_numbers, pending_numbers, why_of}
use Rattle.diagnosis.specs.Inner.{roomed, told_by, Tried}

pub by_tags : {t u : Option ℕ} → t ≡ u → (p : Payload) (r needed : ℕ) (main : List ℕ) (s : State) (log : List ℕ) {x : Numbers}
    → x ≡ pending_numbers u p r needed main s log → x ≡ pending_numbers t p r needed main s log
by_tags e p r needed main s log h = rw e h

module _ (log : List ℕ) (used k : ℕ) (h : entry_size * used ≤ length log) {free : ℕ} (e : free ≡ free_entries log used) where
  pub room_lacking : free < k → Refuses log_full k ≡ roomed (Needs k) log used
  unfolding lacks_room free_entries if
  room_lacking l = rw (lt-ltb (length log) (entry_size * (used + k)) (omega (arith, e)))

  pub room_enough : k ≤ free → Clear ≡ roomed (Needs k) log used
  unfolding lacks_room free_entries if
  room_enough l = rw (le-ltb (length log) (entry_size * (used + k)) (omega (arith, e)))

module _ (main : List ℕ) (s : State) (m : Lent) {n : ℕ} (e : n ≡ entry_refusal main m s) where
  pub why_entry : (n ≡ 0 → ⊥) → Entry n ≡ why_of main s m
  unfolding why_of if
  why_entry z = rw (← e, ne_eqb n 0 z)

  pub why_ended : n ≡ 0 → done s ≡ true → Ended ≡ why_of main s m
  unfolding why_of if
  why_ended z d = rw (← e, eq-eqb n 0 z, d)

  pub why_told : n ≡ 0 → done s ≡ false → {t : Trial} → Tried main s t → {o : Outlook} → o ≡ roomed t m.log s.used → {r : Reason}
      → r ≡ told_by o main s m.log → r ≡ why_of main s m
  unfolding why_of if
  why_told z d t eo er = rw (← e, eq-eqb n 0 z, d) (er ∙ rw eo (t.tells m (sym e ∙ z) d))
