-- The tags of a sheet's chain.
use Rattle.std.specs.Prelude.{None, Option}
use mathlib.Core.Path.{◌≡◌, ◌∙◌}
use mathlib.Core.Bool.{true, false}
use mathlib.Core.List.{List}
use Prim.Native.Nat.{ℕ, ◌+◌, ◌*◌, ◌/◌, ◌%◌, ◌<◌, ◌≤◌}
use native.Mathlib.Omega.{arith}
use borrow.Author.Tests.{ne_eqb, le-ltb}
use lib.ListN.{length}
use Rattle.fields.specs.Fields.{if, bits}
use Rattle.vif_codes.specs.declared.Waiting.TheVariants.{Nothing}
use Rattle.memories.specs.Lengths.{Lent}
use Rattle.fields.specs.Counts.{one_tag}
use Rattle.chain_state.specs.declared.Payload.{Payload}
use Rattle.chain_state.specs.declared.Payload.TheVariants.{Nothing as NoPayload}
use Rattle.chain.specs.StepAnswer.{Completed, StateStepped}
use Rattle.chain_state.specs.declared.State.{State}
use Rattle.fields.specs.Memory.{long_at}
use Rattle.chain_state.specs.Setters.{with_tag}
use Rattle.chain.specs.Tags.{qwc_of, id_of, addr_of, spr_of, uses_addr, payload_at, next_tadr, ends_chain, next_stack, tag_words_of, payload_of, tag_refusal, tag_state, completed_result, tag_read, tag_step}
use Rattle.chain.specs.Step.{stepped, stepped_by, pending_or_tag, step_of}
use Rattle.chain.specs.Run.{done}
use Rattle.conformance.proofs.FeedLaws.{pending, pending_some}

-- a state at a tag of a sheet's chain: nothing waits, nothing is pending, path 2 is idle
pub record IdleAt (a : ℕ) (s : State) : Type 0 where
  pub channel : s.channel ≡ 1
  pub tadr : s.tadr ≡ a
  pub tte : s.tte ≡ false
  pub ended : s.ended ≡ false
  pub tags : s.tags ≡ None
  pub payload : s.payload ≡ NoPayload
  pub waiting : s.vif1.waiting ≡ Nothing
  pub row : length s.vif1.row ≡ 4
  pub path_idle : s.path2.place ≡ None

-- the fields of a tag with an ID and QWC, the rest 0
module _ (id q : ℕ) (few : q < 65536) (known : id < 8) where
  tag_qwc : qwc_of (id * 268435456 + q) ≡ q
  unfolding bits
  tag_qwc = omega arith

  tag_id : id_of (id * 268435456 + q) ≡ id
  unfolding bits
  tag_id = omega arith

  tag_addr : addr_of (id * 268435456 + q) ≡ 0
  unfolding bits
  tag_addr = omega arith

  tag_spr : spr_of (id * 268435456 + q) ≡ false
  unfolding bits
  tag_spr = ne_eqb ((id * 268435456 + q) / 9223372036854775808 % 2) 1 (λ e. omega arith)

  -- such a tag's step
  tag_taken : (size : ℕ) (s : State) → tag_refusal size s.tadr id 0 false q s.stack ≡ 0
      → tag_read size (id * 268435456 + q) s ≡ completed_result false (one_tag id q) (tag_state id 0 q s)
  unfolding tag_read if
  tag_taken size s h = rw (tag_id, tag_addr, tag_spr, tag_qwc, h)

-- where nothing is pending, the step is a tag's
no_pending : {t : Option ℕ} {p : Payload} → t ≡ None → p ≡ NoPayload → (main : List ℕ) (s : State) (m : Lent)
    → pending_or_tag t p main s m ≡ stepped_by (tag_step main s) m
no_pending e q main s m = rw (e, q)

-- a tag by its address
tag_at : {d a : ℕ} → d ≡ a → (main : List ℕ) (s : State) (m : Lent) {x : StateStepped} → tag_read (length main) (long_at main a) s ≡ x
    → stepped_by (tag_read (length main) (long_at main d) s) m ≡ stepped_by x m
tag_at e main s m h = rw (e, h)

module _ (main : List ℕ) (a : ℕ) (s : State) (m : Lent) (i : IdleAt a s) where
  pub idle_going : done s ≡ false
  unfolding done
  idle_going = rw i.ended

  tag_is_read : (id q : ℕ) → q < 65536 → id < 8 → long_at main a ≡ id * 268435456 + q → tag_refusal (length main) s.tadr id 0 false q s.stack ≡ 0
      → step_of main s m ≡ stepped (Completed false) (one_tag id q) (tag_state id 0 q s) m
  unfolding step_of
  tag_is_read id q few known e h =
      no_pending i.tags i.payload main s m
      ∙ tag_at i.tadr main s m {x = completed_result false (one_tag id q) (tag_state id 0 q s)} (rw e (tag_taken id q few known (length main) s h))

  -- a cnt tag: its payload is pending, and the next tag is after it
  pub cnt_step : (q : ℕ) → 1 ≤ q → q < 65536 → long_at main a ≡ 268435456 + q → a + 16 + 16 * q ≤ length main
      → step_of main s m ≡ stepped (Completed false) (one_tag 1 q) (with_tag s (a + 16 + 16 * q) false s.stack None (pending (a + 16) (4 * q))) m
  unfolding tag_state tag_refusal uses_addr payload_at next_tadr ends_chain next_stack tag_words_of payload_of if
  cnt_step q some few e room =
      tag_is_read 1 q few (omega arith) e (rw (i.tadr, le-ltb (length main) (a + 16) (omega arith), ne_eqb q 0 (λ z. omega arith), le-ltb (length main) (a + 16 + 16 * q) room))
      ∙ rw (i.tadr, i.tte, ne_eqb q 0 (λ z. omega arith), pending_some (a + 16) (4 * q) (omega arith))

  -- the end tag: the chain has ended
  pub end_step : long_at main a ≡ 1879048192 → a + 16 ≤ length main
      → step_of main s m ≡ stepped (Completed false) (one_tag 7 0) (with_tag s a true s.stack None NoPayload) m
  unfolding tag_state tag_refusal uses_addr payload_at next_tadr ends_chain next_stack tag_words_of payload_of if
  end_step e room =
      tag_is_read 7 0 (omega arith) (omega arith) e (rw (i.tadr, le-ltb (length main) (a + 16) room))
      ∙ rw (i.tadr, i.tte)
