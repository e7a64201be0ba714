-- What is shown, by cases.
use Rattle.std.specs.Prelude.{◌≡◌, ℕ, Bool, true, false, List, Some, None}
use Rattle.std.proofs.Common.{◌∙◌}
use Rattle.fields.specs.Fields.{if}
use Rattle.chain_state.specs.declared.State.{State}
use Rattle.state_block.specs.Read.{known_state}
use Rattle.state_block.specs.StateBlock.{state_block, state_in_block}
use Rattle.state_block.proofs.WordLaws.{then_is, then_none}
use Rattle.blocks.specs.Shown.{shown_block}

module _ (b : List ℕ) (s : State) where
  pub shown_known : {t : State} {x : List ℕ} → Some t ≡ known_state (state_in_block b) → x ≡ state_block s → x ≡ shown_block b s
  unfolding shown_block if
  shown_known e g = g ∙ rw (then_is _ _ _ e).0

  pub shown_unknown : None ≡ known_state (state_in_block b) → b ≡ shown_block b s
  unfolding shown_block if
  shown_unknown e = rw (then_none _ _ e)
