-- The fact speaks of something: a history of several runs, one stopped and two refused. By computation.
use mathlib.Core.Path.{◌≡◌, refl}
use mathlib.Core.Bool.{false}
use mathlib.Core.List.{[], ◌∷◌}
use Rattle.fields.specs.Fields.{if, bits, quadword}
use Rattle.fields.specs.Counts.{one_if, qwc_under}
use Rattle.fields.specs.Memory.{word_at, long_at}
use Rattle.gif.specs.Log.{logged, lacks_room, log_refused}
use Rattle.gif.specs.Tag.{format_of, nreg_of, quadwords_of as gifQuadwordsOf, tag_of, place_at_tag, tag_closes, tag_writes}
use Rattle.gif.specs.Step.{commit, tag_step, gif_step}
use Rattle.memories.specs.Lengths.{lent, lengths_refusal}
use Rattle.vif_codes.specs.Codes.{direct_quadwords, missing_code, plain_code, unpack_numbers, code_of, decode_of}
use Rattle.vif_codes.specs.Range.{registers_in_range, waiting_in_range, unit_in_range}
use Rattle.vif_codes.specs.Words.{incoming_at}
use Rattle.vif.specs.Step.{code_step, vif_step}
use Rattle.chain_state.specs.Pending.{payload_pending, payload_after}
use Rattle.chain_state.specs.Range.{unit_of, channel_in_range, start_in_range, stack_in_range, tags_in_range, words_in_range, payload_in_range, state_in_range, main_refused, tags_inside, payload_inside, entry_refusal}
use Rattle.chain.specs.Tags.{next_stack, uses_addr, payload_at as placed_at, next_tadr, ends_chain, tag_words_of, payload_of, tag_refusal, tag_state, tag_read}
use Rattle.chain_state.specs.Start.{reset_state, start_of}
use Rattle.chain.specs.Step.{vif_given, gif_given, payload_step, step_of}
use Rattle.chain.specs.Run.{done, steps_of, run_of}
use Rattle.totals.specs.Totals.{no_totals, passes, any_passes, numbers_of, add_of}
use Rattle.history.specs.Trace.{tag, payload, payload_at, event_of, steps_trace, trace_of}
use Rattle.history.specs.History.{History, begins, runs}
use Rattle.history.specs.Totalled.{Totalled, begins as begins-total, runs as runs-total}
use Rattle.history.specs.Example.{bytes, blank, first, second, third, taken, totals_after, gif_bytes, gif_run}

vif_open : Unit {0}
unfolding direct_quadwords missing_code plain_code unpack_numbers code_of decode_of registers_in_range waiting_in_range unit_in_range code_step vif_step incoming_at
vif_open = tt

chain_open : Unit {0}
unfolding one_if qwc_under word_at long_at log_refused payload_after unit_of channel_in_range start_in_range stack_in_range tags_in_range words_in_range payload_in_range state_in_range main_refused tags_inside payload_inside lengths_refusal entry_refusal uses_addr placed_at next_tadr next_stack ends_chain tag_words_of payload_of tag_refusal tag_state tag_read reset_state start_of vif_given gif_given payload_step step_of done steps_of run_of
chain_open = tt

gif_open : Unit {0}
unfolding logged lacks_room format_of nreg_of gifQuadwordsOf tag_of place_at_tag tag_closes tag_writes commit tag_step gif_step
gif_open = tt

opened : Unit {0}
unfolding vif_open chain_open gif_open passes any_passes if bits quadword payload_at event_of steps_trace trace_of first second third
opened = tt

begun : History bytes [] (start_of reset_state 1 0 false).state
unfolding opened
begun = begins reset_state 1 0 false refl

-- the history of the three runs
several_runs : History bytes taken third.after.state
unfolding first second third
several_runs = runs (lent [] [] []) 9 (runs first.after.memories 9 (runs blank 2 begun))

-- the first was stopped by its allowance, the second refused at a step and the third at its entry
pub answers : (first.number ≡ 90) × (second.number ≡ 20) × (third.number ≡ 2)
unfolding opened
answers = (refl, refl, refl)

-- a tag with QWC 1 was read and two words of its payload taken; two are pending
pub events : taken ≡ tag 0x1000_0001 ∷ payload 1 ∷ payload 1 ∷ []
unfolding opened
events = refl

pub pending : payload_pending third.after.state.payload ≡ 2
unfolding opened
pending = refl

pub not_empty : History bytes (tag 0x1000_0001 ∷ payload 1 ∷ payload 1 ∷ []) third.after.state
not_empty = rw (← events) several_runs

-- and with totals: one QWC under ID 1, two VIF words, both NOPs
pub not_empty_totals : Totalled bytes no_totals taken totals_after third.after.state
unfolding opened totals_after add_of
not_empty_totals =
    runs-total (lent [] [] []) 9 (runs-total first.after.memories 9 (runs-total blank 2 (begins-total reset_state 1 0 false refl) refl) refl) refl

pub totals_are : numbers_of totals_after ≡ 0 ∷ 2 ∷ 2 ∷ 0 ∷ 1 ∷ 0 ∷ 0 ∷ 0 ∷ 0 ∷ 0 ∷ 0 ∷ []
unfolding opened totals_after add_of
totals_are = refl

-- on channel 2, of two quadwords one is taken, which counts four words, and four are pending
pub gif_events : (trace_of gif_bytes 2 (start_of reset_state 2 0 false).state blank ≡ tag 0x1000_0002 ∷ payload 4 ∷ []) × (payload_pending gif_run.after.state.payload ≡ 4)
unfolding opened gif_run
gif_events = (refl, refl)
