-- Every refusal is reached. By computation.
use mathlib.Core.Path.{refl}
use Rattle.fields.specs.Fields.{if, bits, quadword}
use Rattle.fields.specs.Memory.{word_at, long_at}
use Rattle.gif.specs.Log.{logged, lacks_room, log_refused}
use Rattle.gif.specs.Packed.{packed_writes, packed_q}
use Rattle.gif.specs.Tag.{format_of, nreg_of, quadwords_of as gifQuadwordsOf, tag_of, taken_of, descriptor_at, place_after, place_at_tag, tag_closes, data_closes, tag_writes}
use Rattle.gif.specs.Range.{tag_in_range}
use Rattle.gif.specs.Reglist.{reglist_write, reglist_refused, reglist_writes}
use Rattle.gif.specs.Step.{commit, tag_step, packed_with, reglist_step, image_step, gif_step}
use Rattle.unpack_rules.specs.Formats.{named_in}
use Rattle.unpack_rules.specs.Range.{cycle_refused}
use Rattle.memories.specs.Lengths.{lengths_refusal}
use Rattle.vif_codes.specs.Codes.{direct_quadwords as directQuadwordsOf, missing_code, plain_code, unpack_numbers, code_of, decode_of}
use Rattle.vif_codes.specs.Execute.{start_program, set_mode, unpack_refusal, begin_unpack}
use Rattle.vif_codes.specs.Payload.{completes, or_nothing}
use Rattle.vif_codes.specs.Range.{registers_in_range, waiting_in_range, unit_in_range, direct_in_range, up_to}
use Rattle.vif_codes.specs.Words.{incoming_at}
use Rattle.vif.specs.Step.{code_step, give_quadword, mpg_refused, mpg_step, vif_step}
use Rattle.chain_state.specs.Pending.{tags_after, payload_after}
use Rattle.chain_state.specs.Range.{unit_of, channel_in_range, start_in_range, entry_in_range, stack_in_range, tag_word_in_range, tags_in_range, words_in_range, payload_in_range, state_in_range, main_refused, tags_inside, payload_inside, entry_refusal}
use Rattle.chain.specs.Tags.{uses_addr, payload_at, tag_refusal, tag_state, tag_read}
use Rattle.chain.specs.Step.{vif_given, gif_given, payload_step, step_of}
use Rattle.chain.specs.Run.{done}
use Rattle.gif_reason.specs.Reason.{free_entries, quadword_writes, quadword_numbers}
use Rattle.gif.specs.Met.{reglist_met, met_descriptor}
use Rattle.vif_reason.specs.Reason.{code_numbers, word_numbers, word_needs}
use Rattle.chain_reason.specs.Reason.{most_fits, read_numbers, next_place}
use Rattle.diagnosis.specs.Why.{payload_numbers, next_numbers, payload_needs, next_needs, why_of}
use Rattle.diagnosis.specs.Points.{AllHold, memory, points}

gif_open : Unit {0}
unfolding logged lacks_room log_refused packed_writes packed_q format_of nreg_of gifQuadwordsOf tag_of taken_of descriptor_at place_after place_at_tag tag_closes data_closes tag_writes tag_in_range reglist_write reglist_refused reglist_writes commit tag_step packed_with reglist_step image_step gif_step free_entries quadword_writes reglist_met met_descriptor quadword_numbers
gif_open = tt

vif_open : Unit {0}
unfolding named_in cycle_refused directQuadwordsOf missing_code plain_code unpack_numbers code_of decode_of start_program set_mode unpack_refusal begin_unpack completes or_nothing registers_in_range waiting_in_range unit_in_range direct_in_range up_to code_step give_quadword mpg_refused mpg_step vif_step incoming_at code_numbers word_numbers word_needs
vif_open = tt

chain_open : Unit {0}
unfolding word_at long_at lengths_refusal tags_after payload_after unit_of channel_in_range start_in_range entry_in_range stack_in_range tag_word_in_range tags_in_range words_in_range payload_in_range state_in_range main_refused tags_inside payload_inside entry_refusal uses_addr payload_at tag_refusal tag_state tag_read vif_given gif_given payload_step step_of done most_fits read_numbers next_place
chain_open = tt

-- every point of the table holds
pub points_hold : AllHold points
unfolding gif_open vif_open chain_open if bits quadword payload_numbers next_numbers payload_needs next_needs why_of memory points
points_hold = (refl, (refl, (refl, (refl, (refl, (refl, (refl, (refl, (refl, (refl, (refl, (refl, (refl, (refl, (refl, (refl, (refl, (refl, (refl, (refl, (refl, (refl, (refl, (refl, (refl, tt)))))))))))))))))))))))))
