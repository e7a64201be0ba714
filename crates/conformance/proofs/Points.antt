-- Document 01: "Points marked (P) are proved as one table under one statement." By computation.
use mathlib.Core.Path.{◌≡◌, refl}
use lib.ListN.{drop}
use Rattle.fields.specs.Fields.{if, bits, quadword}
use Rattle.gif.specs.Log.{logged, lacks_room, log_refused}
use Rattle.gif.specs.Packed.{packed_writes, packed_q}
use Rattle.gif.specs.Tag.{format_of, nreg_of, quadwords_of as gifQuadwordsOf, tag_of, taken_of, descriptor_at, place_after, place_at_tag, tag_closes, data_closes, tag_writes}
use Rattle.gif.specs.Reglist.{reglist_write, reglist_refused, reglist_writes}
use Rattle.fields.specs.Counts.{one_if, qwc_under}
use Rattle.gif.specs.Step.{commit, tag_step, packed_with, reglist_step, image_step, gif_step}
use Rattle.unpack_rules.specs.Formats.{named_in}
use Rattle.unpack_rules.specs.Mask.{row_of_cycle, code_at, mask_of}
use Rattle.unpack_rules.specs.Payload.{vector_bits, payload_words, whole_vectors}
use Rattle.unpack_rules.specs.Position.{fills, vectors_before, writes_done, position_of}
use Rattle.unpack_rules.specs.Range.{cycle_refused}
use Rattle.unpack_rules.specs.Vector.{extended, element, fields_of, five_fields, vector_at}
use Rattle.unpack_rules.specs.Write.{added, row_of, data_of, field_of, rows_after, put_field, written_at, write_vector, registers_at, write_at, writes_from}
use Rattle.unpack_rules.specs.Step.{count_of, unpacking_of, taken_words, acting, held_vector, done_after, word_of, unfed_writes, unpack_word}
use Rattle.memories.specs.Lengths.{lengths_refusal}
use Rattle.vif_codes.specs.Codes.{direct_quadwords as directQuadwordsOf, missing_code, plain_code, unpack_numbers, code_of, decode_of}
use Rattle.vif_codes.specs.Execute.{next_tops, start_program, set_mode, begin_mpg, address_of, unpack_refusal, begin_unpack}
use Rattle.vif_codes.specs.Payload.{completes, or_nothing, word_place, mpg_stored}
use Rattle.vif_codes.specs.Range.{registers_in_range, waiting_in_range, unit_in_range, direct_in_range, up_to}
use Rattle.gif.specs.Range.{tag_in_range}
use Rattle.vif.specs.Step.{code_step, give_quadword, mpg_refused, mpg_step, unpack_step, vif_step}
use Rattle.fields.specs.Memory.{word_at, long_at}
use Rattle.vif_codes.specs.Words.{incoming_at}
use Rattle.chain_state.specs.Pending.{tags_after, payload_after}
use Rattle.chain_state.specs.Range.{unit_of, channel_in_range, start_in_range, stack_in_range, tags_in_range, payload_in_range, state_in_range, main_refused, tags_inside, payload_inside, entry_refusal, words_in_range}
use Rattle.chain.specs.Tags.{next_stack, uses_addr, payload_at, next_tadr, ends_chain, tag_words_of, payload_of, tag_refusal, tag_state, tag_read}
use Rattle.chain_state.specs.Start.{reset_state, start_of}
use Rattle.chain.specs.Step.{vif_given, gif_given, payload_step, step_of}
use Rattle.chain.specs.Run.{done, steps_of, run_of}
use Rattle.console.specs.Register.{is_waiting, number_set, set_of}
use Rattle.sheet.specs.Records.{zeros_at, pads_zero}
use Rattle.sheet.specs.Reader.{marked, kind_of, row_refusal, record_refusal, reading_at, records_from, contents_from}
use Rattle.sheet.specs.Items.{repeated, expanded_item}
use Rattle.sheet.specs.Groups.{opens_kind, starts_second, opens_group, group_refusal, header_at, members_from, group_from, item_at}
use Rattle.sheet.specs.Editions.{items_from, expansion_from, limited, edition_refusal, second_of, contents_of}
use Rattle.sheet.specs.Sizes.{sheet_steps}
use Rattle.sheet.specs.Layout.{laid_out, chain_of}
use Rattle.sheet.specs.Build.{build_of}
use Rattle.conformance.specs.Demand.{records_of}
use Rattle.conformance.specs.Points.{AllHold, run_in, run_of_words, built_fresh, size_of, chain_bytes, words_at, chain_words, run_of_sheet, steps_for, logged_in, quadword_in, instruction_in, all_zero, parts_written, quadwords_from, instructions_from, due_in, row_in, answer_in, run_of_vif0, answers_to, program_start, started_in, tag_transferred, run_on7, left0, left1, run_from, second, third, played_from0, tag_upload, upload_across_tags, resumed, drawn, drawn_by, packets_in, counted_in, seven_ids, refused_tag, stopped_at, resumed_at, mixed1, mixed2, mixed0, log_of, overflowing, preset, masked, answer_to_set, points, request_points}
use Rattle.conformance.specs.Play.{play_refusal, play_of}

-- ---- the definitions that the table computes through

gif_open : Unit {0}
unfolding one_if logged lacks_room log_refused packed_writes packed_q format_of nreg_of gifQuadwordsOf tag_of taken_of descriptor_at place_after place_at_tag tag_closes data_closes tag_writes reglist_write reglist_refused reglist_writes commit tag_step packed_with reglist_step image_step gif_step
gif_open = tt

unpack_open : Unit {0}
unfolding row_of_cycle code_at mask_of vector_bits payload_words whole_vectors fills vectors_before writes_done position_of extended element fields_of five_fields vector_at added row_of data_of field_of rows_after put_field written_at write_vector registers_at write_at writes_from count_of unpacking_of taken_words acting held_vector done_after word_of unfed_writes unpack_word
unpack_open = tt

vif_open : Unit {0}
unfolding directQuadwordsOf missing_code plain_code named_in unpack_numbers code_of decode_of start_program set_mode begin_mpg address_of cycle_refused unpack_refusal begin_unpack completes or_nothing word_place mpg_stored registers_in_range waiting_in_range unit_in_range code_step give_quadword mpg_refused mpg_step unpack_step vif_step
vif_open = tt

chain_open : Unit {0}
unfolding word_at long_at incoming_at payload_after unit_of channel_in_range start_in_range stack_in_range tags_in_range payload_in_range state_in_range main_refused tags_inside payload_inside lengths_refusal entry_refusal uses_addr payload_at next_tadr ends_chain tag_words_of payload_of tag_refusal tag_state tag_read reset_state start_of vif_given gif_given payload_step step_of done steps_of run_of
chain_open = tt

sheet_open : Unit {0}
unfolding zeros_at pads_zero marked kind_of row_refusal record_refusal reading_at records_from contents_from opens_kind starts_second contents_of sheet_steps laid_out chain_of build_of
sheet_open = tt

groups_open : Unit {0}
unfolding second_of edition_refusal limited expansion_from items_from item_at group_from members_from header_at group_refusal opens_group repeated expanded_item
groups_open = tt

bench_open : Unit {0}
unfolding records_of run_in run_of_words built_fresh size_of chain_bytes words_at chain_words run_of_sheet steps_for logged_in quadword_in instruction_in all_zero parts_written quadwords_from instructions_from due_in row_in answer_in run_of_vif0 answers_to started_in tag_transferred run_on7 run_from second third play_refusal play_of played_from0 tag_upload upload_across_tags resumed drawn drawn_by packets_in counted_in seven_ids refused_tag stopped_at resumed_at mixed1 mixed2 mixed0 log_of overflowing preset masked answer_to_set
bench_open = tt

opened : Unit {0}
unfolding bench_open sheet_open chain_open vif_open unpack_open gif_open if bits quadword points
opened = tt

-- ---- the table, from its end up: a lemma takes the points of one line of document 01 in front of those after it

-- "MPG at 2,047"
mpg : AllHold (drop 25 points)
unfolding opened
mpg = (refl, (refl, (refl, tt)))

-- "CL 4, WL 2, NUM 4, A 0", "CL 2, WL 3"
cycle : AllHold (drop 20 points)
unfolding opened
cycle = (refl, (refl, (refl, (refl, (refl, mpg)))))

-- "MODE 2"
mode : AllHold (drop 18 points)
unfolding opened
mode = (refl, (refl, cycle))

-- "V4-5 FFFF"
five_bits_lem : AllHold (drop 17 points)
unfolding opened
five_bits_lem = (refl, mode)

-- "V3-8, NUM 5", "V4-32, NUM 0"
words : AllHold (drop 15 points)
unfolding opened
words = (refl, (refl, five_bits_lem))

-- "S-8 byte FF"
byte : AllHold (drop 13 points)
unfolding opened
byte = (refl, (refl, words))

-- "Kind 3, n 1"
gs_record : AllHold (drop 11 points)
unfolding opened
gs_record = (refl, (refl, byte))

-- "Kind 1 at 1,023, n 2"
data_record : AllHold (drop 6 points)
unfolding opened
data_record = (refl, (refl, (refl, (refl, (refl, gs_record)))))

-- "9E 51 04 00 05 00"
start_record : AllHold (drop 3 points)
unfolding opened
start_record = (refl, (refl, (refl, data_record)))

-- every bench point marked (P) holds
pub points_hold : AllHold points
unfolding opened
points_hold = (refl, (refl, (refl, start_record)))

-- ---- document 02's requests

requests_opened : Unit {0}
unfolding opened request_points
requests_opened = tt

-- request 14
counts : AllHold (drop 58 request_points)
unfolding requests_opened tags_after next_stack words_in_range qwc_under
counts = (refl, (refl, (refl, (refl, (refl, (refl, (refl, tt)))))))

-- request 12
groups : AllHold (drop 55 request_points)
unfolding requests_opened groups_open
groups = (refl, (refl, (refl, counts)))

-- request 7
sets : AllHold (drop 53 request_points)
unfolding requests_opened is_waiting number_set set_of
sets = (refl, (refl, groups))

-- request 9
stops : AllHold (drop 51 request_points)
unfolding requests_opened next_stack words_in_range direct_in_range up_to tag_in_range
stops = (refl, (refl, sets))

-- request 11
paths : AllHold (drop 45 request_points)
unfolding requests_opened next_stack
paths = (refl, (refl, (refl, (refl, (refl, (refl, stops))))))

-- request 1
packets : AllHold (drop 38 request_points)
unfolding requests_opened
packets = (refl, (refl, (refl, (refl, (refl, (refl, (refl, paths)))))))

-- request 5
uploads : AllHold (drop 29 request_points)
unfolding requests_opened tags_after words_in_range up_to
uploads = (refl, (refl, (refl, (refl, (refl, (refl, (refl, (refl, (refl, packets)))))))))

-- request 10
vif0 : AllHold (drop 16 request_points)
unfolding requests_opened tags_after
vif0 = (refl, (refl, (refl, (refl, (refl, (refl, (refl, (refl, (refl, (refl, (refl, (refl, (refl, uploads)))))))))))))

-- request 3, what fills write and how much payload they leave
fills_hold : AllHold (drop 12 request_points)
unfolding requests_opened
fills_hold = (refl, (refl, (refl, (refl, vif0))))

-- channels 0, 1 and 2 in turn: each run ends in the state in which the next begins
pub capture_states : ((run_of_vif0 1 program_start).after.state ≡ left0) × (second.after.state ≡ left1)
unfolding requests_opened next_stack next_tops
capture_states = (refl, refl)

-- every point of a request holds
pub request_points_hold : AllHold request_points
unfolding requests_opened
request_points_hold = (refl, (refl, (refl, (refl, (refl, (refl, (refl, (refl, (refl, (refl, (refl, (refl, fills_hold))))))))))))
