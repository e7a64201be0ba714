-- The numbers that a run is refused with: those of document 01's chapter "Refusal numbers" and of the requests that add to it.
use Rattle.std.specs.Prelude.{ℕ}
use Rattle.fields.specs.Refusals.{main_length, data_length, code_length, log_length, out_of_range, payload_outside, tadr_outside, addr_unaligned, scratchpad_set, stack_full, cmd_unlisted, format_missing, cycle_wrong, mode_wrong, direct_unaligned, mpg_unaligned, tops_missing, log_full, descriptor_b}

-- "Entry, in this order, zero steps": 1, 2, 3, 4, 5, and 14 for pending words outside this main memory
pub data EntryNumber : ℕ → Type 0 where
  main_1 : EntryNumber main_length
  mem_2 : EntryNumber data_length
  code_3 : EntryNumber code_length
  log_4 : EntryNumber log_length
  range_5 : EntryNumber out_of_range
  pending_14 : EntryNumber payload_outside

-- "Tag step, in order": 10 to 14
pub data TagNumber : ℕ → Type 0 where
  tadr_10 : TagNumber tadr_outside
  unaligned_11 : TagNumber addr_unaligned
  scratchpad_12 : TagNumber scratchpad_set
  stack_13 : TagNumber stack_full
  payload_14 : TagNumber payload_outside

-- "GIF step: 30 descriptor B met at its data, PACKED or REGLIST; then 31, where the step's writes don't all fit."
pub data GifNumber : ℕ → Type 0 where
  descriptor_30 : GifNumber descriptor_b
  log_31 : GifNumber log_full

-- "VIF step": 20 to 24 and 31, request 5's 25 and request 10's 26; inside DIRECT the GIF's
pub data VifNumber : ℕ → Type 0 where
  cmd_20 : VifNumber cmd_unlisted
  format_21 : VifNumber format_missing
  cycle_22 : VifNumber cycle_wrong
  mode_23 : VifNumber mode_wrong
  direct_24 : VifNumber direct_unaligned
  mpg_25 : VifNumber mpg_unaligned
  tops_26 : VifNumber tops_missing
  start_31 : VifNumber log_full
  of_gif : {n : ℕ} → GifNumber n → VifNumber n

-- a step's, by what it is
pub data StepNumber : ℕ → Type 0 where
  of_tag : {n : ℕ} → TagNumber n → StepNumber n
  of_word : {n : ℕ} → VifNumber n → StepNumber n
  of_quadword : {n : ℕ} → GifNumber n → StepNumber n

-- a run's
pub data RunNumber : ℕ → Type 0 where
  of_entry : {n : ℕ} → EntryNumber n → RunNumber n
  of_step : {n : ℕ} → StepNumber n → RunNumber n
