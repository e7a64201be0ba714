-- The refusals' numbers, in document 01's order, and the two answers of a run that are neither done nor a refusal.
use Rattle.std.specs.Prelude.{ℕ, Result, Ok, Err}
use Rattle.fields.specs.declared.refusals.Refusal.{Refusal}
use Rattle.fields.specs.declared.refusals.Refusal.TheVariants.{MainLength, DataLength, CodeLength, LogLength, OutOfRange, TadrOutside, AddrUnaligned, ScratchpadSet, StackFull, PayloadOutside, CmdUnlisted, FormatMissing, CycleWrong, ModeWrong, DirectUnaligned, MpgUnaligned, TopsMissing, DescriptorB, LogFull, MarkWrong, KindWrong, CountWrong, AddressWrong, RecordCut, PadWrong, SheetLong, OutputShort, ChainLong, NumberMissing, CodeWaits, GroupDeep, TotalFull, KeptExceed, RangesExceed}

-- ---- "Entry, in this order"

-- "1 main memory length 0, not a multiple of 16 or above 1,048,576"
abbrev pub main_length : ℕ
main_length = 1

-- "2 data memory not 4,096 words"; request 10: "2 and 3 test VIF0's sizes on channel 0, else VIF1's"
abbrev pub data_length : ℕ
data_length = 2

-- "3 code memory not 16,384 bytes"; the same of request 10
abbrev pub code_length : ℕ
code_length = 3

-- "4 log length ...", of which request 11 says: "4 now means a length not a multiple of 3, above 196,608 numbers, or below three times the entries used"
abbrev pub log_length : ℕ
log_length = 4

-- "5 a state or start value outside the range of its field"
abbrev pub out_of_range : ℕ
out_of_range = 5

-- "14 pending words outside this main memory"; tag step: "14 payload outside memory"
abbrev pub payload_outside : ℕ
payload_outside = 14

-- ---- "Tag step, in order"

-- "10 TADR outside memory"
abbrev pub tadr_outside : ℕ
tadr_outside = 10

-- "11 used ADDR not a multiple of 16"
abbrev pub addr_unaligned : ℕ
addr_unaligned = 11

-- "12 SPR set with a used ADDR"
abbrev pub scratchpad_set : ℕ
scratchpad_set = 12

-- "13 call with two on the stack"
abbrev pub stack_full : ℕ
stack_full = 13

-- ---- "VIF step"

-- "20 CMD not listed"
abbrev pub cmd_unlisted : ℕ
cmd_unlisted = 20

-- "21 vl 3 with vn below 3"
abbrev pub format_missing : ℕ
format_missing = 21

-- "22 UNPACK with WL 0 or WL > CL", of which request 3 says: "22 remains for WL 0 only, in its old place."
abbrev pub cycle_wrong : ℕ
cycle_wrong = 22

-- "23 STMOD 3"
abbrev pub mode_wrong : ℕ
mode_wrong = 23

-- "24 DIRECT payload due and the next word isn't word 0"
abbrev pub direct_unaligned : ℕ
direct_unaligned = 24

-- request 5: "25, VIF step, when the first MPG payload word is due and the next word is word 1 or 3; after 24"
abbrev pub mpg_unaligned : ℕ
mpg_unaligned = 25

-- request 10: "26 for UNPACK with IMM bit 15 on VIF0, after 22"
abbrev pub tops_missing : ℕ
tops_missing = 26

-- "31 log lacks room", of a VIF step and of a GIF step
abbrev pub log_full : ℕ
log_full = 31

-- ---- "GIF step"

-- "30 descriptor B met at its data, PACKED or REGLIST"
abbrev pub descriptor_b : ℕ
descriptor_b = 30

-- ---- "Builder"

-- "46 sheet too long"
abbrev pub sheet_long : ℕ
sheet_long = 46

-- "44 header cut", "44 body cut"
abbrev pub record_cut : ℕ
record_cut = 44

-- "40 mark"
abbrev pub mark_wrong : ℕ
mark_wrong = 40

-- "41 kind"
abbrev pub kind_wrong : ℕ
kind_wrong = 41

-- "42 count"
abbrev pub count_wrong : ℕ
count_wrong = 42

-- "43 address"
abbrev pub address_wrong : ℕ
address_wrong = 43

-- "45 non-zero pad"
abbrev pub pad_wrong : ℕ
pad_wrong = 45

-- "47, exactly if the chain is longer than the output"
abbrev pub output_short : ℕ
output_short = 47

-- ---- request 12, the sheet's second edition

-- "before 47 a 49 (offset 0) if the expanded chain exceeds 1,048,576 bytes"
abbrev pub chain_long : ℕ
chain_long = 49

-- "52 for depth 9 right after 43"
abbrev pub group_deep : ℕ
group_deep = 52

-- ---- the console

-- request 7: "50 for a number above 7"
abbrev pub number_missing : ℕ
number_missing = 50

-- request 7: "then 51 if a code is waiting for payload"
abbrev pub code_waits : ℕ
code_waits = 51

-- ---- request 8, salvage, after 46

-- "then 55 exactly if the kept bytes exceed the output"
abbrev pub kept_exceed : ℕ
kept_exceed = 55

-- "then 56 exactly if the ranges exceed their list"
abbrev pub ranges_exceed : ℕ
ranges_exceed = 56

-- ---- request 14, the totals

-- "54 if a sum would pass 2^64 - 1, and then no sum changes"
abbrev pub total_full : ℕ
total_full = 54

-- ---- answers of a run

-- "else if the allowance is used, answer 90"
abbrev pub allowance_used : ℕ
allowance_used = 90

-- "After a step that completes a VIF code with its bit 31 set, payload included, answer 91 at once"
abbrev pub interrupt_met : ℕ
interrupt_met = 91

-- ---- the numbers of refusals

abbrev pub refusal_number : Refusal → ℕ
refusal_number MainLength = main_length
refusal_number DataLength = data_length
refusal_number CodeLength = code_length
refusal_number LogLength = log_length
refusal_number OutOfRange = out_of_range
refusal_number TadrOutside = tadr_outside
refusal_number AddrUnaligned = addr_unaligned
refusal_number ScratchpadSet = scratchpad_set
refusal_number StackFull = stack_full
refusal_number PayloadOutside = payload_outside
refusal_number CmdUnlisted = cmd_unlisted
refusal_number FormatMissing = format_missing
refusal_number CycleWrong = cycle_wrong
refusal_number ModeWrong = mode_wrong
refusal_number DirectUnaligned = direct_unaligned
refusal_number MpgUnaligned = mpg_unaligned
refusal_number TopsMissing = tops_missing
refusal_number DescriptorB = descriptor_b
refusal_number LogFull = log_full
refusal_number MarkWrong = mark_wrong
refusal_number KindWrong = kind_wrong
refusal_number CountWrong = count_wrong
refusal_number AddressWrong = address_wrong
refusal_number RecordCut = record_cut
refusal_number PadWrong = pad_wrong
refusal_number SheetLong = sheet_long
refusal_number OutputShort = output_short
refusal_number ChainLong = chain_long
refusal_number NumberMissing = number_missing
refusal_number CodeWaits = code_waits
refusal_number GroupDeep = group_deep
refusal_number TotalFull = total_full
refusal_number KeptExceed = kept_exceed
refusal_number RangesExceed = ranges_exceed

-- the number of an answer's refusal, 0 for none
abbrev pub refusal_in : {A : Type 0} → Result A Refusal → ℕ
refusal_in (Ok x) = 0
refusal_in (Err e) = refusal_number e
