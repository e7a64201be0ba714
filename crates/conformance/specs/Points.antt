-- The bench points that document 01 marks (P), as one table. Each value is computed through the definitions that the promises of the builder, the start and
-- the run cite: a sheet is built and its chain run, or words are given to VIF1 by a chain of two tags.
use Rattle.std.specs.Prelude.{ℕ, zero, suc, ◌+◌, ◌*◌, ◌-◌, ◌/◌, Bool, true, false, ◌&&◌, List, [], ◌∷◌, ◌++◌, ◌≡◌, take, drop, replicate, eqb, None}
use Rattle.fields.specs.Counts.{count_numbers}
use Rattle.fields.specs.Fields.{if}
use Rattle.gif.specs.Log.{entry_size}
use Rattle.memories.specs.declared.VifUnit.{VifUnit}
use Rattle.memories.specs.declared.VifUnit.TheVariants.{Vif0, Vif1}
use Rattle.memories.specs.Units.{quadwords, instructions, data_words, code_bytes}
use Rattle.memories.specs.Lengths.{Lent, lent}
use Rattle.vif_codes.specs.declared.Waiting.{Waiting}
use Rattle.vif_codes.specs.declared.Waiting.TheVariants.{Nothing, MaskDue, RowDue, ColDue, MpgDue, DirectDue, DirecthlDue, UnpackDue}
use Rattle.fields.specs.Memory.{word_at}
use Rattle.vif_codes.specs.declared.Vif.{Vif}
use Rattle.vif_codes.specs.Setters.{with_itops, with_start, with_waiting}
use Rattle.chain_state.specs.declared.Stack.TheVariants.{Empty}
use Rattle.chain_state.specs.declared.Payload.TheVariants.{Nothing as NoPayload, Words as PayloadWords}
use Rattle.chain_state.specs.declared.State.{State}
use Rattle.chain_state.specs.Setters.{with_pending}
use Rattle.chain_state.specs.Start.{reset_path, reset_unit, reset_state, start_of}
use Rattle.chain.specs.Run.{Ran, number_of, run_of}
use Rattle.chain.specs.Resume.{resumed as resumedRun}
use Rattle.console.specs.Register.{set_number, set_of}
use Rattle.console.specs.Block.{state_set}
use Rattle.sheet.specs.Layout.{words_bytes, tag_words}
use Rattle.sheet.specs.Build.{Left, build_of, exported_number}
use Rattle.conformance.specs.Demand.{steps_meant}
use Rattle.conformance.specs.Play.{Played, play_of, play_number}

-- a point: the numbers that the definitions give, and those that document 01 states or, for document 02, that were worked out from it by hand
pub record Point : Type 0 where
  pub computed : List ℕ
  pub stated : List ℕ

abbrev pub point : List ℕ → List ℕ → Point
point computed stated = record { computed = computed; stated = stated }

-- in each point of a table the two are the same
abbrev pub AllHold : List Point → Type 0
AllHold [] = Unit {0}
AllHold (p ∷ ps) = (p.computed ≡ p.stated) × AllHold ps

-- ---- the bench

-- a log of four entries, all zeros
abbrev pub blank_log : List ℕ
blank_log = replicate (entry_size * 4) 0

-- data memory, code memory and the log, all zeros
abbrev pub blank : Lent
blank = lent (replicate (data_words Vif1) 0) (replicate (code_bytes Vif1) 0) blank_log

-- a chain at address 0 of main memory, started on channel 1 from reset and run
unfoldable pub run_in : List ℕ → Ran
run_in main = run_of main 100 (start_of reset_state 1 0 false).state blank

-- VIF1's words by a chain: a cnt tag with n quadwords, and an end tag
unfoldable pub run_of_words : ℕ → List ℕ → Ran
run_of_words n words = run_in (words_bytes (tag_words 1 n ++ words ++ tag_words 7 0))

-- a sheet built into 128 bytes of FFh
unfoldable pub built_fresh : List ℕ → Left
built_fresh sheet = build_of sheet (replicate 128 255)

-- the number that the builder gives: the chain's length in bytes
unfoldable pub size_of : List ℕ → ℕ
size_of sheet = exported_number (built_fresh sheet).answer

-- so many bytes of the output are the chain
unfoldable pub chain_bytes : List ℕ → List ℕ
chain_bytes sheet = take (size_of sheet) (built_fresh sheet).output

-- n words from an address on
unfoldable pub words_at : List ℕ → ℕ → ℕ → List ℕ
words_at main at zero = []
words_at main at (suc n) = word_at main at ∷ words_at main (at + 4) n

-- all words of the chain
unfoldable pub chain_words : List ℕ → List ℕ
chain_words sheet = words_at (chain_bytes sheet) 0 (size_of sheet / 4)

-- the chain run where the builder left it
unfoldable pub run_of_sheet : List ℕ → Ran
run_of_sheet sheet = run_in (built_fresh sheet).output

-- the number of the run's answer, the steps of the run, and the sheet's steps
unfoldable pub steps_for : List ℕ → List ℕ
steps_for sheet = number_of (run_of_sheet sheet).answer ∷ (run_of_sheet sheet).counts.steps ∷ steps_meant sheet ∷ []

-- ---- what a run left

-- the log's entries, as numbers
unfoldable pub logged_in : Ran → List ℕ
logged_in r = take (entry_size * r.after.state.used) r.after.memories.log

-- quadword q of data memory
unfoldable pub quadword_in : Ran → ℕ → List ℕ
quadword_in r q = take 4 (drop (4 * q) r.after.memories.mem)

-- instruction q of code memory
unfoldable pub instruction_in : Ran → ℕ → List ℕ
instruction_in r q = take 8 (drop (8 * q) r.after.memories.code)

unfoldable pub all_zero : List ℕ → Bool
all_zero [] = true
all_zero (x ∷ xs) = eqb x 0 && all_zero xs

-- of n parts of a size, numbered from q on, those that are not all zeros
unfoldable pub parts_written : ℕ → ℕ → ℕ → List ℕ → List ℕ
parts_written size zero q xs = []
parts_written size (suc n) q xs =
    let rest = parts_written size n (suc q) (drop size xs) in
    if (all_zero (take size xs)) rest (q ∷ rest)

-- the quadwords of data memory that hold something: from number q to the end, then those before q
unfoldable pub quadwords_from : Ran → ℕ → List ℕ
quadwords_from r q = parts_written 4 (quadwords Vif1 - q) q (drop (4 * q) r.after.memories.mem) ++ parts_written 4 q 0 r.after.memories.mem

-- the instructions of code memory that hold something, in the same order
unfoldable pub instructions_from : Ran → ℕ → List ℕ
instructions_from r q = parts_written 8 (instructions Vif1 - q) q (drop (8 * q) r.after.memories.code) ++ parts_written 8 q 0 r.after.memories.code

-- the payload words that VIF1 waits for
abbrev pub words_due : Waiting → ℕ
words_due Nothing = 0
words_due (MaskDue i) = 1
words_due (RowDue due i) = due
words_due (ColDue due i) = due
words_due (MpgDue a n due i) = due
words_due (DirectDue due i) = 4 * due
words_due (DirecthlDue due i) = 4 * due
words_due (UnpackDue f u) = u.due

unfoldable pub due_in : Ran → List ℕ
due_in r = words_due r.after.state.vif1.waiting ∷ []

unfoldable pub row_in : Ran → List ℕ
row_in r = r.after.state.vif1.row

unfoldable pub answer_in : Ran → List ℕ
answer_in r = number_of r.answer ∷ []

-- ---- the sheets

-- "9E 51 04 00 05 00"
abbrev pub start_sheet : List ℕ
start_sheet = 0x9e ∷ 0x51 ∷ 4 ∷ 0 ∷ 5 ∷ 0 ∷ []

-- "Kind 1 at 1,023, n 2": its vectors are 1 2 3 4 and 5 6 7 8
abbrev pub data_sheet : List ℕ
data_sheet = 0x9e ∷ 0x51 ∷ 1 ∷ 2 ∷ 0xff ∷ 3 ∷ words_bytes (1 ∷ 2 ∷ 3 ∷ 4 ∷ 5 ∷ 6 ∷ 7 ∷ 8 ∷ [])

-- "Kind 3, n 1": value 1 to register 0Ah
abbrev pub gs_sheet : List ℕ
gs_sheet = 0x9e ∷ 0x51 ∷ 3 ∷ 1 ∷ 0 ∷ 0 ∷ words_bytes (1 ∷ 0 ∷ 0xa ∷ 0 ∷ [])

-- request 12: a sheet of the second edition, and in it a group of so many repetitions of one start
abbrev pub group_sheet : ℕ → List ℕ
group_sheet n = 0x9e ∷ 0x51 ∷ 0 ∷ 2 ∷ 0 ∷ 0 ∷ 0x9e ∷ 0x51 ∷ 5 ∷ n ∷ 1 ∷ 0 ∷ start_sheet

-- ---- VIF1's words

-- STCYCL 1, 1; NOP; UNPACK S-8, NUM 1, A 0; its word
abbrev pub byte_signed : List ℕ
byte_signed = 0x01000101 ∷ 0 ∷ 0x62010000 ∷ 0xff ∷ []

-- the same with USN
abbrev pub byte_unsigned : List ℕ
byte_unsigned = 0x01000101 ∷ 0 ∷ 0x62014000 ∷ 0xff ∷ []

-- STCYCL 1, 1; two NOPs; UNPACK V3-8, NUM 5
abbrev pub five_vectors : List ℕ
five_vectors = 0x01000101 ∷ 0 ∷ 0 ∷ 0x6a050000 ∷ []

-- STCYCL 1, 1; two NOPs; UNPACK V4-32, NUM 0
abbrev pub all_vectors : List ℕ
all_vectors = 0x01000101 ∷ 0 ∷ 0 ∷ 0x6c000000 ∷ []

-- STCYCL 1, 1; NOP; UNPACK V4-5, NUM 1, A 0; its word
abbrev pub five_bits : List ℕ
five_bits = 0x01000101 ∷ 0 ∷ 0x6f010000 ∷ 0xffff ∷ []

-- STROW and its words; STMOD 2; STCYCL 1, 1; UNPACK V4-32, NUM 1, A 0; its words
abbrev pub row_added : List ℕ
row_added =
    0x30000000 ∷ 0xffffffff ∷ 0xffffffff ∷ 0xffffffff ∷ 0xffffffff ∷ 0x05000002 ∷ 0x01000101 ∷ 0x6c010000 ∷ 2 ∷ 2 ∷ 2 ∷ 2 ∷ []

-- STCYCL 4, 2; two NOPs; UNPACK S-32, NUM 4, A 0; its words
abbrev pub skipping : List ℕ
skipping = 0x01000204 ∷ 0 ∷ 0 ∷ 0x60040000 ∷ 1 ∷ 2 ∷ 3 ∷ 4 ∷ []

-- STCYCL 2, 3; two NOPs; the same UNPACK, whose payload is three words; the fourth is a NOP
abbrev pub filling : List ℕ
filling = 0x01000302 ∷ 0 ∷ 0 ∷ 0x60040000 ∷ 1 ∷ 2 ∷ 3 ∷ 4 ∷ []

-- three NOPs; MPG at 2,047, NUM 2; its words
abbrev pub program : List ℕ
program = 0 ∷ 0 ∷ 0 ∷ 0x4a0207ff ∷ 1 ∷ 2 ∷ 3 ∷ 4 ∷ []

-- ---- the table

unfoldable pub points : List Point
points =
    -- "Empty sheet: 16 bytes, 00 00 00 70 and twelve zeros, 1 step."
    point (size_of [] ∷ []) (16 ∷ [])
    ∷ point (chain_bytes []) (0 ∷ 0 ∷ 0 ∷ 0x70 ∷ 0 ∷ 0 ∷ 0 ∷ 0 ∷ 0 ∷ 0 ∷ 0 ∷ 0 ∷ 0 ∷ 0 ∷ 0 ∷ 0 ∷ [])
    ∷ point (steps_for []) (0 ∷ 1 ∷ 1 ∷ [])
    -- "9E 51 04 00 05 00: words 10000001 0 0 0, 0 0 0 14000005, 70000000 0 0 0 (hex); 6 steps; log 256, 5.", of which request 11 says: "The bench
    -- point with 256, 5 becomes 0, 256, 5."
    ∷ point (chain_words start_sheet) (0x10000001 ∷ 0 ∷ 0 ∷ 0 ∷ 0 ∷ 0 ∷ 0 ∷ 0x14000005 ∷ 0x70000000 ∷ 0 ∷ 0 ∷ 0 ∷ [])
    ∷ point (steps_for start_sheet) (0 ∷ 6 ∷ 6 ∷ [])
    ∷ point (logged_in (run_of_sheet start_sheet)) (0 ∷ 256 ∷ 5 ∷ [])
    -- "Kind 1 at 1,023, n 2: 80 bytes, 14 steps, quadwords 1,023 and 0."
    ∷ point (size_of data_sheet ∷ []) (80 ∷ [])
    ∷ point (steps_for data_sheet) (0 ∷ 14 ∷ 14 ∷ [])
    ∷ point (quadwords_from (run_of_sheet data_sheet) 1023) (1023 ∷ 0 ∷ [])
    ∷ point (quadword_in (run_of_sheet data_sheet) 1023) (1 ∷ 2 ∷ 3 ∷ 4 ∷ [])
    ∷ point (quadword_in (run_of_sheet data_sheet) 0) (5 ∷ 6 ∷ 7 ∷ 8 ∷ [])
    -- "Kind 3, n 1: GIF tag words 00008001, 10000000, 0000000E, 0; 8 steps." The tag follows the DMA tag and the codes.
    ∷ point (words_at (chain_bytes gs_sheet) 32 4) (0x00008001 ∷ 0x10000000 ∷ 0x0000000e ∷ 0 ∷ [])
    ∷ point (steps_for gs_sheet) (0 ∷ 8 ∷ 8 ∷ [])
    -- "S-8 byte FF: four fields FFFFFFFF; with USN 000000FF."
    ∷ point (quadword_in (run_of_words 1 byte_signed) 0) (0xffffffff ∷ 0xffffffff ∷ 0xffffffff ∷ 0xffffffff ∷ [])
    ∷ point (quadword_in (run_of_words 1 byte_unsigned) 0) (0x000000ff ∷ 0x000000ff ∷ 0x000000ff ∷ 0x000000ff ∷ [])
    -- "V3-8, NUM 5: 4 words. V4-32, NUM 0: 1,024 words."
    ∷ point (due_in (run_of_words 1 five_vectors)) (4 ∷ [])
    ∷ point (due_in (run_of_words 1 all_vectors)) (1024 ∷ [])
    -- "V4-5 FFFF: F8, F8, F8, 80."
    ∷ point (quadword_in (run_of_words 1 five_bits) 0) (0xf8 ∷ 0xf8 ∷ 0xf8 ∷ 0x80 ∷ [])
    -- "MODE 2, ROW FFFFFFFF, data 2: 1." The data written, and ROW.
    ∷ point (quadword_in (run_of_words 3 row_added) 0) (1 ∷ 1 ∷ 1 ∷ 1 ∷ [])
    ∷ point (row_in (run_of_words 3 row_added)) (1 ∷ 1 ∷ 1 ∷ 1 ∷ [])
    -- "CL 4, WL 2, NUM 4, A 0: 0, 1, 4, 5. CL 2, WL 3: refused 22.", of which request 3 says: "Bench point CL 2, WL 3: accepted."
    ∷ point (quadwords_from (run_of_words 2 skipping) 0) (0 ∷ 1 ∷ 4 ∷ 5 ∷ [])
    ∷ point (quadword_in (run_of_words 2 skipping) 0 ++ quadword_in (run_of_words 2 skipping) 1) (1 ∷ 1 ∷ 1 ∷ 1 ∷ 2 ∷ 2 ∷ 2 ∷ 2 ∷ [])
    ∷ point (quadword_in (run_of_words 2 skipping) 4 ++ quadword_in (run_of_words 2 skipping) 5) (3 ∷ 3 ∷ 3 ∷ 3 ∷ 4 ∷ 4 ∷ 4 ∷ 4 ∷ [])
    ∷ point (answer_in (run_of_words 2 filling) ++ quadword_in (run_of_words 2 filling) 0 ++ quadword_in (run_of_words 2 filling) 1) (0 ∷ 1 ∷ 1 ∷ 1 ∷ 1 ∷ 2 ∷ 2 ∷ 2 ∷ 2 ∷ [])
    ∷ point (quadword_in (run_of_words 2 filling) 2 ++ quadword_in (run_of_words 2 filling) 3) (2 ∷ 2 ∷ 2 ∷ 2 ∷ 3 ∷ 3 ∷ 3 ∷ 3 ∷ [])
    -- "MPG at 2,047, two instructions: 2,047 and 0."
    ∷ point (instructions_from (run_of_words 2 program) 2047) (2047 ∷ 0 ∷ [])
    ∷ point (instruction_in (run_of_words 2 program) 2047) (1 ∷ 0 ∷ 0 ∷ 0 ∷ 2 ∷ 0 ∷ 0 ∷ 0 ∷ [])
    ∷ point (instruction_in (run_of_words 2 program) 0) (3 ∷ 0 ∷ 0 ∷ 0 ∷ 4 ∷ 0 ∷ 0 ∷ 0 ∷ [])
    ∷ []

-- ---- points of document 02's requests

-- STMASK, in each row code 0 for X, 1 for Y, 2 for Z, 3 for W; STROW 10, 20, 30, 40; STCOL 100, 200, 300, 400; STMOD 2; STCYCL 1, 1; an UNPACK of two S-16
-- vectors, 1 and 2, to quadword 0, which are one word
abbrev pub differences_of : ℕ → List ℕ
differences_of unpack =
    0x20000000 ∷ 0xe4e4e4e4 ∷ 0x30000000 ∷ 10 ∷ 20 ∷ 30 ∷ 40 ∷ 0x31000000 ∷ 100 ∷ 200 ∷ 300 ∷ 400 ∷ 0x05000002 ∷ 0x01000101 ∷ unpack ∷ 0x00020001 ∷ []

-- with M set
abbrev pub row_masked : List ℕ
row_masked = differences_of 0x71020000

-- with M clear
abbrev pub row_unmasked : List ℕ
row_unmasked = differences_of 0x61020000

-- STMASK with code 1 everywhere; STROW 7, 8, 9, 10; STCYCL 0, 2; UNPACK S-32 with M and bit 31, NUM 3, A 1, which has no payload
abbrev pub unfed : List ℕ
unfed = 0x20000000 ∷ 0x55555555 ∷ 0x30000000 ∷ 7 ∷ 8 ∷ 9 ∷ 10 ∷ 0x01000200 ∷ 0xf0030001 ∷ 0 ∷ 0 ∷ 0 ∷ []

-- STMASK, code 0 in row 0 and 1 in row 1; STROW 10, 20, 30, 40; STMOD 2; STCYCL 1, 2; UNPACK S-32 with M, NUM 2, A 0; its word
abbrev pub fill_of_row : List ℕ
fill_of_row = 0x20000000 ∷ 0x00005500 ∷ 0x30000000 ∷ 10 ∷ 20 ∷ 30 ∷ 40 ∷ 0x05000002 ∷ 0x01000201 ∷ 0x70020000 ∷ 1 ∷ 0 ∷ []

-- STCYCL 1, 2; two NOPs; UNPACK S-32, NUM 2, A 1,023; its word; three NOPs
abbrev pub fill_across : List ℕ
fill_across = 0x01000201 ∷ 0 ∷ 0 ∷ 0x600203ff ∷ 5 ∷ 0 ∷ 0 ∷ 0 ∷ []

-- STROW 10, 20, 30, 40; STMOD 2; STCYCL 1, 2; UNPACK S-32, NUM 2, A 0; its word; three NOPs
abbrev pub fill_of_data : List ℕ
fill_of_data = 0x30000000 ∷ 10 ∷ 20 ∷ 30 ∷ 40 ∷ 0x05000002 ∷ 0x01000201 ∷ 0x60020000 ∷ 1 ∷ 0 ∷ 0 ∷ 0 ∷ []

-- STCYCL 1, 1; UNPACK S-32, NUM 1, A 0 and its word, the same with A 1; STCYCL 0, 1; UNPACK S-32, NUM 1, A 0; NOP
abbrev pub unfed_over : List ℕ
unfed_over = 0x01000101 ∷ 0x60010000 ∷ 5 ∷ 0x60010001 ∷ 5 ∷ 0x01000100 ∷ 0x60010000 ∷ 0 ∷ []

-- STCYCL 2, 3; two NOPs; UNPACK S-32, NUM 4
abbrev pub filling_due : List ℕ
filling_due = 0x01000302 ∷ 0 ∷ 0 ∷ 0x60040000 ∷ []

-- VIF0's memories and the log, all zeros
abbrev pub blank0 : Lent
blank0 = lent (replicate (data_words Vif0) 0) (replicate (code_bytes Vif0) 0) blank_log

-- VIF0's words by a chain, as VIF1's, on channel 0
unfoldable pub run_of_vif0 : ℕ → List ℕ → Ran
run_of_vif0 n words = run_of (words_bytes (tag_words 1 n ++ words ++ tag_words 7 0)) 100 (start_of reset_state 0 0 false).state blank0

-- STCYCL 1, 1; two NOPs; UNPACK S-32, NUM 2, A 255; its words; two NOPs
abbrev pub data_across : List ℕ
data_across = 0x01000101 ∷ 0 ∷ 0 ∷ 0x600200ff ∷ 5 ∷ 6 ∷ 0 ∷ 0 ∷ []

-- three NOPs; MPG at 511, NUM 2; its words
abbrev pub code_across : List ℕ
code_across = 0 ∷ 0 ∷ 0 ∷ 0x4a0201ff ∷ 1 ∷ 2 ∷ 3 ∷ 4 ∷ []

-- STCYCL 1, 2; two NOPs; UNPACK S-32, NUM 2, A 511, which is quadword 255 of VIF0; its word; three NOPs
abbrev pub fill_across0 : List ℕ
fill_across0 = 0x01000201 ∷ 0 ∷ 0 ∷ 0x600201ff ∷ 5 ∷ 0 ∷ 0 ∷ 0 ∷ []

-- an end tag whose words 2 and 3 are ITOP 5 and MSCAL 9, with tag transfer on
unfoldable pub tag_transferred : Ran
tag_transferred = run_of (words_bytes (0x70000000 ∷ 0 ∷ 0x04000005 ∷ 0x14000009 ∷ [])) 100 (start_of reset_state 0 0 true).state blank0

-- a state on a channel, at an end tag at 32, with so many entries used and these units; nothing waits in either path
abbrev pub left_on : ℕ → ℕ → Vif → Vif → State
left_on channel used v u =
    record {
      channel = channel;
      tadr = 32;
      tte = false;
      ended = true;
      stack = Empty;
      tags = None;
      payload = NoPayload;
      used = used;
      vif0 = v;
      vif1 = u;
      path2 = reset_path;
      path3 = reset_path;
    }

-- a run on channel 7, which is none
unfoldable pub run_on7 : Lent → Ran
run_on7 m = run_of (words_bytes (tag_words 7 0)) 100 (left_on 7 0 reset_unit reset_unit) m

-- a code alone, and three NOPs
abbrev pub code_alone : ℕ → List ℕ
code_alone code = code ∷ 0 ∷ 0 ∷ 0 ∷ []

-- the answers to a code alone, by its CMD
unfoldable pub answers_to : List ℕ → List ℕ
answers_to [] = []
answers_to (cmd ∷ cmds) = answer_in (run_of_vif0 1 (code_alone (cmd * 0x1000000))) ++ answers_to cmds

-- STCYCL 1, 1; UNPACK V4-32 with IMM bit 15; two NOPs
abbrev pub tops_added : List ℕ
tops_added = 0x01000101 ∷ 0x6c018000 ∷ 0 ∷ 0 ∷ []

-- ITOP 5; MSCAL 9; two NOPs
abbrev pub program_start : List ℕ
program_start = 0x04000005 ∷ 0x14000009 ∷ 0 ∷ 0 ∷ []

-- ITOP, TOP, TOPS and DBF of VIF0
unfoldable pub started_in : Ran → List ℕ
started_in r = r.after.state.vif0.itop ∷ r.after.state.vif0.top ∷ r.after.state.vif0.tops ∷ if r.after.state.vif0.dbf 1 0 ∷ []

-- VIF0 and VIF1 after a program start from reset, VIF0 with ITOP 5 before it
abbrev pub started0 : Vif
started0 = with_start (with_itops reset_unit 5) 5 0 false 0

abbrev pub started1 : Vif
started1 = with_start reset_unit 0 0 true 0

-- what channel 0 leaves of the program start above, and what channel 1 leaves after it of MSCAL 2
abbrev pub left0 : State
left0 = left_on 0 1 started0 reset_unit

abbrev pub left1 : State
left1 = left_on 1 2 started0 started1

-- a chain of one payload, started on a channel from a state, with VIF1's memories and a log
unfoldable pub run_from : State → ℕ → List ℕ → ℕ → List ℕ → Ran
run_from s channel log n words =
    run_of (words_bytes (tag_words 1 n ++ words ++ tag_words 7 0)) 100 (start_of s channel 0 false).state (lent blank.mem blank.code log)

-- channel 1 with MSCAL 2; channel 2 with a GIF tag of one A+D and value 7 to register 42h
unfoldable pub second : Ran
second = run_from left0 1 (0 ∷ 256 ∷ 9 ∷ drop entry_size blank_log) 1 (code_alone 0x14000002)

unfoldable pub third : Ran
third = run_from left1 2 (0 ∷ 256 ∷ 9 ∷ 0 ∷ 256 ∷ 2 ∷ drop (entry_size * 2) blank_log) 2 (0x00008001 ∷ 0x10000000 ∷ 0x0000000e ∷ 0 ∷ 7 ∷ 0 ∷ 0x42 ∷ 0 ∷ [])

-- a sheet built and run on VIF1's memories, from the state that channel 0 left
unfoldable pub played_from0 : List ℕ → Played
played_from0 sheet = play_of sheet (replicate 64 0) 0 left0 blank 100

-- k NOPs; MPG at 4, NUM 1, in the word after them; its words; NOPs up to two quadwords
abbrev pub upload_after : ℕ → List ℕ
upload_after k = replicate k 0 ++ 0x4a010004 ∷ 1 ∷ 2 ∷ replicate (5 - k) 0

-- the answers to an MPG in each word of a quadword, by the runs of a unit
abbrev pub upload_answers : (ℕ → List ℕ → Ran) → List ℕ
upload_answers run =
    answer_in (run 2 (upload_after 0)) ++ answer_in (run 2 (upload_after 1)) ++ answer_in (run 2 (upload_after 2)) ++ answer_in (run 2 (upload_after 3))

-- tag transfer on: a tag with QWC 1 whose words 2 and 3 are x and y, the payload 1, 2 and two NOPs, and an end tag whose words 2 and 3 are 3 and 4
unfoldable pub tag_upload : ℕ → ℕ → Ran
tag_upload x y = run_of (words_bytes (0x10000001 ∷ 0 ∷ x ∷ y ∷ 1 ∷ 2 ∷ 0 ∷ 0 ∷ 0x70000000 ∷ 0 ∷ 3 ∷ 4 ∷ [])) 100 (start_of reset_state 1 0 true).state blank

-- MPG at 4, NUM 2, in word 1 of a payload quadword, its words 1 and 2 after it and 3 and 4 in the words 2 and 3 of the end tag, with tag transfer on
unfoldable pub upload_across_tags : Ran
upload_across_tags =
    run_of (words_bytes (0x10000001 ∷ 0 ∷ 0 ∷ 0 ∷ 0 ∷ 0x4a020004 ∷ 1 ∷ 2 ∷ 0x70000000 ∷ 0 ∷ 3 ∷ 4 ∷ [])) 100 (start_of reset_state 1 0 true).state blank

-- a saved state of a unit: an MPG of one instruction with so many words due, and word w of a quadword of NOPs pending next
abbrev pub upload_saved : VifUnit → ℕ → ℕ → State
upload_saved Vif0 due w = with_pending (left_on 0 0 (with_waiting reset_unit (MpgDue 4 1 due false)) reset_unit) None (PayloadWords (16 + 4 * w) (4 - w))
upload_saved Vif1 due w = with_pending (left_on 1 0 reset_unit (with_waiting reset_unit (MpgDue 4 1 due false))) None (PayloadWords (16 + 4 * w) (4 - w))

abbrev pub blank_of : VifUnit → Lent
blank_of Vif0 = blank0
blank_of Vif1 = blank

unfoldable pub resumed : VifUnit → ℕ → ℕ → Ran
resumed which due w = run_of (words_bytes (tag_words 7 0 ++ replicate 4 0 ++ tag_words 7 0)) 100 (upload_saved which due w) (blank_of which)

-- the answers where words from word 0, 1, 2 and 3 on are pending
abbrev pub resumed_answers : VifUnit → ℕ → List ℕ
resumed_answers which due =
    answer_in (resumed which due 0) ++ answer_in (resumed which due 1) ++ answer_in (resumed which due 2) ++ answer_in (resumed which due 3)

-- n quadwords given to path 3 from reset
unfoldable pub drawn : ℕ → List ℕ → Ran
drawn n words = run_from reset_state 2 blank.log n words

-- n quadwords given to path 2 by a code, DIRECT or DIRECTHL
unfoldable pub drawn_by : ℕ → ℕ → List ℕ → Ran
drawn_by code n words = run_of_words (1 + n) (0 ∷ 0 ∷ 0 ∷ (code + n) ∷ words)

-- the answer, the steps and the packets closed
unfoldable pub packets_in : Ran → List ℕ
packets_in r = number_of r.answer ∷ r.counts.steps ∷ r.counts.packets ∷ []

-- the answer and all counts
unfoldable pub counted_in : Ran → List ℕ
counted_in r = number_of r.answer ∷ count_numbers r.counts

-- a GIF tag with EOP, NLOOP 1 and one descriptor, and a quadword of data
abbrev pub packet_of : ℕ → List ℕ
packet_of descriptor = 0x00008001 ∷ 0x10000000 ∷ descriptor ∷ 0 ∷ 7 ∷ 0 ∷ 0x42 ∷ 0 ∷ []

-- a GIF tag with PRE, PRIM 5 and descriptor F, and a quadword of data
abbrev pub primed : List ℕ
primed = 0x00008001 ∷ 0x1002c000 ∷ 0xf ∷ 0 ∷ 7 ∷ 0 ∷ 0x42 ∷ 0 ∷ []

-- channel 1 with DIRECT, channel 2, and channel 0 with MSCAL 9, over one log, each on what the one before left
unfoldable pub mixed1 : Ran
mixed1 = drawn_by 0x50000000 2 primed

unfoldable pub mixed2 : Ran
mixed2 = run_from mixed1.after.state 2 mixed1.after.memories.log 2 primed

unfoldable pub mixed0 : Ran
mixed0 =
    run_of (words_bytes (tag_words 1 1 ++ code_alone 0x14000009 ++ tag_words 7 0)) 100 (start_of mixed2.after.state 0 0 false).state
    (lent blank0.mem blank0.code mixed2.after.memories.log)

-- n entries used of a log of so many numbers, and nothing to do
unfoldable pub log_of : ℕ → ℕ → Ran
log_of numbers n = run_from (left_on 1 n reset_unit reset_unit) 1 (replicate numbers 0) 0 []

-- MSCAL 1, 2 and 3 on a log of six numbers
unfoldable pub overflowing : Ran
overflowing = run_from reset_state 1 (replicate 6 0) 1 (0x14000001 ∷ 0x14000002 ∷ 0x14000003 ∷ 0 ∷ [])

-- DIRECT of one packet by a chain, with an allowance; and with another on what that left
abbrev pub stopping : List ℕ
stopping = words_bytes (tag_words 1 3 ++ (0 ∷ 0 ∷ 0 ∷ 0x50000002 ∷ []) ++ packet_of 0xe ++ tag_words 7 0)

unfoldable pub stopped_at : ℕ → Ran
stopped_at a = run_of stopping a (start_of reset_state 1 0 false).state blank

unfoldable pub resumed_at : ℕ → ℕ → Ran
resumed_at a b = resumedRun stopping b (stopped_at a)

-- ROW 0, ROW 3 and COL 0 of a unit set on the reset state; and an UNPACK of one vector whose fields have the mask codes 1, 2, 2 and 1: STCYCL 1, 1; STMASK;
-- UNPACK S-32, M, NUM 1; its word; three NOPs
unfoldable pub preset : ℕ → State
preset unit = state_set unit (state_set unit (state_set unit reset_state 0 21) 3 24) 4 17

unfoldable pub masked : ℕ → Lent → Ran
masked unit m =
    run_of (words_bytes (tag_words 1 2 ++ (0x01000101 ∷ 0x20000000 ∷ 0x69 ∷ 0x70010000 ∷ 9 ∷ 0 ∷ 0 ∷ 0 ∷ []) ++ tag_words 7 0)) 100
    (start_of (preset unit) unit 0 false).state m

-- the answer to setting a number of a unit that waits for STROW's words, or for nothing
unfoldable pub answer_to_set : Waiting → ℕ → ℕ
answer_to_set w number = set_number (set_of (with_waiting reset_unit w) number 5).answer

-- a NOP with NUM and IMM, STMASK and its word, STCYCL, three NOPs, and a NOP with its interrupt bit
abbrev pub nops_and_none : List ℕ
nops_and_none = 0x00ff1234 ∷ 0x20000000 ∷ 0 ∷ 0x01000101 ∷ 0 ∷ 0 ∷ 0 ∷ 0x80000000 ∷ []

-- tags of every ID but 7, with payload of zeros: cnt at 0, next at 20h, ref at 50h, refs at 60h, call at 70h, ret at A0h and refe at 80h
unfoldable pub seven_ids : Ran
seven_ids =
    run_in
    (words_bytes
    ((0x10000001 ∷ 0 ∷ 0 ∷ 0 ∷ replicate 4 0)
    ++ (0x20000001 ∷ 0x50 ∷ 0 ∷ 0 ∷ replicate 8 0)
    ++ (0x30000002 ∷ 0x30 ∷ 0 ∷ 0 ∷ [])
    ++ (0x40000001 ∷ 0x40 ∷ 0 ∷ 0 ∷ [])
    ++ (0x50000000 ∷ 0xa0 ∷ 0 ∷ 0 ∷ [])
    ++ (0x00000002 ∷ 0x30 ∷ 0 ∷ 0 ∷ replicate 4 0)
    ++ (0x60000001 ∷ 0 ∷ 0 ∷ 0 ∷ replicate 4 0)))

-- a cnt tag with a quadword, and a next tag whose ADDR is refused
unfoldable pub refused_tag : Ran
refused_tag = run_in (words_bytes ((0x10000001 ∷ 0 ∷ 0 ∷ 0 ∷ replicate 4 0) ++ (0x20000003 ∷ 0x08 ∷ 0 ∷ 0 ∷ [])))

unfoldable pub request_points : List Point
request_points =
    -- request 2: "in MODE 2 a field's ROW is replaced only where that field's mask code is 0." Only X has code 0: 10 + 1, then 11 + 2.
    point (row_in (run_of_words 4 row_masked)) (13 ∷ 20 ∷ 30 ∷ 40 ∷ [])
    ∷ point (quadword_in (run_of_words 4 row_masked) 0) (11 ∷ 20 ∷ 100 ∷ 0 ∷ [])
    ∷ point (quadword_in (run_of_words 4 row_masked) 1) (13 ∷ 20 ∷ 100 ∷ 0 ∷ [])
    -- "With M clear all codes are 0.": ROW of every field moves
    ∷ point (row_in (run_of_words 4 row_unmasked)) (13 ∷ 23 ∷ 33 ∷ 43 ∷ [])
    ∷ point (quadword_in (run_of_words 4 row_unmasked) 0) (11 ∷ 21 ∷ 31 ∷ 41 ∷ [])
    ∷ point (quadword_in (run_of_words 4 row_unmasked) 1) (13 ∷ 23 ∷ 33 ∷ 43 ∷ [])
    -- request 3: "With CL 0 there is no payload and all writes belong to the code's own step.": the interrupt mark is met there, in step 10, the tag's being the first
    ∷ point (answer_in (run_of_words 3 unfed) ++ due_in (run_of_words 3 unfed) ++ ((run_of_words 3 unfed).counts.steps ∷ [])) (91 ∷ 0 ∷ 10 ∷ [])
    ∷ point (quadword_in (run_of_words 3 unfed) 1 ++ quadword_in (run_of_words 3 unfed) 3) (7 ∷ 8 ∷ 9 ∷ 10 ∷ 7 ∷ 8 ∷ 9 ∷ 10 ∷ [])
    -- a fill under MODE 2 with code 1 gets ROW as the vector before it left it
    ∷ point (quadword_in (run_of_words 3 fill_of_row) 0 ++ quadword_in (run_of_words 3 fill_of_row) 1) (11 ∷ 21 ∷ 31 ∷ 41 ∷ 11 ∷ 21 ∷ 31 ∷ 41 ∷ [])
    ∷ point (row_in (run_of_words 3 fill_of_row)) (11 ∷ 21 ∷ 31 ∷ 41 ∷ [])
    -- "Addresses run on by one each write.", across the memory's end
    ∷ point (quadwords_from (run_of_words 2 fill_across) 1023) (1023 ∷ 0 ∷ [])
    ∷ point (quadword_in (run_of_words 2 fill_across) 1023 ++ quadword_in (run_of_words 2 fill_across) 0) (5 ∷ 5 ∷ 5 ∷ 5 ∷ 5 ∷ 5 ∷ 5 ∷ 5 ∷ [])
    -- "A filling field of mask code 0 gets that field of the last payload vector ... without MODE ...; ROW doesn't move.": under MODE 2
    ∷ point (quadword_in (run_of_words 3 fill_of_data) 0 ++ quadword_in (run_of_words 3 fill_of_data) 1) (11 ∷ 21 ∷ 31 ∷ 41 ∷ 1 ∷ 1 ∷ 1 ∷ 1 ∷ [])
    ∷ point (row_in (run_of_words 3 fill_of_data)) (11 ∷ 21 ∷ 31 ∷ 41 ∷ [])
    -- "or 0 if there has been none": with CL 0 the five written before is gone
    ∷ point (quadword_in (run_of_words 2 unfed_over) 0 ++ quadword_in (run_of_words 2 unfed_over) 1) (0 ∷ 0 ∷ 0 ∷ 0 ∷ 5 ∷ 5 ∷ 5 ∷ 5 ∷ [])
    -- "Payload vectors: CL x (NUM div WL) + the smaller of NUM mod WL and CL.": 2 x 1 + 1 words of S-32 for four writes
    ∷ point (due_in (run_of_words 1 filling_due)) (3 ∷ [])
    -- request 10, VIF0: "256 quadwords of data, 512 instructions ... Addresses wrap at those sizes."
    ∷ point (quadword_in (run_of_vif0 2 data_across) 255 ++ quadword_in (run_of_vif0 2 data_across) 0) (5 ∷ 5 ∷ 5 ∷ 5 ∷ 6 ∷ 6 ∷ 6 ∷ 6 ∷ [])
    ∷ point (instruction_in (run_of_vif0 2 code_across) 511 ++ instruction_in (run_of_vif0 2 code_across) 0) (1 ∷ 0 ∷ 0 ∷ 0 ∷ 2 ∷ 0 ∷ 0 ∷ 0 ∷ 3 ∷ 0 ∷ 0 ∷ 0 ∷ 4 ∷ 0 ∷ 0 ∷ 0 ∷ [])
    -- "It has no codes 02, 03, 06, 11, 13, 15, 50, 51": 20; it has 04, 07, 10 and 17
    ∷ point (answers_to (0x02 ∷ 0x03 ∷ 0x06 ∷ 0x11 ∷ 0x13 ∷ 0x15 ∷ 0x50 ∷ 0x51 ∷ [])) (20 ∷ 20 ∷ 20 ∷ 20 ∷ 20 ∷ 20 ∷ 20 ∷ 20 ∷ [])
    ∷ point (answers_to (0x04 ∷ 0x07 ∷ 0x10 ∷ 0x17 ∷ [])) (0 ∷ 0 ∷ 0 ∷ 0 ∷ [])
    -- "26 for UNPACK with IMM bit 15 on VIF0, after 22": 22 while WL is 0
    ∷ point (answer_in (run_of_vif0 1 (code_alone 0x6c018000)) ++ answer_in (run_of_vif0 1 tops_added)) (22 ∷ 26 ∷ [])
    -- an address above the size, and a fill across the end
    ∷ point (quadword_in (run_of_vif0 2 fill_across0) 255 ++ quadword_in (run_of_vif0 2 fill_across0) 0) (5 ∷ 5 ∷ 5 ∷ 5 ∷ 5 ∷ 5 ∷ 5 ∷ 5 ∷ [])
    -- "On channel 0 tag words go to VIF0."
    ∷ point (answer_in tag_transferred ++ started_in tag_transferred ++ logged_in tag_transferred) (0 ∷ 5 ∷ 0 ∷ 0 ∷ 0 ∷ 0 ∷ 256 ∷ 9 ∷ [])
    -- "2 and 3 test VIF0's sizes on channel 0, else VIF1's": on a channel that is none VIF1's, and then 5
    ∷ point (answer_in (run_on7 blank0) ++ answer_in (run_on7 blank)) (2 ∷ 5 ∷ [])
    -- "MSCAL and MSCNT there change ITOP alone of the registers"
    ∷ point (logged_in (run_of_vif0 1 (code_alone 0x17000000))) (0 ∷ 258 ∷ 0 ∷ [])
    ∷ point (started_in (run_of_vif0 1 program_start) ++ logged_in (run_of_vif0 1 program_start)) (5 ∷ 0 ∷ 0 ∷ 0 ∷ 0 ∷ 256 ∷ 9 ∷ [])
    -- channels 0, 1 and 2 in turn over one log; `capture-states` says that each begins where the one before ended
    ∷ point (answer_in second ++ logged_in second) (0 ∷ 0 ∷ 256 ∷ 9 ∷ 0 ∷ 256 ∷ 2 ∷ [])
    ∷ point (answer_in third ++ logged_in third ++ started_in third) (0 ∷ 0 ∷ 256 ∷ 9 ∷ 0 ∷ 256 ∷ 2 ∷ 3 ∷ 0x42 ∷ 7 ∷ 5 ∷ 0 ∷ 0 ∷ 0 ∷ [])
    -- "its entry tests are made with VIF1's sizes, whatever channel the state held before the start"
    ∷ point (play_number (played_from0 start_sheet).answer ∷ (played_from0 start_sheet).counts.steps ∷ (played_from0 start_sheet).state.used ∷ []) (0 ∷ 6 ∷ 2 ∷ [])
    -- request 5: "The first payload word of an MPG must be word 0 or 2 of its quadword.": after an MPG in word 0, 1, 2 and 3, of either unit
    ∷ point (upload_answers run_of_words) (25 ∷ 0 ∷ 25 ∷ 0 ∷ [])
    ∷ point (upload_answers run_of_vif0) (25 ∷ 0 ∷ 25 ∷ 0 ∷ [])
    -- the code's own step is taken, its first word is not: after the tag, two NOPs and MPG both words are due and nothing is stored
    ∷ point ((run_of_words 2 (upload_after 2)).counts.steps ∷ due_in (run_of_words 2 (upload_after 2)) ++ instructions_from (run_of_words 2 (upload_after 2)) 0) (4 ∷ 2 ∷ [])
    ∷ point (instruction_in (run_of_words 2 (upload_after 1)) 4) (1 ∷ 0 ∷ 0 ∷ 0 ∷ 2 ∷ 0 ∷ 0 ∷ 0 ∷ [])
    -- words 2 and 3 of a tag are words 2 and 3 of a quadword
    ∷ point (answer_in (tag_upload 0x4a010004 0) ++ due_in (tag_upload 0x4a010004 0)) (25 ∷ 2 ∷ [])
    ∷ point (instruction_in (tag_upload 0 0x4a010004) 4) (1 ∷ 0 ∷ 0 ∷ 0 ∷ 2 ∷ 0 ∷ 0 ∷ 0 ∷ [])
    -- "An MPG whose first payload word was taken may go on from any word, as after a tag.": in a tag's words, and from a saved state with one word due
    ∷ point (answer_in upload_across_tags ++ instruction_in upload_across_tags 5) (0 ∷ 3 ∷ 0 ∷ 0 ∷ 0 ∷ 4 ∷ 0 ∷ 0 ∷ 0 ∷ [])
    ∷ point (resumed_answers Vif1 1 ++ resumed_answers Vif0 1) (0 ∷ 0 ∷ 0 ∷ 0 ∷ 0 ∷ 0 ∷ 0 ∷ 0 ∷ [])
    -- a saved state with both words due is in range, and the step is refused
    ∷ point (resumed_answers Vif1 2 ++ resumed_answers Vif0 2) (0 ∷ 25 ∷ 0 ∷ 25 ∷ 0 ∷ 25 ∷ 0 ∷ 25 ∷ [])
    -- request 1: a packet is closed by "a tag with EOP and NLOOP 0", and by no tag without EOP; the DMA tags are steps too
    ∷ point (packets_in (drawn 1 (0x00008000 ∷ 0 ∷ 0 ∷ 0 ∷ [])) ++ packets_in (drawn 1 (0 ∷ 0 ∷ 0 ∷ 0 ∷ []))) (0 ∷ 3 ∷ 1 ∷ 0 ∷ 3 ∷ 0 ∷ [])
    -- by "the last data quadword of a tag with EOP": A+D, and without EOP; PACKED F
    ∷ point (packets_in (drawn 2 (packet_of 0xe)) ++ packets_in (drawn 2 (0x00000001 ∷ drop 1 (packet_of 0xe)))) (0 ∷ 4 ∷ 1 ∷ 0 ∷ 4 ∷ 0 ∷ [])
    ∷ point (packets_in (drawn 2 (packet_of 0xf))) (0 ∷ 4 ∷ 1 ∷ [])
    -- REGLIST with a dropped half; IMAGE of two quadwords
    ∷ point (packets_in (drawn 3 (0x00008001 ∷ 0x34000000 ∷ 0x00000111 ∷ replicate 9 0))) (0 ∷ 5 ∷ 1 ∷ [])
    ∷ point (packets_in (drawn 3 (0x00008002 ∷ 0x08000000 ∷ replicate 10 0))) (0 ∷ 5 ∷ 1 ∷ [])
    -- a refused quadword closes none; those closed before it count
    ∷ point (packets_in (drawn 2 (packet_of 0xb)) ++ packets_in (drawn 3 (0x00008000 ∷ 0 ∷ 0 ∷ 0 ∷ packet_of 0xb))) (30 ∷ 2 ∷ 0 ∷ 30 ∷ 3 ∷ 1 ∷ [])
    -- path 2, by DIRECT and by DIRECTHL
    ∷ point (packets_in (drawn_by 0x50000000 2 (packet_of 0xe)) ++ packets_in (drawn_by 0x51000000 2 (packet_of 0xe))) (0 ∷ 8 ∷ 1 ∷ 0 ∷ 8 ∷ 1 ∷ [])
    -- request 11: "Path is 2 or 3 for GIF writes and 0 for program starts.": DIRECT, DIRECTHL and channel 2, with A+D and with PRE
    ∷ point (logged_in (drawn_by 0x50000000 2 (packet_of 0xe)) ++ logged_in (drawn_by 0x51000000 2 (packet_of 0xe))) (2 ∷ 0x42 ∷ 7 ∷ 2 ∷ 0x42 ∷ 7 ∷ [])
    ∷ point (logged_in (drawn 2 (packet_of 0xe)) ++ logged_in (drawn 2 primed)) (3 ∷ 0x42 ∷ 7 ∷ 3 ∷ 0 ∷ 5 ∷ [])
    -- "Captures now mix channels over one log": channels 1, 2 and 0
    ∷ point (answer_in mixed0 ++ logged_in mixed0) (0 ∷ 2 ∷ 0 ∷ 5 ∷ 3 ∷ 0 ∷ 5 ∷ 0 ∷ 256 ∷ 9 ∷ [])
    -- "In a sheet's meaning, GS entries have path 2 and start entries path 0."
    ∷ point (logged_in (run_of_sheet gs_sheet)) (2 ∷ 0xa ∷ 1 ∷ [])
    -- "4 now means a length not a multiple of 3, ... or below three times the entries used": 2^64 + 2 is three times the last
    ∷ point (answer_in (log_of 8 0) ++ answer_in (log_of 9 3) ++ answer_in (log_of 9 4) ++ answer_in (log_of 9 0x5555555555555556)) (4 ∷ 0 ∷ 4 ∷ 4 ∷ [])
    -- "31 counts three numbers an entry": after the tag two program starts are taken, the third is not
    ∷ point (answer_in overflowing ++ (overflowing.counts.steps ∷ logged_in overflowing)) (31 ∷ 3 ∷ 0 ∷ 256 ∷ 1 ∷ 0 ∷ 256 ∷ 2 ∷ [])
    -- request 9: a run that answers 90, between a GIF tag and its data; gone on with, and in one; an allowance of 0
    ∷ point (packets_in (stopped_at 6) ++ packets_in (resumed_at 6 94) ++ packets_in (stopped_at 100)) (90 ∷ 6 ∷ 0 ∷ 0 ∷ 8 ∷ 1 ∷ 0 ∷ 8 ∷ 1 ∷ [])
    ∷ point (packets_in (stopped_at 0) ++ packets_in (stopped_at 8) ++ packets_in (stopped_at 200)) (90 ∷ 0 ∷ 0 ∷ 0 ∷ 8 ∷ 1 ∷ 0 ∷ 8 ∷ 1 ∷ [])
    -- request 7: "Runs read the block as it stands": either unit
    ∷ point (quadword_in (masked 1 blank) 0 ++ quadword_in (masked 0 blank0) 0) (21 ∷ 17 ∷ 17 ∷ 24 ∷ 21 ∷ 17 ∷ 17 ∷ 24 ∷ [])
    -- "50 for a number above 7, then 51 if a code is waiting for payload"
    ∷ point (answer_to_set Nothing 7 ∷ answer_to_set Nothing 8 ∷ answer_to_set (RowDue 4 false) 7 ∷ answer_to_set (RowDue 4 false) 8 ∷ []) (0 ∷ 50 ∷ 51 ∷ 50 ∷ [])
    -- request 12: "The built chain is the expanded one, and size and step formulas are sums over the expansion."
    ∷ point (size_of (group_sheet 3) ∷ steps_for (group_sheet 3)) (112 ∷ 0 ∷ 16 ∷ 16 ∷ [])
    ∷ point (logged_in (run_of_sheet (group_sheet 2))) (0 ∷ 256 ∷ 5 ∷ 0 ∷ 256 ∷ 5 ∷ [])
    -- "42 .. for 0 repetitions"; a chain of 144 bytes does not fit into 128
    ∷ point (size_of (group_sheet 0) ∷ size_of (group_sheet 4) ∷ []) (42 ∷ 47 ∷ [])
    -- request 14, the answer, steps, packets, VIF words, NOPs and QWC by ID: a NOP whatever its other bits, and no word of payload
    ∷ point (counted_in (run_of_words 2 nops_and_none)) (91 ∷ 9 ∷ 0 ∷ 8 ∷ 5 ∷ 0 ∷ 2 ∷ 0 ∷ 0 ∷ 0 ∷ 0 ∷ 0 ∷ 0 ∷ [])
    -- "VIF words taken (one-word steps)": not the two quadwords of DIRECT
    ∷ point (counted_in (drawn_by 0x50000000 2 (packet_of 0xe))) (0 ∷ 8 ∷ 1 ∷ 4 ∷ 3 ∷ 0 ∷ 3 ∷ 0 ∷ 0 ∷ 0 ∷ 0 ∷ 0 ∷ 0 ∷ [])
    -- tag words of VIF0
    ∷ point (counted_in tag_transferred) (0 ∷ 3 ∷ 0 ∷ 2 ∷ 0 ∷ 0 ∷ 0 ∷ 0 ∷ 0 ∷ 0 ∷ 0 ∷ 0 ∷ 0 ∷ [])
    -- "QWC by tag ID"; a refused tag adds nothing
    ∷ point (counted_in seven_ids) (0 ∷ 39 ∷ 0 ∷ 32 ∷ 32 ∷ 2 ∷ 1 ∷ 1 ∷ 2 ∷ 1 ∷ 0 ∷ 1 ∷ 0 ∷ [])
    ∷ point (counted_in refused_tag) (11 ∷ 5 ∷ 0 ∷ 4 ∷ 4 ∷ 0 ∷ 1 ∷ 0 ∷ 0 ∷ 0 ∷ 0 ∷ 0 ∷ 0 ∷ [])
    -- "which request 9 adds too": QWC whole in the run that reads the tag
    ∷ point (counted_in (stopped_at 1)) (90 ∷ 1 ∷ 0 ∷ 0 ∷ 0 ∷ 0 ∷ 3 ∷ 0 ∷ 0 ∷ 0 ∷ 0 ∷ 0 ∷ 0 ∷ [])
    ∷ point (counted_in (resumed_at 1 99)) (0 ∷ 8 ∷ 1 ∷ 4 ∷ 3 ∷ 0 ∷ 3 ∷ 0 ∷ 0 ∷ 0 ∷ 0 ∷ 0 ∷ 0 ∷ [])
    ∷ []
