-- What a run hands back over its completed steps: document 01's "The step count is the number of steps completed", request 1's "the number closed, which equals
-- the number of such quadwords among its completed steps", and request 14's "Each run hands back its counts over completed steps, which request 9 adds too".
use Rattle.std.specs.Prelude.{ℕ, ◌+◌, ◌%◌, ◌^◌, ◌<◌, ◌≤◌, Bool, true, false, List, [], ◌∷◌, ◌==◌}
use Rattle.fields.specs.declared.Qwc.{Qwc}
use Rattle.fields.specs.declared.Counts.{Counts}
use Rattle.fields.specs.declared.UnitCounts.{UnitCounts}
use Rattle.fields.specs.Fields.{if}

-- 1 for what is so, 0 for what is not
unfoldable pub one_if : Bool → ℕ
one_if true = 1
one_if false = 0

-- Steps that read no tag: a unit's and the GIF's.

abbrev pub units : ℕ → ℕ → ℕ → ℕ → UnitCounts
units steps packets words nops = record { steps = steps; packets = packets; words = words; nops = nops }

-- of no step
abbrev pub no_units : UnitCounts
no_units = units 0 0 0 0

-- "VIF words taken (one-word steps), NOPs": of a step that took a word, by whether the word is a NOP
abbrev pub one_word : Bool → UnitCounts
one_word nop = units 1 0 1 (one_if nop)

-- of n such steps, none with a NOP
abbrev pub words_alone : ℕ → UnitCounts
words_alone n = units n 0 n 0

-- "packets closed": of a step that took a quadword, by whether it closed a packet
abbrev pub one_quadword : Bool → UnitCounts
one_quadword closed = units 1 (one_if closed) 0 0

-- of n such steps and the packets that they closed
abbrev pub quadwords_alone : ℕ → ℕ → UnitCounts
quadwords_alone n packets = units n packets 0 0

-- of steps and those after them
abbrev pub plus_units : UnitCounts → UnitCounts → UnitCounts
plus_units a b = units (a.steps + b.steps) (a.packets + b.packets) (a.words + b.words) (a.nops + b.nops)

-- the same in numbers of 64 bits
unfoldable pub plus_units_modulo : UnitCounts → UnitCounts → UnitCounts
plus_units_modulo a b =
    units ((a.steps + b.steps) % 2 ^ 64) ((a.packets + b.packets) % 2 ^ 64) ((a.words + b.words) % 2 ^ 64) ((a.nops + b.nops) % 2 ^ 64)

-- a step closes one packet at most and takes one word at most, and a NOP is a word
pub record Counted (a : UnitCounts) : Type 0 where
  pub few_packets : a.packets ≤ a.steps
  pub few_words : a.words ≤ a.steps
  pub few_nops : a.nops ≤ a.words

-- "QWC by tag ID": eight sums.

abbrev pub qwcs : ℕ → ℕ → ℕ → ℕ → ℕ → ℕ → ℕ → ℕ → Qwc
qwcs a b c d e f g h = record { id0 = a; id1 = b; id2 = c; id3 = d; id4 = e; id5 = f; id6 = g; id7 = h }

-- of no tag
abbrev pub no_qwc : Qwc
no_qwc = qwcs 0 0 0 0 0 0 0 0

-- of a tag with this ID
unfoldable pub qwc_under : ℕ → ℕ → Qwc
qwc_under id n =
    qwcs (if (id == 0) n 0) (if (id == 1) n 0) (if (id == 2) n 0) (if (id == 3) n 0)
    (if (id == 4) n 0) (if (id == 5) n 0) (if (id == 6) n 0) (if (id == 7) n 0)

-- of tags and those after them
abbrev pub plus_qwc : Qwc → Qwc → Qwc
plus_qwc a b =
    qwcs (a.id0 + b.id0) (a.id1 + b.id1) (a.id2 + b.id2) (a.id3 + b.id3)
    (a.id4 + b.id4) (a.id5 + b.id5) (a.id6 + b.id6) (a.id7 + b.id7)

-- the same in numbers of 64 bits
unfoldable pub plus_qwc_modulo : Qwc → Qwc → Qwc
plus_qwc_modulo a b =
    qwcs ((a.id0 + b.id0) % 2 ^ 64) ((a.id1 + b.id1) % 2 ^ 64) ((a.id2 + b.id2) % 2 ^ 64) ((a.id3 + b.id3) % 2 ^ 64)
    ((a.id4 + b.id4) % 2 ^ 64) ((a.id5 + b.id5) % 2 ^ 64) ((a.id6 + b.id6) % 2 ^ 64) ((a.id7 + b.id7) % 2 ^ 64)

-- over all IDs
unfoldable pub total_qwc : Qwc → ℕ
total_qwc a = a.id0 + a.id1 + a.id2 + a.id3 + a.id4 + a.id5 + a.id6 + a.id7

-- All steps.

abbrev pub counts : UnitCounts → Qwc → Counts
counts u q = record { steps = u.steps; packets = u.packets; words = u.words; nops = u.nops; qwc = q }

-- all but QWC
abbrev pub unit_counts : Counts → UnitCounts
unit_counts a = units a.steps a.packets a.words a.nops

-- of steps that read no tag
abbrev pub of_unit : UnitCounts → Counts
of_unit u = counts u no_qwc

-- of no step
abbrev pub none : Counts
none = of_unit no_units

-- of a step that read a tag: its QWC whole, under its ID
abbrev pub one_tag : ℕ → ℕ → Counts
one_tag id qwc = counts (units 1 0 0 0) (qwc_under id qwc)

-- of steps and those after them
abbrev pub plus : Counts → Counts → Counts
plus a b = counts (plus_units (unit_counts a) (unit_counts b)) (plus_qwc a.qwc b.qwc)

-- the same in numbers of 64 bits
unfoldable pub plus_modulo : Counts → Counts → Counts
plus_modulo a b = counts (plus_units_modulo (unit_counts a) (unit_counts b)) (plus_qwc_modulo a.qwc b.qwc)

-- the counts as numbers one after another: the steps, the packets closed, the VIF words, the NOPs, and QWC by ID
abbrev pub qwc_numbers : Qwc → List ℕ
qwc_numbers q = q.id0 ∷ q.id1 ∷ q.id2 ∷ q.id3 ∷ q.id4 ∷ q.id5 ∷ q.id6 ∷ q.id7 ∷ []

abbrev pub count_numbers : Counts → List ℕ
count_numbers a = a.steps ∷ a.packets ∷ a.words ∷ a.nops ∷ qwc_numbers a.qwc

-- the sums fit their 64 bits, also QWC over all IDs
pub record SumsFit (a : Counts) : Type 0 where
  pub steps : a.steps < 2 ^ 64
  pub packets : a.packets < 2 ^ 64
  pub words : a.words < 2 ^ 64
  pub nops : a.nops < 2 ^ 64
  pub qwc : total_qwc a.qwc < 2 ^ 64
