-- Two boards and the parts asked for: which are refused, and what the comparison of the others says.
use Rattle.std.specs.Prelude.{ℕ, Bool, not, ◌&&◌, ◌||◌, List, length, eqb, ltb}
use Rattle.fields.specs.Fields.{if}
use Rattle.fields.specs.Refusals.{data_length, code_length, log_length, out_of_range}
use Rattle.gif.specs.Log.{entry_size, log_refused}
use Rattle.memories.specs.declared.VifUnit.{VifUnit}
use Rattle.memories.specs.declared.VifUnit.TheVariants.{Vif0, Vif1}
use Rattle.memories.specs.Units.{quadwords, instructions, data_words, code_bytes}
use Rattle.compare.specs.declared.Memories.{Memories as LentMemories}
use Rattle.compare.specs.declared.Board.{Board as LentBoard}
use Rattle.compare.specs.declared.UnitFound.{UnitFound}
use Rattle.compare.specs.declared.Comparison.{Comparison}
use Rattle.compare.specs.CompareAnswer.{CompareAnswer, Compared, Refused}
use Rattle.compare.specs.Elements.{found_in}
use Rattle.compare.specs.Parts.{data_part, code_part, log_part, all_parts, asks, looked_at}

-- a unit's memories: the words of its data memory, the bytes of its code memory
pub record Memories : Type 0 where
  pub mem : List ℕ
  pub code : List ℕ

abbrev pub memories : List ℕ → List ℕ → Memories
memories mem code = record { mem = mem; code = code }

-- what is compared of a board: both units' memories, the numbers of its log, and how many entries of the log are used
pub record Board : Type 0 where
  pub vif1 : Memories
  pub vif0 : Memories
  pub log : List ℕ
  pub used : ℕ

abbrev pub board : Memories → Memories → List ℕ → ℕ → Board
board vif1 vif0 log used = record { vif1 = vif1; vif0 = vif0; log = log; used = used }

abbrev pub memories_of : VifUnit → Board → Memories
memories_of Vif1 a = a.vif1
memories_of Vif0 a = a.vif0

-- ---- boards as they are lent

abbrev pub memories_now : LentMemories → Memories
memories_now m = memories m.«data».now m.code.now

abbrev pub board_now : LentBoard → Board
board_now a = board (memories_now a.vif1) (memories_now a.vif0) a.log.now a.used

-- ---- refusals

-- one of two lengths is not n
abbrev pub other_length : ℕ → ℕ → ℕ → Bool
other_length n a b = not (eqb a n) || not (eqb b n)

-- a unit's data memories are asked for, and one has not the unit's length
unfoldable pub data_refused : ℕ → VifUnit → List ℕ → List ℕ → Bool
data_refused parts u a b = asks parts (data_part u) && other_length (data_words u) (length a) (length b)

-- the same of code memories
unfoldable pub code_refused : ℕ → VifUnit → List ℕ → List ℕ → Bool
code_refused parts u a b = asks parts (code_part u) && other_length (code_bytes u) (length a) (length b)

-- the logs are asked for, and one is refused as a run refuses it
unfoldable pub logs_refused : ℕ → List ℕ → ℕ → List ℕ → ℕ → Bool
logs_refused parts a usedA b usedB = asks parts log_part && (log_refused a usedA || log_refused b usedB)

-- the refusal of two boards, 0 where there is none: a sum that is none of parts, then the lengths in document 01's order
unfoldable pub refusal : ℕ → Board → Board → ℕ
refusal parts a b =
    if (eqb parts 0 || ltb all_parts parts) out_of_range
    (if (data_refused parts Vif1 a.vif1.mem b.vif1.mem || data_refused parts Vif0 a.vif0.mem b.vif0.mem) data_length
    (if (code_refused parts Vif1 a.vif1.code b.vif1.code || code_refused parts Vif0 a.vif0.code b.vif0.code) code_length
    (if (logs_refused parts a.log a.used b.log b.used) log_length
    0)))

-- ---- the comparison

-- the smaller of two numbers
unfoldable pub smaller : ℕ → ℕ → ℕ
smaller x y = if (ltb x y) x y

-- a unit's quadwords and instructions
unfoldable pub unit_found : ℕ → VifUnit → Memories → Memories → UnitFound
unit_found parts u a b =
    record {
      quadwords = found_in 4 a.mem b.mem (looked_at (asks parts (data_part u)) (quadwords u));
      instructions = found_in 8 a.code b.code (looked_at (asks parts (code_part u)) (instructions u));
    }

-- how many entries of a board's log are looked at
abbrev pub entries_asked : ℕ → Board → ℕ
entries_asked parts a = looked_at (asks parts log_part) a.used

-- both units' memories, the entries that both boards have, and how many each has
unfoldable pub comparison_of : ℕ → Board → Board → Comparison
comparison_of parts a b =
    record {
      vif1 = unit_found parts Vif1 a.vif1 b.vif1;
      vif0 = unit_found parts Vif0 a.vif0 b.vif0;
      entries = found_in entry_size a.log b.log (smaller (entries_asked parts a) (entries_asked parts b));
      used = record { first = entries_asked parts a; second = entries_asked parts b };
    }

abbrev pub found_of : VifUnit → Comparison → UnitFound
found_of Vif1 c = c.vif1
found_of Vif0 c = c.vif0

unfoldable pub compare_of : ℕ → Board → Board → CompareAnswer
compare_of parts a b = if (eqb (refusal parts a b) 0) (Compared (comparison_of parts a b)) (Refused (refusal parts a b))

-- no quadword and no instruction of a unit differs
unfoldable pub unit_same : UnitFound → Bool
unit_same f = eqb f.quadwords.count 0 && eqb f.instructions.count 0

-- the verdict: nothing differs in the units' memories, no entry differs, and both boards have as many entries
unfoldable pub same_of : Comparison → Bool
same_of c = unit_same c.vif1 && unit_same c.vif0 && eqb c.entries.count 0 && eqb c.used.first c.used.second
