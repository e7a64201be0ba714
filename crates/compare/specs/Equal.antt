-- What the verdict is to mean, without tests, counts or elements.
use Rattle.std.specs.Prelude.{ℕ, ◌*◌, ◌%◌, ◌<◌, ◌≤◌, ◌≡◌, ◌↔◌, List, length, take, drop}
use Rattle.gif.specs.Log.{entry_size, log_most}
use Rattle.memories.specs.declared.VifUnit.{VifUnit}
use Rattle.memories.specs.Units.{quadwords, data_words, code_bytes}
use Rattle.compare.specs.declared.Found.{Found}
use Rattle.compare.specs.Parts.{data_part, code_part, log_part, all_parts, Asked}
use Rattle.compare.specs.Boards.{Board, memories_of}
use Rattle.compare.specs.Within.{within}

-- ---- boards that are not refused

-- numbers that are sums of parts
pub record InRange (parts : ℕ) : Type 0 where
  pub some : 1 ≤ parts
  pub most : parts ≤ all_parts

-- a range of quadwords of the data memories that are asked for
pub record RangeOf (parts first last : ℕ) : Type 0 where
  pub order : first ≤ last
  pub some : (u : VifUnit) × Asked parts (data_part u)
  pub inside : (u : VifUnit) → Asked parts (data_part u) → last < quadwords u

-- a log that is not refused
pub record WholeLog (log : List ℕ) (used : ℕ) : Type 0 where
  pub whole : length log % entry_size ≡ 0
  pub most : length log ≤ log_most
  pub room : entry_size * used ≤ length log

-- a board whose parts that are asked for are not refused
pub record Whole (parts : ℕ) (a : Board) : Type 0 where
  pub words : (u : VifUnit) → Asked parts (data_part u) → length (memories_of u a).mem ≡ data_words u
  pub bytes : (u : VifUnit) → Asked parts (code_part u) → length (memories_of u a).code ≡ code_bytes u
  pub log : Asked parts log_part → WholeLog a.log a.used

-- ---- boards that are equal

-- the lists of entries are equal: as many, with the same numbers
pub record EqualEntries (a b : Board) : Type 0 where
  pub used : a.used ≡ b.used
  pub entries : take (entry_size * a.used) a.log ≡ take (entry_size * b.used) b.log

-- the parts that are asked for are equal
pub record EqualIn (parts : ℕ) (a b : Board) : Type 0 where
  pub mem : (u : VifUnit) → Asked parts (data_part u) → (memories_of u a).mem ≡ (memories_of u b).mem
  pub code : (u : VifUnit) → Asked parts (code_part u) → (memories_of u a).code ≡ (memories_of u b).code
  pub log : Asked parts log_part → EqualEntries a b

-- the same with a range of quadwords: of data memories the words in it are equal
pub record EqualWithin (parts first last : ℕ) (a b : Board) : Type 0 where
  pub mem : (u : VifUnit) → Asked parts (data_part u) → within first last (memories_of u a).mem ≡ within first last (memories_of u b).mem
  pub code : (u : VifUnit) → Asked parts (code_part u) → (memories_of u a).code ≡ (memories_of u b).code
  pub log : Asked parts log_part → EqualEntries a b

-- the whole boards are equal
pub record Equal (a b : Board) : Type 0 where
  pub vif1 : a.vif1 ≡ b.vif1
  pub vif0 : a.vif0 ≡ b.vif0
  pub log : EqualEntries a b

-- the same lists lie in the parts that are asked for, the log's numbers beyond its entries included
pub record Alike (parts : ℕ) (a b : Board) : Type 0 where
  pub mem : (u : VifUnit) → Asked parts (data_part u) → (memories_of u a).mem ≡ (memories_of u b).mem
  pub code : (u : VifUnit) → Asked parts (code_part u) → (memories_of u a).code ≡ (memories_of u b).code
  pub log : Asked parts log_part → (a.log ≡ b.log) × (a.used ≡ b.used)

-- ---- elements

-- the first n elements of two lists are equal
abbrev pub EqualTo : ℕ → List ℕ → List ℕ → ℕ → Type 0
EqualTo size a b n = take (size * n) a ≡ take (size * n) b

-- one of n elements differs, and f is the first: those before it are equal, and it is not
pub record FirstDifference (size : ℕ) (a b : List ℕ) (n f : ℕ) : Type 0 where
  pub inside : f < n
  pub before : EqualTo size a b f
  pub unequal : take size (drop (size * f) a) ≡ take size (drop (size * f) b) → ⊥

-- what is found says of n elements whether they are equal, and which differs first
pub record Says (size : ℕ) (a b : List ℕ) (n : ℕ) (f : Found) : Type 0 where
  pub none : (f.count ≡ 0) ↔ EqualTo size a b n
  pub end : (f.first ≡ n) ↔ EqualTo size a b n
  pub first : (f.count ≡ 0 → ⊥) → FirstDifference size a b n f.first
