-- For proofs, but for Fed: words and quadwords given to a unit one after another, each with the same answer.
use Rattle.std.specs.Prelude.{ℕ, zero, suc, ◌+◌, ◌*◌, ◌%◌, ◌^◌, Bool, false, List, [], ◌∷◌, ◌++◌, ◌≡◌, get_or, eqb}
use Rattle.std.proofs.lemmas.List.Edits.{sets}
use Rattle.fields.specs.Fields.{if, quadword}
use Rattle.gif.specs.declared.Path.{Path}
use Rattle.memories.specs.declared.VifUnit.{VifUnit}
use Rattle.memories.specs.Units.{quadwords}
use Rattle.memories.specs.Lengths.{Lent, lent}
use Rattle.unpack_rules.specs.declared.Format.{Format}
use Rattle.unpack_rules.specs.declared.Unpacking.{Unpacking}
use Rattle.unpack_rules.specs.Write.{Written, written}
use Rattle.unpack_rules.specs.Whole.{unpacked_by}
use Rattle.vif_codes.specs.declared.Incoming.{Incoming}
use Rattle.vif_codes.specs.declared.Incoming.TheVariants.{Word0}
use Rattle.vif_codes.specs.VifAnswer.{VifAnswer, Word, Quadword}
use Rattle.vif_codes.specs.declared.UnpackCode.{UnpackCode}
use Rattle.vif_codes.specs.declared.Waiting.{Waiting}
use Rattle.vif_codes.specs.declared.Waiting.TheVariants.{Nothing, UnpackDue}
use Rattle.vif_codes.specs.declared.Vif.{Vif}
use Rattle.vif_codes.specs.Setters.{with_row, with_waiting}
use Rattle.vif_codes.specs.Execute.{begun_unpack}
use Rattle.vif_codes.specs.Payload.{bytes_of, write_registers}
use Rattle.vif_codes.specs.Words.{word_in}
use Rattle.vif.specs.Step.{leaves, vif_step}

-- the unit, path 2, the entries used and the memories, between two steps
pub record Fed : Type 0 where
  pub unit : Vif
  pub path2 : Path
  pub used : ℕ
  pub memories : Lent

abbrev pub fed : Vif → Path → ℕ → Lent → Fed
fed v p used m = record { unit = v; path2 = p; used = used; memories = m }

-- steps one after another: each takes a word, or each takes a quadword, which closes a packet or not, and none completes an interrupt
pub data Feeds (which : VifUnit) (a : Bool → VifAnswer) : Fed → List Incoming → Fed → Type 0 where
  none : {x : Fed} → Feeds which a x [] x
  more : {x y z : Fed} {n : Incoming} {ns : List Incoming} (closed : Bool)
      → vif_step which x.unit x.path2 n x.used x.memories ≡ leaves (a closed) y.unit y.path2 y.used y.memories
      → Feeds which a y ns z
      → Feeds which a x (n ∷ ns) z

abbrev pub a_word : Bool → VifAnswer
a_word closed = Word false

abbrev pub a_quadword : Bool → VifAnswer
a_quadword closed = Quadword false closed

-- incoming words as numbers
abbrev pub words_in : List Incoming → List ℕ
words_in [] = []
words_in (n ∷ ns) = word_in n ∷ words_in ns

-- quadwords that lie ready, as numbers
pub data QuadwordsIn : List Incoming → List ℕ → Type 0 where
  no_quadword : QuadwordsIn [] []
  one_quadword_lem : {a b c d x : ℕ} {ns : List Incoming} {xs : List ℕ} → quadword (a + b * 2 ^ 32) (c + d * 2 ^ 32) ≡ x → QuadwordsIn ns xs
      → QuadwordsIn (Word0 a b c d ∷ ns) (x ∷ xs)

-- words that are all 0
pub data Zeros : List ℕ → Type 0 where
  no_zero : Zeros []
  one_zero : {ws : List ℕ} → Zeros ws → Zeros (0 ∷ ws)

-- the code memory with an instruction of two words stored
unfoldable pub store_instruction : List ℕ → ℕ → ℕ → ℕ → List ℕ
store_instruction code q x y = sets code (8 * q) (bytes_of x ++ bytes_of y)

-- "instruction j to (IMM+j) modulo 2,048": n instructions from number j on, instruction j from words 2j and 2j + 1
unfoldable pub copy_instructions : ℕ → ℕ → List ℕ → ℕ → ℕ → List ℕ → List ℕ
copy_instructions size a ws zero j code = code
copy_instructions size a ws (suc n) j code =
    copy_instructions size a ws n (suc j) (store_instruction code ((a + j) % size) (get_or ws (2 * j) 0) (get_or ws (2 * j + 1) 0))

-- what waits of an UNPACK: nothing once its payload is complete
unfoldable pub unpack_waits : Format → Unpacking → Waiting
unpack_waits f u = if (eqb u.due 0) Nothing (UnpackDue f u)

-- ROW and data memory after payload words of an UNPACK code with its interrupt bit
abbrev pub unpacked_with : VifUnit → Vif → List ℕ → Format → UnpackCode → Bool → List ℕ → Written
unpacked_with which v mem f u i ws = unpacked_by (quadwords which) f (begun_unpack f u v i) (write_registers v) ws (written v.row mem)

-- all else is as it was, but for what waits
abbrev pub unpacked_fed : VifUnit → Vif → Path → ℕ → Lent → Format → UnpackCode → Bool → List ℕ → Waiting → Fed
unpacked_fed which v p used m f u i ws w =
    fed (with_waiting (with_row v (unpacked_with which v m.mem f u i ws).row) w) p used
    (lent (unpacked_with which v m.mem f u i ws).mem m.code m.log)
