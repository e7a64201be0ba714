-- Facts that inner functions require of their input or promise; no promise of a public function cites them.
use Rattle.std.specs.Prelude.{ℕ, zero, suc, ◌+◌, ◌*◌, ◌-◌, ◌<◌, ◌≤◌, Bool, true, false, List, ◌≡◌, length, get_or, set}
use Rattle.std.proofs.lemmas.List.Edits.{sets}
use Rattle.fields.specs.declared.UnitCounts.{UnitCounts}
use Rattle.fields.specs.Counts.{units, quadwords_alone, Counted}
use Rattle.fields.specs.Memory.{word_at}
use Rattle.gif.specs.declared.Path.{Path}
use Rattle.gif.specs.declared.QuadwordsResult.{QuadwordsResult}
use Rattle.gif.specs.Log.{log_refused}
use Rattle.gif.specs.Range.{path_in_range}
use Rattle.memories.specs.declared.VifUnit.{VifUnit}
use Rattle.memories.specs.Units.{data_words, code_bytes}
use Rattle.memories.specs.Lengths.{Lent, lent, LengthsFit}
use Rattle.unpack_rules.specs.declared.Format.{Format}
use Rattle.unpack_rules.specs.declared.Unpacking.{Unpacking}
use Rattle.unpack_rules.specs.Step.{acceptable}
use Rattle.vif_codes.specs.declared.Waiting.{Waiting}
use Rattle.vif_codes.specs.declared.Waiting.TheVariants.{Nothing, MaskDue, RowDue, ColDue, MpgDue, DirectDue, DirecthlDue, UnpackDue}
use Rattle.vif_codes.specs.declared.Vif.{Vif}
use Rattle.vif_codes.specs.Setters.{with_waiting}
use Rattle.vif_codes.specs.Codes.{mpg_addresses, mpg_address_most}
use Rattle.vif_codes.specs.Payload.{bytes_of, word_place, write_registers}
use Rattle.vif_codes.specs.Range.{unit_in_range}
use Rattle.vif_codes.specs.Words.{incoming_at}
use Rattle.vif.specs.declared.WordsResult.{WordsResult}
use Rattle.vif.specs.Step.{mpg_refused}
use Rattle.vif.specs.Feeds.{Fed, fed}
use Rattle.vif.specs.Feed.{FedOn, fed_on_by, step_more, feeds_of}

-- path 2 and the log pass the GIF's tests
pub record GifReady (p : Path) (used : ℕ) (log : List ℕ) : Type 0 where
  pub logged : log_refused log used ≡ false
  pub ranged : path_in_range p ≡ true

-- data memory and the cycle are what the writes of a code's own step need
pub record CodeReady (which : VifUnit) (v : Vif) (mem : List ℕ) : Type 0 where
  pub long : length mem ≡ data_words which
  pub most : v.cl ≤ 255
  pub wide : v.wl ≤ 255

-- a data memory of `size` quadwords and a waiting UNPACK pass UNPACK's tests
pub record UnpackReady (size : ℕ) (v : Vif) (f : Format) (u : Unpacking) (mem : List ℕ) : Type 0 where
  pub some : 1 ≤ u.due
  pub accepted : acceptable size f u (write_registers v) mem ≡ true

-- a code memory of `size` instructions, and a waiting MPG in range
pub record MpgReady (size address count due : ℕ) (code : List ℕ) : Type 0 where
  pub some : 1 ≤ size
  pub most : size ≤ mpg_addresses
  pub wide : length code ≡ 8 * size
  pub inside : address ≤ mpg_address_most
  pub few : count ≤ 256
  pub left : 1 ≤ due
  pub due_most : due ≤ count + count

-- n words of main memory from address a on, stored as those of an MPG from number k on
unfoldable pub stored_words : ℕ → ℕ → List ℕ → ℕ → ℕ → ℕ → List ℕ → List ℕ
stored_words size address main zero k a code = code
stored_words size address main (suc n) k a code =
    stored_words size address main n (k + 1) (a + 4) (sets code (word_place size address k) (bytes_of (word_at main a)))

-- n bytes from address a on, stored one after another
unfoldable pub copy_bytes : List ℕ → ℕ → ℕ → ℕ → List ℕ → List ℕ
copy_bytes main zero a to code = code
copy_bytes main (suc n) a to code = copy_bytes main n (a + 1) (to + 1) (set code to (get_or main a 0))

-- what their stores need
pub record StoreFits (size address k a n : ℕ) (main code : List ℕ) : Type 0 where
  pub some : 1 ≤ size
  pub most : size ≤ mpg_addresses
  pub wide : length code ≡ 8 * size
  pub inside : address ≤ mpg_address_most
  pub few : k + n ≤ 512
  pub lies : a + 4 * n ≤ length main
  pub near : a + 4 * n ≤ 1048576

-- everything passes the unit's tests
pub record StepReady (which : VifUnit) (v : Vif) (p : Path) (used : ℕ) (m : Lent) : Type 0 where
  pub fit : LengthsFit which m used
  pub path_ranged : path_in_range p ≡ true
  pub ranged : unit_in_range which v ≡ true

-- what words give, with k words before them whose steps count for c
abbrev pub plus : ℕ → UnitCounts → FedOn → FedOn
plus = step_more

-- everything passes the unit's tests, between two steps
abbrev pub FedReady : VifUnit → Fed → Type 0
FedReady which x = StepReady which x.unit x.path2 x.used x.memories

-- steps that count for c, with the k words from address a on, lead from x to y, whatever comes after them
pub record Leads (which : VifUnit) (main : List ℕ) (a k : ℕ) (c : UnitCounts) (x y : Fed) : Type 0 where
  pub goes : (l d : ℕ) → feeds_of which main (c.steps + l) a (k + d) x ≡ plus k c (feeds_of which main l (a + 4 * k) d y)
  pub stays : FedReady which x → FedReady which y

-- a DIRECT that waits, or where `hl` says so a DIRECTHL
abbrev pub directs : Bool → ℕ → Bool → Waiting
directs true due i = DirecthlDue due i
directs false due i = DirectDue due i

-- quadwords that path 2 takes, while so many are due and so many words and steps are left: not the last of them
pub record Quadwords (main : List ℕ) (a due words steps : ℕ) (p : Path) (used : ℕ) (log : List ℕ) (r : QuadwordsResult) (log' : List ℕ) : Type 0 where
  pub few : r.taken < due
  pub few_words : 4 * r.taken < words
  pub few_steps : r.taken < steps
  pub few_packets : r.packets ≤ r.taken
  pub leads : (which : VifUnit) (v : Vif) (mem code : List ℕ) (hl i : Bool)
      → Leads which main a (4 * r.taken) (quadwords_alone r.taken r.packets) (fed (with_waiting v (directs hl due i)) p used (lent mem code log))
      (fed (with_waiting v (directs hl (due - r.taken) i)) r.path r.used (lent mem code log'))

-- the unit, path 2, the entries used and the memories, with the words of s taken
abbrev pub fed_in : WordsResult → Lent → Fed
fed_in s m = fed s.unit s.path2 s.used m

-- what `count` words from address a on give in at most `limit` steps, where the words and steps of s are the first of them
abbrev pub rest_of : VifUnit → List ℕ → ℕ → ℕ → ℕ → WordsResult → Lent → FedOn
rest_of which main limit a count s m =
    plus s.words s.counts (feeds_of which main (limit - s.counts.steps) (a + 4 * s.words) (count - s.words) (fed_in s m))

-- words and steps are left, and addresses and counts stay small
pub record Going (limit a count : ℕ) (s : WordsResult) : Type 0 where
  pub near : a + 4 * count ≤ 1048576
  pub few_words : s.words < count
  pub few_steps : s.counts.steps < limit
  pub counted : Counted s.counts
  pub quiet : s.interrupt ≡ false

-- from s to t, and at least one word and one step are left
pub record Bursts (which : VifUnit) (main : List ℕ) (limit a count : ℕ) (s : WordsResult) (m : Lent) (t : WordsResult) (m' : Lent) : Type 0 where
  pub same : rest_of which main limit a count s m ≡ rest_of which main limit a count t m'
  pub stays : FedReady which (fed_in s m) → FedReady which (fed_in t m')
  pub later : s.counts.steps ≤ t.counts.steps
  pub going : Going limit a count t

-- of k steps that took a word each, m of them NOPs
abbrev pub words_with : ℕ → ℕ → UnitCounts
words_with k m = units k 0 k m

-- r of the payload words that are due are taken, but not the last of a code with its interrupt bit
pub record Some (due : ℕ) (i : Bool) (r : ℕ) : Type 0 where
  pub most : r ≤ due
  pub marked : r ≡ due → i ≡ false

-- r words at address a, one or more, are taken at once, by what waits: one of a code, of STMASK, STROW and STCOL, none of DIRECT
abbrev pub Ahead : Waiting → List ℕ → ℕ → ℕ → Type 0
Ahead Nothing main a r = (r ≡ 1) × (word_at main a < 2147483648)
Ahead (MaskDue i) main a r = (r ≡ 1) × (i ≡ false)
Ahead (RowDue due i) main a r = (r ≡ 1) × (i ≡ false)
Ahead (ColDue due i) main a r = (r ≡ 1) × (i ≡ false)
Ahead (MpgDue x n due i) main a r = Some due i r × (mpg_refused n due (incoming_at main a) ≡ false)
Ahead (DirectDue due i) main a r = ⊥
Ahead (DirecthlDue due i) main a r = ⊥
Ahead (UnpackDue f u) main a r = Some u.due u.interrupt r

-- the numbers of what waits, where some words are taken at once
abbrev pub WaitingFits : Waiting → Type 0
WaitingFits Nothing = ◌≡◌ {A = ℕ} 0 0
WaitingFits (MaskDue i) = ◌≡◌ {A = ℕ} 0 0
WaitingFits (RowDue due i) = (1 ≤ due) × (due ≤ 4)
WaitingFits (ColDue due i) = (1 ≤ due) × (due ≤ 4)
WaitingFits (MpgDue x n due i) = (1 ≤ due) × (n ≤ 256)
WaitingFits (DirectDue due i) = ◌≡◌ {A = ℕ} 0 0
WaitingFits (DirecthlDue due i) = ◌≡◌ {A = ℕ} 0 0
WaitingFits (UnpackDue f u) = 1 ≤ u.due

-- n words at address a are payload of what waits, in a unit in range
pub record PayloadReady (which : VifUnit) (v : Vif) (a n : ℕ) (main mem code : List ℕ) : Type 0 where
  pub ranged : unit_in_range which v ≡ true
  pub long : length mem ≡ data_words which
  pub wide : length code ≡ code_bytes which
  pub busy : v.waiting ≡ Nothing → ⊥
  pub ahead : Ahead v.waiting main a n
  pub near : a + 4 * n ≤ 1048576
  pub lies : a + 4 * n ≤ length main

-- from s to t by steps of which none completes a code with its interrupt bit
pub record Takes (which : VifUnit) (main : List ℕ) (limit a count : ℕ) (s : WordsResult) (m : Lent) (t : WordsResult) (m' : Lent) : Type 0 where
  pub same : rest_of which main limit a count s m ≡ rest_of which main limit a count t m'
  pub ready : FedReady which (fed_in t m')
  pub later : s.counts.steps ≤ t.counts.steps
  pub counted : Counted t.counts
  pub quiet : t.interrupt ≡ false
  pub idle : t.counts.steps ≡ s.counts.steps → Going limit a count t

-- a step more, from s to t; one that is refused changes nothing
pub record Gives (which : VifUnit) (main : List ℕ) (a : ℕ) (s : WordsResult) (m : Lent) (t : WordsResult) (m' : Lent) : Type 0 where
  pub ready : FedReady which (fed_in t m')
  pub later : s.counts.steps ≤ t.counts.steps
  pub counted : Counted t.counts
  pub goes : (limit count : ℕ) → Going limit a count s → t.interrupt ≡ false → rest_of which main limit a count s m ≡ rest_of which main limit a count t m'
  pub stops : (limit count : ℕ) → Going limit a count s → t.interrupt ≡ true → rest_of which main limit a count s m ≡ fed_on_by t m'
  pub refuses : (limit count : ℕ) → Going limit a count s → t.counts.steps ≡ s.counts.steps → rest_of which main limit a count s m ≡ fed_on_by t m'

abbrev pub taken_with : Vif → Path → ℕ → ℕ → UnitCounts → Bool → WordsResult
taken_with v p used k c i = record { unit = v; path2 = p; used = used; words = k; counts = c; interrupt = i }
