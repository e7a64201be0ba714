-- Facts that inner functions require of their input or promise; no promise of a public function cites them.
use Rattle.std.specs.Prelude.{ℕ, ◌+◌, ◌*◌, ◌-◌, ◌≤◌, ◌≡◌, Bool, ◌&&◌, List, [], ◌∷◌, length, eqb, None, Option, Some}
use Rattle.gif.specs.declared.GifPath.{GifPath}
use Rattle.gif.specs.declared.Write.{Write}
use Rattle.gif.specs.declared.Writes.{Writes}
use Rattle.gif.specs.declared.Writes.TheVariants.{Nothing, One, Two}
use Rattle.gif.specs.declared.HeldTag.{HeldTag}
use Rattle.gif.specs.declared.Path.{Path}
use Rattle.gif.specs.declared.QuadwordsResult.{QuadwordsResult}
use Rattle.gif.specs.declared.Quadword.{Quadword}
use Rattle.fields.specs.Fields.{if, quadword}
use Rattle.gif.specs.Log.{entry_size, HasRoom, write}
use Rattle.gif.specs.Tag.{with_due}
use Rattle.gif.specs.Range.{TagFits, PlaceFits}
use Rattle.gif.specs.Feed.{Fed, fed, feeds_of}

-- what the program holds of a step's writes, of which there are at most two, as a list
abbrev pub listed : Writes → List Write
listed Nothing = []
listed (One w) = w ∷ []
listed (Two w x) = w ∷ x ∷ []

-- the number that a quadword's halves are
abbrev pub quadword_of : Quadword → ℕ
quadword_of x = quadword x.low x.high

-- what came with k quadwords before it, which closed c packets
abbrev pub plus : ℕ → ℕ → Fed → Fed
plus k c x = fed x.path x.used x.log (k + x.taken) (c + x.packets) x.refusal

-- the n quadwords from address a on close c packets and lead from a path, the entries used and the log to others, whatever comes after them
pub record Leads (which : GifPath) (main : List ℕ) (a n c : ℕ) (p : Path) (used : ℕ) (log : List ℕ) (p' : Path) (used' : ℕ) (log' : List ℕ) : Type 0 where
  pub goes : (k : ℕ) → feeds_of which main a (n + k) p used log ≡ plus n c (feeds_of which main (a + 16 * n) k p' used' log')
  pub stays : PlaceFits p.place → PlaceFits p'.place

-- the place after n more data quadwords of a tag: the last one leaves the path idle
unfoldable pub place_after_many : HeldTag → ℕ → Option HeldTag
place_after_many t n = if (eqb t.due n) None (Some (with_due t (t.due - n)))

-- whether the last of them closes a packet
unfoldable pub many_close : HeldTag → ℕ → Bool
many_close t n = t.eop && eqb t.due n

-- n quadwords from address a on lie inside main memory
pub record QuadwordsInside (main : List ℕ) (a n : ℕ) : Type 0 where
  pub most : length main ≤ 1048576
  pub inner : a + 16 * n ≤ length main

-- they are data of a tag, and the log has room for two entries each
pub record DataFits (t : HeldTag) (main : List ℕ) (a n : ℕ) (log : List ℕ) (used : ℕ) : Type 0 where
  pub held : TagFits t
  pub lie : QuadwordsInside main a n
  pub due : n ≤ t.due
  pub room : HasRoom log used (2 * n)

-- at most n quadwords from address a on were taken, as the result says, with the log afterwards
pub record TakenAtOnce (which : GifPath) (main : List ℕ) (a n : ℕ) (p : Path) (used : ℕ) (log : List ℕ)
    (r : QuadwordsResult) (log' : List ℕ) : Type 0 where
  pub few : r.taken ≤ n
  pub closed : r.packets ≤ r.taken
  pub holds : entry_size * r.used ≤ length log
  pub leads : Leads which main a r.taken r.packets p used log r.path r.used log'

-- "each two writes to 54h, low half first"
abbrev pub image_writes : ℕ → ℕ → List Write
image_writes low high = write 84 low ∷ write 84 high ∷ []
