-- The range of a waiting UNPACK: "if its step would accept it under the held CL and WL, ... with one unit to all of its payload still due"; a unit is a word.
use Rattle.std.specs.Prelude.{◌≡◌, ℕ, ◌≤◌, Bool, false, not, ◌&&◌, ◌==◌, nat_le}
use Rattle.unpack_rules.specs.declared.Format.{Format}
use Rattle.unpack_rules.specs.declared.Unpacking.{Unpacking}
use Rattle.unpack_rules.specs.Payload.{payload_words}
use Rattle.unpack_rules.specs.Position.{address_most, vectors_before}

-- Request 3: "22 remains for WL 0 only, in its old place." It supersedes document 01's "22 UNPACK with WL 0 or WL > CL".
unfoldable pub cycle_refused : ℕ → ℕ → Bool
cycle_refused cl wl = wl == 0

-- what is accepted; CL and WL have eight bits
unfoldable pub cycle_in_range : ℕ → ℕ → Bool
cycle_in_range cl wl = not (cycle_refused cl wl) && (nat_le cl 255 && nat_le wl 255)

-- the payload words of n writes under CL and WL
abbrev pub payload_for : Format → ℕ → ℕ → ℕ → ℕ
payload_for f cl wl n = payload_words f (vectors_before cl wl n)

unfoldable pub unpacking_in_range : Format → ℕ → ℕ → Unpacking → Bool
unpacking_in_range f cl wl u =
    nat_le u.address address_most
    && (nat_le 1 u.count && (nat_le u.count 256 && (nat_le 1 u.due && nat_le u.due (payload_for f cl wl u.count))))

-- the same as facts, for inner functions
pub record CycleFits (cl wl : ℕ) : Type 0 where
  pub accepted : cycle_refused cl wl ≡ false
  pub some : 1 ≤ wl
  pub most : cl ≤ 255
  pub wide : wl ≤ 255

pub record UnpackingFits (f : Format) (cl wl : ℕ) (u : Unpacking) : Type 0 where
  pub inside : u.address ≤ address_most
  pub some : 1 ≤ u.count
  pub few : u.count ≤ 256
  pub left : 1 ≤ u.due
  pub most : u.due ≤ payload_for f cl wl u.count
