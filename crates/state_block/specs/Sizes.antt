-- The sizes of the blocks, and the places of a state's parts, in words.
use Rattle.std.specs.Prelude.{ℕ, ◌+◌, List, take, drop}

abbrev pub path_size : ℕ
path_size = 9

-- a unit's registers, and the code that waits
abbrev pub register_size : ℕ
register_size = 21

abbrev pub waiting_size : ℕ
waiting_size = 11

abbrev pub unit_size : ℕ
unit_size = register_size + waiting_size

-- what a state has besides its units and its paths
abbrev pub chain_size : ℕ
chain_size = 13

-- a state's parts lie one after another
abbrev pub vif1_at : ℕ
vif1_at = chain_size

abbrev pub path2_at : ℕ
path2_at = vif1_at + unit_size

abbrev pub path3_at : ℕ
path3_at = path2_at + path_size

abbrev pub vif0_at : ℕ
vif0_at = path3_at + path_size

abbrev pub state_size : ℕ
state_size = vif0_at + unit_size

-- so many words of a block from a place on
abbrev pub part : ℕ → ℕ → List ℕ → List ℕ
part at n b = take n (drop at b)
