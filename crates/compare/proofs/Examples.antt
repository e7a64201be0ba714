-- Worked examples, computed.
use mathlib.Core.Path.{◌≡◌, refl}
use mathlib.Core.Bool.{true, false}
use mathlib.Core.List.{[], ◌∷◌}
use Rattle.fields.specs.Fields.{if}
use Rattle.gif.specs.Log.{entry_size}
use Rattle.memories.specs.declared.VifUnit.{VifUnit}
use Rattle.memories.specs.declared.VifUnit.TheVariants.{Vif0, Vif1}
use Rattle.compare.specs.Parts.{data_part, code_part, log_part, asks}
use Rattle.compare.specs.Tests.{holds_of_some, how_many, first_of}
use Rattle.compare.specs.Elements.{number_differs, differs, found, found_in, found_from}

-- four entries, of which the last three differ: one in its path, one in its register, one in its value
pub three_differ :
    found_in entry_size (2 ∷ 14 ∷ 1 ∷ 2 ∷ 14 ∷ 2 ∷ 2 ∷ 14 ∷ 3 ∷ 0 ∷ 256 ∷ 4 ∷ []) (2 ∷ 14 ∷ 1 ∷ 3 ∷ 14 ∷ 2 ∷ 2 ∷ 15 ∷ 3 ∷ 0 ∷ 256 ∷ 9 ∷ []) 4 ≡ found 1 3
unfolding found_in first_of how_many differs number_differs holds_of_some if
three_differ = refl

-- the same of the first entry alone, which does not differ
pub none_differs : found_in entry_size (2 ∷ 14 ∷ 1 ∷ 2 ∷ 14 ∷ 2 ∷ []) (2 ∷ 14 ∷ 1 ∷ 3 ∷ 14 ∷ 2 ∷ []) 1 ≡ found 1 0
unfolding found_in first_of how_many differs number_differs holds_of_some if
none_differs = refl

-- quadwords that differ in their last word
pub last_word : found_in 4 (1 ∷ 2 ∷ 3 ∷ 4 ∷ []) (1 ∷ 2 ∷ 3 ∷ 5 ∷ []) 1 ≡ found 0 1
unfolding found_in first_of how_many differs number_differs holds_of_some if
last_word = refl

-- quadwords 1 to 2 of three, of which the outer ones differ
pub range_found : found_from 4 1 (9 ∷ 2 ∷ 3 ∷ 4 ∷ 1 ∷ 2 ∷ 3 ∷ 4 ∷ 1 ∷ 2 ∷ 3 ∷ 4 ∷ []) (1 ∷ 2 ∷ 3 ∷ 4 ∷ 1 ∷ 2 ∷ 3 ∷ 4 ∷ 1 ∷ 2 ∷ 9 ∷ 4 ∷ []) 2 ≡ found 2 1
unfolding found_from found_in first_of how_many differs number_differs holds_of_some if
range_found = refl

-- and quadword 1 alone
pub range_same : found_from 4 1 (9 ∷ 2 ∷ 3 ∷ 4 ∷ 1 ∷ 2 ∷ 3 ∷ 4 ∷ []) (1 ∷ 2 ∷ 3 ∷ 4 ∷ 1 ∷ 2 ∷ 3 ∷ 4 ∷ []) 1 ≡ found 2 0
unfolding found_from found_in first_of how_many differs number_differs holds_of_some if
range_same = refl

-- 13 asks for VIF1's data memory, the log and VIF0's data memory
pub thirteen_data : (u : VifUnit) → asks 13 (data_part u) ≡ true
unfolding asks
thirteen_data Vif1 = refl
thirteen_data Vif0 = refl

pub thirteen_code : (u : VifUnit) → asks 13 (code_part u) ≡ false
unfolding asks
thirteen_code Vif1 = refl
thirteen_code Vif0 = refl

pub thirteen_log : asks 13 log_part ≡ true
unfolding asks
thirteen_log = refl
