-- The builder: "last 47, exactly if the chain is longer than the output." "The output is untouched by a refusal, and beyond the chain on success."
use Rattle.std.specs.Prelude.{ℕ, List, ◌++◌, length, drop, ltb}
use Rattle.fields.specs.Refusals.{output_short}
use Rattle.fields.specs.Fields.{if}
use Rattle.sheet.specs.BuildAnswer.{BuildAnswer, Built, Refused}
use Rattle.sheet.specs.Reader.{Contents, valid, refused}
use Rattle.sheet.specs.Layout.{chain_of}
use Rattle.sheet.specs.Editions.{contents_of}

-- what the builder leaves: its answer and the output
pub record Left : Type 0 where
  pub answer : BuildAnswer
  pub output : List ℕ

abbrev pub left : BuildAnswer → List ℕ → Left
left a output = record { answer = a; output = output }

-- the chain in the output, what lies beyond as it was
abbrev pub stored : List ℕ → List ℕ → List ℕ
stored chain output = chain ++ drop (length chain) output

abbrev pub built_from : Contents → List ℕ → Left
built_from (valid rs) output =
    if (ltb (length output) (length (chain_of rs))) (left (Refused output_short 0) output)
    (left (Built (length (chain_of rs))) (stored (chain_of rs) output))
built_from (refused n offset) output = left (Refused n offset) output

unfoldable pub build_of : List ℕ → List ℕ → Left
build_of sheet output = built_from (contents_of sheet) output

-- "gets one number: the chain's length in bytes, or the refusal without its offset"
abbrev pub exported_number : BuildAnswer → ℕ
exported_number (Built n) = n
exported_number (Refused n offset) = n
