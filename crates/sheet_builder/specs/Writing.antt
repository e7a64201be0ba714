-- The chain written record by record: what inner functions require of their input, and what they make of it; no promise of a public function cites them.
use Rattle.std.specs.Prelude.{ℕ, ◌+◌, ◌*◌, ◌<◌, ◌≤◌, ◌-◌, List, [], ◌∷◌, ◌++◌, length, ltb}
use Rattle.std.proofs.lemmas.List.Edits.{sets}
use Rattle.fields.specs.Fields.{if}
use Rattle.fields.specs.Refusals.{output_short}
use Rattle.sheet.specs.declared.Kind.{Kind}
use Rattle.sheet.specs.declared.sums.Totals.{Totals}
use Rattle.sheet_builder.specs.declared.writer.Writer.{Writer}
use Rattle.sheet.specs.Records.{Record, body_length}
use Rattle.sheet.specs.Reader.{Contents, valid, refused}
use Rattle.sheet.specs.Sizes.{record_quadwords}
use Rattle.sheet.specs.Layout.{laid_out, chain_of}

-- the chain of a sheet's contents, none where it is refused
abbrev pub chain_in : Contents → List ℕ
chain_in (valid rs) = chain_of rs
chain_in (refused n offset) = []

-- a record's body lies in the sheet, its numbers are in their ranges, and its part of the chain fits
pub record RecordRoom (sheet : List ℕ) (body : ℕ) (k : Kind) (n a : ℕ) (output : List ℕ) (at : ℕ) : Type 0 where
  pub count : n ≤ 255
  pub address : a < 65536
  pub inside : body + body_length k n ≤ length sheet
  pub room : at + 16 * record_quadwords k n ≤ length output

-- the chain without its end tag
unfoldable pub laid_all : List Record → List ℕ
laid_all [] = []
laid_all (r ∷ rs) = laid_out r ++ laid_all rs

-- the output, and the place after what was written
pub record Out : Type 0 where
  pub output : List ℕ
  pub to : ℕ

abbrev pub out : List ℕ → ℕ → Out
out output to = record { output = output; to = to }

-- a writer with these
abbrev pub with_out : Writer → Out → Writer
with_out w o = record w { output = record w.output { now = o.output }; to = o.to }

unfoldable pub write : List Record → Out → Out
write rs o = out (sets o.output o.to (laid_all rs)) (o.to + length (laid_all rs))

-- the records' chain fits from there on, its end tag too
pub record WriteRoom (rs : List Record) (o : Out) : Type 0 where
  pub room : o.to + length (chain_of rs) ≤ length o.output

-- "47, exactly if the chain is longer than the output", of what is left of it; 0 for none
unfoldable pub write_refusal : Totals → Out → ℕ
write_refusal t o = if (ltb (length o.output - o.to) (16 * t.quadwords)) output_short 0
