-- Sheets of both editions: request 12's "A sheet whose first record is kind 0, count 2, address 0 (no body; builds nothing, changes nothing, 0 quadwords and 0 steps) is
-- second edition and may hold groups", and its refusals.
use Rattle.std.specs.Prelude.{ℕ, zero, suc, not, List, [], ◌++◌, length, eqb, ltb}
use Rattle.fields.specs.Fields.{if}
use Rattle.fields.specs.Refusals.{count_wrong, address_wrong, sheet_long, chain_long}
use Rattle.sheet.specs.Records.{Record, longest, header_length}
use Rattle.sheet.specs.Reader.{Contents, valid, refused, count_at, address_at, contents_from}
use Rattle.sheet.specs.Layout.{chain_of}
use Rattle.sheet.specs.Items.{expanded_item}
use Rattle.sheet.specs.Groups.{starts_second, ItemRead, ended, item, refused as itemRefused, item_at}

-- records before others
abbrev pub before_all : List Record → Contents → Contents
before_all rs (valid ss) = valid (rs ++ ss)
before_all rs (refused n offset) = refused n offset

-- items in order, "the inner records repeated in order"; f reads on
abbrev pub on_item : (ℕ → Contents) → ItemRead → Contents
on_item f ended = valid []
on_item f (item i next) = before_all (expanded_item i) (f next)
on_item f (itemRefused n offset) = refused n offset

-- "to a depth of 8"
abbrev pub deepest : ℕ
deepest = 8

-- at most so many items from a place on, expanded
unfoldable pub items_from : ℕ → List ℕ → ℕ → Contents
items_from zero sheet at = valid []
items_from (suc n) sheet at = on_item (items_from n sheet) (item_at sheet deepest at)

-- the expansion from a place on: a sheet has no more items than bytes
unfoldable pub expansion_from : List ℕ → ℕ → Contents
expansion_from sheet at = items_from (length sheet) sheet at

-- "1,048,576 bytes"
abbrev pub longest_chain : ℕ
longest_chain = 1048576

-- "49 (offset 0) if the expanded chain exceeds 1,048,576 bytes"
unfoldable pub limited : Contents → Contents
limited (valid rs) = if (ltb longest_chain (length (chain_of rs))) (refused chain_long 0) (valid rs)
limited (refused n offset) = refused n offset

-- "42 for the count of kind 0", "43 for the address of kind 0": the refusal of a first record of kind 0, 0 where there is none
unfoldable pub edition_refusal : List ℕ → ℕ
edition_refusal sheet =
    if (not (eqb (count_at sheet 0) 2)) count_wrong
    (if (not (eqb (address_at sheet 0) 0)) address_wrong
    0)

-- a sheet that starts with a record of kind 0: the items after that record
unfoldable pub second_of : List ℕ → Contents
second_of sheet =
    if (eqb (edition_refusal sheet) 0) (limited (expansion_from sheet header_length))
    (refused (edition_refusal sheet) 0)

-- "A sheet is records to its end"; "46 sheet too long, first": the records of a sheet of either edition, those of the first as they stand, those of the second expanded
unfoldable pub contents_of : List ℕ → Contents
contents_of sheet =
    if (ltb longest (length sheet)) (refused sheet_long 0)
    (if (starts_second sheet) (second_of sheet)
    (contents_from sheet 0))
