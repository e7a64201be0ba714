-- The numbers that a sheet of either edition is refused with: those of specs/Numbers, and no other.
use mathlib.Core.Path.{◌≡◌, refl}
use mathlib.Core.Bool.{false}
use mathlib.Core.List.{List}
use Prim.Native.Nat.{ℕ, zero, suc, ◌+◌}
use borrow.Author.Tests.{eqb-false}
use lib.ListN.{length}
use lib.Dec.{eqb}
use Rattle.fields.proofs.ChoiceLaws.{if_ind, if_ind_by}
use Rattle.sheet.specs.declared.Kind.{Kind}
use Rattle.sheet.specs.Reading.{Reading, End as NoRecord, Found, Refused as RecordRefused}
use Rattle.sheet.specs.Header.{Header, End, Single, Group, Refused}
use Rattle.sheet.specs.BuildAnswer.{BuildAnswer, Built, Refused as BuildRefused}
use Rattle.sheet.specs.StepsAnswer.{StepsAnswer, Steps, Refused as StepsRefused}
use Rattle.sheet.specs.Records.{Record, header_length}
use Rattle.sheet.specs.Items.{Item, Items}
use Rattle.sheet.specs.Numbers.{SheetNumber, mark, kind, count, address, cut, pad, long, chain, deep, BuildNumber, of_sheet, short}
use Rattle.sheet.specs.Reader.{Contents, valid, refused, row_refusal, record_refusal, reading_at, before, on_reading, records_from, contents_from}
use Rattle.sheet.specs.Groups.{group_refusal, plain_header, header_at, ItemRead, ended, item, refused as itemRefused, MembersRead, members, broken, before as beforeMembers, on_member, members_from, grouped, group_from, on_header, item_at}
use Rattle.sheet.specs.Editions.{before_all, on_item, items_from, expansion_from, deepest, limited, edition_refusal, second_of, contents_of}
use Rattle.sheet.specs.Build.{Left, built_from, build_of}
use Rattle.sheet.specs.Results.{steps_in, steps_of_sheet}

-- ---- the refusals of a header and of a record

-- no refusal, or one of the numbers
data Told : ℕ → Type 0 where
  nothing : Told 0
  told : {n : ℕ} → SheetNumber n → Told n

some_told : {n : ℕ} → Told n → eqb n 0 ≡ false → SheetNumber n
some_told nothing e = absurd (eqb-false 0 0 e refl)
some_told (told s) e = s

row_told : (sheet : List ℕ) (at : ℕ) → Told (row_refusal sheet at)
unfolding row_refusal
row_told sheet at = if_ind Told _ (told count) (if_ind Told _ (told address) (if_ind Told _ (told cut) (if_ind Told _ (told pad) nothing)))

record_told : (sheet : List ℕ) (at : ℕ) → Told (record_refusal sheet at)
unfolding record_refusal
record_told sheet at = if_ind Told _ (told cut) (if_ind Told _ (told mark) (if_ind Told _ (told kind) (row_told sheet at)))

group_told : (depth : ℕ) (sheet : List ℕ) (at : ℕ) → Told (group_refusal depth sheet at)
unfolding group_refusal
group_told depth sheet at = if_ind Told _ (told count) (if_ind Told _ (told address) (if_ind Told _ (told deep) nothing))

edition_told : (sheet : List ℕ) → Told (edition_refusal sheet)
unfolding edition_refusal
edition_told sheet = if_ind Told _ (told count) (if_ind Told _ (told address) nothing)

-- ---- what is read at a place

data ReadingTold : Reading → Type 0 where
  no_record : ReadingTold NoRecord
  found : {k : Kind} {n a next : ℕ} → ReadingTold (Found k n a next)
  refusal : {n offset : ℕ} → SheetNumber n → ReadingTold (RecordRefused n offset)

data HeaderTold : Header → Type 0 where
  no_header : HeaderTold End
  single_header : {k : Kind} {n a next : ℕ} → HeaderTold (Single k n a next)
  group_header : {n k : ℕ} → HeaderTold (Group n k)
  header_refusal : {n offset : ℕ} → SheetNumber n → HeaderTold (Refused n offset)

data ItemTold : ItemRead → Type 0 where
  no_item : ItemTold ended
  one_item : {i : Item} {next : ℕ} → ItemTold (item i next)
  item_refusal : {n offset : ℕ} → SheetNumber n → ItemTold (itemRefused n offset)

data MembersTold : MembersRead → Type 0 where
  all_members : {is : Items} {next : ℕ} → MembersTold (members is next)
  members_refusal : {n offset : ℕ} → SheetNumber n → MembersTold (broken n offset)

data ContentsTold : Contents → Type 0 where
  all_valid : {rs : List Record} → ContentsTold (valid rs)
  sheet_refusal : {n offset : ℕ} → SheetNumber n → ContentsTold (refused n offset)

reading_told : (sheet : List ℕ) (at : ℕ) → ReadingTold (reading_at sheet at)
unfolding reading_at
reading_told sheet at =
    if_ind ReadingTold _ no_record
    (if_ind_by ReadingTold _ (λ _. found) (λ e. refusal (some_told (record_told sheet at) e)))

plain_told : {r : Reading} → ReadingTold r → HeaderTold (plain_header r)
plain_told no_record = no_header
plain_told found = single_header
plain_told (refusal s) = header_refusal s

header_told : (sheet : List ℕ) (depth at : ℕ) → HeaderTold (header_at sheet depth at)
unfolding header_at
header_told sheet depth at =
    if_ind HeaderTold _
    (if_ind_by HeaderTold _ (λ _. group_header) (λ e. header_refusal (some_told (group_told depth sheet at) e)))
    (plain_told (reading_told sheet at))

-- ---- items

on_header_told : (f : ℕ → ℕ → ItemRead) (sheet : List ℕ) (at : ℕ) {h : Header} → ((n k : ℕ) → ItemTold (f n k)) → HeaderTold h
    → ItemTold (on_header f sheet at h)
on_header_told f sheet at t no_header = no_item
on_header_told f sheet at t single_header = one_item
on_header_told f sheet at t (group_header {n} {k}) = t n k
on_header_told f sheet at t (header_refusal s) = item_refusal s

before_told : (i : Item) {m : MembersRead} → MembersTold m → MembersTold (beforeMembers i m)
before_told i all_members = all_members
before_told i (members_refusal s) = members_refusal s

on_member_told : (f : ℕ → MembersRead) (end : ℕ) {r : ItemRead} → ((at : ℕ) → MembersTold (f at)) → ItemTold r → MembersTold (on_member f end r)
on_member_told f end t no_item = members_refusal cut
on_member_told f end t (one_item {i} {next}) = before_told i (t next)
on_member_told f end t (item_refusal s) = members_refusal s

members_told : (f : ℕ → ItemRead) (end k at : ℕ) → ((at : ℕ) → ItemTold (f at)) → MembersTold (members_from f end k at)
unfolding members_from
members_told f end zero at t = all_members
members_told f end (suc k) at t = on_member_told (members_from f end k) end (λ b. members_told f end k b t) (t at)

grouped_told : (n : ℕ) {m : MembersRead} → MembersTold m → ItemTold (grouped n m)
grouped_told n all_members = one_item
grouped_told n (members_refusal s) = item_refusal s

group_from_told : (f : ℕ → ItemRead) (end at n k : ℕ) → ((at : ℕ) → ItemTold (f at)) → ItemTold (group_from f end at n k)
unfolding group_from
group_from_told f end at n k t = grouped_told n (members_told f end k at t)

item_told : (sheet : List ℕ) (depth at : ℕ) → ItemTold (item_at sheet depth at)
unfolding item_at
item_told sheet zero at = on_header_told (λ n k. ended) sheet at (λ n k. no_item) (header_told sheet 0 at)
item_told sheet (suc depth) at =
    on_header_told (group_from (item_at sheet depth) (length sheet) (at + header_length)) sheet at
    (λ n k. group_from_told (item_at sheet depth) (length sheet) (at + header_length) n k (item_told sheet depth))
    (header_told sheet (suc depth) at)

-- ---- sheets

before_record : (r : Record) {c : Contents} → ContentsTold c → ContentsTold (before r c)
before_record r all_valid = all_valid
before_record r (sheet_refusal s) = sheet_refusal s

on_reading_told : (f : ℕ → Contents) (sheet : List ℕ) (at : ℕ) {r : Reading} → ((at : ℕ) → ContentsTold (f at)) → ReadingTold r
    → ContentsTold (on_reading f sheet at r)
on_reading_told f sheet at t no_record = all_valid
on_reading_told f sheet at t (found {next = next}) = before_record _ (t next)
on_reading_told f sheet at t (refusal s) = sheet_refusal s

records_told : (n : ℕ) (sheet : List ℕ) (at : ℕ) → ContentsTold (records_from n sheet at)
unfolding records_from
records_told zero sheet at = all_valid
records_told (suc n) sheet at = on_reading_told (records_from n sheet) sheet at (records_told n sheet) (reading_told sheet at)

before_all_lem : (rs : List Record) {c : Contents} → ContentsTold c → ContentsTold (before_all rs c)
before_all_lem rs all_valid = all_valid
before_all_lem rs (sheet_refusal s) = sheet_refusal s

on_item_told : (f : ℕ → Contents) {r : ItemRead} → ((at : ℕ) → ContentsTold (f at)) → ItemTold r → ContentsTold (on_item f r)
on_item_told f t no_item = all_valid
on_item_told f t (one_item {next = next}) = before_all_lem _ (t next)
on_item_told f t (item_refusal s) = sheet_refusal s

items_told : (n : ℕ) (sheet : List ℕ) (at : ℕ) → ContentsTold (items_from n sheet at)
unfolding items_from
items_told zero sheet at = all_valid
items_told (suc n) sheet at = on_item_told (items_from n sheet) (items_told n sheet) (item_told sheet deepest at)

limited_told : {c : Contents} → ContentsTold c → ContentsTold (limited c)
unfolding limited
limited_told all_valid = if_ind ContentsTold _ (sheet_refusal chain) all_valid
limited_told (sheet_refusal s) = sheet_refusal s

second_told : (sheet : List ℕ) → ContentsTold (second_of sheet)
unfolding second_of expansion_from
second_told sheet =
    if_ind_by ContentsTold _ (λ _. limited_told (items_told (length sheet) sheet header_length))
    (λ e. sheet_refusal (some_told (edition_told sheet) e))

contents_told : (sheet : List ℕ) → ContentsTold (contents_of sheet)
unfolding contents_of contents_from
contents_told sheet =
    if_ind ContentsTold _ (sheet_refusal long)
    (if_ind ContentsTold _ (second_told sheet) (records_told (length sheet) sheet 0))

number_of : {n offset : ℕ} → ContentsTold (refused n offset) → SheetNumber n
number_of (sheet_refusal s) = s

-- a sheet of either edition is refused with 40 to 46, 49 or 52
pub contents_refused : (sheet : List ℕ) {n offset : ℕ} → contents_of sheet ≡ refused n offset → SheetNumber n
contents_refused sheet h = let t = contents_told sheet in number_of (rw h at t)

-- ---- the builder and the steps

data BuildTold : BuildAnswer → Type 0 where
  built : {n : ℕ} → BuildTold (Built n)
  build_refusal : {n offset : ℕ} → BuildNumber n → BuildTold (BuildRefused n offset)

build_told : (output : List ℕ) {c : Contents} → ContentsTold c → BuildTold (built_from c output).answer
build_told output all_valid = if_ind (λ (l : Left). BuildTold l.answer) _ (build_refusal short) built
build_told output (sheet_refusal s) = build_refusal (of_sheet s)

build_number : {n offset : ℕ} → BuildTold (BuildRefused n offset) → BuildNumber n
build_number (build_refusal s) = s

-- a build is refused with these or 47
pub build_refused : (sheet output : List ℕ) {n offset : ℕ} → (build_of sheet output).answer ≡ BuildRefused n offset → BuildNumber n
unfolding build_of
build_refused sheet output h = let t = build_told output (contents_told sheet) in build_number (rw h at t)

data StepsTold : StepsAnswer → Type 0 where
  counted : {n : ℕ} → StepsTold (Steps n)
  steps_refusal : {n offset : ℕ} → SheetNumber n → StepsTold (StepsRefused n offset)

steps_told : {c : Contents} → ContentsTold c → StepsTold (steps_in c)
steps_told all_valid = counted
steps_told (sheet_refusal s) = steps_refusal s

steps_number : {n offset : ℕ} → StepsTold (StepsRefused n offset) → SheetNumber n
steps_number (steps_refusal s) = s

-- and so are its steps
pub steps_refused : (sheet : List ℕ) {n offset : ℕ} → steps_of_sheet sheet ≡ StepsRefused n offset → SheetNumber n
steps_refused sheet h = let t = steps_told (contents_told sheet) in steps_number (rw h at t)
