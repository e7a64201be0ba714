-- Any action on the records of an expansion, one turn at a time: once for the chain and the meaning.
use mathlib.Core.Path.{◌≡◌, refl, sym, ap, ◌∙◌}
use mathlib.Core.List.{List, [], ◌∷◌, ◌++◌}
use Prim.Native.Nat.{ℕ, suc, ◌+◌, ◌-◌, ◌<◌, ◌≤◌}
use native.Mathlib.Omega.{arith}
use lib.ListN.{length}
use Rattle.std.proofs.Common.{Result, Ok, Err, Option, Some, None}
use Rattle.std.specs.Result.{IsOk}
use Rattle.std.specs.Option.{IsSome}
use Rattle.sheet.specs.declared.SheetError.{SheetError}
use Rattle.sheet.specs.declared.Item.{Item as HeaderItem}
use Rattle.sheet.specs.declared.Kind.{Kind}
use Rattle.sheet.specs.Records.{Record, record_of, body_length, bytes_at}
use Rattle.sheet.specs.Reader.{Contents, valid, refused as noContents}
use Rattle.sheet.specs.Header.{End, Single, Group, Refused, header}
use Rattle.sheet.specs.Items.{Item, repeated, expanded_item, expanded}
use Rattle.sheet.specs.Groups.{header_at}
use Rattle.sheet.specs.Groups.{ItemRead, ended, item, refused, MembersRead, members, broken, on_member, members_from, grouped, group_from, item_at}
use Rattle.sheet.specs.Acts.{Done, done, item_done, members_done, turns_done, ItemFits, MembersFit, TurnsFit, SheetFits, sheet_done, records_in}
use Rattle.sheet.specs.Editions.{before_all, on_item, deepest, expansion_from}
use Rattle.sheet.proofs.HeaderLaws.{group_opens}
use Rattle.sheet.proofs.ItemLaws.{item_end, item_single, item_group, item_refused}
use Rattle.sheet.proofs.PlaceLaws.{First, members_first, group_inside, item_after, ended_past}
use Rattle.sheet.proofs.ExpansionLaws.{from_turn, from_past}

members_turn : (f : ℕ → ItemRead) (end k left at : ℕ) → k ≡ suc left → members_from f end k at ≡ on_member (members_from f end left) end (f at)
unfolding members_from
members_turn f end k left at h = rw h

turn_more : (n left : ℕ) (rs : List Record) → n ≡ suc left → repeated n rs ≡ rs ++ repeated left rs
unfolding repeated
turn_more n left rs h = rw h

item_same : {i j : Item} {a b : ℕ} → item i a ≡ item j b → i ≡ j
item_same e = cc

valid_same : {rs ss : List Record} → valid rs ≡ valid ss → rs ≡ ss
valid_same e = cc

-- an expansion that is read begins with an item's records
record Front (g : ℕ → Contents) (x : ItemRead) (rs : List Record) : Type 0 where
  first : Item
  place : ℕ
  others : List Record
  found : x ≡ item first place
  rest : g place ≡ valid others
  whole : rs ≡ expanded_item first ++ others

front_of : (g : ℕ → Contents) (i : Item) (at : ℕ) (c : Contents) {rs : List Record} → g at ≡ c → before_all (expanded_item i) c ≡ valid rs → Front g (item i at) rs
front_of g i at (valid ss) p e = record { first = i; place = at; others = ss; found = refl; rest = p; whole = sym (valid_same e) }
front_of g i at (noContents k offset) p e = absurd (let z : ◌≡◌ {A = ℕ} 0 1 = cc in omega arith)

items_front : (g : ℕ → Contents) (x : ItemRead) {rs : List Record} → (x ≡ ended → ⊥) → on_item g x ≡ valid rs → Front g x rs
items_front g ended z e = absurd (z refl)
items_front g (item i at) z e = front_of g i at (g at) refl e
items_front g (refused k offset) z e = absurd (let y : ◌≡◌ {A = ℕ} 0 1 = cc in omega arith)

-- the place after members
abbrev pub next_in : MembersRead → ℕ
next_in (members is next) = next
next_in (broken n offset) = 0

-- an action that goes on, with the room that it takes
pub record Action (S : Type 0) : Type 1 where
  pub act : List Record → S → S
  pub Room : List Record → S → Type 0
  pub nothing : (s : S) → act [] s ≡ s
  pub onward : (rs ss : List Record) (s : S) → act ss (act rs s) ≡ act (rs ++ ss) s
  pub before : (rs ss : List Record) (s : S) → Room (rs ++ ss) s → Room rs s
  pub behind : (rs ss : List Record) (s : S) → Room (rs ++ ss) s → Room ss (act rs s)

module _ {S : Type 0} (A : Action S) where
  -- what is done with a sheet's records, by the list of these
  pub sheet_acted : (c : Contents) {rs : List Record} → c ≡ valid rs → (s : S) → sheet_done A.act c s ≡ A.act (records_in c) s
  sheet_acted c e s = rw e

  -- ---- a sheet's items

  module _ (sheet : List ℕ) (at : ℕ) (s : S) (fits : SheetFits A.Room sheet at s) where
    pub sheet_end : length sheet ≤ at → sheet_done A.act (expansion_from sheet at) s ≡ s
    sheet_end h = rw (from_past sheet at h) (A.nothing s)

    module _ (inside : at < length sheet) where
      front : Front (expansion_from sheet) (item_at sheet deepest at) fits.records
      front = items_front (expansion_from sheet) (item_at sheet deepest at) (λ z. let l = ended_past sheet deepest at z in omega arith) (sym (from_turn sheet at) ∙ fits.accepted)

      room_front : A.Room (expanded_item front.first ++ front.others) s
      room_front = rw front.whole at fits.room

      pub item_fits : ItemFits A.Room (item_at sheet deepest at) s
      item_fits = record { first = front.first; next = front.place; accepted = front.found; room = A.before _ _ s room_front }

      module _ {a : ℕ} {t : S} (e : done a t ≡ item_done A.act (item_at sheet deepest at) s) where
        front_done : done a t ≡ done front.place (A.act (expanded_item front.first) s)
        unfolding item_done
        front_done = e ∙ ap (λ (x : ItemRead). item_done A.act x s) front.found

        front_place : a ≡ front.place
        front_place = ap (λ (d : Done S). d.next) front_done

        front_state : t ≡ A.act (expanded_item front.first) s
        front_state = ap (λ (d : Done S). d.state) front_done

        front_rest : expansion_from sheet a ≡ valid front.others
        front_rest = ap (expansion_from sheet) front_place ∙ front.rest

        pub item_next : (at + 6 ≤ a) × (a ≤ length sheet)
        item_next =
            let p = front_place in
            let h = item_after sheet deepest at front.place front.first front.found in
            (omega arith, omega arith)

        pub sheet_fits : SheetFits A.Room sheet a t
        sheet_fits = record { records = front.others; accepted = front_rest; room = rw front_state (A.behind _ _ s room_front) }

        pub sheet_done_lem : sheet_done A.act (expansion_from sheet a) t ≡ sheet_done A.act (expansion_from sheet at) s
        sheet_done_lem =
            rw (front_rest, fits.accepted, front_state)
            (A.onward (expanded_item front.first) front.others s ∙ ap (λ (l : List Record). A.act l s) (sym front.whole))

  -- ---- members

  module _ (f : ℕ → ItemRead) (end k left at : ℕ) (s : S) (fits : MembersFit A.Room (members_from f end k at) s) (some : k ≡ suc left) where
    split : First (members_from f end left) (f at) fits.items fits.next
    split = members_first (members_from f end left) end (f at) (sym (members_turn f end k left at some) ∙ fits.accepted)

    both : expanded fits.items ≡ expanded_item split.first ++ expanded split.others
    unfolding expanded
    both = ap expanded split.whole

    room : A.Room (expanded_item split.first ++ expanded split.others) s
    room = rw both at fits.room

    pub first_fits_lem : ItemFits A.Room (f at) s
    first_fits_lem = record { first = split.first; next = split.place; accepted = split.found; room = A.before _ _ s room }

    module _ {a : ℕ} {t : S} (e : done a t ≡ item_done A.act (f at) s) where
      there : done a t ≡ done split.place (A.act (expanded_item split.first) s)
      unfolding item_done
      there = e ∙ ap (λ (x : ItemRead). item_done A.act x s) split.found

      place_is : a ≡ split.place
      place_is = ap (λ (d : Done S). d.next) there

      state_is : t ≡ A.act (expanded_item split.first) s
      state_is = ap (λ (d : Done S). d.state) there

      rest_is : members_from f end left a ≡ members split.others fits.next
      rest_is = ap (members_from f end left) place_is ∙ split.rest

      pub first_found : (i : Item) × (f at ≡ item i a)
      first_found = (split.first, split.found ∙ rw place_is)

      pub others_fit : MembersFit A.Room (members_from f end left a) t
      others_fit = record { items = split.others; next = fits.next; accepted = rest_is; room = rw state_is (A.behind _ _ s room) }

      pub others_done : members_done A.act (members_from f end left a) t ≡ members_done A.act (members_from f end k at) s
      unfolding members_done
      others_done = rw (rest_is, fits.accepted, state_is, A.onward (expanded_item split.first) (expanded split.others) s, both)

  -- the next member, where one is left
  pub first_fits : (f : ℕ → ItemRead) (end k at : ℕ) (s : S) → MembersFit A.Room (members_from f end k at) s → 0 < k → ItemFits A.Room (f at) s
  first_fits f end k at s fits some = first_fits_lem f end k (k - 1) at s fits (omega arith)

  -- no member left
  pub members_done_lem : (f : ℕ → ItemRead) (end k at : ℕ) (s : S) {x : Done S} → members_done A.act (members_from f end k at) s ≡ x → k ≡ 0 → done at s ≡ x
  unfolding members_from members_done expanded
  members_done_lem f end k at s e z = rw (z, A.nothing s) at e

  -- ---- so many times

  module _ (n left : ℕ) (m : MembersRead) (s : S) (fits : TurnsFit A.Room n m s) (some : n ≡ suc left) where
    turn_room : A.Room (expanded fits.items ++ repeated left (expanded fits.items)) s
    turn_room = rw (turn_more n left (expanded fits.items) some) at fits.room

    pub turn_fits_lem : MembersFit A.Room m s
    turn_fits_lem = record { items = fits.items; next = fits.next; accepted = fits.accepted; room = A.before _ _ s turn_room }

    module _ {a : ℕ} {t : S} (e : done a t ≡ members_done A.act m s) where
      turned : done a t ≡ done fits.next (A.act (expanded fits.items) s)
      unfolding members_done
      turned = e ∙ ap (λ (x : MembersRead). members_done A.act x s) fits.accepted

      turned_state : t ≡ A.act (expanded fits.items) s
      turned_state = ap (λ (d : Done S). d.state) turned

      pub turn_next : a ≡ next_in m
      turn_next = ap (λ (d : Done S). d.next) turned ∙ rw fits.accepted

      pub turns_fit : TurnsFit A.Room left m t
      turns_fit = record { items = fits.items; next = fits.next; accepted = fits.accepted; room = rw turned_state (A.behind _ _ s turn_room) }

      pub turns_done_lem : turns_done A.act left m t ≡ turns_done A.act n m s
      unfolding turns_done
      turns_done_lem =
          rw (fits.accepted, turned_state, A.onward (expanded fits.items) (repeated left (expanded fits.items)) s, ← turn_more n left (expanded fits.items) some)

  -- the next turn, where one is left
  pub turn_fits : (n : ℕ) (m : MembersRead) (s : S) → TurnsFit A.Room n m s → 0 < n → MembersFit A.Room m s
  turn_fits n m s fits some = turn_fits_lem n (n - 1) m s fits (omega arith)

  -- no turn left
  pub turns_none : (n : ℕ) (m : MembersRead) (s : S) {a : ℕ} {x : Done S} → TurnsFit A.Room n m s → turns_done A.act n m s ≡ x → n ≡ 0 → a ≡ next_in m → done a s ≡ x
  unfolding turns_done repeated
  turns_none n m s fits e z p =
      rw (p, fits.accepted) (rw (z, A.nothing s) at (sym (ap (λ (y : MembersRead). turns_done A.act n y s) fits.accepted) ∙ e))

  -- ---- an item

  -- a group is its members so many times
  grouped_done : (n : ℕ) (s : S) (m : MembersRead) → turns_done A.act n m s ≡ item_done A.act (grouped n m) s
  unfolding turns_done item_done expanded_item
  grouped_done n s (members is next) = refl
  grouped_done n s (broken c offset) = refl

  module _ (sheet : List ℕ) (depth at : ℕ) (s : S) (fits : ItemFits A.Room (item_at sheet depth at) s) where
    pub never_end : End ≡ header_at sheet depth at → ⊥
    never_end q = let p = item_end sheet at depth (sym q) in let r = fits.accepted in let z : ◌≡◌ {A = ℕ} 0 1 = cc in omega arith

    pub never_refused : {n offset : ℕ} → Refused n offset ≡ header_at sheet depth at → ⊥
    never_refused q = let p = item_refused sheet at depth (sym q) in let r = fits.accepted in let z : ◌≡◌ {A = ℕ} 0 1 = cc in omega arith

    -- so the header's reader gives an item
    pub header_ok : (r : Result (Option HeaderItem) SheetError) → header r ≡ header_at sheet depth at → IsOk r
    header_ok (Ok o) q = refl
    header_ok (Err e) q = absurd (never_refused q)

    pub header_some : (o : Option HeaderItem) → header (Ok o) ≡ header_at sheet depth at → IsSome o
    header_some None q = absurd (never_end q)
    header_some (Some i) q = refl

    pub single_room : {k : Kind} {n a next : ℕ} → Single k n a next ≡ header_at sheet depth at
        → A.Room (record_of k n a (bytes_at sheet (at + 6) (body_length k n)) ∷ []) s
    unfolding expanded_item
    single_room q = rw (item_same (sym fits.accepted ∙ item_single sheet at depth (sym q))) at fits.room

    pub single_done : {k : Kind} {n a next : ℕ} {t : S} → Single k n a next ≡ header_at sheet depth at
        → t ≡ A.act (record_of k n a (bytes_at sheet (at + 6) (body_length k n)) ∷ []) s
        → done next t ≡ item_done A.act (item_at sheet depth at) s
    unfolding item_done expanded_item
    single_done q te = rw (item_single sheet at depth (sym q), te)

    module _ {n k : ℕ} (q : Group n k ≡ header_at sheet depth at) where
      pub group_fits : (0 < n) × TurnsFit A.Room n (members_from (item_at sheet (depth - 1)) (length sheet) k (at + 6)) s
      unfolding group_from expanded_item
      group_fits =
          let o = group_opens sheet depth at (sym q) in
          let g = group_inside n (members_from (item_at sheet (depth - 1)) (length sheet) k (at + 6)) (sym (item_group sheet at depth (sym q)) ∙ fits.accepted) in
          (o.some, record { items = g.items; next = fits.next; accepted = g.are; room = rw g.whole at fits.room })

      pub group_done : {x : Done S} → x ≡ turns_done A.act n (members_from (item_at sheet (depth - 1)) (length sheet) k (at + 6)) s
          → x ≡ item_done A.act (item_at sheet depth at) s
      unfolding group_from
      group_done xe = xe ∙ grouped_done n s (members_from (item_at sheet (depth - 1)) (length sheet) k (at + 6)) ∙ rw (item_group sheet at depth (sym q))
