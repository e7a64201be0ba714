-- REGLIST data: document 01's "REGLIST (1): 64 bits each, E and F nothing, an odd last half is dropped unread."
use Rattle.std.specs.Prelude.{ℕ, ◌+◌, ◌*◌, Bool, ◌||◌, ◌&&◌, List, [], ◌∷◌, ◌++◌, eqb, ltb}
use Rattle.gif.specs.declared.Write.{Write}
use Rattle.gif.specs.declared.HeldTag.{HeldTag}
use Rattle.fields.specs.Fields.{if, bits}
use Rattle.gif.specs.Log.{write}
use Rattle.gif.specs.Tag.{taken_of, descriptor_at}

-- "64 bits each, E and F nothing"
unfoldable pub reglist_write : ℕ → ℕ → List Write
reglist_write d x = if (eqb d 14 || eqb d 15) [] (write d x ∷ [])

-- the item that a data quadword's low half is: two items each quadword, one after another across the loops
abbrev pub first_item : HeldTag → ℕ
first_item t = 2 * taken_of t

-- whether its high half is an item too: "an odd last half is dropped unread"
abbrev pub has_second : HeldTag → Bool
has_second t = ltb (first_item t + 1) (t.nloop * t.nreg)

-- "30 descriptor B met at its data", in either half
unfoldable pub reglist_refused : HeldTag → Bool
reglist_refused t =
    eqb (descriptor_at t (first_item t)) 11 || (has_second t && eqb (descriptor_at t (first_item t + 1)) 11)

-- the writes of a data quadword, low half first
unfoldable pub reglist_writes : HeldTag → ℕ → List Write
reglist_writes t quad =
    reglist_write (descriptor_at t (first_item t)) (bits quad 0 63)
    ++ if (has_second t) (reglist_write (descriptor_at t (first_item t + 1)) (bits quad 64 127)) []
