-- Buffers read and written.
use mathlib.Core.Path.{◌≡◌, refl, sym, ap, ◌∙◌}
use mathlib.Core.Bool.{true, false, not, ◌||◌}
use mathlib.Core.Logic.{◌⊎◌, inl, inr}
use mathlib.Core.List.{List, [], ◌++◌, append-nil, append_assoc}
use Prim.Native.Nat.{ℕ, ◌+◌, ◌-◌, ◌<◌, ◌≤◌}
use native.Mathlib.Omega.{arith}
use borrow.Author.Tests.{eq-eqb, ne_eqb, lt-ltb, le-ltb}
use borrow.Rule.Slice.PartMut.{mid_of, put_mid}
use lib.ListN.{take, drop, length, length-append, length-drop, drop_of_length-le}
use lib.Seq.{take_all, drop-drop, drop_at, take_at}
use lib.Dec.{eqb, ltb}
use Rattle.tejborun.specs.Buffers.{written}

-- ---- lengths tested

-- a buffer that is to have just so many elements, and a result that is to have at least so many
module _ (block result : List ℕ) (size least : ℕ) where
  pub either_short : (length block ≡ size → ⊥) ⊎ (length block ≡ size) × (length result < least) → (not (eqb (length block) size) || ltb (length result) least) ≡ true
  either_short (inl h) = rw (ne_eqb (length block) size h)
  either_short (inr h) = rw (eq-eqb (length block) size h.0, lt-ltb (length result) least h.1)

  pub both_enough : length block ≡ size → least ≤ length result → (not (eqb (length block) size) || ltb (length result) least) ≡ false
  both_enough h l = rw (eq-eqb (length block) size h, le-ltb (length result) least l)

-- ---- numbers written

-- numbers behind numbers
pub written_behind : (ns cs res : List ℕ) {mid rest : List ℕ} → length ns + length cs ≤ length res → mid ≡ written ns res
    → rest ≡ written cs (mid_of (length ns) (length mid - length ns) mid)
    → put_mid (length ns) (length mid - length ns) mid rest ≡ written (ns ++ cs) res
unfolding written
written_behind ns cs res {mid} {rest} h m r =
    let l : length mid ≡ length res = ap length m ∙ simp (length-append, length-drop) (omega arith) in
    let d : drop (length ns) mid ≡ drop (length ns) res = ap (drop (length ns)) m ∙ drop_at ns (drop (length ns) res) (length ns) refl in
    let t : take (length ns) mid ≡ ns = ap (take (length ns)) m ∙ take_at ns (drop (length ns) res) (length ns) refl in
    let k = length-drop (length ns) res in
    let a : take (length mid - length ns) (drop (length ns) res) ≡ drop (length ns) res = take_all (length mid - length ns) (drop (length ns) res) (omega arith) in
    let z : drop (length mid - length ns) (drop (length ns) res) ≡ [] = drop_of_length-le (drop (length ns) res) {i = length mid - length ns} (omega arith) in
    let e = rw (d, a) at r in
    let c : drop (length (ns ++ cs)) res ≡ drop (length cs) (drop (length ns) res) = simp length-append (sym (drop-drop (length cs) (length ns) res)) in
    rw (t, d, z, e, c, append-nil, append_assoc)
