-- Counts added.
use Rattle.std.proofs.Common.{◌≡◌, ℕ, zero, suc, ◌+◌, ◌^◌, ◌<◌, ◌≤◌, Bool, true, false, refl, add-zero, add_assoc, mod-eq_of_lt, zero-add, arith}
use Rattle.fields.specs.declared.Qwc.{Qwc}
use Rattle.fields.specs.declared.Counts.{Counts}
use Rattle.fields.specs.declared.UnitCounts.{UnitCounts}
use Rattle.fields.specs.Fields.{if}
use Rattle.fields.specs.Counts.{one_if, no_units, one_word, words_alone, one_quadword, quadwords_alone, plus_units, plus_units_modulo, Counted, no_qwc, qwc_under, plus_qwc, plus_qwc_modulo, total_qwc, counts, unit_counts, of_unit, none, plus, plus_modulo, SumsFit}

pub one_most : {n : ℕ} (b : Bool) → n ≡ one_if b → n ≤ 1
unfolding one_if
one_most true e = omega arith
one_most false e = omega arith

-- a word that is no NOP
pub one_quiet : one_word false ≡ words_alone 1
unfolding one_if
one_quiet = refl

-- Sums of a unit's counts.

pub plus_units_none : (a : UnitCounts) → plus_units a no_units ≡ a
plus_units_none a = rw (add-zero a.steps, add-zero a.packets, add-zero a.words, add-zero a.nops)

pub none_plus_units : (a : UnitCounts) → plus_units no_units a ≡ a
none_plus_units a = rw (zero-add a.steps, zero-add a.packets, zero-add a.words, zero-add a.nops)

pub plus_plus_units : (a b c : UnitCounts) → plus_units (plus_units a b) c ≡ plus_units a (plus_units b c)
plus_plus_units a b c =
    rw (
      add_assoc a.steps b.steps c.steps,
      add_assoc a.packets b.packets c.packets,
      add_assoc a.words b.words c.words,
      add_assoc a.nops b.nops c.nops,
    )

pub counted_none : Counted no_units
counted_none = record { few_packets = omega arith; few_words = omega arith; few_nops = omega arith }

pub counted_words : (n : ℕ) → Counted (words_alone n)
counted_words n = record { few_packets = omega arith; few_words = omega arith; few_nops = omega arith }

pub counted_word : (nop : Bool) → Counted (one_word nop)
counted_word nop = record { few_packets = omega arith; few_words = omega arith; few_nops = one_most nop refl }

pub counted_quadwords : {n k : ℕ} → k ≤ n → Counted (quadwords_alone n k)
counted_quadwords h = record { few_packets = h; few_words = omega arith; few_nops = omega arith }

pub counted_quadword : (closed : Bool) → Counted (one_quadword closed)
counted_quadword closed = counted_quadwords (one_most closed refl)

pub counted_plus : {a b : UnitCounts} → Counted a → Counted b → Counted (plus_units a b)
counted_plus x y =
    let p = x.few_packets in
    let q = y.few_packets in
    let r = x.few_words in
    let s = y.few_words in
    let t = x.few_nops in
    let u = y.few_nops in
    record { few_packets = omega arith; few_words = omega arith; few_nops = omega arith }

-- where the steps fit their number, all counts of a unit do
pub plus_units_fits : {a b : UnitCounts} → Counted a → Counted b → a.steps + b.steps < 2 ^ 64 → plus_units_modulo a b ≡ plus_units a b
unfolding plus_units_modulo
plus_units_fits {a} {b} x y h =
    let z = counted_plus x y in
    let p = z.few_packets in
    let q = z.few_words in
    let r = z.few_nops in
    let k : a.packets + b.packets < 2 ^ 64 = omega arith in
    let l : a.words + b.words < 2 ^ 64 = omega arith in
    let m : a.nops + b.nops < 2 ^ 64 = omega arith in
    rw (mod-eq_of_lt h, mod-eq_of_lt k, mod-eq_of_lt l, mod-eq_of_lt m)

-- Sums by tag ID.

pub plus_qwc_none : (a : Qwc) → plus_qwc a no_qwc ≡ a
plus_qwc_none a =
    rw
    (add-zero a.id0, add-zero a.id1, add-zero a.id2, add-zero a.id3, add-zero a.id4, add-zero a.id5, add-zero a.id6, add-zero a.id7)

pub none_plus_qwc : (a : Qwc) → plus_qwc no_qwc a ≡ a
none_plus_qwc a =
    rw
    (zero-add a.id0, zero-add a.id1, zero-add a.id2, zero-add a.id3, zero-add a.id4, zero-add a.id5, zero-add a.id6, zero-add a.id7)

pub plus_plus_qwc : (a b c : Qwc) → plus_qwc (plus_qwc a b) c ≡ plus_qwc a (plus_qwc b c)
plus_plus_qwc a b c =
    rw (
      add_assoc a.id0 b.id0 c.id0,
      add_assoc a.id1 b.id1 c.id1,
      add_assoc a.id2 b.id2 c.id2,
      add_assoc a.id3 b.id3 c.id3,
      add_assoc a.id4 b.id4 c.id4,
      add_assoc a.id5 b.id5 c.id5,
      add_assoc a.id6 b.id6 c.id6,
      add_assoc a.id7 b.id7 c.id7,
    )

pub total_none : total_qwc no_qwc ≡ 0
unfolding total_qwc
total_none = refl

pub total_plus : (a b : Qwc) → total_qwc (plus_qwc a b) ≡ total_qwc a + total_qwc b
unfolding total_qwc
total_plus a b = omega arith

-- a tag is counted under its ID alone
pub total_under : (id n : ℕ) → id < 8 → total_qwc (qwc_under id n) ≡ n
unfolding total_qwc qwc_under if
total_under zero n h = omega arith
total_under (suc zero) n h = omega arith
total_under (suc (suc zero)) n h = omega arith
total_under (suc (suc (suc zero))) n h = omega arith
total_under (suc (suc (suc (suc zero)))) n h = omega arith
total_under (suc (suc (suc (suc (suc zero))))) n h = omega arith
total_under (suc (suc (suc (suc (suc (suc zero)))))) n h = omega arith
total_under (suc (suc (suc (suc (suc (suc (suc zero))))))) n h = omega arith
total_under (suc (suc (suc (suc (suc (suc (suc (suc id)))))))) n h = omega arith

-- Sums of all counts.

pub counts_same : {u v : UnitCounts} {p q : Qwc} → u ≡ v → p ≡ q → counts u p ≡ counts v q
counts_same {u} {v} {p} {q} e f = rw (e, f) refl

pub plus_none : (a : Counts) → plus a none ≡ a
plus_none a = counts_same (plus_units_none (unit_counts a)) (plus_qwc_none a.qwc)

pub none_plus : (a : Counts) → plus none a ≡ a
none_plus a = counts_same (none_plus_units (unit_counts a)) (none_plus_qwc a.qwc)

pub plus_plus : (a b c : Counts) → plus (plus a b) c ≡ plus a (plus b c)
plus_plus a b c = counts_same (plus_plus_units (unit_counts a) (unit_counts b) (unit_counts c)) (plus_plus_qwc a.qwc b.qwc c.qwc)

-- a unit's counts are added as they are
pub of_plus : (a b : UnitCounts) → plus (of_unit a) (of_unit b) ≡ of_unit (plus_units a b)
of_plus a b = refl

-- where all sums fit, those of the first part do
pub fit_part : (a b : Counts) → SumsFit (plus a b) → SumsFit a
unfolding total_qwc
fit_part a b h =
    let p = h.steps in
    let q = h.packets in
    let r = h.words in
    let s = h.nops in
    let t = h.qwc in
    record { steps = omega arith; packets = omega arith; words = omega arith; nops = omega arith; qwc = omega arith }

plus_qwc_fits : (a b : Qwc) → total_qwc (plus_qwc a b) < 2 ^ 64 → plus_qwc_modulo a b ≡ plus_qwc a b
unfolding plus_qwc_modulo total_qwc
plus_qwc_fits a b h =
    let p : a.id0 + b.id0 < 2 ^ 64 = omega arith in
    let q : a.id1 + b.id1 < 2 ^ 64 = omega arith in
    let r : a.id2 + b.id2 < 2 ^ 64 = omega arith in
    let s : a.id3 + b.id3 < 2 ^ 64 = omega arith in
    let t : a.id4 + b.id4 < 2 ^ 64 = omega arith in
    let u : a.id5 + b.id5 < 2 ^ 64 = omega arith in
    let v : a.id6 + b.id6 < 2 ^ 64 = omega arith in
    let w : a.id7 + b.id7 < 2 ^ 64 = omega arith in
    rw (mod-eq_of_lt p, mod-eq_of_lt q, mod-eq_of_lt r, mod-eq_of_lt s, mod-eq_of_lt t, mod-eq_of_lt u, mod-eq_of_lt v, mod-eq_of_lt w)

-- where they fit, the sums in 64 bits are the sums
pub plus_fits : (a b : Counts) → SumsFit (plus a b) → plus_modulo a b ≡ plus a b
unfolding plus_modulo plus_units_modulo
plus_fits a b h =
    counts_same {v = plus_units (unit_counts a) (unit_counts b)}
    (rw (mod-eq_of_lt h.steps, mod-eq_of_lt h.packets, mod-eq_of_lt h.words, mod-eq_of_lt h.nops))
    (plus_qwc_fits a.qwc b.qwc h.qwc)
