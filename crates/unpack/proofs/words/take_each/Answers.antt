use mathlib.Core.Path.{◌≡◌, refl, sym, ap, ◌∙◌}
use Prim.Native.Nat.{◌+◌, ◌*◌, ◌-◌, ◌<◌}
use native.Mathlib.Nat.{add-zero}
use native.Mathlib.Omega.{arith}
use lib.ListN.{length}
use Rattle.fields.specs.Memory.{word_at}
use Rattle.unpack_rules.specs.Write.{Written, written}
use Rattle.unpack_rules.specs.Step.{unpack_word}
use Rattle.unpack_rules.proofs.CycleLaws.{vectors_few}
use Rattle.unpack_rules.proofs.StepLaws.{payload_few, taken_few, taken_is, completed_fits, word_taken, none_completed}
use Rattle.unpack_rules.proofs.LengthLaws.{word_length}
use Rattle.unpack_rules.proofs.WordsLaws.{unpacking_on, taken_on, whole_on, words_more, words_none}
use Rattle.unpack.proofs.words.take_each.Goals as goal
use Rattle.unpack.proofs.words.take_each.Goals.{then-from-to, else-from-to}

pub payload_words-requires : goal.payload_words-requires
payload_words-requires c =
    let v = vectors_few c.args.r.cl c.args.r.wl c.args.u.count in
    let n = c.requires.1.few in
    omega (arith, c.vectors_before-vectors.ensures)

pub whole_vectors-from-requires : goal.whole_vectors-from-requires
whole_vectors-from-requires c =
    let t = taken_few c.args.f c.args.r c.args.u c.requires.1 in
    let k = taken_is c.args.f c.args.r c.args.u c.vectors_before-vectors.ensures c.payload_words.ensures in
    omega arith

pub loop-k-init : goal.loop-k-init
loop-k-init c =
    let a = c.args in
    let q = c.requires in
    let e : a.a + 4 * 0 ≡ a.a = omega arith in
    let z : a.n - 0 ≡ a.n = omega arith in
    let m = payload_few a.f a.r.cl a.r.wl a.u.count q.1.few in
    let d = q.1.most in
    record {
      cycle = q.0;
      memory = q.2;
      unpacking = q.1;
      lengths = refl;
      near = q.3;
      few = omega arith;
      small = omega arith;
      left = omega arith;
      words = rw add-zero (taken_is _ _ _ c.vectors_before-vectors.ensures c.payload_words.ensures);
      counted = c.vectors_before-vectors.ensures;
      first = rw add-zero c.whole_vectors-from.ensures;
      same = rw (e, z);
    }

pub whole_vectors-to-requires : goal.whole_vectors-to-requires
whole_vectors-to-requires c =
    let i = c.loop-k.invariant in
    let w = taken_few c.args.f c.args.r c.loop-k.rest i.unpacking in
    let e = i.words in
    omega arith

pub write_completed-next-requires : goal.write_completed-next-requires
write_completed-next-requires c =
    let i = c.loop-k.invariant in
    completed_fits _ _ _ _ _ i.cycle i.unpacking i.memory i.words i.counted i.first c.whole_vectors-to.ensures

pub loop-k-preserved : goal.loop-k-preserved
loop-k-preserved c =
    let i = c.loop-k.invariant in
    let a = c.args in
    let h = c.loop-k-test.true in
    let d : 1 < c.loop-k.rest.due = let l = i.left in omega arith in
    let x = c.loop-k in
    let word = word_at a.main.now (a.a + 4 * x.k) in
    let o : written c.if-from-to.rows c.if-from-to.«data» ≡ unpack_word a.size a.f x.rest a.r word (written x.rows x.«data») =
    elim c.if-from-to.branch [
      | then-from-to t1 ↦ rw (t1.rows-is, t1.data-is, ← c.word_at-word.ensures) (word_taken _ _ _ _ _ _ i.words i.counted i.first c.whole_vectors-to.ensures t1.write_completed-next.ensures)
      | else-from-to t2 ↦ rw (t2.rows-is, t2.data-is, ← c.word_at-word.ensures) (word_taken _ _ _ _ _ _ i.words i.counted i.first c.whole_vectors-to.ensures (none_completed _ _ _ _ _ _ _ _ _ t2.if-from-to.false))
    ] in
    let l = ap (λ (x : Written). length x.mem) o ∙ word_length a.size a.f x.rest a.r word (written x.rows x.«data») in
    let m = i.memory in
    let held = rw c.word_at-word.ensures at c.held-rest.ensures in
    let k = taken_on a.f a.r x.rest word i.unpacking in
    let e = i.words in
    record {
      cycle = i.cycle;
      memory = record { some = m.some; most = m.most; long = l ∙ m.long };
      unpacking = rw held (unpacking_on _ i.unpacking d);
      lengths = l ∙ i.lengths;
      near = i.near;
      few = omega arith;
      small = i.small;
      left = rw held (let l = i.left in omega arith);
      words = rw held (omega arith);
      counted = rw held i.counted;
      first = whole_on _ _ _ _ c.whole_vectors-to.ensures;
      same = rw held (words_more _ _ _ _ _ _ _ _ _ h refl o) ∙ i.same;
    }

pub returns : goal.returns
returns c = sym (words_none _ _ _ _ _ _ _ _ _ c.loop-k-test.false) ∙ c.loop-k.invariant.same
