use mathlib.Core.Path.{◌≡◌}
use Prim.Native.Nat.{◌+◌, ◌*◌, ◌-◌, ◌≤◌, ◌<◌}
use lib.ListN.{length}
use Rattle.unpack_rules.specs.Payload.{whole_vectors}
use Rattle.unpack_rules.specs.Position.{vectors_before}
use Rattle.unpack_rules.specs.Write.{written}
use Rattle.unpack_rules.specs.Range.{CycleFits, UnpackingFits}
use Rattle.unpack_rules.specs.Step.{taken_words}
use Rattle.unpack_rules.specs.Inner.{MemoryFits}
use Rattle.unpack_rules.specs.Whole.{words_from, taken_by}
use Rattle.unpack.proofs.words.take_each.Given as goal

abbrev pub invariant-loop-k : goal.invariant-loop-k
invariant-loop-k l =
    record {
      cycle : CycleFits l.r.cl l.r.wl;
      memory : MemoryFits l.size l.data;
      unpacking : UnpackingFits l.f l.r.cl l.r.wl l.rest;
      lengths : length l.data ≡ length l.initial.data;
      near : l.a ≤ 1048576;
      few : l.k ≤ l.n;
      small : l.n ≤ 1024;
      left : l.n < l.rest.due + l.k;
      words : l.taken + l.k ≡ taken_words l.f l.r l.rest;
      counted : l.vectors ≡ vectors_before l.r.cl l.r.wl l.rest.count;
      first : l.from ≡ whole_vectors l.f l.vectors (l.taken + l.k);
      same :
          taken_by l.size l.f l.rest l.r (words_from l.main (l.a + 4 * l.k) (l.n - l.k)) (written l.rows l.data)
          ≡ taken_by l.size l.f l.initial.rest l.r (words_from l.main l.a l.n) (written l.initial.rows l.initial.data);
    }
