use native.Mathlib.Omega.{arith}
use Rattle.unpack_rules.specs.Step.{unpacking_of}
use Rattle.unpack_rules.proofs.CycleLaws.{vectors_few}
use Rattle.unpack_rules.proofs.StepLaws.{count_few}
use Rattle.unpack.proofs.payload.waiting_for.Goals as goal

pub payload_words-requires : goal.payload_words-requires
payload_words-requires c =
    let n = count_few c.args.num in
    let v = vectors_few c.args.cl c.args.wl c.count_of-count.result in
    omega (arith, c.count_of-count.ensures, c.vectors_before.ensures)

pub returns : goal.returns
unfolding unpacking_of
returns c = rw (c.payload_words.ensures, c.vectors_before.ensures, c.count_of-count.ensures)
