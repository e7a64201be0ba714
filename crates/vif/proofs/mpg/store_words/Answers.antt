use mathlib.Core.Path.{sym, ◌∙◌}
use Prim.Native.Nat.{◌+◌, ◌*◌}
use native.Mathlib.Omega.{arith}
use Rattle.vif.proofs.MpgLaws.{place_word, run_fits, run_stored, part_copied, stored_first, stored_none}
use Rattle.vif.proofs.mpg.store_words.Goals as goal

pub word_place-place-requires : goal.word_place-place-requires
word_place-place-requires c =
    let h = c.requires in
    let f = h.few in
    (h.some, h.most, h.inside, omega arith)

pub slice_bounds-copy_bytes-end-in-loop-k : goal.slice_bounds-copy_bytes-end-in-loop-k
slice_bounds-copy_bytes-end-in-loop-k c =
    let p = c.word_place-place.ensures in
    let r = run_fits {size = c.args.size} (rw p.0 (place_word _ _ _)) p.1 (omega arith) c.min-run.ensures in
    let f = r.fits in
    let w = c.requires.wide in
    let s = c.loop-k.auto.code in
    omega arith

pub loop-k-smaller : goal.loop-k-smaller
loop-k-smaller c =
    let p = c.word_place-place.ensures in
    let r = run_fits {size = c.args.size} (rw p.0 (place_word _ _ _)) p.1 (omega arith) c.min-run.ensures in
    let o = r.some in
    let m = r.most in
    omega arith

pub loop-k-preserved : goal.loop-k-preserved
loop-k-preserved c =
    let p = c.word_place-place.ensures in
    let r = run_fits {size = c.args.size} (rw p.0 (place_word _ _ _)) p.1 (omega arith) c.min-run.ensures in
    let h = c.requires in
    let l = h.lies in
    let w = h.wide in
    let s = c.loop-k.auto.code in
    let f = r.fits in
    let m = r.most in
    let e = part_copied c.args.main.now (4 * c.min-run.result) (c.args.a + 4 * c.loop-k.k) c.word_place-place.result _ _ c.loop-k.code (omega arith) (omega arith) (omega arith) (omega arith) c.copy_bytes.ensures in
    record {
      few = omega arith;
      same = run_stored _ _ _ (λ j. let y = c.type_inv.main j in omega arith) h.some _ _ _ _ _ _ p.0 m f e ∙ c.loop-k.invariant.same;
    }

pub loop-k-init : goal.loop-k-init
loop-k-init c = record { few = omega arith; same = stored_first _ _ _ _ _ _ _ }

pub returns : goal.returns
returns c = sym (stored_none _ _ _ _ _ _ _ _ c.loop-k-test.false) ∙ c.loop-k.invariant.same
