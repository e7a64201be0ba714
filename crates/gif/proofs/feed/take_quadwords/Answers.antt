use native.Mathlib.Omega.{arith}
use mathlib.Core.Path.{refl}
use Rattle.fields.proofs.RefusalLaws.{refusal_small}
use Rattle.gif.proofs.FeedLaws.{fed_fits, fed_tested, fed_none}
use Rattle.gif.proofs.feed.take_quadwords.Goals as goal

pub feed-requires : goal.feed-requires
feed-requires c = fed_fits _ _ _ _ _ _ c.in-Ok.ensures refl

pub returns-in-Ok : goal.returns-in-Ok
returns-in-Ok c = fed_tested _ _ _ _ _ _ c.in-Ok.ensures _ refl c.feed.ensures

pub returns-in-Err : goal.returns-in-Err
returns-in-Err c = let h = refusal_small c.in-Err.refusal in fed_none _ _ _ _ _ _ c.in-Err.ensures _ (λ z. omega arith)
