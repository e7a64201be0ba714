use mathlib.Core.Path.{◌≡◌}
use Rattle.memories.specs.declared.VifUnit.{VifUnit}
use Rattle.vif_codes.specs.declared.Waiting.TheVariants.{Nothing}
use Rattle.vif.specs.Feeds.{Fed}
use Rattle.vif.specs.Inner.{Leads, words_with}
use Rattle.vif.proofs.codes.nops_ahead.Given as goal

abbrev pub invariant-loop-k : goal.invariant-loop-k
invariant-loop-k l = (which : VifUnit) (x : Fed) → x.unit.waiting ≡ Nothing → Leads which l.main l.a l.k (words_with l.k l.k) x x
