use Rattle.fields.proofs.CountLaws.{counted_quadwords, plus_units_fits}
use Rattle.vif.proofs.bursts.with_quadwords.Goals as goal

pub returns : goal.returns
returns c =
    rw (
      c.with_waiting.ensures,
      c.plus_units.ensures,
      c.quadwords_alone.ensures,
      plus_units_fits c.requires.2 (counted_quadwords c.requires.3) c.requires.1,
    )
