use Rattle.gif.proofs.LogLaws.{logged_one}
use Rattle.gif.proofs.log.put.Goals as goal

pub returns : goal.returns
returns c = logged_one c.args.log.now c.args.used c.args.e
