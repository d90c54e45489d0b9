use Rattle.std.proofs.Common.{rules}
use Rattle.standpoint.proofs.TautologyList.{tautologies_listed}
use Rattle.standpoint.proofs.tautologies.tautology_count.Goals as goal

pub returns : goal.returns
returns c = tautologies_listed c.args.sizes.now _ (search rules)
