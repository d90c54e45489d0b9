use Rattle.std.proofs.Common.{rules}
use Rattle.standpoint.proofs.TautologyList.{tautology_told}
use Rattle.standpoint.proofs.tautologies.is_tautology.Goals as goal

pub returns-then-on_concepts : goal.returns-then-on_concepts
returns-then-on_concepts c = tautology_told c.args.sizes.now c.args.x _ (search rules)

pub returns-else-on_concepts : goal.returns-else-on_concepts
returns-else-on_concepts c = tautology_told c.args.sizes.now c.args.x _ (search rules)
