use Rattle.worked.proofs.Runs.{worked_runs}
use Rattle.worked.proofs.Together.{worked_cases}
use Rattle.worked.proofs.worked.worked_cases.Goals as goal

pub returns-clause-cases : goal.returns-clause-cases
returns-clause-cases g c = worked_cases (g.K.Kind.algebra c.args.kind.now) (g.met.K.Kind.lawful c.args.kind.now)

pub returns-clause-runs : goal.returns-clause-runs
returns-clause-runs g c = worked_runs
