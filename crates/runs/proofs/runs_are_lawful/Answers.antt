use Rattle.runs.proofs.Best.{settled_is_best, none_is_exact}
use Rattle.runs.proofs.OneRun.{one_run, one_settling, one_stand}
use Rattle.runs.proofs.Modelled.{model_settles}
use Rattle.runs.proofs.runs_are_lawful.Goals as goal

pub returns : goal.returns
returns g c =
    let a = g.K.Kind.algebra c.args.kind.now in
    let laws = g.met.K.Kind.lawful c.args.kind.now in
    record {
      best = settled_is_best a laws;
      none = none_is_exact a;
      one_run = one_run a laws;
      one_settling = one_settling a laws;
      one_stand = one_stand a;
      model = model_settles a laws;
    }
