use Rattle.std.proofs.lemmas.Result.{err_from_is_err_and}
use Rattle.reasoner.specs.Asking.{before_begin}
use Rattle.reasoner.proofs.Saying.{askable, unfit_refused}
use Rattle.explanation.specs.Explaining.{not_askable}
use Rattle.explanation.proofs.Answering.{finds}
use Rattle.explanation.proofs.explaining.settling_place.Goals as goal

pub returns-in_err-sizes : goal.returns-in_err-sizes
returns-in_err-sizes g c =
    let p = err_from_is_err_and c.from_residual.result c.from_residual.ensures.1 in
    let idle = c.in_err-sizes.ensures in
    rw (p.1, p.2, idle.0) (not_askable (before_begin idle.1))

pub returns-then-not-fits : goal.returns-then-not-fits
returns-then-not-fits g c = not_askable (unfit_refused c.args.reasoner.now c.args.statement c.in_ok-sizes.ensures c.if-not-fits.ensures)

pub returns : goal.returns
returns g c =
    let s = c.args.reasoner.now in
    let x = c.args.statement in
    finds s x c.first_settled.result c.ok_or.result c.ok_or.ensures.value (askable s x c.in_ok-sizes.ensures c.if-not-fits.ensures) c.first_settled.ensures
