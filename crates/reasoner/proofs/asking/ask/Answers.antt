use Rattle.std.proofs.lemmas.Result.{err_from_is_err_and}
use Rattle.reasoner.specs.Asking.{before_begin}
use Rattle.reasoner.proofs.Saying.{askable, unfit_refused, says_graded, said_without}
use Rattle.reasoner.proofs.asking.ask.Goals as goal

pub returns-in_err-sizes : goal.returns-in_err-sizes
returns-in_err-sizes g c =
    let p = err_from_is_err_and c.from_residual.result c.from_residual.ensures.1 in
    let idle = c.in_err-sizes.ensures in
    rw (p.1, p.2, idle.0) (before_begin idle.1)

pub returns-then-not-fits : goal.returns-then-not-fits
returns-then-not-fits g c = unfit_refused c.args.reasoner.now c.args.statement c.in_ok-sizes.ensures c.if-not-fits.ensures

pub returns-in-Some : goal.returns-in-Some
returns-in-Some g c = (
  askable c.args.reasoner.now c.args.statement c.in_ok-sizes.ensures c.if-not-fits.ensures,
  λ a laws b l h. says_graded a b c.args.reasoner.now laws h c.args.statement c.in-Some.grade c.in-Some.ensures,
)

pub returns-in-None : goal.returns-in-None
returns-in-None g c = (
  askable c.args.reasoner.now c.args.statement c.in_ok-sizes.ensures c.if-not-fits.ensures,
  λ a laws b l h. said_without a b c.args.reasoner.now laws h c.args.statement c.in-None.ensures c.without_grade.result c.without_grade.ensures,
)
