use Rattle.std.proofs.Common.{arith, sym}
use Rattle.std.proofs.lemmas.Result.{err_from_is_err_and}
use Rattle.standpoint.specs.Verdicts.{out_of_range, no_steps, wrong_step}
use Rattle.standpoint.proofs.Lists.{no_last}
use Rattle.standpoint.proofs.Earlier.{right_in_list, wrong_in_list}
use Rattle.standpoint.proofs.Passing.{one_more_right, first_wrong, passes}
use Rattle.standpoint.proofs.verdict.judge.Goals as goal

pub returns-in_err-check : goal.returns-in_err-check
returns-in_err-check g c =
    let p = err_from_is_err_and c.from_residual.result c.from_residual.ensures.1 in
    let h = c.in_err-check.ensures in
    rw (p.1, p.2, h.0) (out_of_range h.1)

pub returns-then-not-right : goal.returns-then-not-right
returns-then-not-right g c =
    wrong_step c.in_ok-check.ensures
    (first_wrong _ _ _ c.loop-n.n c.index-steps-n.result c.loop-n-test.true c.index-steps-n.is
    (wrong_in_list _ _ c.if-not-right.ensures (omega arith) c.loop-n.n (omega arith)) c.loop-n.invariant)

pub loop-n-preserved : goal.loop-n-preserved
loop-n-preserved g c =
    one_more_right _ _ _ c.loop-n.n c.index-steps-n.result c.loop-n-test.true c.index-steps-n.is
    (right_in_list _ _ c.if-not-right.ensures (omega arith) c.loop-n.n (omega arith)) c.loop-n.invariant

pub returns-in-Some : goal.returns-in-Some
returns-in-Some g c =
    (_, passes _ _ _ c.loop-n.n c.in-Some.last.now c.in_ok-check.ensures c.loop-n-test.false (sym c.in-Some.ensures.value) c.loop-n.invariant)

pub returns-in-None : goal.returns-in-None
returns-in-None g c = no_steps c.in_ok-check.ensures (no_last _ (sym c.in-None.ensures.value))
