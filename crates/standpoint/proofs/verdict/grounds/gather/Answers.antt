use Rattle.std.proofs.Common.{◌≡◌, sym, subst, ⊎_elim}
use Rattle.standpoint.specs.Checking.{Rests, on_one, on_two, on_three}
use Rattle.standpoint.proofs.Grounds.{no_first, no_second, no_third}
use Rattle.standpoint.proofs.verdict.grounds.gather.Goals as goal

pub returns-in_err-p : goal.returns-in_err-p
returns-in_err-p g c =
    rw c.from_residual.ensures (no_first _ _ _ _ c.in_err-p.ensures)

pub returns-then-step-eq0-2 : goal.returns-then-step-eq0-2
returns-then-step-eq0-2 g c =
    on_one c.in_ok-p.p c.in_ok-p.ensures c.if-step-eq0.true c.if-step-eq0-2.true

pub returns-in_err-q : goal.returns-in_err-q
returns-in_err-q g c =
    rw c.from_residual-in_err-q.ensures
    (no_second _ _ _ _ (λ i j. ⊎_elim (λ w. w.1 j) (λ w. w i) c.else-step-eq0.either) c.in_err-q.ensures)

pub returns-then-step-eq0-3 : goal.returns-then-step-eq0-3
returns-then-step-eq0-3 g c =
    subst (Rests _ _ _ _ _) (sym c.join-grade.ensures)
    (on_two c.in_ok-p.p c.in_ok-q.q c.in_ok-p.ensures c.in_ok-q.ensures c.if-step-eq0-3.true)

pub returns-in_err-r : goal.returns-in_err-r
returns-in_err-r g c =
    rw c.from_residual-in_err-r.ensures (no_third _ _ _ _ c.if-step-eq0-3.false c.in_err-r.ensures)

pub returns : goal.returns
returns g c =
    let join = (g.K.Kind.algebra c.args.kind.now).join in
    let e : c.join.result ≡ join (join c.in_ok-p.p.grade c.in_ok-q.q.grade) c.in_ok-r.r.grade = cc in
    subst (Rests _ _ _ _ _) (sym e)
    (on_three c.in_ok-p.p c.in_ok-q.q c.in_ok-r.r c.in_ok-p.ensures c.in_ok-q.ensures c.in_ok-r.ensures)
