use Rattle.std.proofs.Common.{◌≡◌, ◌+◌, ◌-◌, ◌<◌, refl, ap, subst, arith}
use Rattle.saturation.specs.Tables.{State}
use Rattle.explanation.proofs.Marking.{Marking, marks_so_far, marking_skip, marking_more, marking_stops}
use Rattle.explanation.proofs.marks.mark_needed.Goals as goal

pub returns-then-not-rests_earlier-clause-state : goal.returns-then-not-rests_earlier-clause-state
returns-then-not-rests_earlier-clause-state g c =
    let t = c.args.t in
    let k = c.loop-k.k in
    let low = c.loop-k.auto.k in
    let some = c.loop-k-test.true in
    let stop = marking_stops c.set_mark.new.reasoner c.loop-k.reasoner t (t + 1 - k) c.loop-k.invariant (k - 1) (omega arith) c.args.reasoner.now c.requires.0 c.requires.2 c.set_mark.ensures.state c.if-marked.ensures c.if-not-rests_earlier.ensures in
    (refl, stop.0, stop.1)

pub loop-k-preserved-then-marked : goal.loop-k-preserved-then-marked
loop-k-preserved-then-marked g c =
    let u = c.set_mark.new.reasoner in
    let t = c.args.t in
    let k = c.loop-k.k in
    let low = c.loop-k.auto.k in
    let some = c.loop-k-test.true in
    let e = ap (λ (s : State _). s.settled) c.set_mark.ensures.state in
    let within : t < u.settled = let h = c.requires.0 in omega arith in
    let one = c.mark_premises in
    let next : t + 1 - k + 1 ≡ t + 1 - (k - 1) = omega arith in
    subst (Marking u one.new.reasoner t) next
    (marking_more u c.loop-k.reasoner t (t + 1 - k) c.loop-k.invariant (k - 1) (omega arith) one.new.reasoner within c.if-marked.ensures c.if-not-rests_earlier.ensures one.ensures.same one.ensures.state)

pub loop-k-preserved : goal.loop-k-preserved
loop-k-preserved g c =
    let t = c.args.t in
    let k = c.loop-k.k in
    let low = c.loop-k.auto.k in
    let some = c.loop-k-test.true in
    let next : t + 1 - k + 1 ≡ t + 1 - (k - 1) = omega arith in
    subst (Marking c.set_mark.new.reasoner c.loop-k.reasoner t) next
    (marking_skip c.set_mark.new.reasoner c.loop-k.reasoner t (t + 1 - k) c.loop-k.invariant (k - 1) (omega arith) c.if-marked.ensures)

pub returns-clause-state : goal.returns-clause-state
returns-clause-state g c =
    let t = c.args.t in
    let none = c.loop-k-test.false in
    let all : t + 1 - c.loop-k.k ≡ t + 1 = omega arith in
    marks_so_far c.set_mark.new.reasoner c.loop-k.reasoner t (t + 1) (subst (Marking c.set_mark.new.reasoner c.loop-k.reasoner t) all c.loop-k.invariant) c.args.reasoner.now c.requires.0 c.requires.2 c.set_mark.ensures.state
