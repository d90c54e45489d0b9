use Rattle.std.proofs.Common.{◌≡◌, ◌+◌, ◌<◌, ◌≤◌, length, Some, None, sym, refl, ap, ◌∙◌, subst, arith}
use Rattle.std.specs.List.{slice_get}
use Rattle.standpoint.specs.Tautologies.{tautologies}
use Rattle.saturation.specs.declared.table.Table.{Table}
use Rattle.saturation.specs.Tables.{State, view, capacity, Same}
use Rattle.saturation.specs.Offering.{Grown}
use Rattle.saturation.proofs.Offers.{grown_refl, grown_trans}
use Rattle.saturation.proofs.Leaving.{leaves_capacity}
use Rattle.saturation.proofs.Sameness.{same_then}
use Rattle.reasoner.proofs.Leaving.{restarted_leaves}
use Rattle.reasoner.specs.Filling.{Filled}
use Rattle.reasoner.proofs.Fillings.{filled_none, filled_skip, filled_holds}
use Rattle.reasoner.proofs.calls.begin.Goals as goal
use Rattle.reasoner.proofs.calls.begin.Goals.{in-Some, in_default}

pub loop-k-init : goal.loop-k-init
loop-k-init g c =
    let al = g.K.Kind.algebra c.args.kind.now in
    let t = c.args.reasoner.now in
    ((refl, refl, refl), grown_refl (view c.restart.new.self), subst (λ (s : State g.row.K-Grade.Denot). Filled al c.args.sizes s 0) (sym c.restart.ensures.state) (filled_none al c.args.sizes t.rows.now t.grades.now))

pub loop-k-preserved : goal.loop-k-preserved
loop-k-preserved g c =
    let al = g.K.Kind.algebra c.args.kind.now in
    let n = c.args.sizes in
    let start = c.restart.new.self in
    let k = c.loop-k.k in
    let inv = c.loop-k.invariant in
    let P : Table g.row.K-Grade.Denot → Type 0 = λ z. Same start z × Grown (view start) (view z) × Filled al n (view z) (k + 1) in
    let cap0 : capacity (view start) ≡ capacity (view c.args.reasoner.now) = ap capacity c.restart.ensures.state in
    let here = c.loop-k-test.true in
    let most = c.if-capacity-count.false in
    let is = c.capacity.ensures in
    elim c.match-tautology.branch [
      | in-Some w ↦
          let at : slice_get (tautologies n) k ≡ Some w.in-Some.x = sym w.in-Some.ensures in
          let room : k < capacity (view c.loop-k.reasoner) = let a = leaves_capacity inv.1.leaves in let b = cap0 in omega arith in
          subst P (sym w.reasoner-is) (same_then inv.0 w.take_tautology.ensures.same, grown_trans inv.1 w.take_tautology.ensures.grown, w.take_tautology.ensures.taken n k at room inv.2)
      | in_default w ↦
          let none : slice_get (tautologies n) k ≡ None = sym w.in_default.ensures in
          subst P (sym w.reasoner-is) (inv.0, inv.1, filled_skip al n (view c.loop-k.reasoner) k inv.2 none)
    ]

pub returns-clause-answer : goal.returns-clause-answer
returns-clause-answer g c =
    let al = g.K.Kind.algebra c.args.kind.now in
    let n = c.args.sizes in
    let inv = c.loop-k.invariant in
    let begun = c.restart.ensures in
    let long = c.tautology_count-count.ensures.long in
    let all : length (tautologies n) ≤ c.loop-k.k = let a = c.loop-k-test.false in omega arith in
    let enough : length (tautologies n) ≤ capacity (view c.args.reasoner.now) = let a = c.if-capacity-count.false in let b = c.capacity.ensures in omega arith in
    let ranged = c.in_ok-check.ensures in
    (ranged, enough, (inv.0.2 ∙ begun.phase, ranged, filled_holds al n (view c.loop-k.reasoner) c.loop-k.k inv.2 all), restarted_leaves (view c.args.reasoner.now) (view c.restart.new.self) (view c.loop-k.reasoner) begun.state inv.1.leaves)
