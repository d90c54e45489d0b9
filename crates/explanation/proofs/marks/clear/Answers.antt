use Rattle.std.proofs.Common.{◌++◌, drop, refl, arith}
use Rattle.saturation.specs.Phases.{is_begun}
use Rattle.saturation.specs.Tables.{view, capacity}
use Rattle.saturation.proofs.RowFacts.{facts_of, facts_with}
use Rattle.explanation.proofs.Clearing.{settled_rows, cleared_long, cleared_facts, cleared_but, cleared_clean}
use Rattle.explanation.proofs.marks.clear.Goals as goal

pub invariant_of-reasoner : goal.invariant_of-reasoner
invariant_of-reasoner g c =
    let t = c.args.reasoner.now in
    let begun = is_begun t.phase in
    let within = settled_rows t in
    let part = c.unmark.new.rows in
    let long = cleared_long t.rows.now t.settled within part c.unmark.ensures in
    let f = facts_with t (part ++ drop t.settled t.rows.now) t.grades.now t.settled t.len begun long refl
    (cleared_facts t.rows.now t.settled within part c.unmark.ensures (capacity (view t)) t.len begun c.requires (facts_of t)) in
    let fits = t.rows_fit in
    record { rows_fit = omega arith; grades_fit = t.grades_fit; few = t.few; settled_fit = t.settled_fit; turns = f.turns; in_place = f.in_place; unlisted = f.unlisted; winners = f.winners; index = f.index; sides = f.sides }

pub returns-clause-state : goal.returns-clause-state
returns-clause-state g c =
    let t = c.args.reasoner.now in
    cleared_but t.rows.now t.settled (settled_rows t) c.unmark.new.rows c.unmark.ensures (view t) _ refl refl refl refl refl refl

pub returns-clause-clean : goal.returns-clause-clean
returns-clause-clean g c =
    let t = c.args.reasoner.now in
    cleared_clean t.rows.now t.settled (settled_rows t) c.unmark.new.rows c.unmark.ensures (view t) _ refl refl refl refl refl refl
