use Rattle.std.proofs.Common.{◌≡◌, ◌+◌, List, length, refl, sym, subst, arith}
use Rattle.saturation.specs.declared.row.Row.{Row}
use Rattle.saturation.specs.Phases.{is_begun}
use Rattle.saturation.specs.Tables.{view, capacity}
use Rattle.saturation.proofs.RowFacts.{RowFacts, facts_of, facts_with, settled_facts, settled_as_long}
use Rattle.saturation.proofs.Settling.{settled_as}
use Rattle.saturation.proofs.table.Table.settle_row.Goals as goal

pub invariant_of-self : goal.invariant_of-self
invariant_of-self g c =
    let t = c.args.self.now in
    let rows = t.rows.now in
    let used = capacity (view t) in
    let begun = is_begun t.phase in
    let spots = c.spots-spots.result in
    let is = c.spots-spots.ensures.value in
    let room = c.requires.1 in
    let f = subst (λ (new : List Row). RowFacts used new (t.settled + 1) t.len begun) (sym c.enter_settled.ensures)
    (settled_facts used rows t.settled t.len begun (facts_of t) c.args.i spots c.requires.0 room c.requires.2 is) in
    let long = subst (λ (new : List Row). length new ≡ length rows) (sym c.enter_settled.ensures)
    (settled_as_long used rows t.settled t.len begun (facts_of t) c.args.i spots c.requires.0 room c.requires.2 is) in
    let whole = facts_with t c.enter_settled.new.rows t.grades.now (t.settled + 1) t.len begun long refl f in
    record { rows_fit = omega arith; grades_fit = t.grades_fit; few = t.few; settled_fit = omega arith; turns = f.turns; in_place = f.in_place; unlisted = f.unlisted; winners = f.winners; index = whole.index; sides = whole.sides }

pub returns-clause-state : goal.returns-clause-state
returns-clause-state g c = settled_as (view c.args.self.now) c.args.i c.enter_settled.new.rows c.spots-spots.result c.spots-spots.ensures.value c.enter_settled.ensures
