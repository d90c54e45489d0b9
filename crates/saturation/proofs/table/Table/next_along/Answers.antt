use Rattle.std.proofs.Common.{ap, ◌∙◌}
use Rattle.saturation.specs.declared.row.Chain.{Chain}
use Rattle.saturation.specs.Tables.{view, capacity}
use Rattle.saturation.proofs.Walking.{none_from, link_sidewise, last_by_number}
use Rattle.saturation.proofs.table.Table.next_along.Goals as goal

pub returns-in-Nowhere : goal.returns-in-Nowhere
returns-in-Nowhere g c = none_from (capacity (view c.args.self.now)) c.args.self.now.rows.now c.args.lane.now c.args.k c.in-Nowhere.is c.requires.1

pub returns-in-Along : goal.returns-in-Along
returns-in-Along g c =
    let t = c.args.self.now in
    ap (λ (v : Chain). v.link) c.chain.ensures ∙ link_sidewise (capacity (view t)) t.rows.now t.settled t.sides c.args.lane.now c.args.k c.requires.0 c.requires.1 c.in-Along.side c.in-Along.is

pub returns-in-Outer : goal.returns-in-Outer
returns-in-Outer g c = last_by_number (capacity (view c.args.self.now)) c.args.self.now.rows.now c.args.lane.now c.args.k c.checked_sub.result c.in-Outer.is c.checked_sub.ensures
