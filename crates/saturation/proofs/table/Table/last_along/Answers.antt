use Rattle.std.proofs.Common.{◌≡◌, None, sym, subst, ◌∙◌}
use Rattle.saturation.specs.declared.lane.Lane.{Lane}
use Rattle.saturation.specs.Chains.{last_in}
use Rattle.saturation.specs.Tables.{view, capacity}
use Rattle.saturation.specs.Lanes.{track, lane_bucket}
use Rattle.saturation.proofs.Walking.{last_nowhere, last_alone, last_by_number}
use Rattle.saturation.proofs.table.Table.last_along.Goals as goal

pub returns-in-Nowhere : goal.returns-in-Nowhere
returns-in-Nowhere g c =
    let t = c.args.self.now in
    let rows = t.rows.now in
    subst (λ (lane : Lane). None ≡ last_in (track (capacity (view t)) rows lane) (lane_bucket (capacity (view t)) lane) t.settled) (sym c.in-Nowhere.is) (sym (last_nowhere (capacity (view t)) rows t.settled))

pub returns-in-Alone : goal.returns-in-Alone
returns-in-Alone g c =
    let t = c.args.self.now in
    let rows = t.rows.now in
    let n = c.in-Alone.n in
    subst (λ (lane : Lane). c.then_some.result ≡ last_in (track (capacity (view t)) rows lane) (lane_bucket (capacity (view t)) lane) t.settled) (sym c.in-Alone.is) (c.then_some.ensures ∙ last_alone n t.settled)

pub returns-in-Outer : goal.returns-in-Outer
returns-in-Outer g c = last_by_number (capacity (view c.args.self.now)) c.args.self.now.rows.now c.args.lane.now c.args.self.now.settled c.checked_sub.result c.in-Outer.is c.checked_sub.ensures
