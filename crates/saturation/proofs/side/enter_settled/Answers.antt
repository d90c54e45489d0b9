use Rattle.std.proofs.Common.{ap, slice_set}
use Rattle.saturation.specs.Sides.{heads_set, place_set}
use Rattle.saturation.proofs.side.enter_settled.Goals as goal

pub returns : goal.returns
returns c =
    let a = c.args in
    ap (λ r. heads_set (place_set (slice_set a.rows.now a.k r) a.i a.k) a.spots a.k) c.linked.ensures
