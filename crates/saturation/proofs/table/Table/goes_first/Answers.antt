use Rattle.saturation.specs.Tables.{view}
use Rattle.saturation.proofs.Rematching.{match_told}
use Rattle.saturation.proofs.Offers.{none_told}
use Rattle.saturation.proofs.table.Table.goes_first.Goals as goal

pub returns : goal.returns
returns g c =
    let k = c.args.kind.now in
    match_told (g.K.Kind.algebra k) (g.met.K.Kind.lawful k) (view c.args.self.now) c.args.i c.args.j c.row_ahead.result (none_told _ c.if-is_settled.ensures) (none_told _ c.if-is_settled-2.ensures) c.row_ahead.ensures
