use Rattle.saturation.specs.Tables.{view}
use Rattle.saturation.proofs.Rematching.{wins_both}
use Rattle.saturation.proofs.table.Table.winner_of.Goals as goal

pub returns-clause-wins : goal.returns-clause-wins
returns-clause-wins g c =
    let k = c.args.kind.now in
    let t = c.args.self.now in
    let first = c.first_of-winner.ensures in
    let second = c.first_of.ensures in
    wins_both (g.K.Kind.algebra k) (g.met.K.Kind.lawful k) (view t) t.grades_fit c.args.k c.first_of-winner.result c.first_of.result c.requires first.within second.within first.either first.first second.either second.first
