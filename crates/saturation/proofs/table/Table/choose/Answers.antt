use Rattle.saturation.specs.Tables.{view}
use Rattle.saturation.proofs.Rematching.{first_wins, none_wins}
use Rattle.saturation.proofs.Offers.{none_told}
use Rattle.saturation.proofs.table.Table.choose.Goals as goal

pub returns-then-is_settled-clause-first : goal.returns-then-is_settled-clause-first
returns-then-is_settled-clause-first g c a played = none_wins a (view c.args.self.now) c.requires played c.if-is_settled.ensures

pub returns-else-is_settled-clause-first : goal.returns-else-is_settled-clause-first
returns-else-is_settled-clause-first g c a played = first_wins a (view c.args.self.now) c.requires played (none_told _ c.if-is_settled.ensures)
