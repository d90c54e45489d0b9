use Rattle.saturation.specs.Tables.{view, capacity}
use Rattle.saturation.proofs.Chaining.{walk_left}
use Rattle.saturation.proofs.Indexing.{Walked}
use Rattle.saturation.proofs.table.Table.find.Given as goal

-- the statement stands, if at all, where the walk is or later on it
abbrev pub invariant-loop-at : goal.invariant-loop-at
invariant-loop-at g l = Walked (capacity (view l.self)) l.self.rows.now l.self.len l.statement l.at

abbrev pub decreases-loop-at : goal.decreases-loop-at
decreases-loop-at g l = walk_left l.at
