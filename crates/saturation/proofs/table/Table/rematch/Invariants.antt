use Rattle.saturation.specs.Tables.{view, Same}
use Rattle.saturation.proofs.Chaining.{walk_left}
use Rattle.saturation.proofs.Rematching.{Rematched}
use Rattle.saturation.proofs.table.Table.rematch.Given as goal

-- the winners below the rows passed so far are found
abbrev pub invariant-loop-at : goal.invariant-loop-at
invariant-loop-at g l = Same l.initial.self l.self × Rematched (g.K.Kind.algebra l.kind) (view l.initial.self) (view l.self) l.i l.at

abbrev pub decreases-loop-at : goal.decreases-loop-at
decreases-loop-at g l = walk_left l.at
