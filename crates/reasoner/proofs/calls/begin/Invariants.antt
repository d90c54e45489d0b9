use Rattle.saturation.specs.Tables.{view, Same}
use Rattle.saturation.specs.Offering.{Grown}
use Rattle.reasoner.specs.Filling.{Filled}
use Rattle.reasoner.proofs.calls.begin.Given as goal

-- the first k tautologies are taken
abbrev pub invariant-loop-k : goal.invariant-loop-k
invariant-loop-k g l =
    Same l.initial.reasoner l.reasoner
    × Grown (view l.initial.reasoner) (view l.reasoner)
    × Filled (g.K.Kind.algebra l.kind) l.sizes (view l.reasoner) l.k
