use Rattle.standpoint.specs.Steps.{RightBelow}
use Rattle.standpoint.specs.Verdicts.{base_of}
use Rattle.standpoint.proofs.verdict.judge.Given as goal

abbrev pub invariant-loop-n : goal.invariant-loop-n
invariant-loop-n g l = RightBelow (g.K.Kind.algebra l.kind) (base_of l.fn.sizes l.accepted) l.steps l.n
