use Rattle.std.proofs.Common.{ℕ, ◌<◌}
use Rattle.standpoint.specs.Lists.{StandsAt}
use Rattle.standpoint.proofs.verdict.basis.among.Given as goal

-- this pair is none of those so far
abbrev pub invariant-loop-x : goal.invariant-loop-x
invariant-loop-x g l = (k : ℕ) → k < l.x-index → StandsAt l.accepted k (l.statement, l.grade) → ⊥
