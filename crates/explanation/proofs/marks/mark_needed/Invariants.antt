use Rattle.std.proofs.Common.{◌+◌, ◌-◌}
use Rattle.explanation.proofs.Marking.{Marking}
use Rattle.explanation.proofs.marks.mark_needed.Given as goal

-- with each place from the k-th on its premises are marked
abbrev pub invariant-loop-k : goal.invariant-loop-k
invariant-loop-k g l = Marking l.initial.reasoner l.reasoner l.t (l.t + 1 - l.k)
