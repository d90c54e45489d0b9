use Rattle.saturation.specs.Tables.{view, Same}
use Rattle.explanation.proofs.Numbering.{Numbering}
use Rattle.explanation.proofs.marks.number_marked.Given as goal

-- the marked steps below k have their places in the list
abbrev pub invariant-loop-k : goal.invariant-loop-k
invariant-loop-k g l = Same l.initial.reasoner l.reasoner × Numbering (view l.initial.reasoner) (view l.reasoner) l.k l.count
