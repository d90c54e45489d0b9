use Rattle.saturation.specs.Tables.{view}
use Rattle.explanation.specs.Marks.{mark_at}
use Rattle.explanation.proofs.Written.{Writing}
use Rattle.explanation.proofs.writing.write_marked.Given as goal

-- the marked steps below k are written
abbrev pub invariant-loop-k : goal.invariant-loop-k
invariant-loop-k g l = Writing (view l.reasoner) (mark_at (view l.reasoner)) l.initial.buffer l.k l.count l.buffer
