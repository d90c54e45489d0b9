use Rattle.std.proofs.Common.{◌≡◌, ℕ, ◌<◌, ◌≤◌, get_or}
use Rattle.saturation.specs.Rows.{no_row}
use Rattle.explanation.specs.Marks.{relisted}
use Rattle.explanation.proofs.marks.unmark.Given as goal

-- the rows so far list nothing, and the others are as they were
abbrev pub invariant-loop-row : goal.invariant-loop-row
invariant-loop-row l =
    ((k : ℕ) → k < l.row-index → get_or l.row-items k no_row ≡ relisted (get_or l.fn.rows k no_row) 0)
    × ((k : ℕ) → l.row-index ≤ k → get_or l.row-items k no_row ≡ get_or l.fn.rows k no_row)
