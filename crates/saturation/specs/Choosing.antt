-- Which row is settled next.
use Rattle.std.specs.Prelude.{◌≡◌, ℕ, ◌<◌, List, get_or, Some, None, Option, slice_index_or}
use Rattle.standpoint.specs.declared.statement.Statement.{Statement}
use Rattle.standpoint.specs.Algebra.{Algebra, NoWorse}
use Rattle.standpoint.specs.Statements.{Before}
use Rattle.saturation.specs.declared.row.Row.{Row}
use Rattle.saturation.specs.Rows.{no_row}
use Rattle.saturation.specs.Tables.{State, OpenAt, row_at}

-- x at g is to be settled before y at h: the better grade, and among equals the least statement
abbrev pub Ahead : {G : Type 0} → Algebra G → G → Statement → G → Statement → Type 0
Ahead a g x h y = NoWorse a g h × (NoWorse a h g → Before x y)

-- row i is to be settled before row j
abbrev pub RowsAhead : {G : Type 0} → Algebra G → List Row → List G → ℕ → ℕ → Type 0
RowsAhead {G} a rows grades i j =
    (d : G) → Ahead a (slice_index_or grades i d) (get_or rows i no_row).statement (slice_index_or grades j d) (get_or rows j no_row).statement

abbrev pub RowAhead : {G : Type 0} → Algebra G → State G → ℕ → ℕ → Type 0
RowAhead a s i j = RowsAhead a s.rows s.grades i j

-- among the rows below n, the unsettled one that no other is ahead of
abbrev pub Chosen : {G : Type 0} → Algebra G → State G → ℕ → Option ℕ → Type 0
Chosen a s n None = (k : ℕ) → k < n → OpenAt s k → ⊥
Chosen a s n (Some i) = (i < n) × OpenAt s i × ((k : ℕ) → k < n → OpenAt s k → RowAhead a s k i → ⊥)

-- the winner at row 0, if it is unsettled
abbrev pub Picked : {G : Type 0} → State G → Option ℕ → Type 0
Picked s None = OpenAt s (row_at s 0).winner → ⊥
Picked s (Some i) = (i < s.len) × OpenAt s i × (i ≡ (row_at s 0).winner)
