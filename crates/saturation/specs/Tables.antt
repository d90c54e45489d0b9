-- A table as a plain state, and what one write makes of it.
use Rattle.std.specs.Prelude.{◌≡◌, ℕ, ◌+◌, ◌<◌, Bool, List, get_or, Some, None, Option, ◌≢◌, nat_lt, slice_index_or, slice_set}
use Rattle.standpoint.specs.declared.statement.Statement.{Statement}
use Rattle.saturation.specs.declared.row.Kept.{Kept}
use Rattle.saturation.specs.declared.row.Row.{Row}
use Rattle.saturation.specs.declared.table.Table.{Table}
use Rattle.saturation.specs.Rows.{chain, no_row, rows_in}
use Rattle.saturation.specs.Chains.{last_in}
use Rattle.saturation.specs.Buckets.{bucket_of, bucket_at, entered}
use Rattle.saturation.specs.declared.side.Spots.{Spots}
use Rattle.saturation.specs.Sides.{spots_of, settled_rows}

-- the rows, the grades beside them, and how many are taken and settled
pub record State (G : Type 0) : Type 0 where
  pub rows : List Row
  pub grades : List G
  pub len : ℕ
  pub settled : ℕ

abbrev pub view : {G : Type 0} → Table G → State G
view t = record { rows = t.rows.now; grades = t.grades.now; len = t.len; settled = t.settled }

-- over the same memory
abbrev pub OverSame : {G : Type 0} → Table G → Table G → Type 0
OverSame s t = (t.rows.ghost_name ≡ s.rows.ghost_name) × (t.grades.ghost_name ≡ s.grades.ghost_name)

-- over the same memory, and in the same phase
abbrev pub Same : {G : Type 0} → Table G → Table G → Type 0
Same s t = (t.rows.ghost_name ≡ s.rows.ghost_name) × (t.grades.ghost_name ≡ s.grades.ghost_name) × (t.phase ≡ s.phase)

-- how many rows the table uses
abbrev pub capacity : {G : Type 0} → State G → ℕ
capacity s = rows_in s.rows s.grades

abbrev pub has_room : {G : Type 0} → State G → Bool
has_room s = nat_lt s.len (capacity s)

abbrev pub row_at : {G : Type 0} → State G → ℕ → Row
row_at s k = slice_index_or s.rows k no_row

abbrev pub statement_at : {G : Type 0} → State G → ℕ → Statement
statement_at s k = (row_at s k).statement

-- row k is not settled
abbrev pub OpenAt : {G : Type 0} → State G → ℕ → Type 0
OpenAt s k = (row_at s k).place ≡ None

-- the row that was settled k-th
abbrev pub turn_at : {G : Type 0} → State G → ℕ → ℕ
turn_at s k = (row_at s k).turn

-- no taken row holds x
abbrev pub Absent : {G : Type 0} → State G → Statement → Type 0
Absent s x = (k : ℕ) → k < s.len → statement_at s k ≢ x

abbrev pub Present : {G : Type 0} → State G → Statement → Type 0
Present s x = (k : ℕ) × (k < s.len) × (statement_at s k ≡ x)

-- what a look for a statement among the first rows answers
abbrev pub RowOf : List Row → ℕ → Statement → Option ℕ → Type 0
RowOf rows len x None = (k : ℕ) → k < len → (get_or rows k no_row).statement ≢ x
RowOf rows len x (Some i) = (i < len) × ((get_or rows i no_row).statement ≡ x)

abbrev pub Found : {G : Type 0} → State G → Statement → Option ℕ → Type 0
Found s x r = RowOf s.rows s.len x r

abbrev pub with_row : {G : Type 0} → State G → ℕ → Row → State G
with_row s k r = record { rows = slice_set s.rows k r; grades = s.grades; len = s.len; settled = s.settled }

-- a row for x, unsettled, with its step
abbrev pub entry : Row → Statement → Kept → Row
entry r x step = record r { statement = x; kept = step; place = None; listed = 0 }

-- the next row for x, linked to the last of its bucket, and its own winner
abbrev pub taken : List Row → ℕ → Statement → Kept → Option ℕ → Row
taken rows n x step link = record (entry (slice_index_or rows n no_row) x step) { winner = n; index = chain (slice_index_or rows n no_row).index.head link }

abbrev pub taken_row : {G : Type 0} → State G → Statement → Kept → Row
taken_row s x step = taken s.rows s.len x step (last_in (bucket_at (capacity s) s.rows) (bucket_of (capacity s) x) s.len)

-- one row and its grade more
abbrev pub pushed : {G : Type 0} → State G → Row → G → State G
pushed s x g = record { rows = entered s.rows s.len x (bucket_of (capacity s) x.statement); grades = slice_set s.grades s.len g; len = s.len + 1; settled = s.settled }

abbrev pub rekept : Row → Kept → Row
rekept r k = record r { kept = k }

-- another step and grade for row i
abbrev pub improved : {G : Type 0} → State G → ℕ → G → Kept → State G
improved s i g k = record { rows = slice_set s.rows i (rekept (row_at s i) k); grades = slice_set s.grades i g; len = s.len; settled = s.settled }

-- where row i goes in the chains
abbrev pub spots_at : {G : Type 0} → State G → ℕ → Spots
spots_at s i = spots_of (capacity s) s.rows s.settled (statement_at s i)

-- row i is settled in the next turn
abbrev pub settled_row : {G : Type 0} → State G → ℕ → State G
settled_row s i = record { rows = settled_rows s.rows s.settled i (spots_at s i); grades = s.grades; len = s.len; settled = s.settled + 1 }

-- no row is taken
abbrev pub fresh : {G : Type 0} → List Row → List G → State G
fresh rows grades = record { rows = rows; grades = grades; len = 0; settled = 0 }
