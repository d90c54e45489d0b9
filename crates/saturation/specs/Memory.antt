-- What a call leaves of lent memory and of what was settled, whatever the kind says.
use Rattle.std.specs.Prelude.{◌≡◌, ℕ, ◌+◌, ◌<◌, ◌≤◌, Bool, true, false, length, slice_index_or}
use Rattle.standpoint.specs.declared.statement.Statement.{Statement}
use Rattle.standpoint.specs.Algebra.{Algebra, NoWorse}
use Rattle.saturation.specs.declared.row.Kept.{Kept}
use Rattle.saturation.specs.declared.row.Row.{Row}
use Rattle.saturation.specs.Rows.{no_chain}
use Rattle.saturation.specs.Tables.{State, capacity, has_room, row_at, statement_at, turn_at, OpenAt, Absent, entry, rekept}

-- a row without the columns of chains and queue
abbrev pub content : Row → Row
content r = record r { index = no_chain; winner = 0; source = no_chain; target = no_chain; inner = no_chain; ending = no_chain; through = no_chain }

-- all beyond the rows that are used is as it was, and of rows that are not taken all but chains and queue, and their grades
pub record Leaves {G : Type 0} (s t : State G) : Type 0 where
  pub rows_long : length t.rows ≡ length s.rows
  pub grades_long : length t.grades ≡ length s.grades
  pub beyond : (k : ℕ) → capacity s ≤ k → row_at t k ≡ row_at s k
  pub free_rows : (k : ℕ) → t.len ≤ k → content (row_at t k) ≡ content (row_at s k)
  pub free_grades : (k : ℕ) → t.len ≤ k → (d : G) → slice_index_or t.grades k d ≡ slice_index_or s.grades k d

-- all beyond the rows that are used is as it was
pub record SameBeyond {G : Type 0} (s t : State G) : Type 0 where
  pub rows_long : length t.rows ≡ length s.rows
  pub grades_long : length t.grades ≡ length s.grades
  pub rows : (k : ℕ) → capacity s ≤ k → row_at t k ≡ row_at s k
  pub grades : (k : ℕ) → capacity s ≤ k → (d : G) → slice_index_or t.grades k d ≡ slice_index_or s.grades k d

-- what was settled stays settled in its turn, with its statement, step and grade
pub record KeepsSettled {G : Type 0} (s t : State G) : Type 0 where
  pub more : s.settled ≤ t.settled
  pub turns : (k : ℕ) → k < s.settled → turn_at t k ≡ turn_at s k
  pub statements : (k : ℕ) → k < s.settled → statement_at t (turn_at s k) ≡ statement_at s (turn_at s k)
  pub places : (k : ℕ) → k < s.settled → (row_at t (turn_at s k)).place ≡ (row_at s (turn_at s k)).place
  pub kept : (k : ℕ) → k < s.settled → (row_at t (turn_at s k)).kept ≡ (row_at s (turn_at s k)).kept
  pub grades : (k : ℕ) → k < s.settled → (d : G) → slice_index_or t.grades (turn_at s k) d ≡ slice_index_or s.grades (turn_at s k) d

-- so many more are settled, no taken row is given back, and of all else what a call leaves
pub record SettlesRows {G : Type 0} (s t : State G) (count : ℕ) : Type 0 where
  pub more : s.len ≤ t.len
  pub leaves : Leaves s t
  pub kept_settled : KeepsSettled s t
  pub counts : t.settled ≡ s.settled + count

-- nothing but row i and its grade differs, besides chains and queue, and nothing at all beyond the rows that are used
pub record ButRow {G : Type 0} (s t : State G) (i : ℕ) : Type 0 where
  pub settled : t.settled ≡ s.settled
  pub rows_long : length t.rows ≡ length s.rows
  pub grades_long : length t.grades ≡ length s.grades
  pub beyond : (k : ℕ) → capacity s ≤ k → row_at t k ≡ row_at s k
  pub rows : (k : ℕ) → (k ≡ i → ⊥) → content (row_at t k) ≡ content (row_at s k)
  pub grades : (k : ℕ) → (k ≡ i → ⊥) → (d : G) → slice_index_or t.grades k d ≡ slice_index_or s.grades k d

-- and these are they
pub record Sets {G : Type 0} (s t : State G) (i : ℕ) (r : Row) (g : G) : Type 0 where
  pub others : ButRow s t i
  pub row : content (row_at t i) ≡ content r
  pub grade : (d : G) → slice_index_or t.grades i d ≡ g

-- what an offer of x at g with a step makes of the rows: a row more, a better grade and its step for an unsettled one, nothing where
-- a row has a grade as good, or no row is free for it
pub data Offered {G : Type 0} (a : Algebra G) (s t : State G) (x : Statement) (g : G) (step : Kept) : Bool → Type 0 where
  new : Absent s x → s.len < capacity s → t.len ≡ s.len + 1 → Sets s t s.len (entry (row_at s s.len) x step) g → Offered a s t x g step true
  bettered : (i : ℕ) → i < s.len → statement_at s i ≡ x → OpenAt s i → ((d : G) → a.no_worse (slice_index_or s.grades i d) g ≡ false) →
      t.len ≡ s.len → Sets s t i (rekept (row_at s i) step) g → Offered a s t x g step true
  as_good : (i : ℕ) → i < s.len → statement_at s i ≡ x → (OpenAt s i → (d : G) → NoWorse a (slice_index_or s.grades i d) g) →
      t ≡ s → Offered a s t x g step true
  no_row : Absent s x → has_room s ≡ false → t ≡ s → Offered a s t x g step false
