-- A tournament over the taken rows: row k plays with the winners at rows 2k + 1 and 2k + 2, so that the next one to be settled wins at
-- row 0.
use Rattle.std.specs.Prelude.{◌≡◌, ℕ, zero, suc, ◌/◌, ◌<◌, ◌≤◌, Bool, true, false, length, Some, None, Option}
use Rattle.standpoint.specs.Algebra.{Algebra}
use Rattle.saturation.specs.declared.row.Row.{Row}
use Rattle.saturation.specs.Tables.{State, OpenAt, row_at, with_row}
use Rattle.saturation.specs.Choosing.{RowAhead}

-- the row that this one plays at next
abbrev pub parent : ℕ → Option ℕ
parent zero = None
parent (suc k) = Some (k / 2)

-- row j is row k, or below it
pub data Under (k : ℕ) : ℕ → Type 0 where
  itself : Under k k
  below : {j : ℕ} → Under k (j / 2) → Under k (suc j)

-- if row j is unsettled, so is row w, and j is not to be settled before it
abbrev pub Beats : {G : Type 0} → Algebra G → State G → ℕ → ℕ → Type 0
Beats a s w j = OpenAt s j → OpenAt s w × (RowAhead a s j w → ⊥)

-- of two rows the one that beats the other
abbrev pub Match : {G : Type 0} → Algebra G → State G → ℕ → ℕ → Bool → Type 0
Match a s i j true = Beats a s i j
Match a s i j false = Beats a s j i

-- of row k and all below it, w wins
pub record Wins {G : Type 0} (a : Algebra G) (s : State G) (k w : ℕ) : Type 0 where
  pub within : w < s.len
  pub under : Under k w
  pub beats : (j : ℕ) → j < s.len → Under k j → Beats a s w j

abbrev pub winner_at : {G : Type 0} → State G → ℕ → ℕ
winner_at s k = (row_at s k).winner

-- each taken row names the winner at it
abbrev pub Played : {G : Type 0} → Algebra G → State G → Type 0
Played a s = (k : ℕ) → k < s.len → Wins a s k (winner_at s k)

-- the same but at row i and the rows above it
abbrev pub PlayedBut : {G : Type 0} → Algebra G → State G → ℕ → Type 0
PlayedBut a s i = (k : ℕ) → k < s.len → (Under k i → ⊥) → Wins a s k (winner_at s k)

-- row w is named as the winner at row k
abbrev pub won_by : Row → ℕ → Row
won_by r w = record r { winner = w }

abbrev pub crowned : {G : Type 0} → State G → ℕ → ℕ → State G
crowned s k w = with_row s k (won_by (row_at s k) w)

-- nothing but winners of taken rows differs
pub record ButWinners {G : Type 0} (s t : State G) : Type 0 where
  pub len : t.len ≡ s.len
  pub settled : t.settled ≡ s.settled
  pub grades : t.grades ≡ s.grades
  pub rows_long : length t.rows ≡ length s.rows
  pub rows : (k : ℕ) → won_by (row_at t k) 0 ≡ won_by (row_at s k) 0
  pub free : (k : ℕ) → s.len ≤ k → row_at t k ≡ row_at s k
