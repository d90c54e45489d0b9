-- Rows alone: what a table's ghost fields say of them.
use Rattle.std.specs.Prelude.{◌≡◌, ℕ, ◌<◌, min, Bool, true, List, length, None, Some, Option, slice_index_or}
use Rattle.standpoint.specs.Statements.{statement}
use Rattle.saturation.specs.declared.row.Kept.{Kept}
use Rattle.saturation.specs.declared.row.Chain.{Chain}
use Rattle.saturation.specs.declared.row.Row.{Row}

abbrev pub kept : ℕ → ℕ → ℕ → ℕ → Kept
kept rule i j k = record { rule = rule; first = i; second = j; third = k }

abbrev pub chain : ℕ → Option ℕ → Chain
chain head link = record { head = head; link = link }

abbrev pub no_chain : Chain
no_chain = chain 0 None

-- what stands past the end of the rows
abbrev pub no_row : Row
no_row = record {
  statement = statement 0 0 0 0 0 0;
  place = None;
  index = no_chain;
  winner = 0;
  turn = 0;
  source = no_chain;
  target = no_chain;
  inner = no_chain;
  ending = no_chain;
  through = no_chain;
  kept = kept 0 0 0 0;
  listed = 0;
}

-- how many rows are used: the shorter of both lengths, at most 16,777,215
abbrev pub rows_in : {G : Type 0} → List Row → List G → ℕ
rows_in rows grades = min (min (length rows) (length grades)) 16777215

-- each turn so far settled a taken row
abbrev pub TurnsWithin : List Row → ℕ → ℕ → Type 0
TurnsWithin rows settled len = (k : ℕ) → k < settled → (slice_index_or rows k no_row).turn < len

-- the row that was settled k-th has this place
abbrev pub TurnsPlaced : List Row → ℕ → Type 0
TurnsPlaced rows settled = (k : ℕ) → k < settled → (slice_index_or rows (slice_index_or rows k no_row).turn no_row).place ≡ Some k

-- a taken row with a place was settled in that turn
abbrev pub PlacesTurned : List Row → ℕ → ℕ → Type 0
PlacesTurned rows settled len = (i k : ℕ) → i < len → (slice_index_or rows i no_row).place ≡ Some k → (k < settled) × ((slice_index_or rows k no_row).turn ≡ i)

-- no statement stands in two taken rows
abbrev pub StatementsApart : List Row → ℕ → Type 0
StatementsApart rows len = (i j : ℕ) → i < len → j < len → (slice_index_or rows i no_row).statement ≡ (slice_index_or rows j no_row).statement → i ≡ j

-- places and turns are inverse, and a statement stands once
pub record InPlace (rows : List Row) (settled len : ℕ) : Type 0 where
  pub places : TurnsPlaced rows settled
  pub back : PlacesTurned rows settled len
  pub apart : StatementsApart rows len

-- no step is listed in a taken row of a table that is begun
abbrev pub Unlisted : List Row → ℕ → Bool → Type 0
Unlisted rows len begun = begun ≡ true → (k : ℕ) → k < len → (slice_index_or rows k no_row).listed ≡ 0

-- each taken row names a taken row as the winner at it
abbrev pub WinnersWithin : List Row → ℕ → Type 0
WinnersWithin rows len = (k : ℕ) → k < len → (slice_index_or rows k no_row).winner < len
