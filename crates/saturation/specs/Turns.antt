-- One turn: the next statement is settled, and what follows from it is offered.
use Rattle.std.specs.Prelude.{◌≡◌, ℕ, ◌+◌, ◌<◌, ◌≤◌, Bool, true, false, cond, nat_le, ◌⊎◌, List, [], ◌∷◌, ◌++◌, length, Some, None}
use Rattle.standpoint.specs.declared.statement.Statement.{Statement}
use Rattle.standpoint.specs.Lists.{In}
use Rattle.standpoint.specs.Algebra.{Algebra, NoWorse}
use Rattle.standpoint.specs.Statements.{Before}
use Rattle.standpoint.specs.Derivations.{Base}
use Rattle.runs.specs.Runs.{Unsettled}
use Rattle.saturation.specs.declared.turn.Turn.{Turn}
use Rattle.saturation.specs.declared.turn.Turn.TheVariants.{Nothing, Settled, Overflowed}
use Rattle.runs.specs.declared.Stand.{Stand}
use Rattle.runs.specs.declared.Stand.TheVariants.{Open, Ended, Full}
use Rattle.saturation.specs.declared.table.Table.{Table}
use Rattle.saturation.specs.Tables.{State, view, has_room, statement_at, OpenAt, settled_row}
use Rattle.saturation.specs.Choosing.{Picked}
use Rattle.saturation.specs.Tournament.{ButWinners}
use Rattle.saturation.specs.Memory.{Leaves, KeepsSettled}
use Rattle.saturation.specs.Places.{Uses}
use Rattle.saturation.specs.Offering.{Apart, Ranked, RowsRight, Explained}
use Rattle.saturation.specs.Searching.{Lists, Enumerated, Stuck, NewFrom}

-- of all that is offered and unsettled, o has the best grade, and among equals the least statement
pub record FirstOffered {G : Type 0} (a : Algebra G) (settled offered : List (Statement × G)) (o : Statement × G) : Type 0 where
  pub known : In offered o
  pub unsettled : Unsettled settled o.0
  pub best : (v : Statement × G) → In offered v → Unsettled settled v.0 → NoWorse a o.1 v.1
  pub least : (x : Statement) → In offered (x, o.1) → Unsettled settled x → (o.0 ≡ x) ⊎ Before o.0 x

-- o, in one of the rows, was settled, and all that uses it was then offered (r), or some of it found no row; nothing else changed
pub record TookTurn {G : Type 0} (a : Algebra G) (individuals : ℕ) (s t : State G) (r : Bool) : Type 0 where
  pub o : Statement × G
  pub row : ℕ
  pub chosen : State G
  pub picked : Picked s (Some row)
  pub winners : ButWinners (settled_row s row) chosen
  pub rematched : (offered : List (Statement × G)) → Ranked a s offered → Ranked a chosen offered
  pub long : t.settled ≡ s.settled + 1
  pub more : s.len ≤ t.len
  pub leaves : Leaves s t
  pub kept_settled : KeepsSettled s t
  pub next : (settled offered : List (Statement × G)) → Lists s settled → Ranked a s offered → FirstOffered a settled offered o
  pub lists : (settled : List (Statement × G)) → Lists s settled → Lists t (settled ++ o ∷ [])
  pub apart : Apart s → Apart t
  pub old : (k : ℕ) → k < s.len → statement_at t k ≡ statement_at s k
  pub new : (settled : List (Statement × G)) → Lists s settled → NewFrom s t (Uses a individuals (settled ++ o ∷ []) (length settled))
  pub all : (settled : List (Statement × G)) → Lists s settled →
      Enumerated a individuals (settled ++ o ∷ []) chosen t (Uses a individuals (settled ++ o ∷ []) (length settled))
      (Uses a individuals (settled ++ o ∷ []) (length settled)) r
  pub full : r ≡ false → has_room t ≡ false
  pub stuck : r ≡ false → (settled : List (Statement × G)) → Lists s settled → Stuck t (Uses a individuals (settled ++ o ∷ []) (length settled))
  pub keeps : (base : Base G) → base.sizes.individuals ≡ individuals → (settled : List (Statement × G)) → Lists s settled →
      RowsRight a base settled s → Explained a base settled s → RowsRight a base (settled ++ o ∷ []) t × Explained a base (settled ++ o ∷ []) t

-- nothing was left to settle, or one was settled, its consequences all offered or not
abbrev pub Turned : {G : Type 0} → Algebra G → ℕ → State G → State G → Turn → Type 0
Turned {G} a individuals s t Nothing =
    (t ≡ s) × ((settled offered : List (Statement × G)) → Lists s settled → Ranked a s offered → (k : ℕ) → k < s.len → OpenAt s k → ⊥)
    × ((s.len ≤ s.settled) ⊎ Picked s None)
Turned a individuals s t Settled = TookTurn a individuals s t true
Turned a individuals s t Overflowed = TookTurn a individuals s t false

-- so many turns, each of which settled a statement, led to this state
pub data Turns {G : Type 0} (a : Algebra G) (individuals : ℕ) (s : State G) : ℕ → State G → Type 0 where
  none : Turns a individuals s 0 s
  one_more : {k : ℕ} (t u : Table G) → Turns a individuals s k (view t) → Turned a individuals (view t) (view u) Settled →
      Turns a individuals s (k + 1) (view u)

-- how the rows stand of a run that does not stand full
abbrev pub stand_of_rows : {G : Type 0} → State G → Stand
stand_of_rows s = cond (nat_le s.len s.settled) Ended Open

-- n turns, unless nothing is left to settle or something found no row: how many settled a statement, and how the run stands
pub data TakesTurns {G : Type 0} (a : Algebra G) (individuals n : ℕ) (s t : State G) (count : ℕ) : Stand → Type 0 where
  all_taken : (u : Table G) → Turns a individuals s count (view u) → count ≡ n → t ≡ view u → TakesTurns a individuals n s t count (stand_of_rows t)
  nothing_left : (u v : Table G) → Turns a individuals s count (view u) → count < n → Turned a individuals (view u) (view v) Nothing → t ≡ view v →
      TakesTurns a individuals n s t count Ended
  overflowed : {k : ℕ} (u v : Table G) → Turns a individuals s k (view u) → k < n → count ≡ k + 1 →
      Turned a individuals (view u) (view v) Overflowed → t ≡ view v → TakesTurns a individuals n s t count Full
