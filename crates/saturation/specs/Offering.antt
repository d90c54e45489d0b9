-- What an offer makes of the rows: they hold each offered statement once, at the best of its offered grades.
use Rattle.std.specs.Prelude.{◌≡◌, ℕ, ◌<◌, ◌≤◌, Bool, true, false, List, ◌∷◌, length, take, slice_index_or}
use Rattle.standpoint.specs.declared.statement.Statement.{Statement}
use Rattle.standpoint.specs.Lists.{In}
use Rattle.standpoint.specs.Algebra.{Algebra, NoWorse}
use Rattle.standpoint.specs.Derivations.{Base}
use Rattle.saturation.specs.declared.row.Kept.{Kept}
use Rattle.saturation.specs.Rows.{StatementsApart}
use Rattle.saturation.specs.Tables.{State, row_at, statement_at, turn_at, OpenAt, Present, Absent, has_room}
use Rattle.saturation.specs.Memory.{Leaves}
use Rattle.saturation.specs.Tournament.{Played}
use Rattle.saturation.specs.Places.{KeptRight}

-- no statement stands in two taken rows
abbrev pub Apart : {G : Type 0} → State G → Type 0
Apart s = StatementsApart s.rows s.len

pub record BestOf {G : Type 0} (a : Algebra G) (s : State G) (offered : List (Statement × G)) : Type 0 where
  pub apart : Apart s
  pub every : (x : Statement) (g : G) → In offered (x, g) → Present s x
  pub from : (i : ℕ) → i < s.len → OpenAt s i → (d : G) → In offered (statement_at s i, slice_index_or s.grades i d)
  pub best : (i : ℕ) → i < s.len → OpenAt s i → (g : G) → In offered (statement_at s i, g) → (d : G) → NoWorse a (slice_index_or s.grades i d) g

-- the same, and each row names the winner at it
pub record Ranked {G : Type 0} (a : Algebra G) (s : State G) (offered : List (Statement × G)) : Type 0 where
  pub best : BestOf a s offered
  pub played : Played a s

-- nothing that stood in a taken row is lost, and a settled row keeps its step and its grade
pub record Grown {G : Type 0} (s t : State G) : Type 0 where
  pub more : s.len ≤ t.len
  pub settled : t.settled ≡ s.settled
  pub statements : (k : ℕ) → k < s.len → statement_at t k ≡ statement_at s k
  pub places : (k : ℕ) → k < s.len → (row_at t k).place ≡ (row_at s k).place
  pub turns : (k : ℕ) → k < s.len → turn_at t k ≡ turn_at s k
  pub fresh : (k : ℕ) → s.len ≤ k → k < t.len → OpenAt t k
  pub kept : (k : ℕ) → k < s.len → (OpenAt s k → ⊥) → ((row_at t k).kept ≡ (row_at s k).kept) × ((d : G) → slice_index_or t.grades k d ≡ slice_index_or s.grades k d)
  pub leaves : Leaves s t

-- one offer more, or no row is free for it
pub record Taken {G : Type 0} (a : Algebra G) (s t : State G) (x : Statement) (g : G) (r : Bool) : Type 0 where
  pub grown : Grown s t
  pub apart : Apart s → Apart t
  pub only : (k : ℕ) → s.len ≤ k → k < t.len → statement_at t k ≡ x
  pub ranked : r ≡ true → (offered : List (Statement × G)) → Ranked a s offered → Ranked a t ((x, g) ∷ offered)
  pub refused : r ≡ false → (t ≡ s) × (has_room s ≡ false) × Absent s x

-- row i is unsettled, and g is better than its grade
abbrev pub Outdone : {G : Type 0} → Algebra G → State G → ℕ → G → Bool → Type 0
Outdone {G} a s i g true = OpenAt s i × ((d : G) → a.no_worse (slice_index_or s.grades i d) g ≡ false)
Outdone {G} a s i g false = OpenAt s i → (d : G) → NoWorse a (slice_index_or s.grades i d) g

-- the kept step of each unsettled row is right
abbrev pub RowsRight : {G : Type 0} → Algebra G → Base G → List (Statement × G) → State G → Type 0
RowsRight {G} a base settled s = (i : ℕ) → i < s.len → OpenAt s i → (d : G) → KeptRight a base settled (statement_at s i, slice_index_or s.grades i d) (row_at s i).kept

-- an offer with a right step keeps that
abbrev pub Keeps : {G : Type 0} → Algebra G → State G → State G → Statement → G → Kept → Type 0
Keeps {G} a s t x g step = (base : Base G) (settled : List (Statement × G)) → KeptRight a base settled (x, g) step → RowsRight a base settled s → RowsRight a base settled t

-- the kept step of the k-th settled statement is right over those settled before it
abbrev pub Explained : {G : Type 0} → Algebra G → Base G → List (Statement × G) → State G → Type 0
Explained {G} a base settled s = (k : ℕ) → k < length settled → (d : Statement × G) → KeptRight a base (take k settled) (slice_index_or settled k d) (row_at s (turn_at s k)).kept
