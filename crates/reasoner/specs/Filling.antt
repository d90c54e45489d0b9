-- The rows while the tautologies are taken.
use Rattle.std.specs.Prelude.{◌≡◌, ℕ, ◌+◌, ◌<◌, ◌≤◌, List, [], Some}
use Rattle.std.specs.List.{slice_get}
use Rattle.standpoint.specs.declared.sizes.Sizes.{Sizes}
use Rattle.standpoint.specs.declared.statement.Statement.{Statement}
use Rattle.standpoint.specs.Lists.{In}
use Rattle.standpoint.specs.Algebra.{Algebra}
use Rattle.standpoint.specs.Rules.{Tautology}
use Rattle.standpoint.specs.Tautologies.{tautologies}
use Rattle.saturation.specs.Tables.{State, OpenAt, capacity}
use Rattle.saturation.specs.Offering.{Ranked, RowsRight}
use Rattle.reasoner.specs.Models.{empty_base}

-- the first k tautologies are taken, and nothing else
pub record Filled {G : Type 0} (a : Algebra G) (n : Sizes) (s : State G) (k : ℕ) : Type 0 where
  pub offered : List (Statement × G)
  pub rows : Ranked a s offered
  pub sound : (o : Statement × G) → In offered o → Tautology n o.0 × (o.1 ≡ a.start)
  pub complete : (j : ℕ) (x : Statement) → j < k → slice_get (tautologies n) j ≡ Some x → In offered (x, a.start)
  pub few : s.len ≤ k
  pub unsettled : s.settled ≡ 0
  pub opened : (i : ℕ) → i < s.len → OpenAt s i
  pub right : RowsRight a (empty_base n) [] s

-- one tautology more, where a row is free
abbrev pub Takes : {G : Type 0} → Algebra G → Statement → State G → State G → Type 0
Takes a x s t = (n : Sizes) (k : ℕ) → slice_get (tautologies n) k ≡ Some x → k < capacity s → Filled a n s k → Filled a n t (k + 1)
