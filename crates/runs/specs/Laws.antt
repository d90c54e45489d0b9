-- The laws of runs, for one kind of grade.
use Rattle.std.specs.Prelude.{◌≡◌, ℕ, ◌↔◌, [], length}
use Rattle.standpoint.specs.declared.statement.Statement.{Statement}
use Rattle.standpoint.specs.Lists.{In}
use Rattle.standpoint.specs.Algebra.{Algebra, NoWorse}
use Rattle.standpoint.specs.Derivations.{Base, Derives}
use Rattle.runs.specs.declared.Stand.{Stand}
use Rattle.runs.specs.Runs.{Settled, Unsettled, Run, AllSettled, Stands, Settling}
use Rattle.runs.specs.Model.{model}

module _ {G : Type 0} (a : Algebra G) where
  -- a settled grade is the grade of a derivation, and no derivation is better
  abbrev pub SettledIsBest : Type 0
  SettledIsBest = (base : Base G) (settled : Settled G) → Run a base settled → (x : Statement) (g : G) → In settled (x, g) →
      Derives a base x g × ((d : G) → Derives a base x d → NoWorse a g d)

  -- once every known statement is settled, exactly the derivable statements are settled
  abbrev pub NoneIsExact : Type 0
  NoneIsExact = (base : Base G) (settled : Settled G) → Run a base settled → AllSettled a base settled → (x : Statement) →
      (Unsettled settled x ↔ ((d : G) → Derives a base x d → ⊥))

  -- a run of a given length is unique
  abbrev pub OneRun : Type 0
  OneRun = (base : Base G) (settled other : Settled G) → Run a base settled → Run a base other → length settled ≡ length other → settled ≡ other

  -- what settling settles is determined
  abbrev pub OneSettling : Type 0
  OneSettling = (base : Base G) (rows n : ℕ) (settled later other : Settled G) →
      Settling a base rows n settled later → Settling a base rows n settled other → later ≡ other

  -- how a run stands is determined
  abbrev pub OneStand : Type 0
  OneStand = (base : Base G) (rows : ℕ) (settled : Settled G) (stand other : Stand) → Stands a base rows settled stand → Stands a base rows settled other → stand ≡ other

  -- the computed run settles as runs do, and stands as it says
  abbrev pub ModelSettles : Type 0
  ModelSettles = (base : Base G) (rows n : ℕ) →
      Settling a base rows n [] (model a base rows n).0 × Stands a base rows (model a base rows n).0 (model a base rows n).1
