-- Derivations: finite trees of rules over accepted statements and tautologies.
use Rattle.std.specs.Prelude.{ℕ, List, [], ◌∷◌}
use Rattle.standpoint.specs.declared.statement.Statement.{Statement}
use Rattle.standpoint.specs.declared.sizes.Sizes.{Sizes}
use Rattle.standpoint.specs.Lists.{In}
use Rattle.standpoint.specs.Statements.{Fits}
use Rattle.standpoint.specs.Rules.{Rule, Tautology}
use Rattle.standpoint.specs.Algebra.{Algebra}

-- what is derived from: the sizes, and the accepted statements with their grades
pub record Base (G : Type 0) : Type 0 where
  pub sizes : Sizes
  pub accepted : List (Statement × G)

-- a leaf of a derivation, with its grade: an accepted statement, which has to fit the sizes, or a tautology
pub data Leaf {G : Type 0} (a : Algebra G) (base : Base G) : Statement → G → Type 0 where
  accepted : {x : Statement} {g : G} → In base.accepted (x, g) → Fits base.sizes x → Leaf a base x g
  tautology : {x : Statement} → Tautology base.sizes x → Leaf a base x a.start

-- a derivation of a statement at a grade; several premises are joined from the left
pub data Derives {G : Type 0} (a : Algebra G) (base : Base G) : Statement → G → Type 0 where
  leaf : {x : Statement} {g : G} → Leaf a base x g → Derives a base x g
  one : {rule : ℕ} {p x : Statement} {g : G} → Rule base.sizes.individuals rule (p ∷ []) x →
      Derives a base p g → Derives a base x g
  two : {rule : ℕ} {p q x : Statement} {g h : G} → Rule base.sizes.individuals rule (p ∷ q ∷ []) x →
      Derives a base p g → Derives a base q h → Derives a base x (a.join g h)
  three : {rule : ℕ} {p q r x : Statement} {g h i : G} → Rule base.sizes.individuals rule (p ∷ q ∷ r ∷ []) x →
      Derives a base p g → Derives a base q h → Derives a base r i → Derives a base x (a.join (a.join g h) i)
