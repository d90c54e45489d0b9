-- What the check of a step list answers, and what a list that passes means.
use Rattle.std.specs.Prelude.{◌≡◌, ℕ, ◌-◌, ◌≤◌, List, [], length, Ok, Err, Result}
use Rattle.standpoint.specs.declared.refusal.Refusal.{Refusal}
use Rattle.standpoint.specs.declared.refusal.Refusal.TheVariants.{SizesOutOfRange, WrongStep, NoSteps}
use Rattle.standpoint.specs.declared.sizes.Sizes.{Sizes}
use Rattle.standpoint.specs.declared.statement.Statement.{Statement}
use Rattle.standpoint.specs.declared.step.Step.{Step}
use Rattle.standpoint.specs.Sizes.{InRange}
use Rattle.standpoint.specs.Lists.{In, StandsAt}
use Rattle.standpoint.specs.Algebra.{Algebra}
use Rattle.standpoint.specs.Statements.{Fits, contradiction}
use Rattle.standpoint.specs.Structures.{Structure, Meets}
use Rattle.standpoint.specs.Derivations.{Base, Derives}
use Rattle.standpoint.specs.Steps.{given, RightAt, RightBelow}

abbrev pub base_of : {G : Type 0} → Sizes → List (Statement × G) → Base G
base_of sizes accepted = record { sizes = sizes; accepted = accepted }

-- the last step gives x at the grade g
pub record Last {G : Type 0} (steps : List (Step G)) (x : Statement) (g : G) : Type 0 where
  pub step : Step G
  pub at_end : StandsAt steps (length steps - 1) step
  pub gives : given step ≡ (x, g)

-- the sizes are in their ranges, every step is right, and the last one gives x at the grade g
pub record Passes {G : Type 0} (a : Algebra G) (base : Base G) (steps : List (Step G)) (x : Statement) (g : G) : Type 0 where
  pub in_range : InRange base.sizes
  pub right : RightBelow a base steps (length steps)
  pub last : Last steps x g

-- the step at this place, counted from 1, is not right, and all before it are
pub record FirstWrong {G : Type 0} (a : Algebra G) (base : Base G) (steps : List (Step G)) (place : ℕ) : Type 0 where
  pub counted : 1 ≤ place
  pub within : place ≤ length steps
  pub right_before : RightBelow a base steps (place - 1)
  pub wrong : RightAt a base steps (place - 1) → ⊥

-- why a list does not pass: there is no other reason
pub data Refused {G : Type 0} (a : Algebra G) (base : Base G) (steps : List (Step G)) : Refusal → Type 0 where
  out_of_range : (InRange base.sizes → ⊥) → Refused a base steps SizesOutOfRange
  no_steps : InRange base.sizes → steps ≡ [] → Refused a base steps NoSteps
  wrong_step : {place : ℕ} → InRange base.sizes → FirstWrong a base steps place → Refused a base steps (WrongStep place)

-- the answer of the check: the last grade of a list that passes, else why it does not
abbrev pub Checked : {G : Type 0} → Algebra G → Base G → List (Step G) → Result G Refusal → Type 0
Checked a base steps (Ok g) = (x : Statement) × Passes a base steps x g
Checked a base steps (Err why) = Refused a base steps why

-- the structure meets every accepted statement that fits the sizes; the others have no meaning there
abbrev pub MeetsAccepted : {G : Type 0} (base : Base G) → Structure base.sizes → Type 0
MeetsAccepted {G} base M = (x : Statement) (g : G) → In base.accepted (x, g) → Fits base.sizes x → Meets M x

module _ {G : Type 0} (a : Algebra G) where
  -- the check has one answer
  abbrev pub OneAnswer : Type 0
  OneAnswer = (base : Base G) (steps : List (Step G)) (r s : Result G Refusal) → Checked a base steps r → Checked a base steps s → r ≡ s

  -- a list that passes derives its last statement at its last grade
  abbrev pub ListDerives : Type 0
  ListDerives = (base : Base G) (steps : List (Step G)) (x : Statement) (g : G) → Passes a base steps x g → Derives a base x g

  -- every derivation can be written as a list that passes
  abbrev pub DerivedListed : Type 0
  DerivedListed = (base : Base G) (x : Statement) (g : G) → InRange base.sizes → Derives a base x g →
      (steps : List (Step G)) × Passes a base steps x g

  -- what a list that passes ends in is met by every structure that meets what is accepted
  abbrev pub ListMet : Type 0
  ListMet = (base : Base G) (steps : List (Step G)) (x : Statement) (g : G) → Passes a base steps x g →
      (M : Structure base.sizes) → MeetsAccepted base M → Meets M x

  -- a list that passes and ends in the contradiction leaves no structure that meets what is accepted
  abbrev pub ContradictionExcludes : Type 0
  ContradictionExcludes = (base : Base G) (steps : List (Step G)) (g : G) → Passes a base steps contradiction g →
      (M : Structure base.sizes) → MeetsAccepted base M → ⊥

  -- where nothing is accepted, no list that passes ends in the contradiction
  abbrev pub NothingContradicts : Type 0
  NothingContradicts = (n : Sizes) (steps : List (Step G)) (g : G) → Passes a (base_of n []) steps contradiction g → ⊥
