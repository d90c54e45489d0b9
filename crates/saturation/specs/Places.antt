-- What one rule gives over what stands at places of the settled list.
use Rattle.std.specs.Prelude.{◌≡◌, ℕ, ◌+◌, List, [], ◌∷◌, map, slice_index}
use Rattle.standpoint.specs.declared.statement.Statement.{Statement}
use Rattle.standpoint.specs.Lists.{In, StandsAt}
use Rattle.standpoint.specs.Algebra.{Algebra}
use Rattle.standpoint.specs.Rules.{Rule, Tautology}
use Rattle.standpoint.specs.Derivations.{Base}
use Rattle.saturation.specs.declared.row.Kept.{Kept}
use Rattle.saturation.specs.declared.places.Places.{Places}
use Rattle.saturation.specs.declared.places.Places.TheVariants.{One, Two, Three}
use Rattle.saturation.specs.Rows.{kept}

-- grades joined from the left
abbrev pub joined_to : {G : Type 0} → Algebra G → G → List G → G
joined_to a g [] = g
joined_to a g (h ∷ hs) = joined_to a (a.join g h) hs

abbrev pub joined : {G : Type 0} → Algebra G → List G → G
joined a [] = a.start
joined a (g ∷ gs) = joined_to a g gs

-- at each place stands the premise of the same rank
abbrev pub StandAt : {X : Type 0} → List X → List ℕ → List X → Type 0
StandAt xs [] [] = Unit {0}
StandAt xs [] (p ∷ ps) = ⊥
StandAt xs (k ∷ ks) [] = ⊥
StandAt xs (k ∷ ks) (p ∷ ps) = StandsAt xs k p × StandAt xs ks ps

abbrev pub statements_of : {G : Type 0} → List (Statement × G) → List Statement
statements_of {G} ps = map (λ (p : Statement × G). p.0) ps

abbrev pub grades_of : {G : Type 0} → List (Statement × G) → List G
grades_of {G} ps = map (λ (p : Statement × G). p.1) ps

-- the rule gives o from what stands at these places
pub record Step {G : Type 0} (a : Algebra G) (individuals : ℕ) (settled : List (Statement × G)) (rule : ℕ) (places : List ℕ) (o : Statement × G) : Type 0 where
  pub premises : List (Statement × G)
  pub stand : StandAt settled places premises
  pub gives : Rule individuals rule (statements_of premises) o.0
  pub grade : o.1 ≡ joined a (grades_of premises)

-- some rule gives o from places of which n is one
pub record Uses {G : Type 0} (a : Algebra G) (individuals : ℕ) (settled : List (Statement × G)) (n : ℕ) (o : Statement × G) : Type 0 where
  pub rule : ℕ
  pub places : List ℕ
  pub used : In places n
  pub step : Step a individuals settled rule places o

-- places as they are handed on
abbrev pub listed_places : Places → List ℕ
listed_places (One i) = i ∷ []
listed_places (Two i j) = i ∷ j ∷ []
listed_places (Three i j k) = i ∷ j ∷ k ∷ []

-- the place of this rank, counted from 1, and 0 where there is none
abbrev pub place_or : List ℕ → ℕ → ℕ
place_or places rank = slice_index (map (λ (k : ℕ). k + 1) places) rank

-- the step that a row keeps
abbrev pub kept_of : ℕ → List ℕ → Kept
kept_of rule places = kept rule (place_or places 0) (place_or places 1) (place_or places 2)

-- a kept step gives exactly o: a leaf, or a rule over settled statements
pub data KeptRight {G : Type 0} (a : Algebra G) (base : Base G) (settled : List (Statement × G)) (o : Statement × G) (step : Kept) : Type 0 where
  kept_accepted : step ≡ kept 0 0 0 0 → In base.accepted o → KeptRight a base settled o step
  kept_tautology : step ≡ kept 24 0 0 0 → Tautology base.sizes o.0 → o.1 ≡ a.start → KeptRight a base settled o step
  kept_step : (rule : ℕ) (places : List ℕ) → step ≡ kept_of rule places → Step a base.sizes.individuals settled rule places o → KeptRight a base settled o step
