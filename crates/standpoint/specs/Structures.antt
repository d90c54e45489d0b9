-- What statements mean: structures, and which statements a structure meets.
use Rattle.std.specs.Prelude.{◌≡◌, ℕ, ◌<◌}
use Rattle.standpoint.specs.declared.statement.Statement.{Statement}
use Rattle.standpoint.specs.declared.sizes.Sizes.{Sizes}
use Rattle.standpoint.specs.Claims.{Claim, Holds}
use Rattle.standpoint.specs.Statements.{Individual, sharper, intersection_sharper, nested_inclusion, possible_inclusion, existential_right, existential_left, conjunction_left, role_inclusion, role_chain}

-- A set is what its claim of each number says. Things and precisifications are numbers, perhaps infinitely many.
pub record Structure (n : Sizes) : Type 0 where
  pub thing : ℕ → Claim
  pub precisification : ℕ → Claim
  -- standpoint s π; concept π c δ; role π r δ ε, from δ to ε
  pub standpoint : ℕ → ℕ → Claim
  pub concept : ℕ → ℕ → ℕ → Claim
  pub role : ℕ → ℕ → ℕ → ℕ → Claim
  pub some_thing : (δ : ℕ) × Holds (thing δ)
  pub some_precisification : (π : ℕ) × Holds (precisification π)
  pub some_in_standpoint : (s : ℕ) → s < n.standpoints → (π : ℕ) × Holds (standpoint s π)
  pub standpoint_within : (s π : ℕ) → Holds (standpoint s π) → Holds (precisification π)
  pub standpoint_of_all : (π : ℕ) → Holds (precisification π) → Holds (standpoint 0 π)
  pub concept_within : (π c δ : ℕ) → Holds (concept π c δ) → Holds (thing δ)
  pub role_within : (π r δ ε : ℕ) → Holds (role π r δ ε) → Holds (thing δ) × Holds (thing ε)
  pub top_all : (π δ : ℕ) → Holds (precisification π) → Holds (thing δ) → Holds (concept π 0 δ)
  pub bottom_none : (π δ : ℕ) → Holds (concept π 1 δ) → ⊥
  -- exactly one thing, the same in every precisification
  pub individual_thing : (a : ℕ) → Individual n.individuals a →
      (δ : ℕ) × ((π : ℕ) → Holds (precisification π) → Holds (concept π a δ) × ((ε : ℕ) → Holds (concept π a ε) → ε ≡ δ))

module _ {n : Sizes} (M : Structure n) where
  -- the precisification π belongs to the standpoint s
  abbrev pub In : ℕ → ℕ → Type 0
  In s π = Holds (M.standpoint s π)

  -- in π, δ is c
  abbrev pub Is : ℕ → ℕ → ℕ → Type 0
  Is π c δ = Holds (M.concept π c δ)

  -- in π, δ has an r to ε
  abbrev pub Has : ℕ → ℕ → ℕ → ℕ → Type 0
  Has π r δ ε = Holds (M.role π r δ ε)

  -- the structure meets a statement: what the statement says holds there
  pub data Meets : Statement → Type 0 where
    meets_sharper : {s u : ℕ} →
        ((π : ℕ) → In s π → In u π) → Meets (sharper s u)
    meets_intersection_sharper : {s1 s2 u : ℕ} →
        ((π : ℕ) → In s1 π → In s2 π → In u π) → Meets (intersection_sharper s1 s2 u)
    meets_nested_inclusion : {t b s c d : ℕ} →
        ((π : ℕ) → In t π → (δ : ℕ) → Is π b δ → (ρ : ℕ) → In s ρ → Is ρ c δ → Is ρ d δ) → Meets (nested_inclusion t b s c d)
    meets_possible_inclusion : {t c s d : ℕ} →
        ((π : ℕ) → In t π → (δ : ℕ) → Is π c δ → (ρ : ℕ) × In s ρ × Is ρ d δ) → Meets (possible_inclusion t c s d)
    meets_existential_right : {s c r d : ℕ} →
        ((π : ℕ) → In s π → (δ : ℕ) → Is π c δ → (ε : ℕ) × Has π r δ ε × Is π d ε) → Meets (existential_right s c r d)
    meets_existential_left : {s r c d : ℕ} →
        ((π : ℕ) → In s π → (δ ε : ℕ) → Has π r δ ε → Is π c ε → Is π d δ) → Meets (existential_left s r c d)
    meets_conjunction_left : {s c1 c2 d : ℕ} →
        ((π : ℕ) → In s π → (δ : ℕ) → Is π c1 δ → Is π c2 δ → Is π d δ) → Meets (conjunction_left s c1 c2 d)
    meets_role_inclusion : {s r1 r2 : ℕ} →
        ((π : ℕ) → In s π → (δ ε : ℕ) → Has π r1 δ ε → Has π r2 δ ε) → Meets (role_inclusion s r1 r2)
    meets_role_chain : {s r1 r2 r3 : ℕ} →
        ((π : ℕ) → In s π → (δ ε ζ : ℕ) → Has π r1 δ ε → Has π r2 ε ζ → Has π r3 δ ζ) → Meets (role_chain s r1 r2 r3)
