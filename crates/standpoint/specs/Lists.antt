-- Words on lists and on answers that the other definitions use.
use Rattle.std.specs.Prelude.{◌≡◌, ℕ, ◌<◌, Bool, true, false, ◌⊎◌, List, [], ◌∷◌, length, Some, slice_index_or}
use Rattle.std.specs.List.{slice_get}

infixr 60 ◌&◌
-- the answer to the question whether P holds
abbrev pub Tells : Bool → Type 0 → Type 0
Tells true P = P
Tells false P = P → ⊥

-- x is among xs
abbrev pub In : {X : Type 0} → List X → X → Type 0
In [] x = ⊥
In (y ∷ ys) x = (y ≡ x) ⊎ In ys x

-- p stands at place k, counted from 0
abbrev pub StandsAt : {X : Type 0} → List X → ℕ → X → Type 0
StandsAt {X} xs k p = (k < length xs) × ((d : X) → slice_index_or xs k d ≡ p)

-- no two places hold the same
abbrev pub Distinct : {X : Type 0} → List X → Type 0
Distinct {X} xs = (j k : ℕ) (x : X) → slice_get xs j ≡ Some x → slice_get xs k ≡ Some x → j ≡ k

-- each of a list has a property
pub data All {X : Type 0} (P : X → Type 0) : List X → Type 0 where
  none : All P []
  ◌&◌ : {x : X} {xs : List X} → P x → All P xs → All P (x ∷ xs)
