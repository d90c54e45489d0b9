-- The kept steps that a settled statement rests on, and how they are written out. Settling places count from 0.
use Rattle.std.specs.Prelude.{◌≡◌, ℕ, zero, suc, ◌+◌, ◌<◌, ◌≤◌, Bool, true, false, cond, ◌⊎◌, List, length, slice_index_or}
use Rattle.standpoint.specs.declared.step.Step.{Step}
use Rattle.standpoint.specs.Steps.{given}
use Rattle.saturation.specs.declared.row.Kept.{Kept}
use Rattle.saturation.specs.Tables.{State, row_at, turn_at}
use Rattle.saturation.specs.Searching.{Premise}

-- the kept step of the k-th settled statement
abbrev pub kept_at : {G : Type 0} → State G → ℕ → Kept
kept_at s k = (row_at s (turn_at s k)).kept

-- a kept step names a place
abbrev pub Names : Kept → ℕ → Type 0
Names kept p = (kept.first ≡ p) ⊎ ((kept.second ≡ p) ⊎ (kept.third ≡ p))

-- the k-th settled statement rests on the j-th at once, whose place in a step is j + 1
abbrev pub Rests : {G : Type 0} → State G → ℕ → ℕ → Type 0
Rests s k j = Names (kept_at s k) (j + 1)

-- whether the k-th settled statement rests on earlier ones alone
abbrev pub RestsEarlier : {G : Type 0} → State G → ℕ → Bool → Type 0
RestsEarlier s k true = (j : ℕ) → Rests s k j → j < k
RestsEarlier s k false = (j : ℕ) × Rests s k j × (k ≤ j)

-- what the t-th settled statement rests on, itself among it
pub data Needed {G : Type 0} (s : State G) (t : ℕ) : ℕ → Type 0 where
  itself : Needed s t t
  below : {q j : ℕ} → Needed s t q → Rests s q j → Needed s t j

-- each needed step rests on earlier ones alone
abbrev pub Founded : {G : Type 0} → State G → ℕ → Type 0
Founded s t = (k : ℕ) → Needed s t k → RestsEarlier s k true

-- some needed step does not
abbrev pub Unfounded : {G : Type 0} → State G → ℕ → Type 0
Unfounded s t = (k : ℕ) × Needed s t k × RestsEarlier s k false

-- how many of the first k are chosen
abbrev pub rank : (ℕ → Bool) → ℕ → ℕ
rank m zero = 0
rank m (suc k) = rank m k + cond (m k) 1 0

-- exactly the needed ones are chosen
pub record Chooses {G : Type 0} (s : State G) (t : ℕ) (m : ℕ → Bool) : Type 0 where
  pub sound : (k : ℕ) → k < s.settled → m k ≡ true → Needed s t k
  pub complete : (k : ℕ) → Needed s t k → (k ≤ t) × (m k ≡ true)

-- v is the k-th kept step, with the places, from 1, that its premises have among those chosen; 0 stays 0
pub record Renumbers {G : Type 0} (s : State G) (m : ℕ → Bool) (k : ℕ) (v : Step G) : Type 0 where
  pub rule : v.rule ≡ (kept_at s k).rule
  pub first : v.first ≡ rank m (kept_at s k).first
  pub second : v.second ≡ rank m (kept_at s k).second
  pub third : v.third ≡ rank m (kept_at s k).third
  pub gives : Premise s k (given v)

-- of the first n settled ones those chosen are written, one after the other; the buffer is else as it was
pub record ChosenWritten {G : Type 0} (s : State G) (m : ℕ → Bool) (n : ℕ) (old new : List (Step G)) : Type 0 where
  pub long : length new ≡ length old
  pub each : (k : ℕ) → k < n → m k ≡ true → (d : Step G) → Renumbers s m k (slice_index_or new (rank m k) d)
  pub rest : (i : ℕ) → rank m n ≤ i → (d : Step G) → slice_index_or new i d ≡ slice_index_or old i d

-- the list of kept steps that the t-th settled statement rests on, each once, in settling order
pub record ListOf {G : Type 0} (s : State G) (t : ℕ) (steps : List (Step G)) : Type 0 where
  pub chosen : ℕ → Bool
  pub chooses : Chooses s t chosen
  pub founded : Founded s t
  pub long : length steps ≡ rank chosen (t + 1)
  pub each : (k : ℕ) → k ≤ t → chosen k ≡ true → (d : Step G) → Renumbers s chosen k (slice_index_or steps (rank chosen k) d)

-- there is only one
pub record OneList {G : Type 0} (s : State G) (t : ℕ) (steps : List (Step G)) : Type 0 where
  pub is : ListOf s t steps
  pub only : (others : List (Step G)) → ListOf s t others → others ≡ steps
