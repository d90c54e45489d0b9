-- A list of outcomes, told by each of its places.
use Rattle.std.proofs.Common.{◌≡◌, ℕ, suc, List, [], ◌∷◌, length, refl, arith}
use Rattle.replay.specs.Pasts.{Outcome, outcome_at}

module _ {G : Type 0} where
  -- from place i on there stand these
  abbrev pub StandFrom : List (Outcome G) → ℕ → List (Outcome G) → Type 0
  StandFrom os i [] = Unit {0}
  StandFrom os i (x ∷ xs) = (outcome_at os i ≡ x) × StandFrom os (suc i) xs

  behind : (o : Outcome G) (os : List (Outcome G)) (i : ℕ) (xs : List (Outcome G)) → StandFrom (o ∷ os) (suc i) xs → StandFrom os i xs
  behind o os i [] h = h
  behind o os i (x ∷ xs) h = (h.0, behind o os (suc i) xs h.1)

  pub told_by_places : (os xs : List (Outcome G)) → length os ≡ length xs → StandFrom os 0 xs → os ≡ xs
  told_by_places [] [] e h = refl
  told_by_places [] (x ∷ xs) e h = absurd (omega arith)
  told_by_places (o ∷ os) [] e h = absurd (omega arith)
  told_by_places (o ∷ os) (x ∷ xs) e h =
      let here = h.0 in let rest = told_by_places os xs (omega arith) (behind o os 0 xs h.1) in cc
