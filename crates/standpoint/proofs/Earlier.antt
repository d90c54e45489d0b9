-- A step stays right wherever the same steps stand before it.
use Rattle.std.proofs.Common.{◌≡◌, ℕ, ◌-◌, ◌≤◌, List, length, take, sym, ◌∙◌, subst, arith}
use Rattle.std.proofs.lemmas.List.{get_or-take, length-take-le}
use Rattle.standpoint.specs.declared.step.Step.{Step}
use Rattle.standpoint.specs.Algebra.{Algebra}
use Rattle.standpoint.specs.Derivations.{Base}
use Rattle.standpoint.specs.Steps.{Earlier, Agrees, by_acceptance, by_tautology, by_one, by_two, by_three, Right}

module _ {G : Type 0} (a : Algebra G) (base : Base G) where
  pub right_moved : (xs ys : List (Step G)) (m n : ℕ) → ((place : ℕ) (p : Step G) → Earlier xs m place p → Earlier ys n place p) →
      (s : Step G) → Right a base xs m s → Right a base ys n s
  right_moved xs ys m n up s right = record { fits = right.fits; agrees = by right.agrees }
    where
      by : Agrees a base xs m s → Agrees a base ys n s
      by (by_acceptance r i j k given) = by_acceptance r i j k given
      by (by_tautology r i j k t e) = by_tautology r i j k t e
      by (by_one p i j k r e) = by_one p (up s.first p i) j k r e
      by (by_two p q i j k r e) = by_two p q (up s.first p i) (up s.second q j) k r e
      by (by_three p q t i j k r e) = by_three p q t (up s.first p i) (up s.second q j) (up s.third t k) r e

  module _ (steps : List (Step G)) (n : ℕ) (within : n ≤ length steps) where
    abbrev pub front : List (Step G)
    front = take n steps

    many : length front ≡ n
    many = length-take-le n steps within

    from_front : (place : ℕ) (p : Step G) → Earlier front (length front) place p → Earlier steps n place p
    from_front place p at =
        let e = many in
        let l = at.1 in
        (at.0, omega arith, (omega (arith, at.2.0), λ d. sym (get_or-take n steps (place - 1) d (omega (arith, at.0))) ∙ at.2.1 d))

    to_front : (place : ℕ) (p : Step G) → Earlier steps n place p → Earlier front (length front) place p
    to_front place p at =
        let e = many in
        let l = at.1 in
        (at.0, omega arith, (omega (arith, at.0), λ d. get_or-take n steps (place - 1) d (omega (arith, at.0)) ∙ at.2.1 d))

    -- right behind the first n steps alone, or with all the others behind them
    in_list : (s : Step G) → Right a base front (length front) s → Right a base steps n s
    in_list = right_moved front steps (length front) n from_front

    in_front : (s : Step G) → Right a base steps n s → Right a base front (length front) s
    in_front = right_moved steps front n (length front) to_front

  -- so is it for as many steps as the front has, however they are counted
  module _ {steps : List (Step G)} {m : ℕ} {s : Step G} where
    pub right_in_list : Right a base (take m steps) (length (take m steps)) s → m ≤ length steps → (n : ℕ) → m ≡ n → Right a base steps n s
    right_in_list right within n is = subst (λ (k : ℕ). Right a base steps k s) is (in_list steps m within s right)

    pub wrong_in_list : (Right a base (take m steps) (length (take m steps)) s → ⊥) → m ≤ length steps → (n : ℕ) → m ≡ n → Right a base steps n s → ⊥
    wrong_in_list wrong within n is right = wrong (in_front steps m within s (subst (λ (k : ℕ). Right a base steps k s) (sym is) right))
