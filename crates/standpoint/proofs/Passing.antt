-- The check of a whole list, step by step.
use Rattle.std.proofs.Common.{◌≡◌, ℕ, ◌+◌, ◌-◌, ◌<◌, ◌≤◌, List, length, get_or, Some, sym, refl, ◌∙◌, subst, arith, below_more}
use Rattle.std.specs.List.{slice_get}
use Rattle.std.proofs.lemmas.List.{get_or_default}
use Rattle.std.proofs.lemmas.Option.{slice_get_within, get_or_from_slice_get}
use Rattle.standpoint.specs.declared.step.Step.{Step}
use Rattle.standpoint.specs.Sizes.{InRange}
use Rattle.standpoint.specs.Algebra.{Algebra}
use Rattle.standpoint.specs.Derivations.{Base}
use Rattle.standpoint.specs.Steps.{Right, RightAt, RightBelow}
use Rattle.standpoint.specs.Verdicts.{FirstWrong, Passes}

module _ {G : Type 0} (a : Algebra G) (base : Base G) (steps : List (Step G)) where
  pub one_more_right : (n : ℕ) (s : Step G) → n < length steps → s ≡ get_or steps n s → Right a base steps n s → RightBelow a base steps n →
      RightBelow a base steps (n + 1)
  one_more_right n s l read right below =
      below_more (RightAt a base steps) n below (λ d. subst (Right a base steps n) (read ∙ get_or_default steps n s d l) right)

  pub first_wrong : (n : ℕ) (s : Step G) → n < length steps → s ≡ get_or steps n s → (Right a base steps n s → ⊥) → RightBelow a base steps n →
      FirstWrong a base steps (n + 1)
  first_wrong n s l read wrong below =
      let e : n ≡ n + 1 - 1 = omega arith in
      record {
        counted = omega arith;
        within = omega arith;
        right_before = subst (RightBelow a base steps) e below;
        wrong = subst (λ (k : ℕ). RightAt a base steps k → ⊥) e (λ right. wrong (subst (Right a base steps n) (sym read) (right s)));
      }

  pub passes : (n : ℕ) (s : Step G) → InRange base.sizes → length steps ≤ n → slice_get steps (length steps - 1) ≡ Some s →
      RightBelow a base steps n → Passes a base steps s.statement s.grade
  passes n s range ended last below =
      let within = slice_get_within steps (length steps - 1) s last in
      record {
        in_range = range;
        right = λ k l. below k (omega arith);
        last = record {
          step = s;
          at_end = (omega arith, λ d. get_or_from_slice_get steps (length steps - 1) s d last);
          gives = refl;
        };
      }
