-- When a step of a list is right, and what a check of the list answers.
use Rattle.std.specs.Prelude.{◌≡◌, ℕ, ◌-◌, ◌<◌, ◌≤◌, List, [], ◌∷◌, slice_index_or}
use Rattle.standpoint.specs.declared.statement.Statement.{Statement}
use Rattle.standpoint.specs.declared.step.Step.{Step}
use Rattle.standpoint.specs.Algebra.{Algebra}
use Rattle.standpoint.specs.Lists.{In, StandsAt}
use Rattle.standpoint.specs.Statements.{Fits}
use Rattle.standpoint.specs.Rules.{Rule, Tautology}
use Rattle.standpoint.specs.Derivations.{Base}

-- what a step gives
abbrev pub given : {G : Type 0} → Step G → Statement × G
given s = (s.statement, s.grade)

-- p stands at this place, counted from 1, among the first n steps
abbrev pub Earlier : {G : Type 0} → List (Step G) → ℕ → ℕ → Step G → Type 0
Earlier steps n place p = (1 ≤ place) × (place ≤ n) × StandsAt steps (place - 1) p

-- the rule, the premises' places, the statement and the grade of a step agree, with n steps before it
pub data Agrees {G : Type 0} (a : Algebra G) (base : Base G) (steps : List (Step G)) (n : ℕ) (s : Step G) : Type 0 where
  by_acceptance : s.rule ≡ 0 → s.first ≡ 0 → s.second ≡ 0 → s.third ≡ 0 →
      In base.accepted (given s) → Agrees a base steps n s
  by_tautology : s.rule ≡ 24 → s.first ≡ 0 → s.second ≡ 0 → s.third ≡ 0 →
      Tautology base.sizes s.statement → s.grade ≡ a.start → Agrees a base steps n s
  by_one : (p : Step G) → Earlier steps n s.first p → s.second ≡ 0 → s.third ≡ 0 →
      Rule base.sizes.individuals s.rule (p.statement ∷ []) s.statement →
      s.grade ≡ p.grade → Agrees a base steps n s
  by_two : (p q : Step G) → Earlier steps n s.first p → Earlier steps n s.second q → s.third ≡ 0 →
      Rule base.sizes.individuals s.rule (p.statement ∷ q.statement ∷ []) s.statement →
      s.grade ≡ a.join p.grade q.grade → Agrees a base steps n s
  by_three : (p q r : Step G) → Earlier steps n s.first p → Earlier steps n s.second q → Earlier steps n s.third r →
      Rule base.sizes.individuals s.rule (p.statement ∷ q.statement ∷ r.statement ∷ []) s.statement →
      s.grade ≡ a.join (a.join p.grade q.grade) r.grade → Agrees a base steps n s

-- a step is right: its statement fits, and all of it agrees
pub record Right {G : Type 0} (a : Algebra G) (base : Base G) (steps : List (Step G)) (n : ℕ) (s : Step G) : Type 0 where
  pub fits : Fits base.sizes s.statement
  pub agrees : Agrees a base steps n s

-- the step that stands in the list with n steps before it is right
abbrev pub RightAt : {G : Type 0} → Algebra G → Base G → List (Step G) → ℕ → Type 0
RightAt {G} a base steps n = (d : Step G) → Right a base steps n (slice_index_or steps n d)

-- the first m steps are right
abbrev pub RightBelow : {G : Type 0} → Algebra G → Base G → List (Step G) → ℕ → Type 0
RightBelow a base steps m = (n : ℕ) → n < m → RightAt a base steps n
