-- What the parts of the check answer.
use Rattle.std.specs.Prelude.{◌≡◌, ℕ, List, [], ◌∷◌, Some, None, Option}
use Rattle.standpoint.specs.declared.statement.Statement.{Statement}
use Rattle.standpoint.specs.declared.step.Step.{Step}
use Rattle.standpoint.specs.declared.verdict.grounds.Grounds.{Grounds}
use Rattle.standpoint.specs.Algebra.{Algebra}
use Rattle.standpoint.specs.Rules.{Rule, listed}
use Rattle.standpoint.specs.Steps.{Earlier}

-- the step that stands at this place among the first n, or that there is none
abbrev pub Read : {G : Type 0} → List (Step G) → ℕ → ℕ → Option (Step G) → Type 0
Read {G} steps n place None = (p : Step G) → Earlier steps n place p → ⊥
Read steps n place (Some p) = Earlier steps n place p

-- a step names no premises
abbrev pub Bare : {G : Type 0} → Step G → Type 0
Bare s = (s.first ≡ 0) × (s.second ≡ 0) × (s.third ≡ 0)

-- the premises that a step names among the first n, and the grade of what rests on them
pub data Rests {G : Type 0} (a : Algebra G) (steps : List (Step G)) (n : ℕ) (s : Step G) : List Statement → G → Type 0 where
  on_one : (p : Step G) → Earlier steps n s.first p → s.second ≡ 0 → s.third ≡ 0 →
      Rests a steps n s (p.statement ∷ []) p.grade
  on_two : (p q : Step G) → Earlier steps n s.first p → Earlier steps n s.second q → s.third ≡ 0 →
      Rests a steps n s (p.statement ∷ q.statement ∷ []) (a.join p.grade q.grade)
  on_three : (p q r : Step G) → Earlier steps n s.first p → Earlier steps n s.second q → Earlier steps n s.third r →
      Rests a steps n s (p.statement ∷ q.statement ∷ r.statement ∷ []) (a.join (a.join p.grade q.grade) r.grade)

-- those premises with their grade, or that the step names them wrongly
abbrev pub Gathered : {G : Type 0} → Algebra G → List (Step G) → ℕ → Step G → Option (Grounds G) → Type 0
Gathered {G} a steps n s None = (premises : List Statement) (g : G) → Rests a steps n s premises g → ⊥
Gathered a steps n s (Some o) = Rests a steps n s (listed o.premises) o.grade

-- a rule gives the step's statement from the premises that it names, at their grade
abbrev pub Follows : {G : Type 0} → Algebra G → ℕ → List (Step G) → ℕ → Step G → Type 0
Follows a individuals steps n s =
    (premises : List Statement) × Rests a steps n s premises s.grade × Rule individuals s.rule premises s.statement
