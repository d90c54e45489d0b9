-- The codes of grades, and the grades of codes.
use Rattle.std.specs.Prelude.{◌≡◌, ℕ, ◌≤◌, Bool, true, false, cond, Some, None, Ok, Err, Option, Result, ◌==◌, nat_le, refl}
use Rattle.std.proofs.Common.{leb-true}
use Rattle.standpoint.specs.declared.refusal.Refusal.{Refusal}
use Rattle.standpoint.specs.declared.refusal.Refusal.TheVariants.{NoGrade}
use Rattle.standpoint.specs.declared.kinds.grades.TallyGrade.{TallyGrade}
use Rattle.standpoint.specs.declared.kinds.grades.OddsGrade.{OddsGrade}
use Rattle.standpoint.specs.declared.kinds.grades.LetterGrade.{LetterGrade}
use Rattle.standpoint.specs.declared.kinds.grades.LetterGrade.TheVariants.{A, B, C, D, E}
use Rattle.standpoint.specs.Grades.{tally_grade, odds_grade, rank}

-- the grade, or the refusal of a code that is none
abbrev pub or_no_grade : {G : Type 0} → Option G → Result G Refusal
or_no_grade None = Err NoGrade
or_no_grade (Some g) = Ok g

-- what is made of a number up to m, and nothing of a larger one
unfoldable pub made_by : {X : Type 0} (m : ℕ) → ((n : ℕ) → n ≤ m → X) → (n : ℕ) (b : Bool) → nat_le n m ≡ b → Option X
made_by m make n true e = Some (make n (leb-true n m e))
made_by m make n false e = None

unfoldable pub bounded : {X : Type 0} (m : ℕ) → ((n : ℕ) → n ≤ m → X) → ℕ → Option X
bounded m make n = made_by m make n (nat_le n m) refl

-- a tally's code is the number itself
abbrev pub tally_code : TallyGrade → ℕ
tally_code g = g.value

abbrev pub tally_of : ℕ → Option TallyGrade
tally_of = bounded 4294967295 tally_grade

-- the code of odds is the number itself
abbrev pub odds_code : OddsGrade → ℕ
odds_code g = g.value

abbrev pub odds_of : ℕ → Option OddsGrade
odds_of = bounded 255 odds_grade

-- a letter's code is its place, from 0
abbrev pub letter_code : LetterGrade → ℕ
letter_code = rank

abbrev pub letter_of : ℕ → Option LetterGrade
letter_of n = cond (n == 0) (Some A) (cond (n == 1) (Some B) (cond (n == 2) (Some C) (cond (n == 3) (Some D) (cond (n == 4) (Some E) None))))
