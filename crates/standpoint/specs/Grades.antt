-- The kinds of grade at hand, as algebras.
use Rattle.std.specs.Prelude.{ℕ, ◌+◌, ◌*◌, ◌/◌, ◌≤◌, min, cond, nat_le}
use Rattle.std.proofs.Math.Nat.{min-le_right, div-le_of_le-mul}
use Rattle.std.proofs.Common.{mul-le-mul, lit≤}
use Rattle.standpoint.specs.Algebra.{Algebra}
use Rattle.standpoint.specs.declared.kinds.grades.TallyGrade.{TallyGrade}
use Rattle.standpoint.specs.declared.kinds.grades.OddsGrade.{OddsGrade}
use Rattle.standpoint.specs.declared.kinds.grades.LetterGrade.{LetterGrade}
use Rattle.standpoint.specs.declared.kinds.grades.LetterGrade.TheVariants.{A, B, C, D, E}

abbrev pub tally_grade : (n : ℕ) → n ≤ 4294967295 → TallyGrade
tally_grade n h = record { value = n; within = h }

-- a smaller tally is better; the join is the sum, held at the largest number
abbrev pub tally : Algebra TallyGrade
tally = record {
  start = tally_grade 0 (lit≤ tt);
  no_worse = λ x y. nat_le x.value y.value;
  join = λ x y. tally_grade (min (x.value + y.value) 4294967295) (min-le_right _ _);
}

abbrev pub odds_grade : (n : ℕ) → n ≤ 255 → OddsGrade
odds_grade n h = record { value = n; within = h }

-- larger odds are better; the join is the product, as a part of 255, the fraction dropped
abbrev pub odds : Algebra OddsGrade
odds = record {
  start = odds_grade 255 (lit≤ tt);
  no_worse = λ x y. nat_le y.value x.value;
  join = λ x y. odds_grade (x.value * y.value / 255) (div-le_of_le-mul 255 (mul-le-mul x.within y.within));
}

-- the place of a letter, from 0
abbrev pub rank : LetterGrade → ℕ
rank A = 0
rank B = 1
rank C = 2
rank D = 3
rank E = 4

-- A is best; the join is the worse letter
abbrev pub letter : Algebra LetterGrade
letter = record {
  start = A;
  no_worse = λ x y. nat_le (rank x) (rank y);
  join = λ x y. cond (nat_le (rank x) (rank y)) y x;
}

-- a kind with one fixed grade joined, as second part, to every join's result
abbrev pub surcharged : {G : Type 0} → Algebra G → G → Algebra G
surcharged a extra = record {
  start = a.start;
  no_worse = a.no_worse;
  join = λ x y. a.join (a.join x y) extra;
}
