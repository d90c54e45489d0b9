-- What runs come to over the bases of the worked cases.
use Rattle.std.specs.Prelude.{◌≡◌, ℕ, ◌≤◌, List, [], ◌∷◌, map}
use Rattle.std.proofs.Common.{lit≤}
use Rattle.standpoint.specs.declared.statement.Statement.{Statement}
use Rattle.standpoint.specs.declared.kinds.grades.TallyGrade.{TallyGrade}
use Rattle.standpoint.specs.declared.kinds.grades.LetterGrade.TheVariants.{B, D}
use Rattle.standpoint.specs.Lists.{In}
use Rattle.standpoint.specs.Algebra.{Algebra, NoWorse}
use Rattle.standpoint.specs.Grades.{tally, tally_grade, odds, odds_grade, letter}
use Rattle.standpoint.specs.Statements.{sharper, nested_inclusion, contradiction}
use Rattle.standpoint.specs.Derivations.{Base, Derives}
use Rattle.runs.specs.declared.Stand.TheVariants.{Ended}
use Rattle.runs.specs.Runs.{Settled, Run, AllSettled, Stands, Settling}
use Rattle.reasoner.specs.Models.{empty_base, accepting}
use Rattle.worked.specs.Lists.{sizes}

-- nothing is accepted, with one standpoint and two concepts
abbrev pub bare : {G : Type 0} → Base G
bare = empty_base (sizes 1 2 0 0)

-- an individual is throughout what nothing is, at these two grades
abbrev pub clash : {G : Type 0} → G → G → Base G
clash g h = accepting (accepting (empty_base (sizes 1 4 0 1)) (nested_inclusion 0 2 0 0 3) g) (nested_inclusion 0 0 0 3 1) h

-- a sharpening at 5, and by way of another standpoint at 1 and 1
abbrev pub detour : Base TallyGrade
detour =
    accepting (accepting (accepting (empty_base (sizes 4 2 0 0)) (sharper 1 2) (tally_grade 5 (lit≤ tt))) (sharper 1 3) (tally_grade 1 (lit≤ tt)))
    (sharper 3 2) (tally_grade 1 (lit≤ tt))

-- what is settled in turn with nothing accepted, with the tallies
abbrev pub bare_lines : List (Statement × ℕ)
bare_lines =
    (sharper 0 0, 0) ∷ (nested_inclusion 0 0 0 0 0, 0) ∷ (nested_inclusion 0 0 0 1 0, 0) ∷ (nested_inclusion 0 0 0 1 1, 0)
    ∷ (nested_inclusion 0 1 0 0 0, 0) ∷ (nested_inclusion 0 1 0 1 0, 0) ∷ (nested_inclusion 0 1 0 1 1, 0) ∷ []

-- on so many rows or more, settling so often or more
abbrev pub BareSettles : Type 0
BareSettles = (rows n : ℕ) → 7 ≤ rows → 7 ≤ n → (later : Settled TallyGrade) → Settling tally bare rows n [] later →
    (map (λ (o : Statement × TallyGrade). (o.0, o.1.value)) later ≡ bare_lines) × Stands tally bare rows later Ended

-- g is the best grade of the derivations of x, and its grade in every run that has settled all
pub record Graded {G : Type 0} (a : Algebra G) (base : Base G) (x : Statement) (g : G) : Type 0 where
  pub derived : Derives a base x g
  pub best : (d : G) → Derives a base x d → NoWorse a g d
  pub settled_at : (settled : Settled G) → Run a base settled → AllSettled a base settled → In settled (x, g)

-- the worked cases in the words of runs
pub record WorkedRuns : Type 0 where
  pub bare : BareSettles
  pub clash_of_tallies : Graded tally (clash (tally_grade 1 (lit≤ tt)) (tally_grade 1 (lit≤ tt))) contradiction (tally_grade 2 (lit≤ tt))
  pub clash_of_letters : Graded letter (clash B D) contradiction D
  pub clash_of_odds : Graded odds (clash (odds_grade 200 (lit≤ tt)) (odds_grade 230 (lit≤ tt))) contradiction (odds_grade 180 (lit≤ tt))
  -- a derivation is better than the accepted grade
  pub detour : Graded tally detour (sharper 1 2) (tally_grade 2 (lit≤ tt))
