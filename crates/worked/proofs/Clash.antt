-- The best grades of the contradiction where two accepted statements clash, by the computed run.
use Rattle.std.proofs.Common.{refl, lit≤}
use Rattle.standpoint.specs.declared.kinds.grades.LetterGrade.TheVariants.{B, D}
use Rattle.standpoint.specs.Grades.{tally, tally_grade, odds, odds_grade, letter}
use Rattle.standpoint.specs.Statements.{same, contradiction}
use Rattle.standpoint.specs.GradeLaws.{same_made, tally_laws, odds_laws}
use Rattle.runs.specs.Model.{smaller_or, each}
use Rattle.reasoner.specs.Asking.{BestGrade}
use Rattle.worked.specs.Bases.{clash}
use Rattle.worked.proofs.LetterLaws.{letter_laws}
use Rattle.worked.proofs.Graded.{best_by_run}

pub clash_of_tallies : BestGrade tally (clash (tally_grade 1 (lit≤ tt)) (tally_grade 1 (lit≤ tt))) contradiction (tally_grade 2 (lit≤ tt))
unfolding same smaller_or each
clash_of_tallies =
    best_by_run tally tally_laws (clash (tally_grade 1 (lit≤ tt)) (tally_grade 1 (lit≤ tt))) (λ g. g.value) 47 43 contradiction (tally_grade 2 (lit≤ tt))
    (λ h e. same_made tally_grade h.within (lit≤ tt) e) refl

pub clash_of_letters : BestGrade letter (clash B D) contradiction D
unfolding same smaller_or each
clash_of_letters = best_by_run letter letter_laws (clash B D) (λ g. g) 47 43 contradiction D (λ h e. e) refl

pub clash_of_odds : BestGrade odds (clash (odds_grade 200 (lit≤ tt)) (odds_grade 230 (lit≤ tt))) contradiction (odds_grade 180 (lit≤ tt))
unfolding same smaller_or each
clash_of_odds =
    best_by_run odds odds_laws (clash (odds_grade 200 (lit≤ tt)) (odds_grade 230 (lit≤ tt))) (λ g. g.value) 47 43 contradiction (odds_grade 180 (lit≤ tt))
    (λ h e. same_made odds_grade h.within (lit≤ tt) e) refl
