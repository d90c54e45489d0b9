-- The worked cases together.
use Rattle.std.proofs.Common.{ℕ, ◌≤◌, refl, lit≤}
use Rattle.standpoint.specs.declared.kinds.grades.LetterGrade.TheVariants.{B, D}
use Rattle.standpoint.specs.Algebra.{Algebra, Laws}
use Rattle.standpoint.specs.Grades.{tally, tally_grade, odds, odds_grade, letter}
use Rattle.standpoint.specs.GradeLaws.{tally_laws, odds_laws}
use Rattle.worked.proofs.LetterLaws.{letter_laws}
use Rattle.worked.specs.Lists.{clash_calls, clash_outcomes}
use Rattle.worked.specs.Cases.{ComeTo, Joined, WorkedCases}
use Rattle.worked.proofs.Bare.{bare_on_rows}
use Rattle.worked.proofs.BareCase.{bare_case}
use Rattle.worked.proofs.Clash.{clash_of_tallies, clash_of_letters, clash_of_odds}
use Rattle.worked.proofs.ClashCase.{clash_case}
use Rattle.worked.proofs.DetourCase.{detour_case}
use Rattle.worked.proofs.Ending.{tallies_end, letters_end, odds_end}

joined : Joined
joined = record {
  odds_once = refl;
  odds_from_left = refl;
  odds_other = refl;
  odds_from_right = refl;
  surcharge = refl;
  tally_held = refl;
}

pub tally_clash : (rows : ℕ) → 47 ≤ rows → ComeTo tally rows (clash_calls (tally_grade 1 (lit≤ tt)) (tally_grade 1 (lit≤ tt))) (clash_outcomes (tally_grade 2 (lit≤ tt)))
tally_clash = clash_case tally tally_laws (tally_grade 1 (lit≤ tt)) (tally_grade 1 (lit≤ tt)) (tally_grade 2 (lit≤ tt)) tallies_end clash_of_tallies

pub letter_clash : (rows : ℕ) → 47 ≤ rows → ComeTo letter rows (clash_calls B D) (clash_outcomes D)
letter_clash = clash_case letter letter_laws B D D letters_end clash_of_letters

pub odds_clash : (rows : ℕ) → 47 ≤ rows → ComeTo odds rows (clash_calls (odds_grade 200 (lit≤ tt)) (odds_grade 230 (lit≤ tt))) (clash_outcomes (odds_grade 180 (lit≤ tt)))
odds_clash = clash_case odds odds_laws (odds_grade 200 (lit≤ tt)) (odds_grade 230 (lit≤ tt)) (odds_grade 180 (lit≤ tt)) odds_end clash_of_odds

pub worked_cases : {G : Type 0} (a : Algebra G) → Laws a → WorkedCases a
worked_cases a laws = record {
  bare = bare_case a laws (bare_on_rows a laws);
  clash_of_tallies = tally_clash;
  clash_of_letters = letter_clash;
  clash_of_odds = odds_clash;
  detour = detour_case;
  joined = joined;
}
