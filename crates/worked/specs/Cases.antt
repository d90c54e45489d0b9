-- The worked cases.
use Rattle.std.specs.Prelude.{◌≡◌, ℕ, ◌≤◌, false, List, length}
use Rattle.std.proofs.Common.{lit≤}
use Rattle.standpoint.specs.declared.step.Step.{Step}
use Rattle.standpoint.specs.declared.kinds.grades.LetterGrade.TheVariants.{B, D}
use Rattle.standpoint.specs.Algebra.{Algebra}
use Rattle.standpoint.specs.Grades.{tally, tally_grade, odds, odds_grade, letter, surcharged}
use Rattle.saturation.specs.declared.table.Table.{Table}
use Rattle.saturation.specs.Phases.{is_begun}
use Rattle.saturation.specs.Tables.{view, capacity}
use Rattle.replay.specs.declared.call.Call.{Call}
use Rattle.replay.specs.Pasts.{Outcome}
use Rattle.replay.specs.Performing.{Performed}
use Rattle.worked.specs.declared.joins.Joins.{Joins}
use Rattle.worked.specs.Lists.{bare_calls, bare_outcomes, clash_calls, clash_outcomes, detour_calls, detour_outcomes}

-- on every new reasoner with so many rows, the calls, performed in order, come to these outcomes
abbrev pub ComeTo : {G : Type 0} → Algebra G → ℕ → List (Call G) → List (Outcome G) → Type 0
ComeTo {G} a rows calls expected =
    (new last : Table G) (outcomes : List (Outcome G)) (steps left : List (Step G)) →
    is_begun new.phase ≡ false → capacity (view new) ≡ rows → length outcomes ≡ length calls →
    Performed a calls outcomes new steps (length calls) last left → outcomes ≡ expected

-- the numbers that these joins come to
abbrev pub joins : Joins
joins = record { odds_once = 39; odds_from_left = 1; odds_other = 2; odds_from_right = 0; surcharge = 176; tally_held = 4294967295 }

pub record Joined : Type 0 where
  pub odds_once : (odds.join (odds_grade 100 (lit≤ tt)) (odds_grade 100 (lit≤ tt))).value ≡ joins.odds_once
  pub odds_from_left : (odds.join (odds.join (odds_grade 100 (lit≤ tt)) (odds_grade 100 (lit≤ tt))) (odds_grade 7 (lit≤ tt))).value ≡ joins.odds_from_left
  pub odds_other : (odds.join (odds_grade 100 (lit≤ tt)) (odds_grade 7 (lit≤ tt))).value ≡ joins.odds_other
  pub odds_from_right : (odds.join (odds_grade 100 (lit≤ tt)) (odds.join (odds_grade 100 (lit≤ tt)) (odds_grade 7 (lit≤ tt)))).value ≡ joins.odds_from_right
  pub surcharge : ((surcharged odds (odds_grade 250 (lit≤ tt))).join (odds_grade 200 (lit≤ tt)) (odds_grade 230 (lit≤ tt))).value ≡ joins.surcharge
  pub tally_held : (tally.join (tally_grade 4294967295 (lit≤ tt)) (tally_grade 1 (lit≤ tt))).value ≡ joins.tally_held

-- the worked cases together; those with nothing accepted for this kind, whichever it is
pub record WorkedCases {G : Type 0} (a : Algebra G) : Type 0 where
  pub bare : (rows : ℕ) → ComeTo a rows bare_calls (bare_outcomes rows)
  pub clash_of_tallies : (rows : ℕ) → 47 ≤ rows → ComeTo tally rows (clash_calls (tally_grade 1 (lit≤ tt)) (tally_grade 1 (lit≤ tt))) (clash_outcomes (tally_grade 2 (lit≤ tt)))
  pub clash_of_letters : (rows : ℕ) → 47 ≤ rows → ComeTo letter rows (clash_calls B D) (clash_outcomes D)
  pub clash_of_odds : (rows : ℕ) → 47 ≤ rows → ComeTo odds rows (clash_calls (odds_grade 200 (lit≤ tt)) (odds_grade 230 (lit≤ tt))) (clash_outcomes (odds_grade 180 (lit≤ tt)))
  pub detour : (rows : ℕ) → 106 ≤ rows → ComeTo tally rows detour_calls detour_outcomes
  pub joined : Joined
