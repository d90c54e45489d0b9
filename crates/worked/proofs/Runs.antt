-- The worked cases in the words of runs.
use Rattle.std.proofs.Common.{◌≡◌, [], map, sym, refl, ap, ◌∙◌, subst}
use Rattle.standpoint.specs.declared.statement.Statement.{Statement}
use Rattle.standpoint.specs.declared.kinds.grades.TallyGrade.{TallyGrade}
use Rattle.standpoint.specs.Lists.{In}
use Rattle.standpoint.specs.Algebra.{Algebra, Laws}
use Rattle.standpoint.specs.Grades.{tally, odds, letter}
use Rattle.standpoint.specs.Statements.{same}
use Rattle.standpoint.specs.Derivations.{Base}
use Rattle.standpoint.specs.GradeLaws.{tally_laws, odds_laws}
use Rattle.runs.specs.declared.Stand.TheVariants.{Ended}
use Rattle.runs.specs.Runs.{Stands}
use Rattle.runs.specs.Model.{smaller_or, each, model}
use Rattle.reasoner.specs.Asking.{BestGrade}
use Rattle.worked.specs.Bases.{bare, bare_lines, BareSettles, Graded, WorkedRuns}
use Rattle.runs.proofs.Offers.{derived_settled}
use Rattle.runs.proofs.Best.{settled_is_best}
use Rattle.runs.proofs.OneRun.{one_settling, still_ended, ended_settling}
use Rattle.runs.proofs.Modelled.{model_settles}
use Rattle.worked.proofs.LetterLaws.{letter_laws}
use Rattle.worked.proofs.Clash.{clash_of_tallies, clash_of_letters, clash_of_odds}
use Rattle.worked.proofs.Detour.{detour_wins}

-- the computed run that ends on 7 rows, with its tallies
lines : map (λ (o : Statement × TallyGrade). (o.0, o.1.value)) (model tally bare 7 7).0 ≡ bare_lines
unfolding same smaller_or each
lines = refl

ends : (model tally bare 7 7).1 ≡ Ended
unfolding same smaller_or each
ends = refl

bare_settles : BareSettles
bare_settles rows n large often later s =
    let run = (model tally bare 7 7).0 in
    let computed = model_settles tally tally_laws bare 7 7 in
    let ended : Stands tally bare 7 run Ended = subst (Stands tally bare 7 run) ends computed.1 in
    let here : later ≡ run = one_settling tally tally_laws bare rows n [] later run s (ended_settling tally bare large n often computed.0 ended) in (
      ap (map (λ (o : Statement × TallyGrade). (o.0, o.1.value))) here ∙ lines,
      subst (λ z. Stands tally bare rows z Ended) (sym here) (still_ended tally bare large ended),
    )

-- the best grade is the settled one
graded : {G : Type 0} (a : Algebra G) → Laws a → (base : Base G) (x : Statement) (g : G) → BestGrade a base x g → Graded a base x g
graded a laws base x g best = record {
  derived = best.0;
  best = best.1;
  settled_at = λ settled run all.
      let m = derived_settled a base all best.0 in
      let told = settled_is_best a laws base settled run x m.0 m.1 in
      subst (λ z. In settled (x, z)) (laws.same m.0 g (told.1 g best.0) (best.1 m.0 told.0)) m.1;
}

pub worked_runs : WorkedRuns
worked_runs = record {
  bare = bare_settles;
  clash_of_tallies = graded tally tally_laws _ _ _ clash_of_tallies;
  clash_of_letters = graded letter letter_laws _ _ _ clash_of_letters;
  clash_of_odds = graded odds odds_laws _ _ _ clash_of_odds;
  detour = graded tally tally_laws _ _ _ detour_wins;
}
