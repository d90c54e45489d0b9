-- What runs with nothing accepted come to, by a computed run with one grade.
use Rattle.std.proofs.Common.{◌≡◌, ℕ, ◌≤◌, List, [], ◌∷◌, length, refl, ap, ◌∙◌, subst, inl, inr, arith, lit<}
use lib.ListN.{length-map}
use Rattle.standpoint.specs.declared.statement.Statement.{Statement}
use Rattle.standpoint.specs.Lists.{◌&◌}
use Rattle.standpoint.specs.Lists.All.{none}
use Rattle.standpoint.specs.Algebra.{Algebra, Laws}
use Rattle.standpoint.specs.Statements.{same, sharper, nested_inclusion, contradiction}
use Rattle.standpoint.specs.Rules.Tautology.{sharper_than_all, within_itself, within_top}
use Rattle.runs.specs.declared.Stand.{Stand}
use Rattle.runs.specs.declared.Stand.TheVariants.{Ended, Full}
use Rattle.runs.specs.Runs.{Settled, Unsettled, Run, AllSettled, Stands, Settling}
use Rattle.runs.specs.Runs.Run.{fresh}
use Rattle.runs.specs.Model.{smaller_or, each, model}
use Rattle.worked.specs.Bases.{bare}
use Rattle.worked.proofs.Bases.{ComesTo, BareOnRows}
use Rattle.runs.proofs.Offers.{statements}
use Rattle.runs.proofs.OneRun.{stops, one_settling, one_stand, settling_run, still_ended}
use Rattle.runs.proofs.Told.{settled_told}
use Rattle.runs.proofs.Modelled.{model_settles}
use Rattle.worked.proofs.AnyKind.{full_too, settled_too, settled_no_longer}
use Rattle.worked.proofs.AtStart.{single, single_laws, Tautologies, at_start, to_start, settling_too}

-- the computed run with one grade, on so many rows
abbrev settled_on : ℕ → Settled (Unit {0})
settled_on rows = (model single bare rows 10).0

settling_on : (rows : ℕ) → Settling single bare rows 10 [] (settled_on rows)
settling_on rows = (model_settles single single_laws bare rows 10).0

stands_on : (rows : ℕ) → Stands single bare rows (settled_on rows) (model single bare rows 10).1
stands_on rows = (model_settles single single_laws bare rows 10).1

-- on 7 rows it ends, and nothing further is known
ended_on_7 : (model single bare 7 10).1 ≡ Ended
unfolding same smaller_or each
ended_on_7 = refl

seven_settled : length (settled_on 7) ≡ 7
unfolding same smaller_or each
seven_settled = refl

ends_on : (rows : ℕ) → 7 ≤ rows → Stands single bare rows (settled_on 7) Ended
ends_on rows large = still_ended single bare large (subst (Stands single bare 7 (settled_on 7)) ended_on_7 (stands_on 7))

all_seven : AllSettled single bare (settled_on 7)
all_seven = (ends_on 7 (omega arith)).1

consistent_on_7 : Unsettled (settled_on 7) contradiction
unfolding same smaller_or each
consistent_on_7 g m = settled_told (settled_on 7) contradiction (g, m)

module _ {G : Type 0} (a : Algebra G) (laws : Laws a) where
  -- one run that comes to it shows that each does
  comes_to : (rows n count : ℕ) (how : Stand) (run : Settled G) → Settling a bare rows n [] run → length run ≡ count → Stands a bare rows run how →
      ComesTo a bare rows n count how
  comes_to rows n count how run settling long stands = record {
    settles = λ later s. ap length (settled_as later s) ∙ long;
    stands = λ later stand s t. one_stand a bare rows run stand how (subst (λ z. Stands a bare rows z stand) (settled_as later s) t) stands;
    consistent = λ later s g m.
        let n = settled_too a single all_seven (settling_run a bare fresh s) contradiction g m in consistent_on_7 n.0 n.1;
  }
    where
      settled_as : (later : Settled G) → Settling a bare rows n [] later → later ≡ run
      settled_as later s = one_settling a laws bare rows n [] later run s settling

  -- where there is room for all that is known, all is settled
  roomy : (rows : ℕ) → 7 ≤ rows → ComesTo a bare rows 10 7 Ended
  roomy rows large = comes_to rows 10 7 Ended run settling (omega (arith, few, many, seven_settled)) ended
    where
      run : Settled G
      run = (model a bare rows 10).0

      settling : Settling a bare rows 10 [] run
      settling = (model_settles a laws bare rows 10).0

      is_run : Run a bare run
      is_run = settling_run a bare fresh settling

      few : length run ≤ length (settled_on 7)
      few = settled_no_longer a single all_seven is_run

      ended : Stands a bare rows run Ended
      ended = elim (stops a bare settling) [
        | inl e ↦ absurd (omega (arith, e, few, seven_settled))
        | inr (inl full) ↦ absurd ((ends_on rows large).0 (full_too a single (settled_too a single all_seven is_run) full))
        | inr (inr e) ↦ e
      ]

      many : length (settled_on 7) ≤ length run
      many = settled_no_longer single a ended.1 (settling_run single bare fresh (settling_on 7))

  -- where one grade stands full over tautologies, so does every kind
  cramped : (rows count : ℕ) → Tautologies (statements (settled_on rows)) → length (settled_on rows) ≡ count → (model single bare rows 10).1 ≡ Full →
      ComesTo a bare rows 10 count Full
  cramped rows count tautologies long full =
      comes_to rows 10 count Full (at_start a (settled_on rows)) (settling_too a laws tautologies (settling_on rows)) (simp (length-map, long))
      (full_too single a (to_start a (settled_on rows)) (subst (Stands single bare rows (settled_on rows)) full (stands_on rows)))

  pub bare_on_rows : BareOnRows a
  unfolding same smaller_or each
  bare_on_rows = record {
    seven = roomy;
    six = cramped 6 4 (first_three (within_itself (lit< tt) & none)) refl refl;
    five = cramped 5 3 (first_three none) refl refl;
    four = cramped 4 3 (first_three none) refl refl;
  }
    where
      first_three : {xs : List Statement} → Tautologies xs →
          Tautologies (sharper 0 0 ∷ nested_inclusion 0 0 0 0 0 ∷ nested_inclusion 0 0 0 1 0 ∷ xs)
      first_three ts = sharper_than_all (lit< tt) & within_itself (lit< tt) & within_top (lit< tt) & ts
