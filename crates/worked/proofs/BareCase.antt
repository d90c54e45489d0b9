-- The calls over an empty base.
use Rattle.std.proofs.Common.{◌≡◌, ℕ, ◌<◌, ◌≤◌, Bool, true, false, cond, ltb, List, [], ◌∷◌, length, Ok, sym, refl, ap, ◌∙◌, subst, ⊎_elim, arith, lit<, lit≤}
use Rattle.std.proofs.lemmas.Bool.Decides.{nat_tests}
use Rattle.standpoint.specs.declared.step.Step.{Step}
use Rattle.standpoint.specs.Sizes.{InRange}
use Rattle.standpoint.specs.Statements.{contradiction}
use Rattle.standpoint.specs.Tautologies.{tautologies}
use Rattle.standpoint.specs.Algebra.{Algebra, Laws}
use Rattle.runs.specs.declared.Stand.{Stand}
use Rattle.runs.specs.declared.Stand.TheVariants.{Ended, Full}
use Rattle.runs.specs.Runs as runs
use Rattle.runs.specs.Runs.{Unsettled, Stands}
use Rattle.saturation.specs.declared.table.Table.{Table}
use Rattle.saturation.specs.Phases.{is_begun}
use Rattle.saturation.specs.Tables.{view, capacity}
use Rattle.saturation.proofs.Offers.{below_or}
use Rattle.reasoner.specs.declared.asking.Answer.{Answer}
use Rattle.reasoner.specs.declared.asking.Answer.TheVariants.{Graded, Nothing, Pending}
use Rattle.reasoner.proofs.Holding.{holding_after}
use Rattle.reasoner.specs.Asking.{Says}
use Rattle.replay.specs.declared.call.Done.TheVariants.{Began, Settled, Said}
use Rattle.replay.specs.Pasts.{Outcome, outcome_at}
use Rattle.replay.specs.Performing.{Performed, none, one_more}
use Rattle.worked.specs.Lists.{sizes, bare_calls, bare_refused, bare_full, bare_ended, bare_outcomes}
use Rattle.worked.specs.Cases.{ComeTo}
use Rattle.worked.specs.Bases.{bare}
use Rattle.worked.proofs.Bases.{ComesTo, BareOnRows}
use Rattle.worked.proofs.Ranges.{ranged}
use Rattle.worked.proofs.Calling.{begun, too_few, settled, settle_refused, asked, ask_refused}
use Rattle.worked.proofs.Outcomes.{told_by_places}

least_in_range : InRange (sizes 1 2 0 0)
least_in_range = ranged 1 2 0 0 (lit≤ tt) (lit≤ tt) (lit≤ tt) (lit≤ tt) (lit≤ tt) (lit≤ tt) (lit≤ tt)

four_tautologies : length (tautologies (sizes 1 2 0 0)) ≡ 4
four_tautologies = refl

module _ {G : Type 0} (a : Algebra G) (laws : Laws a) where
  -- what is said of an unsettled statement of a run that stands so
  only_nothing : (l : runs.Settled G) (rows : ℕ) → Unsettled l contradiction → Stands a bare rows l Ended →
      (said : Answer G) → Says a bare l rows contradiction said → said ≡ Nothing
  only_nothing l rows un ended (Graded g) says = absurd (un g says.0)
  only_nothing l rows un ended Nothing says = refl
  only_nothing l rows un ended Pending says = absurd (says.1 ended)

  only_pending : (l : runs.Settled G) (rows : ℕ) → Unsettled l contradiction → Stands a bare rows l Full →
      (said : Answer G) → Says a bare l rows contradiction said → said ≡ Pending
  only_pending l rows un full (Graded g) says = absurd (un g says.0)
  only_pending l rows un full Nothing says = absurd (says.1.0 full)
  only_pending l rows un full Pending says = refl

  module _ (new last : Table G) (os : List (Outcome G)) (steps left : List (Step G)) (asleep : is_begun new.phase ≡ false) (long : length os ≡ 3) where
    refused : capacity (view new) < 4 → Performed a bare_calls os new steps 3 last left → os ≡ bare_refused
    refused few (one_more (one_more {u = t2} (one_more {u = t1} none r0 l0 k0 h0) r1 l1 k1 h1) r2 l2 k2 h2) =
        let first = too_few a new t1 (outcome_at os 0) _ _ (sizes 1 2 0 0) least_in_range (omega (arith, four_tautologies)) h0 in
        let second = settle_refused a t1 t2 (outcome_at os 1) _ _ 10 (ap is_begun first.1 ∙ asleep) h1 in
        let third = ask_refused a t2 last (outcome_at os 2) _ _ contradiction (ap is_begun second.1 ∙ ap is_begun first.1 ∙ asleep) h2 in
        told_by_places os bare_refused long (first.0, (second.0, (third, tt)))

    performed : (count : ℕ) (how : Stand) (said : Answer G) → 4 ≤ capacity (view new) → ComesTo a bare (capacity (view new)) 10 count how →
        ((l : runs.Settled G) (rows : ℕ) → Unsettled l contradiction → Stands a bare rows l how → (other : Answer G) → Says a bare l rows contradiction other → other ≡ said) →
        Performed a bare_calls os new steps 3 last left → os ≡ Ok Began ∷ Ok (Settled count how) ∷ Ok (Said said) ∷ []
    performed count how said room comes only (one_more (one_more {u = t2} (one_more {u = t1} none r0 l0 k0 h0) r1 l1 k1 h1) r2 l2 k2 h2) =
        let first = begun a new t1 (outcome_at os 0) _ _ (sizes 1 2 0 0) least_in_range (omega (arith, four_tautologies)) h0 in
        let here : ComesTo a bare (capacity (view t1)) 10 count how = subst (λ (rows : ℕ). ComesTo a bare rows 10 count how) (sym r0) comes in
        let second = settled a t1 t2 (outcome_at os 1) _ _ bare first.1 10 count how (λ later stand s st. (here.settles later s, here.stands later stand s st)) h1 in
        let w = second.1 in
        let stood : Stands a bare (capacity (view t2)) w.0 how = subst (λ (rows : ℕ). Stands a bare rows w.0 how) (sym r1) w.2 in
        let third = asked a t2 last (outcome_at os 2) _ _ laws bare w.0 (holding_after a bare t2 w.0 how w.3) contradiction (lit< tt, lit< tt, lit< tt, lit< tt, lit< tt) said (only w.0 (capacity (view t2)) (here.consistent w.0 w.1) stood) h2 in
        told_by_places os _ long (first.0, (second.0, (third, tt)))

  -- the outcomes by where the number of rows lies
  abbrev said_by : Bool → Bool → Bool → List (Outcome G)
  said_by b c d = cond b bare_refused (cond c (bare_full 3) (cond d (bare_full 4) bare_ended))

  few_said : (rows : ℕ) → rows < 4 → bare_outcomes {G = G} rows ≡ bare_refused
  few_said rows few =
      let yes : ltb rows 4 ≡ true = grind (arith, nat_tests) in ap (λ (b : Bool). said_by b (ltb rows 6) (ltb rows 7)) yes

  ended_said : (rows : ℕ) → 7 ≤ rows → bare_outcomes {G = G} rows ≡ bare_ended
  ended_said rows many =
      let four : ltb rows 4 ≡ false = grind (arith, nat_tests) in
      let six : ltb rows 6 ≡ false = grind (arith, nat_tests) in
      let seven : ltb rows 7 ≡ false = grind (arith, nat_tests) in
      ap (λ (b : Bool). said_by b (ltb rows 6) (ltb rows 7)) four ∙ ap (λ (b : Bool). said_by false b (ltb rows 7)) six
      ∙ ap (λ (b : Bool). said_by false false b) seven

  module _ (facts : BareOnRows a) (rows : ℕ) (new last : Table G) (os : List (Outcome G)) (steps left : List (Step G)) (asleep : is_begun new.phase ≡ false)
      (many : capacity (view new) ≡ rows) (long : length os ≡ 3) (done : Performed a bare_calls os new steps 3 last left) where
    full : (count : ℕ) → 4 ≤ rows → ComesTo a bare rows 10 count Full → os ≡ bare_full count
    full count room comes =
        performed new last os steps left asleep long count Full Pending (omega arith) (subst (λ (n : ℕ). ComesTo a bare n 10 count Full) (sym many) comes) only_pending done

    ended : 7 ≤ rows → os ≡ bare_ended
    ended room =
        performed new last os steps left asleep long 7 Ended Nothing (omega arith) (subst (λ (n : ℕ). ComesTo a bare n 10 7 Ended) (sym many) (facts.seven rows room)) only_nothing done

    exactly : (n count : ℕ) → 4 ≤ n → rows ≡ n → ComesTo a bare n 10 count Full → bare_outcomes {G = G} n ≡ bare_full count → os ≡ bare_outcomes rows
    exactly n count room e comes is = full count (omega arith) (subst (λ (m : ℕ). ComesTo a bare m 10 count Full) (sym e) comes) ∙ sym is ∙ ap bare_outcomes (sym e)

    bare_comes : os ≡ bare_outcomes rows
    bare_comes =
        ⊎_elim
        (λ few. refused new last os steps left asleep long (omega arith) done ∙ sym (few_said rows few))
        (λ some. ⊎_elim
        (λ less. ⊎_elim
        (λ five. ⊎_elim
        (λ four. exactly 4 3 (lit≤ tt) (omega arith) facts.four refl)
        (λ e. exactly 5 3 (lit≤ tt) (omega arith) facts.five refl)
        (below_or rows 5))
        (λ six. exactly 6 4 (lit≤ tt) (omega arith) facts.six refl)
        (below_or rows 6))
        (λ seven. ended seven ∙ sym (ended_said rows seven))
        (below_or rows 7))
        (below_or rows 4)

pub bare_case : {G : Type 0} (a : Algebra G) → Laws a → BareOnRows a → (rows : ℕ) → ComeTo a rows bare_calls (bare_outcomes rows)
bare_case a laws facts rows new last os steps left asleep many long done = bare_comes a laws facts rows new last os steps left asleep many long done
