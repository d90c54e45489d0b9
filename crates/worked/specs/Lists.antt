-- The lists of calls of the worked cases, and what they come to.
use Rattle.std.specs.Prelude.{ℕ, cond, List, [], ◌∷◌, Ok, Err, nat_lt}
use Rattle.std.proofs.Common.{lit≤}
use Rattle.standpoint.specs.declared.refusal.Refusal.TheVariants.{NotBegun, TooFewRows}
use Rattle.standpoint.specs.declared.sizes.Sizes.{Sizes}
use Rattle.standpoint.specs.declared.kinds.grades.TallyGrade.{TallyGrade}
use Rattle.standpoint.specs.Grades.{tally_grade}
use Rattle.standpoint.specs.Statements.{sharper, nested_inclusion, contradiction}
use Rattle.runs.specs.declared.Stand.TheVariants.{Ended, Full}
use Rattle.reasoner.specs.declared.asking.Answer.TheVariants.{Graded, Nothing, Pending}
use Rattle.replay.specs.declared.call.Call.{Call}
use Rattle.replay.specs.declared.call.Call.TheVariants.{Begin, Add, Settle, Ask}
use Rattle.replay.specs.declared.call.Done.TheVariants.{Began, Added, Settled, Said}
use Rattle.replay.specs.Pasts.{Outcome}

abbrev pub sizes : ℕ → ℕ → ℕ → ℕ → Sizes
sizes standpoints concepts roles individuals = record { standpoints = standpoints; concepts = concepts; roles = roles; individuals = individuals }

module _ {G : Type 0} where
  -- nothing is accepted
  abbrev pub bare_calls : List (Call G)
  bare_calls = Begin (sizes 1 2 0 0) ∷ Settle 10 ∷ Ask contradiction ∷ []

  abbrev pub bare_refused : List (Outcome G)
  bare_refused = Err TooFewRows ∷ Err NotBegun ∷ Err NotBegun ∷ []

  abbrev pub bare_full : ℕ → List (Outcome G)
  bare_full count = Ok Began ∷ Ok (Settled count Full) ∷ Ok (Said Pending) ∷ []

  abbrev pub bare_ended : List (Outcome G)
  bare_ended = Ok Began ∷ Ok (Settled 7 Ended) ∷ Ok (Said Nothing) ∷ []

  -- what they come to on so many rows
  abbrev pub bare_outcomes : ℕ → List (Outcome G)
  bare_outcomes rows =
      cond (nat_lt rows 4) bare_refused (cond (nat_lt rows 6) (bare_full 3) (cond (nat_lt rows 7) (bare_full 4) bare_ended))

  -- an individual is throughout what nothing is, at these two grades
  abbrev pub clash_calls : G → G → List (Call G)
  clash_calls g h =
      Begin (sizes 1 4 0 1) ∷ Add (nested_inclusion 0 2 0 0 3) g ∷ Add (nested_inclusion 0 0 0 3 1) h ∷ Settle 1000 ∷ Ask contradiction ∷ []

  abbrev pub clash_outcomes : G → List (Outcome G)
  clash_outcomes g = Ok Began ∷ Ok Added ∷ Ok Added ∷ Ok (Settled 47 Ended) ∷ Ok (Said (Graded g)) ∷ []

-- a sharpening at 5, and by way of another standpoint at 1 and 1
abbrev pub detour_calls : List (Call TallyGrade)
detour_calls =
    Begin (sizes 4 2 0 0) ∷ Add (sharper 1 2) (tally_grade 5 (lit≤ tt)) ∷ Add (sharper 1 3) (tally_grade 1 (lit≤ tt))
    ∷ Add (sharper 3 2) (tally_grade 1 (lit≤ tt)) ∷ Settle 1000 ∷ Ask (sharper 1 2) ∷ []

abbrev pub detour_outcomes : List (Outcome TallyGrade)
detour_outcomes =
    Ok Began ∷ Ok Added ∷ Ok Added ∷ Ok Added ∷ Ok (Settled 106 Ended) ∷ Ok (Said (Graded (tally_grade 2 (lit≤ tt)))) ∷ []
