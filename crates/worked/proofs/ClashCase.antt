-- The calls over a base that clashes.
use Rattle.std.proofs.Common.{◌≡◌, ℕ, ◌≤◌, length, refl, lit<, lit≤, arith}
use Rattle.standpoint.specs.Sizes.{InRange}
use Rattle.standpoint.specs.Statements.{nested_inclusion, contradiction, Misplaced}
use Rattle.standpoint.specs.Tautologies.{tautologies}
use Rattle.standpoint.specs.Algebra.{Algebra, Laws}
use Rattle.reasoner.specs.Models.{empty_base, accepting}
use Rattle.reasoner.specs.Asking.{BestGrade}
use Rattle.replay.specs.Pasts.{outcome_at}
use Rattle.replay.specs.Performing.{none, one_more}
use Rattle.worked.specs.Lists.{sizes, clash_calls, clash_outcomes}
use Rattle.worked.specs.Cases.{ComeTo}
use Rattle.worked.specs.Bases.{clash}
use Rattle.worked.proofs.Ranges.{ranged}
use Rattle.worked.proofs.Calling.{begun, added}
use Rattle.worked.proofs.Ending.{EndsAt}
use Rattle.worked.proofs.Outcomes.{told_by_places}
use Rattle.worked.proofs.Settling.{settled_and_asked}

in_range : InRange (sizes 1 4 0 1)
in_range = ranged 1 4 0 1 (lit≤ tt) (lit≤ tt) (lit≤ tt) (lit≤ tt) (lit≤ tt) (lit≤ tt) (lit≤ tt)

eight_tautologies : length (tautologies (sizes 1 4 0 1)) ≡ 8
eight_tautologies = refl

-- the individual stands where it may, and there is none elsewhere
first_right : Misplaced 1 (nested_inclusion 0 2 0 0 3) → ⊥
first_right m = grind arith

second_right : Misplaced 1 (nested_inclusion 0 0 0 3 1) → ⊥
second_right m = grind arith

module _ {G : Type 0} (a : Algebra G) (laws : Laws a) (g h j : G) (ends : EndsAt a (clash g h) 47) (best : BestGrade a (clash g h) contradiction j) where
  pub clash_case : (rows : ℕ) → 47 ≤ rows → ComeTo a rows (clash_calls g h) (clash_outcomes j)
  clash_case rows room new last os steps left asleep many long
      (one_more (one_more {u = t4} (one_more {u = t3} (one_more {u = t2} (one_more {u = t1} none r0 l0 k0 h0) r1 l1 k1 h1) r2 l2 k2 h2) r3 l3 k3 h3) r4 l4 k4 h4) =
      let e = eight_tautologies in
      let b0 = empty_base {G = G} (sizes 1 4 0 1) in
      let x = nested_inclusion 0 2 0 0 3 in
      let y = nested_inclusion 0 0 0 3 1 in
      let first = begun a new t1 (outcome_at os 0) _ _ (sizes 1 4 0 1) in_range (omega arith) h0 in
      let second = added a t1 t2 (outcome_at os 1) _ _ b0 first.1 x g (lit< tt, lit< tt, lit< tt, lit< tt, lit< tt) first_right (omega arith) h1 in
      let third = added a t2 t3 (outcome_at os 2) _ _ (accepting b0 x g) second.1 y h (lit< tt, lit< tt, lit< tt, lit< tt, lit< tt) second_right (omega arith) h2 in
      let rest = settled_and_asked a laws (clash g h) 47 ends contradiction (lit< tt, lit< tt, lit< tt, lit< tt, lit< tt) j best t3 t4 last (outcome_at os 3) (outcome_at os 4) 1000 _ _ _ _ third.1 (omega arith) (lit≤ tt) r3 h3 h4 in
      told_by_places os (clash_outcomes j) long (first.0, (second.0, (third.0, (rest.0, (rest.1, tt)))))
