-- The calls over a base where a derivation is better than an accepted grade.
use Rattle.std.proofs.Common.{◌≡◌, ℕ, ◌≤◌, length, refl, lit<, lit≤, arith}
use Rattle.standpoint.specs.declared.kinds.grades.TallyGrade.{TallyGrade}
use Rattle.standpoint.specs.Sizes.{InRange}
use Rattle.standpoint.specs.Statements.{sharper, Misplaced}
use Rattle.standpoint.specs.Tautologies.{tautologies}
use Rattle.standpoint.specs.Grades.{tally, tally_grade}
use Rattle.standpoint.specs.GradeLaws.{tally_laws}
use Rattle.reasoner.specs.Models.{empty_base, accepting}
use Rattle.replay.specs.Pasts.{outcome_at}
use Rattle.replay.specs.Performing.{none, one_more}
use Rattle.worked.specs.Lists.{sizes, detour_calls, detour_outcomes}
use Rattle.worked.specs.Cases.{ComeTo}
use Rattle.worked.specs.Bases.{detour}
use Rattle.worked.proofs.Ranges.{ranged}
use Rattle.worked.proofs.Calling.{begun, added}
use Rattle.worked.proofs.Detour.{detour_wins}
use Rattle.worked.proofs.Ending.{detour_ends}
use Rattle.worked.proofs.Outcomes.{told_by_places}
use Rattle.worked.proofs.Settling.{settled_and_asked}

in_range : InRange (sizes 4 2 0 0)
in_range = ranged 4 2 0 0 (lit≤ tt) (lit≤ tt) (lit≤ tt) (lit≤ tt) (lit≤ tt) (lit≤ tt) (lit≤ tt)

ten_tautologies : length (tautologies (sizes 4 2 0 0)) ≡ 10
ten_tautologies = refl

-- a sharpening names no concept
right : (s u : ℕ) → Misplaced 0 (sharper s u) → ⊥
right s u m = grind arith

pub detour_case : (rows : ℕ) → 106 ≤ rows → ComeTo tally rows detour_calls detour_outcomes
detour_case rows room new last os steps left asleep many long
    (one_more (one_more {u = t5} (one_more {u = t4} (one_more {u = t3} (one_more {u = t2} (one_more {u = t1} none r0 l0 k0 h0) r1 l1 k1 h1) r2 l2 k2 h2) r3 l3 k3 h3) r4 l4 k4 h4) r5 l5 k5 h5) =
    let e = ten_tautologies in
    let b0 = empty_base {G = TallyGrade} (sizes 4 2 0 0) in
    let five = tally_grade 5 (lit≤ tt) in
    let one = tally_grade 1 (lit≤ tt) in
    let b1 = accepting b0 (sharper 1 2) five in
    let b2 = accepting b1 (sharper 1 3) one in
    let first = begun tally new t1 (outcome_at os 0) _ _ (sizes 4 2 0 0) in_range (omega arith) h0 in
    let second = added tally t1 t2 (outcome_at os 1) _ _ b0 first.1 (sharper 1 2) five (lit< tt, lit< tt, refl, refl, refl) (right 1 2) (omega arith) h1 in
    let third = added tally t2 t3 (outcome_at os 2) _ _ b1 second.1 (sharper 1 3) one (lit< tt, lit< tt, refl, refl, refl) (right 1 3) (omega arith) h2 in
    let fourth = added tally t3 t4 (outcome_at os 3) _ _ b2 third.1 (sharper 3 2) one (lit< tt, lit< tt, refl, refl, refl) (right 3 2) (omega arith) h3 in
    let rest = settled_and_asked tally tally_laws detour 106 detour_ends (sharper 1 2) (lit< tt, lit< tt, refl, refl, refl) (tally_grade 2 (lit≤ tt)) detour_wins t4 t5 last (outcome_at os 4) (outcome_at os 5) 1000 _ _ _ _ fourth.1 (omega arith) (lit≤ tt) r4 h4 h5 in
    told_by_places os detour_outcomes long (first.0, (second.0, (third.0, (fourth.0, (rest.0, (rest.1, tt))))))
