-- The best grade of a sharpening that has a better derivation than its accepted grade.
use Rattle.std.proofs.Common.{◌≡◌, ℕ, ◌+◌, ◌≤◌, cond, ◌&&◌, ◌||◌, eqb, List, [], ◌∷◌, refl, subst, inl, inr, arith, lit<, lit≤, le-leb}
use native.Mathlib.Nat.{min-le_right}
use Rattle.std.proofs.lemmas.Bool.Decides.{nat_tests}
use Rattle.standpoint.specs.declared.statement.Statement.{Statement}
use Rattle.standpoint.specs.declared.kinds.grades.TallyGrade.{TallyGrade}
use Rattle.standpoint.specs.Lists.{In}
use Rattle.standpoint.specs.Grades.{tally, tally_grade}
use Rattle.standpoint.specs.Statements.{sharper}
use Rattle.standpoint.specs.Rules.{Tautology, Rule, in_standpoint}
use Rattle.standpoint.specs.Rules.Tautology.{sharper_than_all, sharper_than_itself, within_itself, within_top, role_within_itself}
use Rattle.standpoint.specs.Rules.Rule.{role_transitive, sharper_transitive, sharper_than_both, lowered, lowered_inside, inside_transitive, subsumed_nested, subsumed_possible, possible_widened, necessary_then_nested, necessary_then_possible, possible_then_nested, possible_then_possible, existential_widened, existential_chained, existential_met, conjunction_met, necessary_here, of_all_things, existential_empty, necessary_empty, possible_empty, individual_empty}
use Rattle.standpoint.specs.Derivations.{Leaf, Derives}
use Rattle.standpoint.specs.GradeLaws.{same_made}
use Rattle.reasoner.specs.Asking.{BestGrade}
use Rattle.worked.specs.Bases.{detour}

-- no derivation of s sharper than u has a smaller tally
abbrev least : ℕ → ℕ → ℕ
least s u = cond (eqb s u || eqb u 0) 0 (cond ((eqb s 1 && eqb u 3) || (eqb s 3 && eqb u 2)) 1 2)

-- nor has any of a statement
abbrev bound : Statement → ℕ
bound x = cond (eqb x.shape 1) (least x.first x.second) (cond (eqb x.shape 2) 2 0)

bound_most : (x : Statement) → bound x ≤ 2
bound_most x = grind (arith, nat_tests)

least_by_way : (s t u : ℕ) → least s u ≤ least s t + least t u
least_by_way s t u = grind (arith, nat_tests)

abbrev total : List Statement → ℕ
total [] = 0
total (p ∷ ps) = bound p + total ps

rule_bound : {i rule : ℕ} {premises : List Statement} {x : Statement} → Rule i rule premises x → bound x ≤ total premises
rule_bound (sharper_transitive {s} {t} {u}) = omega (arith, least_by_way s t u)
rule_bound (sharper_than_both {s} {u}) = omega (arith, bound_most (sharper s u))
rule_bound (lowered {x} {s} low high) = let none : bound (in_standpoint s x) ≡ 0 = grind (arith, nat_tests) in omega arith
rule_bound role_transitive = omega arith
rule_bound lowered_inside = omega arith
rule_bound inside_transitive = omega arith
rule_bound subsumed_nested = omega arith
rule_bound subsumed_possible = omega arith
rule_bound possible_widened = omega arith
rule_bound necessary_then_nested = omega arith
rule_bound necessary_then_possible = omega arith
rule_bound possible_then_nested = omega arith
rule_bound possible_then_possible = omega arith
rule_bound existential_widened = omega arith
rule_bound existential_chained = omega arith
rule_bound existential_met = omega arith
rule_bound conjunction_met = omega arith
rule_bound necessary_here = omega arith
rule_bound of_all_things = omega arith
rule_bound existential_empty = omega arith
rule_bound necessary_empty = omega arith
rule_bound possible_empty = omega arith
rule_bound (individual_empty k) = omega arith

tautology_bound : {x : Statement} → Tautology detour.sizes x → bound x ≡ 0
tautology_bound (sharper_than_all {s} h) = grind (arith, nat_tests)
tautology_bound (sharper_than_itself {s} h) = grind (arith, nat_tests)
tautology_bound (within_itself h) = refl
tautology_bound (within_top h) = refl
tautology_bound (role_within_itself h) = refl

accepted_bound : (o : Statement × TallyGrade) → In detour.accepted o → bound o.0 ≤ o.1.value
accepted_bound o (inl e) = subst (λ (v : Statement × TallyGrade). bound v.0 ≤ v.1.value) e (lit≤ tt)
accepted_bound o (inr (inl e)) = subst (λ (v : Statement × TallyGrade). bound v.0 ≤ v.1.value) e (lit≤ tt)
accepted_bound o (inr (inr (inl e))) = subst (λ (v : Statement × TallyGrade). bound v.0 ≤ v.1.value) e (lit≤ tt)
accepted_bound o (inr (inr (inr z))) = elim z [ ]

-- a tally that small is not lost where a join is held at the largest number
joined : (m : ℕ) (g h : TallyGrade) → m ≤ 2 → m ≤ g.value + h.value → m ≤ (tally.join g h).value
joined m g h k l = grind (arith, nat_tests)

joined_thrice : (m : ℕ) (g h i : TallyGrade) → m ≤ 2 → m ≤ g.value + h.value + i.value → m ≤ (tally.join (tally.join g h) i).value
joined_thrice m g h i k l = grind (arith, nat_tests)

derived_bound : {x : Statement} {g : TallyGrade} → Derives tally detour x g → bound x ≤ g.value
derived_bound (Derives.leaf (Leaf.accepted m f)) = accepted_bound _ m
derived_bound (Derives.leaf (Leaf.tautology t)) = omega (arith, tautology_bound t)
derived_bound (Derives.one r d) = omega (arith, rule_bound r, derived_bound d)
derived_bound {x} (Derives.two {g} {h} r d e) =
    joined (bound x) g h (bound_most x) (omega (arith, rule_bound r, derived_bound d, derived_bound e))
derived_bound {x} (Derives.three {g} {h} {i} r d e f) =
    joined_thrice (bound x) g h i (bound_most x) (omega (arith, rule_bound r, derived_bound d, derived_bound e, derived_bound f))

-- by way of the other standpoint
detour_derives : Derives tally detour (sharper 1 2) (tally_grade 2 (lit≤ tt))
detour_derives =
    subst (Derives tally detour (sharper 1 2)) (same_made tally_grade (min-le_right 2 4294967295) (lit≤ tt) refl)
    (Derives.two sharper_transitive
    (Derives.leaf (Leaf.accepted (inr (inl refl)) (lit< tt, lit< tt, refl, refl, refl)))
    (Derives.leaf (Leaf.accepted (inl refl) (lit< tt, lit< tt, refl, refl, refl))))

pub detour_wins : BestGrade tally detour (sharper 1 2) (tally_grade 2 (lit≤ tt))
detour_wins = (detour_derives, λ d tree. le-leb 2 d.value (derived_bound tree))
