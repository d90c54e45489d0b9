-- Each rule has as many premises as its arity says.
use Rattle.std.proofs.Common.{◌≡◌, ℕ, ◌<◌, ◌≤◌, ◌⊎◌, Ok, Err, Result, Some, None, Option, List, length, sym, refl, ◌∙◌, arith, lit≤}
use Rattle.std.proofs.lemmas.Bool.Decides.{nat_tests}
use Rattle.std.specs.Result.{result_ok}
use Rattle.standpoint.specs.declared.rules.named.Rule as enum
use Rattle.standpoint.specs.declared.rules.named.UnknownRule.{UnknownRule}
use Rattle.standpoint.specs.RuleNumbers.{Named}
use Rattle.standpoint.specs.declared.statement.Statement.{Statement}
use Rattle.standpoint.specs.Rules.{Rule, arity_of, HasArity}
use Rattle.standpoint.specs.Rules.Rule.{role_transitive, sharper_transitive, sharper_than_both, lowered, lowered_inside, inside_transitive, subsumed_nested, subsumed_possible, possible_widened, necessary_then_nested, necessary_then_possible, possible_then_nested, possible_then_possible, existential_widened, existential_chained, existential_met, conjunction_met, necessary_here, of_all_things, existential_empty, necessary_empty, possible_empty, individual_empty}

arity_counts : {i rule : ℕ} {premises : List Statement} {x : Statement} → Rule i rule premises x → (length premises ≡ arity_of rule) × (1 ≤ length premises)
arity_counts role_transitive = (refl, lit≤ tt)
arity_counts sharper_transitive = (refl, lit≤ tt)
arity_counts sharper_than_both = (refl, lit≤ tt)
arity_counts (lowered low high) = (refl, lit≤ tt)
arity_counts lowered_inside = (refl, lit≤ tt)
arity_counts inside_transitive = (refl, lit≤ tt)
arity_counts subsumed_nested = (refl, lit≤ tt)
arity_counts subsumed_possible = (refl, lit≤ tt)
arity_counts possible_widened = (refl, lit≤ tt)
arity_counts necessary_then_nested = (refl, lit≤ tt)
arity_counts necessary_then_possible = (refl, lit≤ tt)
arity_counts possible_then_nested = (refl, lit≤ tt)
arity_counts possible_then_possible = (refl, lit≤ tt)
arity_counts existential_widened = (refl, lit≤ tt)
arity_counts existential_chained = (refl, lit≤ tt)
arity_counts existential_met = (refl, lit≤ tt)
arity_counts conjunction_met = (refl, lit≤ tt)
arity_counts necessary_here = (refl, lit≤ tt)
arity_counts of_all_things = (refl, lit≤ tt)
arity_counts existential_empty = (refl, lit≤ tt)
arity_counts necessary_empty = (refl, lit≤ tt)
arity_counts possible_empty = (refl, lit≤ tt)
arity_counts (individual_empty a) = (refl, lit≤ tt)

pub has_arity : (rule count : ℕ) → count ≡ arity_of rule → HasArity rule count
has_arity rule count e = record { value = e; premises = λ i premises x h. (arity_counts h).0 ∙ sym e }

-- a rule has one, two or three premises
pub few_premises : {i rule : ℕ} {premises : List Statement} {x : Statement} → Rule i rule premises x → (1 ≤ length premises) × (length premises ≤ 3)
few_premises {rule = rule} {premises = premises} h =
    let e = (arity_counts h).0 in
    let most : arity_of rule ≤ 3 = grind (arith, nat_tests) in
    ((arity_counts h).1, omega arith)

pub no_rule : {i rule : ℕ} {premises : List Statement} → (rule ≡ 0) ⊎ (23 < rule) → (x : Statement) → Rule i rule premises x → ⊥
no_rule {rule = rule} outside x h =
    let counts = arity_counts h in
    let none : arity_of rule ≡ 0 = grind (arith, nat_tests) in
    absurd (let z : ⊥ = omega arith in z)

-- a number of which no rule is made is that of none
pub not_named : {n : ℕ} (r : Result enum.Rule UnknownRule) → Named n r → result_ok r ≡ None → (n ≡ 0) ⊎ (23 < n)
not_named (Ok rule) named e = absurd (let f : ◌≡◌ {A = Option enum.Rule} (Some rule) None = e in let z : ⊥ = cc in z)
not_named (Err e) named none = named.1
