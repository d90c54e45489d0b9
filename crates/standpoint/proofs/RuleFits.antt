-- A rule's conclusion fits the sizes that its premises fit.
use Rattle.std.proofs.Common.{◌≡◌, ℕ, ◌<◌, ◌≤◌, List, Some, None, Option, sym, refl, subst, arith}
use Rattle.std.proofs.lemmas.Bool.Decides.{nat_tests}
use Rattle.standpoint.specs.declared.sizes.Sizes.{Sizes}
use Rattle.standpoint.specs.declared.statement.Statement.{Statement}
use Rattle.standpoint.specs.declared.statement.Sort.{Sort}
use Rattle.standpoint.specs.declared.statement.Sort.TheVariants.{Standpoint}
use Rattle.standpoint.specs.declared.statement.Sorts.{Sorts}
use Rattle.standpoint.specs.Lists.{All}
use Rattle.standpoint.specs.Lists.All.{none, ◌&◌}
use Rattle.standpoint.specs.Statements.{Fits, Sorted, Within, sorts_of}
use Rattle.standpoint.specs.Rules.{Rule, Concluded, FitsAs, in_standpoint}
use Rattle.standpoint.specs.Rules.Rule.{role_transitive, sharper_transitive, sharper_than_both, lowered, lowered_inside, inside_transitive, subsumed_nested, subsumed_possible, possible_widened, necessary_then_nested, necessary_then_possible, possible_then_nested, possible_then_possible, existential_widened, existential_chained, existential_met, conjunction_met, necessary_here, of_all_things, existential_empty, necessary_empty, possible_empty, individual_empty}

-- the first number of every shape is a standpoint
first_sort : (shape : ℕ) (p : Sorts) → sorts_of shape ≡ Some p → p.first ≡ Standpoint
first_sort shape p h = grind (arith, nat_tests)

lowered_fits : (n : Sizes) {s : ℕ} (x : Statement) → Fits n x → s < n.standpoints → Fits n (in_standpoint s x)
lowered_fits n {s} x fits within = go (sorts_of x.shape) (first_sort x.shape) fits
  where
    go : (o : Option Sorts) → ((p : Sorts) → o ≡ Some p → p.first ≡ Standpoint) → Sorted n o x → Sorted n o (in_standpoint s x)
    go None first f = f
    go (Some p) first f = (subst (λ (z : Sort). Within n z s) (sym (first p refl)) within, f.1, f.2, f.3, f.4)

pub rule_fits : (n : Sizes) {rule : ℕ} {premises : List Statement} {x : Statement} → 0 < n.standpoints → 2 ≤ n.concepts →
    Rule n.individuals rule premises x → All (Fits n) premises → Fits n x
rule_fits n h k role_transitive (p & q & none) = (p.0, p.1, q.2, refl, refl)
rule_fits n h k sharper_transitive (p & q & none) = (p.0, q.1, refl, refl, refl)
rule_fits n h k sharper_than_both (p & q & r & none) = (p.0, r.2, refl, refl, refl)
rule_fits n h k (lowered {x} low high) (p & q & none) = lowered_fits n x p q.0
rule_fits n h k lowered_inside (p & q & none) = (p.0, p.1, q.0, p.3, p.4)
rule_fits n h k inside_transitive (p & q & none) = (p.0, p.1, p.2, p.3, q.4)
rule_fits n h k subsumed_nested (p & q & none) = (p.2, p.3, q.2, q.3, q.4)
rule_fits n h k subsumed_possible (p & q & none) = (p.2, p.3, q.2, q.3, refl)
rule_fits n h k possible_widened (p & q & none) = (p.0, p.1, p.2, q.4, refl)
rule_fits n h k necessary_then_nested (p & q & none) = (p.0, p.1, q.2, q.3, q.4)
rule_fits n h k necessary_then_possible (p & q & none) = (p.0, p.1, q.2, q.3, refl)
rule_fits n h k possible_then_nested (p & q & none) = (p.0, p.1, q.2, q.3, q.4)
rule_fits n h k possible_then_possible (p & q & none) = (p.0, p.1, q.2, q.3, refl)
rule_fits n h k existential_widened (p & q & r & none) = (p.0, p.1, r.2, q.4, refl)
rule_fits n h k existential_chained (p & q & r & none) = (p.0, p.1, r.3, q.3, refl)
rule_fits n h k existential_met (p & q & none) = (omega arith, omega arith, p.0, p.1, q.3)
rule_fits n h k conjunction_met (p & q & r & none) = (p.0, p.1, p.2, p.3, r.3)
rule_fits n h k necessary_here (p & none) = (omega arith, omega arith, p.0, p.1, p.4)
rule_fits n h k of_all_things (p & none) = (omega arith, omega arith, p.2, p.3, p.4)
rule_fits n h k existential_empty (p & none) = (omega arith, omega arith, p.0, p.1, p.3)
rule_fits n h k necessary_empty (p & none) = (omega arith, omega arith, p.0, p.1, p.4)
rule_fits n h k possible_empty (p & none) = (omega arith, omega arith, p.0, p.1, p.3)
rule_fits n h k (individual_empty a) (p & none) = (omega arith, omega arith, omega arith, omega arith, p.4)

pub fits_as : (individuals rule : ℕ) (premises : List Statement) (r : Option Statement) → Concluded individuals rule premises r →
    FitsAs individuals premises r
fits_as i rule premises None told = tt
fits_as i rule premises (Some x) told = λ n same range.
    rule_fits n range.some_standpoint range.top_and_bottom (subst (λ i. Rule i rule premises x) (sym same) told.0)
