use Rattle.std.proofs.Common.{◌≡◌, ◌+◌, is_ok, true}
use Rattle.standpoint.specs.RuleNumbers.{number_of_rule}
use Rattle.saturation.specs.Tables.{view, Same}
use Rattle.saturation.specs.Searching.{Went}
use Rattle.saturation.proofs.Chaining.{walk_left}
use Rattle.saturation.proofs.Searches.{Below}
use Rattle.saturation.proofs.Walking.{Walk}
use Rattle.saturation.proofs.Enumerating.{Last, AroundAt, Placed, Ruled, Using}
use Rattle.saturation.proofs.table.Table.search.Given as goal

-- what the last premises that the walk has passed give was offered, since it began
abbrev pub invariant-loop-last : goal.invariant-loop-last
invariant-loop-last g l =
    let al = g.K.Kind.algebra l.kind in
    let v = l.individuals in
    (is_ok l.outcome ≡ true) × Same l.initial.self l.self × Walk al v l.lasts (Last al v (number_of_rule l.rule) l.position l.newest l.i) (Using al v l.newest) (view l.initial.self) (view l.self) l.last

abbrev pub decreases-loop-last : goal.decreases-loop-last
decreases-loop-last g l = walk_left l.last

-- what the partners that the walk has passed give was offered, since it began
abbrev pub invariant-loop-partner : goal.invariant-loop-partner
invariant-loop-partner g l =
    let al = g.K.Kind.algebra l.kind in
    let v = l.individuals in
    (is_ok l.outcome ≡ true) × Same l.initial.self l.self × Walk al v l.lane (AroundAt al v (number_of_rule l.inference.rule) l.position l.newest) (Using al v l.newest) (view l.initial.self) (view l.self) l.partner

abbrev pub decreases-loop-partner : goal.decreases-loop-partner
decreases-loop-partner g l = walk_left l.partner

-- what this rule gives with the newest at the positions so far was offered, since the rule began
abbrev pub invariant-loop-position : goal.invariant-loop-position
invariant-loop-position g l =
    let al = g.K.Kind.algebra l.kind in
    let v = l.individuals in
    (is_ok l.outcome ≡ true) × Same l.initial.self l.self × Went al v (view l.initial.self) (view l.self) (Below (Placed al v (number_of_rule l.inference.rule) l.newest) l.position-index) (Using al v l.newest) true

-- what the rules so far give was offered, since the call
abbrev pub invariant-search : goal.invariant-search
invariant-search g l =
    let al = g.K.Kind.algebra l.kind in
    let v = l.individuals in
    (is_ok l.outcome ≡ true) × Same l.initial.self l.self × Went al v (view l.initial.self) (view l.self) (Below (Ruled al v l.newest) (l.rule-index + 1)) (Using al v l.newest) true
