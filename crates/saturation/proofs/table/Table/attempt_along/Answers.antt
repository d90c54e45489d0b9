use Rattle.std.proofs.Common.{List, ℕ, is_ok, sym, subst}
use Rattle.standpoint.specs.RuleNumbers.{number_of_rule}
use Rattle.saturation.specs.Tables.{view}
use Rattle.saturation.specs.Places.{Step}
use Rattle.saturation.specs.Searching.{Went, SettledPlaces, seated}
use Rattle.saturation.proofs.Enumerating.{seated_settled, went_off, went_on}
use Rattle.saturation.proofs.table.Table.attempt_along.Goals as goal

pub returns-then-not-is_along-clause-state : goal.returns-then-not-is_along-clause-state
returns-then-not-is_along-clause-state g c =
    let al = g.K.Kind.algebra c.args.inference.now.kind.now in
    let v = c.args.inference.now.individuals in
    let rule = number_of_rule c.args.inference.now.rule in
    went_off al v (view c.args.self.now) c.args.lane.now c.args.j (λ l. Step al v l rule (seated rule c.args.position c.args.newest c.args.i c.args.j)) _ c.if-not-is_along.ensures

pub attempt-requires : goal.attempt-requires
attempt-requires g c =
    let rule = number_of_rule c.args.inference.now.rule in
    let settled = c.args.self.now.settled in
    subst (SettledPlaces settled) (sym c.seat.ensures) (seated_settled rule c.args.position settled c.args.newest c.args.i c.args.j c.requires.0 c.requires.1 c.requires.2)

pub returns-clause-state : goal.returns-clause-state
returns-clause-state g c =
    let al = g.K.Kind.algebra c.args.inference.now.kind.now in
    let v = c.args.inference.now.individuals in
    let rule = number_of_rule c.args.inference.now.rule in
    let s = view c.args.self.now in
    let t = view c.attempt.new.self in
    went_on al v s t c.args.lane.now c.args.j _ (is_ok c.attempt.result) (subst (λ (ks : List ℕ). Went al v s t (λ l. Step al v l rule ks) (λ l. Step al v l rule ks) (is_ok c.attempt.result)) c.seat.ensures c.attempt.ensures.state)
