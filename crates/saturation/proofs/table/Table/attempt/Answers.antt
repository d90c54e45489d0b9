use Rattle.std.proofs.Common.{is_ok}
use Rattle.standpoint.specs.RuleNumbers.{number_of_rule}
use Rattle.std.proofs.Common.{List, Some, None, subst}
use Rattle.standpoint.specs.declared.statement.Statement.{Statement}
use Rattle.standpoint.specs.Rules.{Concluded}
use Rattle.saturation.specs.Tables.{view}
use Rattle.saturation.specs.Places.{listed_places}
use Rattle.saturation.specs.Searching.{premises_in}
use Rattle.saturation.proofs.Reading.{premises_stand}
use Rattle.saturation.proofs.Searches.{attempt_none, attempt_some}
use Rattle.saturation.proofs.table.Table.attempt.Goals as goal

pub returns-in-None-clause-state : goal.returns-in-None-clause-state
returns-in-None-clause-state g c =
    let al = g.K.Kind.algebra c.args.inference.now.kind.now in
    let t = c.args.self.now in
    let n = c.args.inference.now.individuals in
    let places = listed_places c.args.at in
    let stands = premises_stand (view t) (t.settled_fit, t.turns) t.grades_fit al.start places c.requires in
    let none = subst (λ (qs : List Statement). Concluded n (number_of_rule c.args.inference.now.rule) qs None) (c.premises.ensures al.start) c.in-None.ensures.conclusion in
    attempt_none al n (view t) (number_of_rule c.args.inference.now.rule) places (premises_in (view t) al.start places) stands none

pub returns-in-Some-clause-state : goal.returns-in-Some-clause-state
returns-in-Some-clause-state g c =
    let al = g.K.Kind.algebra c.args.inference.now.kind.now in
    let t = c.args.self.now in
    let n = c.args.inference.now.individuals in
    let places = listed_places c.args.at in
    let stands = premises_stand (view t) (t.settled_fit, t.turns) t.grades_fit al.start places c.requires in
    let some = subst (λ (qs : List Statement). Concluded n (number_of_rule c.args.inference.now.rule) qs (Some c.in-Some.x)) (c.premises.ensures al.start) c.in-Some.ensures.conclusion in
    attempt_some al n (view t) (number_of_rule c.args.inference.now.rule) places (premises_in (view t) al.start places) stands (view c.offer.new.self) c.in-Some.x c.joined.result (is_ok c.offer.result) c.kept.result c.kept.ensures c.offer.ensures.keeps some.0 some.1 (c.joined.ensures al.start) c.offer.ensures.state c.offer.ensures.rows
