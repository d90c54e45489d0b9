use Rattle.std.proofs.Common.{ℕ, true, false, refl, subst, inl, inr}
use Rattle.saturation.specs.declared.turn.Turn.TheVariants.{Settled, Overflowed}
use Rattle.saturation.specs.Tables.{view}
use Rattle.saturation.specs.Turns.{Turned}
use Rattle.saturation.proofs.RowFacts.{fits_of}
use Rattle.saturation.proofs.Taking.{took_turn, turns_out}
use Rattle.saturation.proofs.table.Table.settle_one.Goals as goal

pub returns-then-newest-self-clause-state : goal.returns-then-newest-self-clause-state
returns-then-newest-self-clause-state g c =
    let t = c.args.self.now in
    (refl, λ settled offered lists ranked. turns_out (view t) (t.settled_fit, t.turns) c.if-newest-self.true settled lists, inl c.if-newest-self.true)

pub returns-in_default-clause-state : goal.returns-in_default-clause-state
returns-in_default-clause-state g c = (refl, λ settled offered lists ranked. c.in_default.ensures.first (g.K.Kind.algebra c.args.kind.now) ranked.played, inr c.in_default.ensures.picked)

pub returns-in-Ok-clause-state : goal.returns-in-Ok-clause-state
returns-in-Ok-clause-state g c =
    let k = c.args.kind.now in
    let t = c.args.self.now in
    let m = c.settle_row.new.self in
    subst (λ (n : ℕ). Turned (g.K.Kind.algebra k) n (view t) (view c.search.new.self) Settled) c.individuals-individuals.ensures
    (took_turn (g.K.Kind.algebra k) (g.met.K.Kind.lawful k) c.individuals-individuals.result (view t) (view m) (view c.rematch.new.self) (view c.search.new.self) c.in-Some.i true (t.settled_fit, t.turns) (m.settled_fit, m.turns) t.in_place.places m.in_place.places (fits_of t) c.if-newest-self.false c.in-Some.ensures.picked (c.in-Some.ensures.first (g.K.Kind.algebra k)) c.settle_row.ensures.state c.rematch.ensures.state c.rematch.ensures.played c.in-Ok.ensures.state)

pub returns-in-Err-clause-state : goal.returns-in-Err-clause-state
returns-in-Err-clause-state g c =
    let k = c.args.kind.now in
    let t = c.args.self.now in
    let m = c.settle_row.new.self in
    subst (λ (n : ℕ). Turned (g.K.Kind.algebra k) n (view t) (view c.search.new.self) Overflowed) c.individuals-individuals.ensures
    (took_turn (g.K.Kind.algebra k) (g.met.K.Kind.lawful k) c.individuals-individuals.result (view t) (view m) (view c.rematch.new.self) (view c.search.new.self) c.in-Some.i false (t.settled_fit, t.turns) (m.settled_fit, m.turns) t.in_place.places m.in_place.places (fits_of t) c.if-newest-self.false c.in-Some.ensures.picked (c.in-Some.ensures.first (g.K.Kind.algebra k)) c.settle_row.ensures.state c.rematch.ensures.state c.rematch.ensures.played c.in-Err.ensures.state)
