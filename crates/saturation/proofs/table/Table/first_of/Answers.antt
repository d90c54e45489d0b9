use Rattle.std.proofs.Common.{arith}
use Rattle.saturation.specs.Tables.{view}
use Rattle.saturation.proofs.Rematching.{beats_itself}
use Rattle.saturation.proofs.table.Table.first_of.Goals as goal

pub returns-then-k-self-clause-first : goal.returns-then-k-self-clause-first
returns-then-k-self-clause-first g c =
    let k = c.args.kind.now in
    let past = c.if-k-self.true in
    (beats_itself (g.K.Kind.algebra k) (g.met.K.Kind.lawful k) (view c.args.self.now) c.args.i, λ h. absurd (let z : ⊥ = omega arith in z))

pub returns-then-goes_first-clause-first : goal.returns-then-goes_first-clause-first
returns-then-goes_first-clause-first g c =
    let k = c.args.kind.now in
    (c.if-goes_first.ensures, λ _. beats_itself (g.K.Kind.algebra k) (g.met.K.Kind.lawful k) (view c.args.self.now) _)

pub returns-else-goes_first-clause-first : goal.returns-else-goes_first-clause-first
returns-else-goes_first-clause-first g c =
    let k = c.args.kind.now in
    (beats_itself (g.K.Kind.algebra k) (g.met.K.Kind.lawful k) (view c.args.self.now) c.args.i, λ _. c.if-goes_first.ensures)
