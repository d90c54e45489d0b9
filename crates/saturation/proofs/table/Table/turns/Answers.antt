use Rattle.std.proofs.Common.{◌≡◌, ℕ, refl, sym, subst, arith}
use Rattle.saturation.specs.Phases.{sizes_of}
use Rattle.saturation.specs.declared.phase.Phase.{Phase}
use Rattle.saturation.specs.declared.turn.Turn.TheVariants as turn
use Rattle.saturation.specs.Tables.{view}
use Rattle.saturation.specs.Turns.{Turns, Turned, TakesTurns, none, one_more, all_taken, nothing_left, overflowed}
use Rattle.saturation.proofs.Sameness.{same_then}
use Rattle.saturation.proofs.table.Table.turns.Goals as goal

pub loop-k-init : goal.loop-k-init
loop-k-init g c = ((refl, refl, refl), none)

pub returns-in-Nothing-clause-turns : goal.returns-in-Nothing-clause-turns
returns-in-Nothing-clause-turns g c =
    let al = g.K.Kind.algebra c.args.kind.now in
    let t = c.loop-k.self in
    let u = c.settle_one.new.self in
    let inv = c.loop-k.invariant in
    let turned = subst (λ (p : Phase). Turned al (sizes_of p).individuals (view t) (view u) turn.Nothing) inv.0.2 c.in-Nothing.ensures.state in
    nothing_left t u inv.1 c.loop-k-test.true turned refl

pub returns-in-Overflowed-clause-turns : goal.returns-in-Overflowed-clause-turns
returns-in-Overflowed-clause-turns g c =
    let al = g.K.Kind.algebra c.args.kind.now in
    let t = c.loop-k.self in
    let u = c.settle_one.new.self in
    let inv = c.loop-k.invariant in
    let turned = subst (λ (p : Phase). Turned al (sizes_of p).individuals (view t) (view u) turn.Overflowed) inv.0.2 c.in-Overflowed.ensures.state in
    overflowed t u inv.1 c.loop-k-test.true refl turned refl

pub loop-k-preserved : goal.loop-k-preserved
loop-k-preserved g c =
    let al = g.K.Kind.algebra c.args.kind.now in
    let t = c.loop-k.self in
    let u = c.settle_one.new.self in
    let inv = c.loop-k.invariant in
    let turned = subst (λ (p : Phase). Turned al (sizes_of p).individuals (view t) (view u) turn.Settled) inv.0.2 c.in-Settled.ensures.state in
    (same_then inv.0 c.settle_one.ensures.same, one_more t u inv.1 turned)

pub returns-clause-turns : goal.returns-clause-turns
returns-clause-turns g c =
    let al = g.K.Kind.algebra c.args.kind.now in
    let s = c.args.self.now in
    let t = c.loop-k.self in
    let n = c.args.n in
    let v : ℕ = (sizes_of s.phase).individuals in
    let inv = c.loop-k.invariant in
    let all : c.loop-k.k ≡ n = omega arith in
    subst (TakesTurns al v n (view s) (view t) n) (sym c.stand_of_rows.ensures) (all_taken t (subst (λ (k : ℕ). Turns al v (view s) k (view t)) all inv.1) refl refl)
