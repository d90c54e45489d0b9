use Rattle.std.proofs.Common.{refl}
use Rattle.saturation.specs.Tables.{view}
use Rattle.saturation.proofs.Sameness.{same_then}
use Rattle.saturation.proofs.Rematching.{rematched_none, rematched_more, rematched_all, row_due, parent_falls}
use Rattle.saturation.proofs.table.Table.rematch.Goals as goal

pub loop-at-init : goal.loop-at-init
loop-at-init g c = ((refl, refl, refl), rematched_none (g.K.Kind.algebra c.args.kind.now) (view c.args.self.now) c.args.i c.requires)

pub winner_of-winner-requires : goal.winner_of-winner-requires
winner_of-winner-requires g c = row_due (g.K.Kind.algebra c.args.kind.now) (view c.args.self.now) (view c.loop-at.self) c.args.i c.loop-at.at c.in-Some.k c.in-Some.is c.loop-at.invariant.1

pub set_winner-requires : goal.set_winner-requires
set_winner-requires g c = (
  row_due (g.K.Kind.algebra c.args.kind.now) (view c.args.self.now) (view c.loop-at.self) c.args.i c.loop-at.at c.in-Some.k c.in-Some.is c.loop-at.invariant.1,
  c.winner_of-winner.ensures.within,
)

pub loop-at-smaller : goal.loop-at-smaller
loop-at-smaller g c = parent_falls c.loop-at.at c.in-Some.k c.parent-at.result c.in-Some.is c.parent-at.ensures

pub loop-at-preserved : goal.loop-at-preserved
loop-at-preserved g c =
    let t = c.loop-at.self in (
      same_then c.loop-at.invariant.0 c.set_winner.ensures.same,
      rematched_more (g.K.Kind.algebra c.args.kind.now) (view c.args.self.now) (view t) (view c.set_winner.new.self) c.args.i c.loop-at.at c.in-Some.k c.winner_of-winner.result c.parent-at.result t.rows_fit c.in-Some.is c.parent-at.ensures c.set_winner.ensures.state c.winner_of-winner.ensures.wins c.loop-at.invariant.1,
    )

pub returns-clause-same : goal.returns-clause-same
returns-clause-same g c = c.loop-at.invariant.0

pub returns-clause-state : goal.returns-clause-state
returns-clause-state g c = c.loop-at.invariant.1.but

pub returns-clause-played : goal.returns-clause-played
returns-clause-played g c = rematched_all (g.K.Kind.algebra c.args.kind.now) (view c.args.self.now) (view c.loop-at.self) c.args.i c.loop-at.at c.in_default.is c.loop-at.invariant.1
