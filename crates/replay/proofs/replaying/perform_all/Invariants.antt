use Rattle.std.proofs.Common.{◌≡◌, ◌≤◌, length, drop}
use Rattle.saturation.specs.Tables.{OverSame}
use Rattle.replay.specs.Pasts.{written}
use Rattle.replay.specs.Performing.{Performed}
use Rattle.replay.proofs.replaying.perform_all.Given as goal

-- the calls before place i are performed, and no outcome from there on is written
abbrev pub invariant-loop-i : goal.invariant-loop-i
invariant-loop-i g l =
    OverSame l.initial.reasoner l.reasoner
    × (l.written ≡ written l.outcomes l.i)
    × (l.written ≤ length l.steps)
    × (drop l.i l.outcomes ≡ drop l.i l.initial.outcomes)
    × Performed (g.K.Kind.algebra l.kind) l.calls l.outcomes l.initial.reasoner l.initial.steps l.i l.reasoner l.steps
