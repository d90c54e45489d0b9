use Rattle.std.proofs.Common.{arith}
use Rattle.worked.proofs.Replaying.{replayed}
use Rattle.worked.proofs.calls.perform.Goals as goal

pub returns : goal.returns
returns g c expected comes long =
    let calls = c.args.calls.now in
    let outcomes_long = c.replay.auto.outcomes in
    let count = c.replay.ensures.count in
    replayed (g.K.Kind.algebra c.args.kind.now) _ _ _ _ calls c.replay.new.outcomes _ _ _ c.replay.ensures.performed (omega arith) (omega arith) expected comes
