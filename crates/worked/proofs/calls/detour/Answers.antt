use Rattle.std.proofs.Common.{length, ap, lit≤, arith}
use Rattle.standpoint.specs.Grades.{tally}
use Rattle.worked.specs.Lists.{detour_outcomes}
use Rattle.worked.proofs.DetourCase.{detour_case}
use Rattle.worked.proofs.Replaying.{come_to_same}
use Rattle.worked.proofs.calls.detour.Goals as goal

pub returns : goal.returns
returns c =
    let long = ap length c.detour_calls.ensures in
    c.perform.ensures detour_outcomes (come_to_same tally 106 _ _ _ c.detour_calls.ensures (detour_case 106 (lit≤ tt))) (omega arith)
