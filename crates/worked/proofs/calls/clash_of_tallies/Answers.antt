use Rattle.std.proofs.Common.{◌≡◌, length, ap, lit≤, arith}
use Rattle.standpoint.specs.Grades.{tally, tally_grade}
use Rattle.worked.specs.Lists.{clash_calls, clash_outcomes}
use Rattle.worked.proofs.Together.{tally_clash}
use Rattle.worked.proofs.Replaying.{come_to_same}
use Rattle.worked.proofs.calls.clash_of_tallies.Goals as goal

pub returns : goal.returns
returns c =
    let first = c.tally.ensures.grade (lit≤ tt) in
    let second = c.tally-2.ensures.grade (lit≤ tt) in
    let given = c.clash_calls-calls.ensures in
    let is : c.clash_calls-calls.result ≡ clash_calls (tally_grade 1 (lit≤ tt)) (tally_grade 1 (lit≤ tt)) = cc in
    let long = ap length is in
    c.perform.ensures (clash_outcomes (tally_grade 2 (lit≤ tt))) (come_to_same tally 47 _ _ _ is (tally_clash 47 (lit≤ tt))) (omega arith)
