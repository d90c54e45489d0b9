use Rattle.std.proofs.Common.{◌≡◌, length, ap, lit≤, arith}
use Rattle.standpoint.specs.Grades.{odds, odds_grade}
use Rattle.worked.specs.Lists.{clash_calls, clash_outcomes}
use Rattle.worked.proofs.Together.{odds_clash}
use Rattle.worked.proofs.Replaying.{come_to_same}
use Rattle.worked.proofs.calls.clash_of_odds.Goals as goal

pub returns : goal.returns
returns c =
    let first = c.odds.ensures.grade (lit≤ tt) in
    let second = c.odds-2.ensures.grade (lit≤ tt) in
    let given = c.clash_calls-calls.ensures in
    let is : c.clash_calls-calls.result ≡ clash_calls (odds_grade 200 (lit≤ tt)) (odds_grade 230 (lit≤ tt)) = cc in
    let long = ap length is in
    c.perform.ensures (clash_outcomes (odds_grade 180 (lit≤ tt))) (come_to_same odds 47 _ _ _ is (odds_clash 47 (lit≤ tt))) (omega arith)
