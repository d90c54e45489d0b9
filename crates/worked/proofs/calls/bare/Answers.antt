use Rattle.std.proofs.Common.{length, ap, arith}
use Rattle.standpoint.specs.Grades.{tally}
use Rattle.standpoint.specs.GradeLaws.{tally_laws}
use Rattle.saturation.specs.Rows.{rows_in}
use Rattle.worked.specs.Lists.{bare_outcomes}
use Rattle.worked.proofs.Bare.{bare_on_rows}
use Rattle.worked.proofs.BareCase.{bare_case}
use Rattle.worked.proofs.Replaying.{come_to_same}
use Rattle.worked.proofs.calls.bare.Goals as goal

pub returns : goal.returns
returns c =
    let many = rows_in c.args.rows.now c.args.grades.now in
    let long = ap length c.bare_calls.ensures in
    c.perform.ensures (bare_outcomes many) (come_to_same tally many _ _ _ c.bare_calls.ensures (bare_case tally tally_laws (bare_on_rows tally tally_laws) many)) (omega arith)
