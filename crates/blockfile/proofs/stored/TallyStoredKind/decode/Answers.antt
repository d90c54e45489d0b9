use Rattle.std.proofs.Common.{sym, ap}
use Rattle.standpoint.specs.Grades.{tally_grade}
use Rattle.blockfile.specs.Codes.{or_no_grade}
use Rattle.blockfile.specs.Coded.{bounded_some}
use Rattle.blockfile.proofs.stored.TallyStoredKind.decode.Goals as goal

pub returns : goal.returns
returns c = sym (ap or_no_grade (bounded_some 4294967295 tally_grade c.args.code _))
