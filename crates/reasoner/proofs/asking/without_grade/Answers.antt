use Rattle.reasoner.proofs.Standing.{is_ended, is_not_ended}
use Rattle.reasoner.proofs.asking.without_grade.Goals as goal

pub returns-in-Ended : goal.returns-in-Ended
returns-in-Ended g c = is_ended c.args.reasoner.now c.stand.result c.stand.ensures c.in-Ended.is

pub returns-in-Open : goal.returns-in-Open
returns-in-Open g c = is_not_ended c.args.reasoner.now c.stand.result c.stand.ensures c.in-Open.is
