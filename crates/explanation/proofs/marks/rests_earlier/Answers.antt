use Rattle.std.proofs.Common.{rules}
use Rattle.saturation.specs.Tables.{view}
use Rattle.explanation.proofs.Marking.{rests_told}
use Rattle.explanation.proofs.marks.rests_earlier.Goals as goal

pub returns : goal.returns
returns g c = rests_told (view c.args.reasoner.now) c.args.k c.max-2.result c.kept_step-kept.result c.kept_step-kept.ensures (search rules)
