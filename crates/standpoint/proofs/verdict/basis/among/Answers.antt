use Rattle.standpoint.proofs.Lists.{scan_found, scan_more, scan_ended}
use Rattle.standpoint.proofs.verdict.basis.among.Goals as goal

pub returns-then-same : goal.returns-then-same
returns-then-same g c = scan_found _ c.loop-x.x-index _ _ c.loop-x-test.true c.loop-x-item.is c.if-same.ensures

pub loop-x-preserved : goal.loop-x-preserved
loop-x-preserved g c = scan_more _ c.loop-x.x-index _ _ c.loop-x-item.is c.if-same.ensures c.loop-x.invariant

pub returns : goal.returns
returns g c = scan_ended _ c.loop-x.x-index _ c.loop-x-test.false c.loop-x.invariant
