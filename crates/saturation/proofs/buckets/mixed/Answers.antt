use Rattle.std.proofs.Common.{rules}
use Rattle.saturation.specs.Buckets.{mixed}
use Rattle.saturation.proofs.buckets.mixed.Goals as goal

pub returns : goal.returns
unfolding mixed
returns c = search rules
