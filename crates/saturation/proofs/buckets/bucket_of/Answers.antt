use Rattle.std.proofs.Common.{◌<◌, ℕ, rules, sym, subst}
use Rattle.saturation.specs.Buckets.{bucket_of}
use Rattle.saturation.proofs.Indexing.{bucket_below}
use Rattle.saturation.proofs.buckets.bucket_of.Goals as goal

pub returns-clause-value : goal.returns-clause-value
unfolding bucket_of
returns-clause-value c = search rules

pub returns-clause-within : goal.returns-clause-within
returns-clause-within c = subst (λ (n : ℕ). n < c.args.buckets) (sym (returns-clause-value c)) (bucket_below c.args.buckets c.args.statement c.requires)
