use Rattle.std.proofs.Common.{rules}
use Rattle.standpoint.proofs.Listing.{nth_part, nth_stretch}
use Rattle.standpoint.proofs.tautologies.tautology.Goals as goal

pub returns-then-k-standpoints : goal.returns-then-k-standpoints
returns-then-k-standpoints c = rw nth_part (search rules)

pub returns-then-k-saturating_sub : goal.returns-then-k-saturating_sub
returns-then-k-saturating_sub c = rw (nth_part, nth_part) (search rules)

pub returns-then-k-concepts : goal.returns-then-k-concepts
returns-then-k-concepts c = rw (nth_part, nth_part, nth_part) (search rules)

pub returns-then-k-saturating_sub-2 : goal.returns-then-k-saturating_sub-2
returns-then-k-saturating_sub-2 c = rw (nth_part, nth_part, nth_part, nth_part) (search rules)

pub returns-then-k-from : goal.returns-then-k-from
returns-then-k-from c = rw (nth_part, nth_part, nth_part, nth_part, nth_stretch) (search rules)

pub returns : goal.returns
returns c = rw (nth_part, nth_part, nth_part, nth_part, nth_stretch) (search rules)
