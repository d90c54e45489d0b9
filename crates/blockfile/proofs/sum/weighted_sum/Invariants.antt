use Rattle.std.proofs.Common.{◌≡◌, ◌+◌, ◌*◌, ◌≤◌, drop}
use Rattle.blockfile.specs.Layout.{weighted}
use Rattle.blockfile.proofs.sum.weighted_sum.Given as goal

-- what is left, counted from the next place, comes to the rest of the sum; a turn adds at most 255 * 508
abbrev pub invariant-loop-i : goal.invariant-loop-i
invariant-loop-i l = (l.sum + weighted (l.i + 1) (drop l.i l.bytes) ≡ weighted 1 l.bytes) × (l.sum ≤ 129540 * l.i)
