use Rattle.std.proofs.Common.{◌≡◌, ◌≤◌}
use Rattle.saturation.specs.Tables.{view, capacity, OverSame}
use Rattle.blockfile.specs.Loads.{AddedBefore}
use Rattle.blockfile.proofs.loading.load_block.Given as goal

-- the records of the block before this one were added
abbrev pub invariant-loop-place : goal.invariant-loop-place
invariant-loop-place g l =
    OverSame l.initial.reasoner l.reasoner
    × (capacity (view l.reasoner) ≡ capacity (view l.initial.reasoner))
    × (l.place ≤ l.count)
    × AddedBefore g.K.StoredKind.decoded l.block.file.now (g.K.Kind.algebra l.kind) l.block.number l.block.number l.place l.initial.reasoner l.reasoner
