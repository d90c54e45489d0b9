use Rattle.std.proofs.Common.{◌≡◌, ◌≤◌, Ok}
use Rattle.saturation.specs.Tables.{view, capacity, OverSame}
use Rattle.reasoner.specs.Calls.{Begun}
use Rattle.blockfile.specs.Layout.{sizes_in}
use Rattle.blockfile.specs.Loads.{AddedBefore}
use Rattle.blockfile.proofs.loading.load.Given as goal

-- the reasoner began, and the records of the blocks before this one were added
abbrev pub invariant-loop-number : goal.invariant-loop-number
invariant-loop-number g l =
    let al = g.K.Kind.algebra l.kind in
    OverSame l.initial.reasoner l.reasoner
    × (capacity (view l.reasoner) ≡ capacity (view l.initial.reasoner))
    × (1 ≤ l.number)
    × (l.number ≤ l.blocks)
    × Begun al (sizes_in l.file) l.fn.reasoner l.initial.reasoner (Ok tt)
    × AddedBefore g.K.StoredKind.decoded l.file al 1 l.number 0 l.initial.reasoner l.reasoner
