use Rattle.blockfile.specs.Layout.{SoundBelow}
use Rattle.blockfile.proofs.check.check_blocks.Given as goal

-- every block before this one is sound
abbrev pub invariant-loop-number : goal.invariant-loop-number
invariant-loop-number g l = SoundBelow g.K.StoredKind.KIND_BYTE l.file l.number
