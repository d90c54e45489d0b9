-- A file with a fault is not sound.
use Rattle.std.proofs.Common.{ℕ, ◌<◌, List, Err, arith}
use Rattle.blockfile.specs.declared.fault.BlockFault.{BlockFault}
use Rattle.blockfile.specs.declared.fault.BlockFault.TheVariants.{Sum, Layout, Begin, InRecord}
use Rattle.blockfile.specs.declared.fault.LoadFault.{LoadFault}
use Rattle.blockfile.specs.declared.fault.LoadFault.TheVariants.{Length, InBlock}
use Rattle.blockfile.specs.Layout.{Sound, SoundBlock, block_of}
use Rattle.blockfile.specs.Faults.{BlockFaulty, BlocksChecked}

module _ (letter : ℕ) (file : List ℕ) where
  faulty_unsound : (n : ℕ) (block : List ℕ) (f : BlockFault) → BlockFaulty letter n block f → SoundBlock letter n block → ⊥
  faulty_unsound n block (Sum b) h s = h.1 s.0
  faulty_unsound n block (Layout b) h s = h.2 s.1
  faulty_unsound n block (Begin why) h s = h
  faulty_unsound n block (InRecord f) h s = h

  pub faulty_blocks : (f : LoadFault) → BlocksChecked letter file (Err f) → Sound letter file → ⊥
  faulty_blocks Length h s = h s.blocks s.whole
  faulty_blocks (InBlock f) h s =
      let there : h.number < s.blocks = omega (arith, h.whole.long, s.whole.long, h.there) in
      faulty_unsound h.number (block_of file h.number) f h.here (s.each h.number there)
