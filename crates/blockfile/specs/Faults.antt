-- What is told of a fault, and which fault comes out of a file.
use Rattle.std.specs.Prelude.{◌≡◌, ℕ, ◌<◌, ◌⊎◌, List, Ok, Err, Result}
use Rattle.standpoint.specs.declared.sizes.Sizes.{Sizes}
use Rattle.standpoint.specs.declared.refusal.Refusal.{Refusal}
use Rattle.standpoint.specs.declared.refusal.Refusal.TheVariants.{SizesOutOfRange, FileLength, SumDiffers, BlockLayout, NoGrade}
use Rattle.standpoint.specs.Sizes.{InRange}
use Rattle.blockfile.specs.declared.fault.FaultReport.{FaultReport}
use Rattle.blockfile.specs.declared.fault.Layer.{Layer}
use Rattle.blockfile.specs.declared.fault.Layer.TheVariants.{File, Block, Record}
use Rattle.blockfile.specs.declared.fault.RecordFault.TheVariants.{Code, Add}
use Rattle.blockfile.specs.declared.fault.BlockFault.{BlockFault}
use Rattle.blockfile.specs.declared.fault.BlockFault.TheVariants.{Sum, Layout, Begin, InRecord}
use Rattle.blockfile.specs.declared.fault.LoadFault.{LoadFault}
use Rattle.blockfile.specs.declared.fault.LoadFault.TheVariants.{Length, InBlock}
use Rattle.blockfile.specs.Layout.{Summed, LaidOut, SoundBelow, Sound, Whole, NotWhole, block_of, sizes_in}

abbrev pub report : Refusal → Layer → ℕ → ℕ → FaultReport
report why layer block place = record { why = why; layer = layer; block = block; place = place }

-- the refusal, the layer, the block and the record's place that are told of a fault
abbrev pub report_of : LoadFault → FaultReport
report_of Length = report FileLength File 0 0
report_of (InBlock (Sum block)) = report SumDiffers Block block 0
report_of (InBlock (Layout block)) = report BlockLayout Block block 0
report_of (InBlock (Begin why)) = report why Block 0 0
report_of (InBlock (InRecord (Code block place))) = report NoGrade Record block place
report_of (InBlock (InRecord (Add block place why))) = report why Record block place

-- why the block of this number is not sound: its sum is tested first
abbrev pub BlockFaulty : ℕ → ℕ → List ℕ → BlockFault → Type 0
BlockFaulty letter number block (Sum b) = (b ≡ number) × (Summed block → ⊥)
BlockFaulty letter number block (Layout b) = (b ≡ number) × Summed block × (LaidOut letter number block → ⊥)
BlockFaulty letter number block (Begin why) = ⊥
BlockFaulty letter number block (InRecord f) = ⊥

-- the fault of the first block of a whole file that is not sound
pub record FirstUnsound (letter : ℕ) (file : List ℕ) (f : BlockFault) : Type 0 where
  pub blocks : ℕ
  pub number : ℕ
  pub whole : Whole file blocks
  pub there : number < blocks
  pub before : SoundBelow letter file number
  pub here : BlockFaulty letter number (block_of file number) f

-- the count of blocks of a whole file that are all sound, or the first fault
abbrev pub BlocksChecked : ℕ → List ℕ → Result ℕ LoadFault → Type 0
BlocksChecked letter file (Ok n) = Whole file n × SoundBelow letter file n
BlocksChecked letter file (Err Length) = NotWhole file
BlocksChecked letter file (Err (InBlock f)) = FirstUnsound letter file f

-- block 0 states sizes outside their ranges
abbrev pub SizesFaulty : List ℕ → BlockFault → Type 0
SizesFaulty file f = (f ≡ Begin SizesOutOfRange) × (InRange (sizes_in file) → ⊥)

-- the sizes of a sound file, or its first fault: its length, then its blocks in order, then its sizes
abbrev pub FileChecked : ℕ → List ℕ → Result Sizes LoadFault → Type 0
FileChecked letter file (Ok n) = Sound letter file × (n ≡ sizes_in file)
FileChecked letter file (Err Length) = NotWhole file
FileChecked letter file (Err (InBlock f)) =
    FirstUnsound letter file f ⊎ (((n : ℕ) × BlocksChecked letter file (Ok n)) × SizesFaulty file f)
