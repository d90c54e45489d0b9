-- The number of each refusal, and what a test answers.
use Rattle.std.specs.Prelude.{◌≡◌, ℕ, Ok, Err, Result}
use Rattle.standpoint.specs.declared.refusal.Refusal.{Refusal}
use Rattle.standpoint.specs.declared.refusal.Refusal.TheVariants.{NotBegun, SizesOutOfRange, TooFewRows, DoesNotFit, MisplacedIndividual, Sealed, RowsTaken, Unsettled, BufferTooShort, WrongStep, NoSteps, FileLength, SumDiffers, BlockLayout, NoGrade, RestsOnLater}

-- the number by which a refusal is known
abbrev pub number_of : Refusal → ℕ
number_of NotBegun = 1
number_of SizesOutOfRange = 2
number_of TooFewRows = 3
number_of DoesNotFit = 4
number_of MisplacedIndividual = 5
number_of Sealed = 6
number_of RowsTaken = 7
number_of Unsettled = 8
number_of BufferTooShort = 9
number_of (WrongStep place) = 10
number_of NoSteps = 11
number_of FileLength = 12
number_of SumDiffers = 13
number_of BlockLayout = 14
number_of NoGrade = 15
number_of RestsOnLater = 16

-- a test passes just where the fact holds, and gives this refusal just where it does not
abbrev pub Tested : {A : Type 0} → Type 0 → Refusal → Result A Refusal → Type 0
Tested P why (Ok _) = P
Tested P why (Err e) = (e ≡ why) × (P → ⊥)
