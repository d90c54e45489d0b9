-- What a phase tells: whether a run is begun, over which sizes, whether its base is sealed, and whether it stands full.
use Rattle.std.specs.Prelude.{Bool, true, false}
use Rattle.standpoint.specs.declared.sizes.Sizes.{Sizes}
use Rattle.saturation.specs.declared.phase.Phase.{Phase}
use Rattle.saturation.specs.declared.phase.Phase.TheVariants.{Idle, Taking, Running}
use Rattle.saturation.specs.declared.phase.Phase.TheVariants as phase
use Rattle.runs.specs.declared.Stand.{Stand}
use Rattle.runs.specs.declared.Stand.TheVariants.{Open, Ended, Full}

abbrev pub is_begun : Phase → Bool
is_begun Idle = false
is_begun (Taking n) = true
is_begun (Running n) = true
is_begun (phase.Full n) = true

-- before a run is begun there is nothing to speak of
abbrev pub no_sizes : Sizes
no_sizes = record { standpoints = 0; concepts = 0; roles = 0; individuals = 0 }

abbrev pub sizes_of : Phase → Sizes
sizes_of Idle = no_sizes
sizes_of (Taking n) = n
sizes_of (Running n) = n
sizes_of (phase.Full n) = n

abbrev pub is_sealed : Phase → Bool
is_sealed Idle = false
is_sealed (Taking n) = false
is_sealed (Running n) = true
is_sealed (phase.Full n) = true

abbrev pub stands_full : Phase → Bool
stands_full Idle = false
stands_full (Taking n) = false
stands_full (Running n) = false
stands_full (phase.Full n) = true

-- the phase of a sealed run that stands so
abbrev pub phase_of : Sizes → Stand → Phase
phase_of n Open = Running n
phase_of n Ended = Running n
phase_of n Full = phase.Full n
