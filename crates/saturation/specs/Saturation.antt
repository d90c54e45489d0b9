-- A table that holds a run.
use Rattle.std.specs.Prelude.{◌≡◌, ℕ, ◌<◌, ◌≤◌, true, false, cond, List, ◌++◌, length, Ok, Err, Result}
use Rattle.standpoint.specs.declared.refusal.Refusal.{Refusal}
use Rattle.standpoint.specs.declared.refusal.Refusal.TheVariants.{NotBegun}
use Rattle.standpoint.specs.declared.statement.Statement.{Statement}
use Rattle.standpoint.specs.Lists.{In}
use Rattle.standpoint.specs.Algebra.{Algebra}
use Rattle.standpoint.specs.Derivations.{Base}
use Rattle.runs.specs.Runs.{Settled, Offers, Run, Stands, Settling}
use Rattle.runs.specs.declared.Stand.{Stand}
use Rattle.runs.specs.declared.Stand.TheVariants.{Open, Ended, Full}
use Rattle.saturation.specs.declared.table.Table.{Table}
use Rattle.saturation.specs.Phases.{is_begun, sizes_of, stands_full, phase_of}
use Rattle.saturation.specs.Tables.{State, view, capacity, has_room}
use Rattle.saturation.specs.Memory.{SettlesRows}
use Rattle.saturation.specs.Turns.{TakesTurns, stand_of_rows}
use Rattle.saturation.specs.Offering.{Apart, Ranked, RowsRight, Explained}
use Rattle.saturation.specs.Searching.{Lists}

-- the rows hold what the run settled, in order, and all that it offers, at the best of its grades, with right steps, and which is next
pub record Holds {G : Type 0} (a : Algebra G) (base : Base G) (settled : Settled G) (s : State G) : Type 0 where
  pub run : Run a base settled
  pub lists : Lists s settled
  pub offered : List (Statement × G)
  pub rows : Ranked a s offered
  pub sound : (o : Statement × G) → In offered o → Offers a base settled o.0 o.1
  pub complete : (x : Statement) (g : G) → Offers a base settled x g → In offered (x, g)
  pub right : RowsRight a base settled s
  pub explained : Explained a base settled s

-- the rows hold what a run settled that stands full
pub record HoldsFull {G : Type 0} (a : Algebra G) (base : Base G) (settled : Settled G) (s : State G) : Type 0 where
  pub run : Run a base settled
  pub lists : Lists s settled
  pub apart : Apart s
  pub full : Stands a base (capacity s) settled Full
  pub explained : Explained a base settled s

-- what the rows hold of a run that stands so
abbrev pub HoldsAs : {G : Type 0} → Algebra G → Base G → Settled G → State G → Stand → Type 0
HoldsAs a base settled s Open = Holds a base settled s
HoldsAs a base settled s Ended = Holds a base settled s
HoldsAs a base settled s Full = HoldsFull a base settled s

-- how a table stands
abbrev pub stand_of : {G : Type 0} → Table G → Stand
stand_of t = cond (stands_full t.phase) Full (stand_of_rows (view t))

-- n turns, unless the run stands ended or full before: how many were taken, and how the run stands
abbrev pub Settles : {G : Type 0} → Algebra G → ℕ → State G → State G → ℕ → ℕ → Stand → Type 0
Settles {G} a individuals s t n count stand =
    (base : Base G) → base.sizes.individuals ≡ individuals → (settled : Settled G) → Holds a base settled s →
    (later : Settled G) × ((length later ≡ count) × (Settling a base (capacity s) n settled later
    × (Stands a base (capacity s) (settled ++ later) stand × HoldsAs a base (settled ++ later) t stand)))

-- a run stands full only where no row is free, and open only where a row is not settled, whatever the rows hold
abbrev pub StandsByRows : {G : Type 0} → State G → Stand → Type 0
StandsByRows t Open = t.settled < t.len
StandsByRows t Ended = Unit {0}
StandsByRows t Full = has_room t ≡ false

-- what a settle makes of a table that is begun, whatever its rows hold: nothing where it stands full, else it seals the base, settles so
-- many more, and stands full from then on or not
pub data SettledRows {G : Type 0} (s t : Table G) : ℕ → Stand → Type 0 where
  stood_full : stands_full s.phase ≡ true → view t ≡ view s → t.phase ≡ s.phase → SettledRows s t 0 Full
  went_on : {count : ℕ} {stand : Stand} → stands_full s.phase ≡ false → t.phase ≡ phase_of (sizes_of s.phase) stand →
      SettlesRows (view s) (view t) count → StandsByRows (view t) stand → SettledRows s t count stand

-- the answer of settle: refused where no run is begun
abbrev pub TableSettles : {G : Type 0} → Algebra G → ℕ → Table G → Table G → Result (ℕ × Stand) Refusal → Type 0
TableSettles a n s t (Ok r) =
    (is_begun s.phase ≡ true) × (r.0 ≤ n) × SettledRows s t r.0 r.1
    × (stands_full s.phase ≡ false → TakesTurns a (sizes_of s.phase).individuals n (view s) (view t) r.0 r.1)
    × (stands_full s.phase ≡ false → Settles a (sizes_of s.phase).individuals (view s) (view t) n r.0 r.1)
TableSettles a n s t (Err e) = (view t ≡ view s) × (t.phase ≡ s.phase) × (e ≡ NotBegun) × (is_begun s.phase ≡ false)
