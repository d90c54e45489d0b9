-- What each call answers, and what it makes of a reasoner.
use Rattle.std.specs.Prelude.{◌≡◌, ℕ, ◌<◌, ◌≤◌, true, false, ◌⊎◌, List, [], ◌++◌, length, Ok, Err, Result}
use Rattle.standpoint.specs.declared.refusal.Refusal.{Refusal}
use Rattle.standpoint.specs.declared.refusal.Refusal.TheVariants.{NotBegun, SizesOutOfRange, TooFewRows, DoesNotFit, MisplacedIndividual, Sealed, RowsTaken}
use Rattle.standpoint.specs.declared.sizes.Sizes.{Sizes}
use Rattle.standpoint.specs.declared.statement.Statement.{Statement}
use Rattle.standpoint.specs.Lists.{In, Distinct}
use Rattle.standpoint.specs.Sizes.{InRange}
use Rattle.standpoint.specs.Statements.{Fits, Misplaced}
use Rattle.standpoint.specs.Tautologies.{tautologies}
use Rattle.standpoint.specs.Algebra.{Algebra}
use Rattle.standpoint.specs.Derivations.{Base}
use Rattle.runs.specs.declared.Stand.{Stand}
use Rattle.runs.specs.declared.Stand.TheVariants.{Open, Ended, Full}
use Rattle.runs.specs.Runs.{Settled, Known, Settling, Stands}
use Rattle.saturation.specs.declared.table.Table.{Table}
use Rattle.saturation.specs.declared.phase.Phase.TheVariants.{Taking}
use Rattle.saturation.specs.Phases.{is_begun, is_sealed, sizes_of, stands_full}
use Rattle.saturation.specs.Rows.{kept}
use Rattle.saturation.specs.Tables.{view, capacity, has_room, Absent}
use Rattle.saturation.specs.Memory.{Leaves, KeepsSettled, Offered}
use Rattle.saturation.specs.Turns.{TakesTurns}
use Rattle.saturation.specs.Saturation.{SettledRows}
use Rattle.reasoner.specs.Models.{Model, based, running, stopped, empty_base, accepting, StandsFor}

-- everything is as it was
abbrev pub Unchanged : {G : Type 0} → Table G → Table G → Type 0
Unchanged s t = (view t ≡ view s) × (t.phase ≡ s.phase)

-- begin drops everything and starts with the tautologies; it refuses sizes out of range, then too few rows
abbrev pub Begun : {G : Type 0} → Algebra G → Sizes → Table G → Table G → Result (Unit {0}) Refusal → Type 0
Begun a n s t (Ok _) = InRange n × (length (tautologies n) ≤ capacity (view s)) × StandsFor a (based (empty_base n)) t × Leaves (view s) (view t)
Begun a n s t (Err e) =
    Unchanged s t × (((e ≡ SizesOutOfRange) × (InRange n → ⊥)) ⊎ ((e ≡ TooFewRows) × InRange n × (capacity (view s) < length (tautologies n))))

-- the first refusal of add that applies, over what the reasoner holds
pub data AddRefused {G : Type 0} (s : Table G) (x : Statement) : Refusal → Type 0 where
  before_begin : is_begun s.phase ≡ false → AddRefused s x NotBegun
  after_settle : is_sealed s.phase ≡ true → AddRefused s x Sealed
  misfit : {n : Sizes} → s.phase ≡ Taking n → (Fits n x → ⊥) → AddRefused s x DoesNotFit
  individual : {n : Sizes} → s.phase ≡ Taking n → Fits n x → Misplaced n.individuals x → AddRefused s x MisplacedIndividual
  no_row : {n : Sizes} → s.phase ≡ Taking n → Fits n x → (Misplaced n.individuals x → ⊥) → has_room (view s) ≡ false → Absent (view s) x → AddRefused s x RowsTaken

-- as many statements are known as there are rows
abbrev pub AllRowsTaken : {G : Type 0} → Algebra G → Base G → ℕ → Type 0
AllRowsTaken a base rows = (xs : List Statement) × Distinct xs × ((x : Statement) → In xs x → Known a base [] x) × (rows ≤ length xs)

-- what a performed add makes of any reasoner: the row that holds the statement is new, has a better grade, or is as it was
pub record AddsRow {G : Type 0} (a : Algebra G) (x : Statement) (g : G) (s t : Table G) : Type 0 where
  pub phase : t.phase ≡ s.phase
  pub row : Offered a (view s) (view t) x g (kept 0 0 0 0) true
  pub leaves : Leaves (view s) (view t)
  pub kept_settled : KeepsSettled (view s) (view t)

-- what add makes of a base: one statement more, or it is refused since it is new and all rows are taken
abbrev pub Adds : {G : Type 0} → Algebra G → Statement → G → Table G → Table G → Result (Unit {0}) Refusal → Type 0
Adds {G} a x g s t (Ok _) =
    ((n : Sizes) × (s.phase ≡ Taking n) × Fits n x × (Misplaced n.individuals x → ⊥))
    × ((b : Base G) → StandsFor a (based b) s → StandsFor a (based (accepting b x g)) t)
    × AddsRow a x g s t
Adds {G} a x g s t (Err e) =
    Unchanged s t × AddRefused s x e
    × ((b : Base G) → StandsFor a (based b) s → e ≡ RowsTaken → (Known a b [] x → ⊥) × AllRowsTaken a b (capacity (view s)))

-- a run after a settle
abbrev pub model_after : {G : Type 0} → Base G → Settled G → Stand → Model G
model_after b l Open = running b l
model_after b l Ended = running b l
model_after b l Full = stopped b l

-- n times, unless the run stands ended or full before, the next statement is settled
abbrev pub SettlesOn : {G : Type 0} → Algebra G → ℕ → Base G → Settled G → Table G → Table G → ℕ → Stand → Type 0
SettlesOn {G} a n b l s t count stand =
    (later : Settled G) × ((length later ≡ count) × (Settling a b (capacity (view s)) n l later
    × (Stands a b (capacity (view s)) (l ++ later) stand × StandsFor a (model_after b (l ++ later) stand) t)))

-- settle seals the base and settles, turn by turn whatever the rows hold; it refuses only a reasoner that is not begun
abbrev pub SettledSo : {G : Type 0} → Algebra G → ℕ → Table G → Table G → Result (ℕ × Stand) Refusal → Type 0
SettledSo {G} a n s t (Ok r) =
    (is_begun s.phase ≡ true)
    × ((b : Base G) → StandsFor a (based b) s → SettlesOn a n b [] s t r.0 r.1)
    × ((b : Base G) (l : Settled G) → StandsFor a (running b l) s → SettlesOn a n b l s t r.0 r.1)
    × ((b : Base G) (l : Settled G) → StandsFor a (stopped b l) s → (r.0 ≡ 0) × (r.1 ≡ Full) × StandsFor a (stopped b l) t)
    × (r.0 ≤ n) × SettledRows s t r.0 r.1
    × (stands_full s.phase ≡ false → TakesTurns a (sizes_of s.phase).individuals n (view s) (view t) r.0 r.1)
SettledSo a n s t (Err e) = Unchanged s t × (e ≡ NotBegun) × (is_begun s.phase ≡ false)
