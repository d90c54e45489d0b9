-- What ask says of a statement.
use Rattle.std.specs.Prelude.{◌≡◌, ℕ, ◌<◌, true, false, ◌⊎◌, Some, None, Ok, Err, Option, Result, slice_index_or}
use Rattle.standpoint.specs.declared.refusal.Refusal.{Refusal}
use Rattle.standpoint.specs.declared.refusal.Refusal.TheVariants.{NotBegun, DoesNotFit}
use Rattle.standpoint.specs.declared.statement.Statement.{Statement}
use Rattle.standpoint.specs.Lists.{In}
use Rattle.standpoint.specs.Algebra.{Algebra, Laws, NoWorse}
use Rattle.standpoint.specs.Statements.{Fits, contradiction}
use Rattle.standpoint.specs.Structures.{Structure}
use Rattle.standpoint.specs.Derivations.{Base, Derives}
use Rattle.standpoint.specs.Verdicts.{MeetsAccepted}
use Rattle.runs.specs.declared.Stand.TheVariants.{Ended}
use Rattle.runs.specs.Runs.{Settled, Unsettled, Stands}
use Rattle.saturation.specs.declared.table.Table.{Table}
use Rattle.saturation.specs.Phases.{is_begun, sizes_of}
use Rattle.saturation.specs.Tables.{State, view, capacity, statement_at, OpenAt, Absent}
use Rattle.reasoner.specs.declared.asking.Answer.{Answer}
use Rattle.reasoner.specs.declared.asking.Answer.TheVariants.{Graded, Nothing, Pending}
use Rattle.reasoner.specs.Models.{Holding}

-- there is a derivation at this grade, and none is better
abbrev pub BestGrade : {G : Type 0} → Algebra G → Base G → Statement → G → Type 0
BestGrade {G} a b x g = Derives a b x g × ((d : G) → Derives a b x d → NoWorse a g d)

abbrev pub Underivable : {G : Type 0} → Algebra G → Base G → Statement → Type 0
Underivable {G} a b x = (d : G) → Derives a b x d → ⊥

-- no structure meets all that is accepted
abbrev pub Unmeetable : {G : Type 0} → Base G → Type 0
Unmeetable b = (M : Structure b.sizes) → MeetsAccepted b M → ⊥

-- if x is the contradiction, the base is unmeetable
abbrev pub Excludes : {G : Type 0} → Base G → Statement → Type 0
Excludes b x = x ≡ contradiction → Unmeetable b

-- what is said of x where this is settled over the base, on so many rows
abbrev pub Says : {G : Type 0} → Algebra G → Base G → Settled G → ℕ → Statement → Answer G → Type 0
Says a b l rows x (Graded g) = In l (x, g) × BestGrade a b x g × Excludes b x
Says a b l rows x Nothing = Unsettled l x × Stands a b rows l Ended × Underivable a b x
Says a b l rows x Pending = Unsettled l x × (Stands a b rows l Ended → ⊥)

-- one may ask for x: the reasoner is begun, and x fits its sizes
pub record Askable {G : Type 0} (s : Table G) (x : Statement) : Type 0 where
  pub begun : is_begun s.phase ≡ true
  pub fits : Fits (sizes_of s.phase) x

-- one may not: the first refusal that applies
pub data AskRefused {G : Type 0} (s : Table G) (x : Statement) : Refusal → Type 0 where
  before_begin : is_begun s.phase ≡ false → AskRefused s x NotBegun
  misfit : is_begun s.phase ≡ true → (Fits (sizes_of s.phase) x → ⊥) → AskRefused s x DoesNotFit

-- the answer of ask, for every kind and every history that the reasoner may hold
abbrev pub Asked : {G : Type 0} → Table G → Statement → Result (Answer G) Refusal → Type 0
Asked {G} s x (Ok said) =
    Askable s x × ((a : Algebra G) → Laws a → (b : Base G) (l : Settled G) → Holding a b s l → Says a b l (capacity (view s)) x said)
Asked s x (Err e) = AskRefused s x e

-- the grade of the settled row that holds x, or that no settled row does
abbrev pub RowGraded : {G : Type 0} → State G → Statement → Option G → Type 0
RowGraded s x None = Absent s x ⊎ ((i : ℕ) × (i < s.len) × (statement_at s i ≡ x) × OpenAt s i)
RowGraded {G} s x (Some g) = (i : ℕ) × (i < s.len) × (statement_at s i ≡ x) × (OpenAt s i → ⊥) × ((d : G) → slice_index_or s.grades i d ≡ g)

-- what is said without a grade
abbrev pub LeftOver : {G : Type 0} → Table G → Answer G → Type 0
LeftOver s (Graded g) = ⊥
LeftOver {G} s Nothing = (a : Algebra G) (b : Base G) (l : Settled G) → Holding a b s l → Stands a b (capacity (view s)) l Ended
LeftOver {G} s Pending = (a : Algebra G) (b : Base G) (l : Settled G) → Holding a b s l → Stands a b (capacity (view s)) l Ended → ⊥
