-- What an explanation answers, over the rows and in the words of a run.
use Rattle.std.specs.Prelude.{◌≡◌, ℕ, ◌+◌, ◌<◌, ◌≤◌, ◌⊎◌, Some, None, Ok, Err, Option, Result, ◌≢◌}
use Rattle.std.specs.Prelude.{List, [], ◌∷◌, ◌++◌, length, drop, map, slice_index_or}
use Rattle.standpoint.specs.declared.refusal.Refusal.{Refusal}
use Rattle.standpoint.specs.declared.refusal.Refusal.TheVariants.{DoesNotFit, Unsettled, BufferTooShort, RestsOnLater}
use Rattle.standpoint.specs.declared.statement.Statement.{Statement}
use Rattle.standpoint.specs.declared.step.Step.{Step}
use Rattle.standpoint.specs.Lists.{In}
use Rattle.standpoint.specs.Statements.{Fits}
use Rattle.standpoint.specs.Steps.{given}
use Rattle.standpoint.specs.Algebra.{Algebra}
use Rattle.standpoint.specs.Derivations.{Base}
use Rattle.standpoint.specs.Verdicts.{Passes}
use Rattle.runs.specs.Runs as runs
use Rattle.runs.specs.Runs.{Settled}
use Rattle.saturation.specs.declared.table.Table.{Table}
use Rattle.saturation.specs.Tables.{State, view, statement_at, turn_at}
use Rattle.reasoner.specs.Asking.{BestGrade, Excludes, Askable, AskRefused}
use Rattle.explanation.specs.Needed.{Unfounded, OneList}

-- none of the first n settled statements is x
abbrev pub NoneBelow : {G : Type 0} → State G → Statement → ℕ → Type 0
NoneBelow s x n = (k : ℕ) → k < n → statement_at s (turn_at s k) ≢ x

-- x was settled as the t-th, and not before
pub record FirstSettled {G : Type 0} (s : State G) (x : Statement) (t : ℕ) : Type 0 where
  pub within : t < s.settled
  pub holds : statement_at s (turn_at s t) ≡ x
  pub first : NoneBelow s x t

-- what a look for a statement among the settled ones answers
abbrev pub SettledAs : {G : Type 0} → State G → Statement → Option ℕ → Type 0
SettledAs s x None = NoneBelow s x s.settled
SettledAs s x (Some t) = FirstSettled s x t

-- no settled place is found: the first refusal that applies
pub data NotFound {G : Type 0} (s : Table G) (x : Statement) : Refusal → Type 0 where
  not_askable : {e : Refusal} → AskRefused s x e → NotFound s x e
  not_settled : Askable s x → NoneBelow (view s) x s.settled → NotFound s x Unsettled

-- the settling place of a statement
abbrev pub Finds : {G : Type 0} → Table G → Statement → Result ℕ Refusal → Type 0
Finds s x (Ok t) = Askable s x × FirstSettled (view s) x t
Finds s x (Err e) = NotFound s x e

-- the list is given in front of a buffer that has the room and is else as it was, and refused where it has not
abbrev pub Gives : {G : Type 0} → List (Step G) → List (Step G) → List (Step G) → Result ℕ Refusal → Type 0
Gives steps old new (Ok count) = (count ≡ length steps) × (length steps ≤ length old) × (new ≡ steps ++ drop (length steps) old)
Gives steps old new (Err e) = (e ≡ BufferTooShort) × (length old < length steps) × (new ≡ old)

-- the answer for the t-th settled statement: the one list that it rests on, unless one of its steps rests on a later one
pub data Writes {G : Type 0} (s : State G) (t : ℕ) (old new : List (Step G)) : Result ℕ Refusal → Type 0 where
  rests_on_later : Unfounded s t → new ≡ old → Writes s t old new (Err RestsOnLater)
  listed : {r : Result ℕ Refusal} (steps : List (Step G)) → OneList s t steps → Gives steps old new r → Writes s t old new r

-- the whole answer
pub data Explains {G : Type 0} (s : Table G) (x : Statement) (old new : List (Step G)) : Result ℕ Refusal → Type 0 where
  not_found : {e : Refusal} → NotFound s x e → new ≡ old → Explains s x old new (Err e)
  found : {r : Result ℕ Refusal} → Askable s x → (t : ℕ) → FirstSettled (view s) x t → Writes (view s) t old new r → Explains s x old new r

-- all of a list stand in another, each once, in the same order
pub data InOrder {X : Type 0} : List X → List X → Type 0 where
  nothing : InOrder [] []
  skips : {xs ys : List X} (y : X) → InOrder xs ys → InOrder xs (y ∷ ys)
  takes : {xs ys : List X} (y : X) → InOrder xs ys → InOrder (y ∷ xs) (y ∷ ys)

-- a step cites a place, counted from 1, as a premise
abbrev pub Cites : {G : Type 0} → Step G → ℕ → Type 0
Cites v place = (v.first ≡ place) ⊎ ((v.second ≡ place) ⊎ (v.third ≡ place))

-- each step but the last is a premise of a later one
abbrev pub EachUsed : {G : Type 0} → List (Step G) → Type 0
EachUsed {G} steps = (i : ℕ) → i + 1 < length steps → (j : ℕ) × (i < j) × (j < length steps) × ((d : Step G) → Cites (slice_index_or steps j d) (i + 1))

-- the list passes the check and ends in x at its settled grade, which is the best; it gives settled statements alone, each once, in settling order
pub record Explanation {G : Type 0} (a : Algebra G) (b : Base G) (l : Settled G) (x : Statement) (g : G) (steps : List (Step G)) : Type 0 where
  pub settled : In l (x, g)
  pub passes : Passes a b steps x g
  pub order : InOrder (map given steps) l
  pub used : EachUsed steps
  pub best : BestGrade a b x g
  pub excludes : Excludes b x

-- what the answer means over a run that has settled l: x does not fit, or is not settled, or has an explanation, which goes by its length alone
pub data ExplainsAs {G : Type 0} (a : Algebra G) (b : Base G) (l : Settled G) (x : Statement) (old new : List (Step G)) : Result ℕ Refusal → Type 0 where
  does_not_fit : (Fits b.sizes x → ⊥) → new ≡ old → ExplainsAs a b l x old new (Err DoesNotFit)
  unsettled : runs.Unsettled l x → new ≡ old → ExplainsAs a b l x old new (Err Unsettled)
  explained : {r : Result ℕ Refusal} (g : G) (steps : List (Step G)) → Explanation a b l x g steps → Gives steps old new r → ExplainsAs a b l x old new r
