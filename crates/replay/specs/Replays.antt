-- What every list of calls keeps, at every place.
use Rattle.std.specs.Prelude.{◌≡◌, ℕ, ◌-◌, ◌<◌, ◌≤◌, min, false, ◌↔◌, ◌⊎◌, List, length, take, drop, Ok, Err}
use Rattle.standpoint.specs.declared.refusal.Refusal.TheVariants.{NotBegun, DoesNotFit, Unsettled, BufferTooShort}
use Rattle.standpoint.specs.declared.statement.Statement.{Statement}
use Rattle.standpoint.specs.declared.step.Step.{Step}
use Rattle.standpoint.specs.Lists.{In}
use Rattle.standpoint.specs.Algebra.{Algebra}
use Rattle.standpoint.specs.Statements.{Fits, contradiction}
use Rattle.standpoint.specs.Derivations.{Base}
use Rattle.runs.specs.declared.Stand.TheVariants.{Ended}
use Rattle.runs.specs.Runs as runs
use Rattle.runs.specs.Runs.{Run, Stands}
use Rattle.saturation.specs.declared.row.Row.{Row}
use Rattle.saturation.specs.declared.table.Table.{Table}
use Rattle.saturation.specs.Phases.{is_begun}
use Rattle.saturation.specs.Tables.{view, fresh}
use Rattle.reasoner.specs.declared.asking.Answer.{Answer}
use Rattle.reasoner.specs.declared.asking.Answer.TheVariants.{Graded, Nothing}
use Rattle.reasoner.specs.Asking.{BestGrade, Underivable, Unmeetable}
use Rattle.explanation.specs.Explaining.{Explanation}
use Rattle.replay.specs.declared.call.Call.{Call}
use Rattle.replay.specs.declared.call.Call.TheVariants.{Ask, Explain}
use Rattle.replay.specs.declared.call.Done.TheVariants.{Said, Explained}
use Rattle.replay.specs.Performing.{Performed}
use Rattle.replay.specs.Pasts.{Outcome, call_at, outcome_at, before, written}

-- n calls were performed in order on a new reasoner over this memory, and left this
pub record Replayed {G : Type 0} (a : Algebra G) (rows : List Row) (grades : List G) (calls : List (Call G)) (outcomes : List (Outcome G)) (steps : List (Step G)) (n : ℕ)
    (rows_left : List Row) (grades_left : List G) (steps_left : List (Step G)) : Type 0 where
  pub new : Table G
  pub empty : view new ≡ fresh rows grades
  pub not_begun : is_begun new.phase ≡ false
  pub last : Table G
  pub performed : Performed a calls outcomes new steps n last steps_left
  pub rows_are : rows_left ≡ last.rows.now
  pub grades_are : grades_left ≡ last.grades.now

module _ {G : Type 0} (a : Algebra G) (calls : List (Call G)) (outcomes : List (Outcome G)) (n : ℕ) where
  -- what was accepted, by performed adds since the last performed begin, before place i
  abbrev pub base_at : ℕ → Base G
  base_at i = (before calls outcomes i).base

  -- at place i it was asked for x, and this was said
  abbrev pub Told : ℕ → Statement → Answer G → Type 0
  Told i x said = (i < n) × (call_at calls i ≡ Ask x) × (outcome_at outcomes i ≡ Ok (Said said))

  -- where ask gives a grade, the statement is derived at that grade, and every derivation has that grade or a worse one
  abbrev pub GradesAreBest : Type 0
  GradesAreBest = (i : ℕ) (x : Statement) (g : G) → Told i x (Graded g) → BestGrade a (base_at i) x g

  -- where ask gives the contradiction a grade, no structure meets all that was accepted
  abbrev pub GradedContradictionExcludes : Type 0
  GradedContradictionExcludes = (i : ℕ) (g : G) → Told i contradiction (Graded g) → Unmeetable (base_at i)

  -- the run before place i: there is only one of its length
  pub record RunAt (i : ℕ) (settled : runs.Settled G) : Type 0 where
    pub run : Run a (base_at i) settled
    pub count : length settled ≡ (before calls outcomes i).settled
    pub only : (other : runs.Settled G) → Run a (base_at i) other → length other ≡ (before calls outcomes i).settled → other ≡ settled

  -- ask says nothing exactly when the run stands ended and what was accepted gives no derivation
  abbrev pub NothingIsExact : ℕ → Type 0
  NothingIsExact rows = (i : ℕ) (x : Statement) (said : Answer G) → Told i x said →
      (settled : runs.Settled G) × RunAt i settled × ((said ≡ Nothing) ↔ (Stands a (base_at i) rows settled Ended × Underivable a (base_at i) x))

  -- an explanation of x at place i is refused before a begin, where x does not fit, and where it is not settled; else x is settled
  pub data Explainable (i : ℕ) (settled : runs.Settled G) (x : Statement) : Outcome G → Type 0 where
    not_begun : (before calls outcomes i).begins ≡ 0 → Explainable i settled x (Err NotBegun)
    does_not_fit : (Fits (base_at i).sizes x → ⊥) → Explainable i settled x (Err DoesNotFit)
    unsettled : runs.Unsettled settled x → Explainable i settled x (Err Unsettled)
    explainable : {o : Outcome G} (g : G) → In settled (x, g) → Explainable i settled x o

  module _ (steps : List (Step G)) where
    -- the steps that an explanation of so many wrote at place j
    abbrev pub written_at : ℕ → ℕ → List (Step G)
    written_at j count = take count (drop (written outcomes j) steps)

    -- how many of at most so many places are left for an explanation at place j
    abbrev pub places_at : ℕ → ℕ → ℕ
    places_at j most = min most (length steps - written outcomes j)

    -- the explanation at place j is exactly this list, or is refused where so many places are too few for it
    abbrev pub IsGiven : ℕ → ℕ → List (Step G) → Type 0
    IsGiven j most list =
        ((length list ≤ places_at j most) × (outcome_at outcomes j ≡ Ok (Explained (length list))) × (written_at j (length list) ≡ list))
        ⊎ ((places_at j most < length list) × (outcome_at outcomes j ≡ Err BufferTooShort))

    -- one list explains x, which is settled at g before place i: between two begins every explanation of x where as many are settled is that list
    pub record OneExplanation (i : ℕ) (settled : runs.Settled G) (x : Statement) (g : G) : Type 0 where
      pub list : List (Step G)
      pub explanation : Explanation a (base_at i) settled x g list
      pub every : (j most : ℕ) → j < n → (before calls outcomes j).begins ≡ (before calls outcomes i).begins →
          (before calls outcomes i).settled ≤ (before calls outcomes j).settled → call_at calls j ≡ Explain x most → IsGiven j most list

    -- the run before place i, each statement of which has one explanation; what gets a grade there is settled
    pub record Accounted (i : ℕ) : Type 0 where
      pub settled : runs.Settled G
      pub run : RunAt i settled
      pub graded : (x : Statement) (g : G) → Told i x (Graded g) → In settled (x, g)
      pub explains : (x : Statement) (most : ℕ) → call_at calls i ≡ Explain x most → Explainable i settled x (outcome_at outcomes i)
      pub one : (x : Statement) (g : G) → In settled (x, g) → OneExplanation i settled x g

    -- at every place
    abbrev pub ExplanationsAreOne : Type 0
    ExplanationsAreOne = (i : ℕ) → i < n → Accounted i
