-- What a call of a list comes to, by what the calls themselves answer.
use Rattle.std.specs.Prelude.{◌≡◌, ℕ, suc, min, List, length, take, drop, Ok, Err, Result}
use Rattle.standpoint.specs.declared.refusal.Refusal.{Refusal}
use Rattle.standpoint.specs.declared.statement.Statement.{Statement}
use Rattle.standpoint.specs.declared.step.Step.{Step}
use Rattle.standpoint.specs.Algebra.{Algebra, Laws}
use Rattle.standpoint.specs.Derivations.{Base}
use Rattle.runs.specs.declared.Stand.{Stand}
use Rattle.runs.specs.Runs as runs
use Rattle.saturation.specs.declared.table.Table.{Table}
use Rattle.saturation.specs.Tables.{view, capacity}
use Rattle.reasoner.specs.declared.asking.Answer.{Answer}
use Rattle.reasoner.specs.Models.{Holding}
use Rattle.reasoner.specs.Calls.{Unchanged, Begun, Adds, SettledSo}
use Rattle.reasoner.specs.Asking.{Asked}
use Rattle.explanation.specs.Explaining.{Explains, ExplainsAs}
use Rattle.replay.specs.declared.call.Call.{Call}
use Rattle.replay.specs.declared.call.Call.TheVariants.{Begin, Add, Settle, Ask, Explain}
use Rattle.replay.specs.declared.call.Done.{Done}
use Rattle.replay.specs.declared.call.Done.TheVariants.{Began, Added, Settled, Said, Explained}
use Rattle.replay.specs.Pasts.{Outcome, call_at, outcome_at, written}

-- what a call answers, as an outcome
abbrev pub as_outcome : {G R : Type 0} → (R → Done G) → Result R Refusal → Outcome G
as_outcome done (Ok r) = Ok (done r)
as_outcome done (Err e) = Err e

-- an explanation has at most so many places of the room, and leaves the others as they were
pub record ExplainsWithin {G : Type 0} (x : Statement) (most : ℕ) (s : Table G) (old new : List (Step G)) (r : Result ℕ Refusal) : Type 0 where
  pub places : ℕ
  pub at_most : places ≡ min most (length old)
  pub beyond : drop places new ≡ drop places old
  pub explains : Explains s x (take places old) (take places new) r
  pub meaning : (a : Algebra G) → Laws a → (b : Base G) (l : runs.Settled G) → Holding a b s l → ExplainsAs a b l x (take places old) (take places new) r

module _ {G : Type 0} (a : Algebra G) where
  -- what a call makes of the reasoner and of the room for steps
  abbrev pub Performs : Call G → Outcome G → Table G → Table G → List (Step G) → List (Step G) → Type 0
  Performs (Begin n) o s t old new = (new ≡ old) × ((r : Result (Unit {0}) Refusal) × (o ≡ as_outcome (λ _. Began) r) × Begun a n s t r)
  Performs (Add x g) o s t old new = (new ≡ old) × ((r : Result (Unit {0}) Refusal) × (o ≡ as_outcome (λ _. Added) r) × Adds a x g s t r)
  Performs (Settle n) o s t old new = (new ≡ old) × ((r : Result (ℕ × Stand) Refusal) × (o ≡ as_outcome (λ p. Settled p.0 p.1) r) × SettledSo a n s t r)
  Performs (Ask x) o s t old new = (new ≡ old) × Unchanged s t × ((r : Result (Answer G) Refusal) × (o ≡ as_outcome Said r) × Asked s x r)
  Performs (Explain x most) o s t old new = Unchanged s t × ((r : Result ℕ Refusal) × (o ≡ as_outcome Explained r) × ExplainsWithin x most s old new r)

  -- the calls before place i were performed in order: from s and these steps they led to this reasoner and these steps
  pub data Performed (calls : List (Call G)) (outcomes : List (Outcome G)) (s : Table G) (steps : List (Step G)) : ℕ → Table G → List (Step G) → Type 0 where
    none : Performed calls outcomes s steps 0 s steps
    one_more : {i : ℕ} {t u : Table G} {p q : List (Step G)} → Performed calls outcomes s steps i t p →
        capacity (view u) ≡ capacity (view t) → length q ≡ length p → take (written outcomes i) q ≡ take (written outcomes i) p →
        Performs (call_at calls i) (outcome_at outcomes i) t u (drop (written outcomes i) p) (drop (written outcomes i) q) →
        Performed calls outcomes s steps (suc i) u q
