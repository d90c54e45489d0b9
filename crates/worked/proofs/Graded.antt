-- The best grade of a statement, from a run that settled it.
use Rattle.std.proofs.Common.{◌≡◌, ℕ, Bool, true, false, cond, [], ◌∷◌, Some, None, Option, subst, inl, inr, arith}
use Rattle.standpoint.specs.declared.statement.Statement.{Statement}
use Rattle.standpoint.specs.Lists.{Tells, In}
use Rattle.standpoint.specs.Algebra.{Algebra, Laws}
use Rattle.standpoint.specs.Statements.{same}
use Rattle.standpoint.specs.Derivations.{Base}
use Rattle.runs.specs.Runs.{Settled}
use Rattle.runs.specs.Runs.Run.{fresh}
use Rattle.runs.specs.Model.{model}
use Rattle.reasoner.specs.Asking.{BestGrade}
use Rattle.runs.proofs.Best.{settled_is_best}
use Rattle.runs.proofs.OneRun.{settling_run}
use Rattle.runs.proofs.Told.{same_told}
use Rattle.runs.proofs.Modelled.{model_settles}

-- a code of the grade at which x is settled
abbrev pub code_of : {G C : Type 0} → (G → C) → Statement → Settled G → Option C
code_of code x [] = None
code_of code x (o ∷ settled) = cond (same o.0 x) (Some (code o.1)) (code_of code x settled)

code_settled : {G C : Type 0} (code : G → C) (x : Statement) (settled : Settled G) (c : C) → code_of code x settled ≡ Some c → (g : G) × In settled (x, g) × (code g ≡ c)
code_settled code x [] c e = absurd (grind arith)
code_settled {G} {C} code x (o ∷ settled) c e = go (same o.0 x) (same_told o.0 x) e (code_settled code x settled c)
  where
    go : (b : Bool) → Tells b (o.0 ≡ x) → cond b (Some (code o.1)) (code_of code x settled) ≡ Some c →
        (code_of code x settled ≡ Some c → (g : G) × In settled (x, g) × (code g ≡ c)) → (g : G) × In (o ∷ settled) (x, g) × (code g ≡ c)
    go true t e rest = (o.1, inl (let here : ◌≡◌ {A = Statement × G} (o.0, o.1) (x, o.1) = cc in here), cc)
    go false t e rest = let w = rest e in (w.0, inr w.1, w.2)

-- the code of a grade tells it, and the computed run settles x at a grade of that code
pub best_by_run : {G C : Type 0} (a : Algebra G) → Laws a → (base : Base G) (code : G → C) (rows n : ℕ) (x : Statement) (g : G) → ((h : G) → code h ≡ code g → h ≡ g) →
    code_of code x (model a base rows n).0 ≡ Some (code g) → BestGrade a base x g
best_by_run a laws base code rows n x g tells e =
    let w = code_settled code x (model a base rows n).0 (code g) e in
    let run = settling_run a base fresh (model_settles a laws base rows n).0 in
    settled_is_best a laws base (model a base rows n).0 run x g (subst (λ z. In (model a base rows n).0 (x, z)) (tells w.0 w.2) w.1)
