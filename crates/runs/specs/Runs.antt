-- How a run settles statements, best grade first.
use Rattle.std.specs.Prelude.{◌≡◌, ℕ, suc, ◌<◌, ◌⊎◌, List, [], ◌∷◌, ◌++◌, length}
use Rattle.standpoint.specs.declared.statement.Statement.{Statement}
use Rattle.standpoint.specs.Lists.{In, Distinct}
use Rattle.standpoint.specs.Algebra.{Algebra, NoWorse}
use Rattle.standpoint.specs.Statements.{Before}
use Rattle.standpoint.specs.Rules.{Rule}
use Rattle.standpoint.specs.Derivations.{Base, Leaf}
use Rattle.runs.specs.declared.Stand.{Stand}
use Rattle.runs.specs.declared.Stand.TheVariants.{Open, Ended, Full}

-- the settled statements with their grades, in settling order
abbrev pub Settled : Type 0 → Type 0
Settled G = List (Statement × G)

-- x is not settled at any grade
abbrev pub Unsettled : {G : Type 0} → Settled G → Statement → Type 0
Unsettled {G} settled x = (g : G) → In settled (x, g) → ⊥

module _ {G : Type 0} (a : Algebra G) (base : Base G) where
  -- a leaf, or one rule over settled premises, gives x at g
  pub data Offers (settled : Settled G) : Statement → G → Type 0 where
    leaf : {x : Statement} {g : G} → Leaf a base x g → Offers settled x g
    one : {rule : ℕ} {p x : Statement} {g : G} → Rule base.sizes.individuals rule (p ∷ []) x →
        In settled (p, g) → Offers settled x g
    two : {rule : ℕ} {p q x : Statement} {g h : G} → Rule base.sizes.individuals rule (p ∷ q ∷ []) x →
        In settled (p, g) → In settled (q, h) → Offers settled x (a.join g h)
    three : {rule : ℕ} {p q r x : Statement} {g h i : G} → Rule base.sizes.individuals rule (p ∷ q ∷ r ∷ []) x →
        In settled (p, g) → In settled (q, h) → In settled (r, i) → Offers settled x (a.join (a.join g h) i)

  abbrev pub Known : Settled G → Statement → Type 0
  Known settled x = (g : G) × Offers settled x g

  -- x is settled next, at g: no unsettled statement is offered better, and among equals x is the least
  pub record Next (settled : Settled G) (x : Statement) (g : G) : Type 0 where
    pub offered : Offers settled x g
    pub unsettled : Unsettled settled x
    pub best : (y : Statement) (h : G) → Offers settled y h → Unsettled settled y → NoWorse a g h
    pub least : (y : Statement) → Offers settled y g → Unsettled settled y → (x ≡ y) ⊎ Before x y

  -- a run begins with nothing settled, and settles what is next
  pub data Run : Settled G → Type 0 where
    fresh : Run []
    settles : {settled : Settled G} {x : Statement} {g : G} → Run settled → Next settled x g → Run (settled ++ (x, g) ∷ [])

  -- the known statements outnumber the rows
  abbrev pub StandsFull : ℕ → Settled G → Type 0
  StandsFull rows settled = (xs : List Statement) × Distinct xs × ((x : Statement) → In xs x → Known settled x) × (rows < length xs)

  -- every known statement is settled
  abbrev pub AllSettled : Settled G → Type 0
  AllSettled settled = (x : Statement) (g : G) → Offers settled x g → (m : G) × In settled (x, m)

  -- full; else ended once every known statement is settled, and open while one is not
  abbrev pub Stands : ℕ → Settled G → Stand → Type 0
  Stands rows settled Full = StandsFull rows settled
  Stands rows settled Ended = (StandsFull rows settled → ⊥) × AllSettled settled
  Stands rows settled Open = (StandsFull rows settled → ⊥) × ((x : Statement) × Known settled x × Unsettled settled x)

  -- settling n times, unless the run stands ended or full before, settles these later ones in turn
  pub data Settling (rows : ℕ) : ℕ → Settled G → Settled G → Type 0 where
    no_more_asked : {settled : Settled G} → Settling rows 0 settled []
    no_more_to_do : {n : ℕ} {settled : Settled G} → Stands rows settled Full ⊎ Stands rows settled Ended → Settling rows (suc n) settled []
    one_more : {n : ℕ} {settled later : Settled G} {x : Statement} {g : G} → (Stands rows settled Full → ⊥) → Next settled x g →
        Settling rows n (settled ++ (x, g) ∷ []) later → Settling rows (suc n) settled ((x, g) ∷ later)
