-- What a reasoner stands for.
use Rattle.std.specs.Prelude.{◌≡◌, [], ◌∷◌}
use Rattle.standpoint.specs.declared.sizes.Sizes.{Sizes}
use Rattle.standpoint.specs.declared.statement.Statement.{Statement}
use Rattle.standpoint.specs.Sizes.{InRange}
use Rattle.standpoint.specs.Algebra.{Algebra}
use Rattle.standpoint.specs.Derivations.{Base}
use Rattle.runs.specs.Runs.{Settled}
use Rattle.saturation.specs.declared.table.Table.{Table}
use Rattle.saturation.specs.declared.phase.Phase.TheVariants.{Idle, Taking, Running, Full}
use Rattle.saturation.specs.Tables.{view}
use Rattle.saturation.specs.Saturation.{Holds, HoldsFull}

-- not begun; begun with a base that takes statements; sealed with what was settled; the same, standing full
pub data Model (G : Type 0) : Type 0 where
  idle : Model G
  based : Base G → Model G
  running : Base G → Settled G → Model G
  stopped : Base G → Settled G → Model G

-- nothing accepted yet
abbrev pub empty_base : {G : Type 0} → Sizes → Base G
empty_base n = record { sizes = n; accepted = [] }

-- one statement more is accepted
abbrev pub accepting : {G : Type 0} → Base G → Statement → G → Base G
accepting b x g = record { sizes = b.sizes; accepted = (x, g) ∷ b.accepted }

-- the reasoner stands for the model, under a kind of grade
abbrev pub StandsFor : {G : Type 0} → Algebra G → Model G → Table G → Type 0
StandsFor a idle t = t.phase ≡ Idle
StandsFor a (based b) t = (t.phase ≡ Taking b.sizes) × InRange b.sizes × Holds a b [] (view t)
StandsFor a (running b l) t = (t.phase ≡ Running b.sizes) × InRange b.sizes × Holds a b l (view t)
StandsFor a (stopped b l) t = (t.phase ≡ Full b.sizes) × InRange b.sizes × HoldsFull a b l (view t)

-- the reasoner is begun over this base, and has settled these so far
pub data Holding {G : Type 0} (a : Algebra G) (b : Base G) (t : Table G) : Settled G → Type 0 where
  taking : StandsFor a (based b) t → Holding a b t []
  going : {l : Settled G} → StandsFor a (running b l) t → Holding a b t l
  standing : {l : Settled G} → StandsFor a (stopped b l) t → Holding a b t l
