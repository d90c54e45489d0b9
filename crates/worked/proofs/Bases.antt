-- What settling over the base of the worked cases with nothing accepted comes to.
use Rattle.std.specs.Prelude.{◌≡◌, ℕ, ◌≤◌, [], length}
use Rattle.standpoint.specs.Algebra.{Algebra}
use Rattle.standpoint.specs.Statements.{contradiction}
use Rattle.standpoint.specs.Derivations.{Base}
use Rattle.runs.specs.declared.Stand.{Stand}
use Rattle.runs.specs.declared.Stand.TheVariants.{Ended, Full}
use Rattle.runs.specs.Runs.{Settled, Unsettled, Stands, Settling}
use Rattle.worked.specs.Bases.{bare}

-- settling n times from the beginning settles so many, after which the run stands so, and the contradiction is not settled
pub record ComesTo {G : Type 0} (a : Algebra G) (base : Base G) (rows n count : ℕ) (how : Stand) : Type 0 where
  pub settles : (later : Settled G) → Settling a base rows n [] later → length later ≡ count
  pub stands : (later : Settled G) (stand : Stand) → Settling a base rows n [] later → Stands a base rows later stand → stand ≡ how
  pub consistent : (later : Settled G) → Settling a base rows n [] later → Unsettled later contradiction

-- with nothing accepted, on 7 rows or more, and on 6, 5 and 4 rows
pub record BareOnRows {G : Type 0} (a : Algebra G) : Type 0 where
  pub seven : (rows : ℕ) → 7 ≤ rows → ComesTo a bare rows 10 7 Ended
  pub six : ComesTo a bare 6 10 4 Full
  pub five : ComesTo a bare 5 10 3 Full
  pub four : ComesTo a bare 4 10 3 Full
