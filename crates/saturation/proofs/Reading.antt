-- What is read at settling places stands in the settled list.
use Rattle.std.proofs.Common.{ℕ, ◌<◌, ◌≤◌, List, [], ◌∷◌, length, get_or, refl, arith}
use Rattle.std.proofs.lemmas.List.{get_or_default}
use Rattle.standpoint.specs.declared.statement.Statement.{Statement}
use Rattle.saturation.specs.Tables.{State, statement_at, turn_at}
use Rattle.saturation.specs.Places.{StandAt}
use Rattle.saturation.specs.Searching.{Lists, SettledPlaces, premises_in}
use Rattle.saturation.proofs.Lists.{Fit, premise_at}

module _ {G : Type 0} (s : State G) (fit : Fit s) (grades_fit : s.len ≤ length s.grades) (d : G) where
  pub premises_stand : (places : List ℕ) → SettledPlaces s.settled places → (l : List (Statement × G)) → Lists s l → StandAt l places (premises_in s d places)
  premises_stand [] below l is = tt
  premises_stand (k ∷ ks) below l is =
      let at = turn_at s k in
      let within : at < length s.grades = let h = fit.1 k below.0 in omega arith in
      let p : Statement × G = (statement_at s at, get_or s.grades at d) in
      (premise_at s l k p is below.0 (refl, λ e. get_or_default s.grades at e d within), premises_stand ks below.1 l is)
