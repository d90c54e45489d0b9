-- What replay answers on a list of calls of which it is known what they come to.
use Rattle.std.proofs.Common.{◌≡◌, ℕ, List, length, sym, ap, subst}
use Rattle.standpoint.specs.declared.step.Step.{Step}
use Rattle.standpoint.specs.Algebra.{Algebra}
use Rattle.saturation.specs.declared.row.Row.{Row}
use Rattle.saturation.specs.Tables.{capacity}
use Rattle.replay.specs.declared.call.Call.{Call}
use Rattle.replay.specs.Pasts.{Outcome}
use Rattle.replay.specs.Performing.{Performed}
use Rattle.saturation.specs.Rows.{rows_in}
use Rattle.replay.specs.Replays.{Replayed}
use Rattle.worked.specs.Cases.{ComeTo}

pub replayed : {G : Type 0} (a : Algebra G) (rows rows_left : List Row) (grades grades_left : List G) (calls : List (Call G)) (outcomes : List (Outcome G)) (steps left : List (Step G)) (n : ℕ) →
    Replayed a rows grades calls outcomes steps n rows_left grades_left left → n ≡ length calls → length outcomes ≡ length calls →
    (expected : List (Outcome G)) → ComeTo a (rows_in rows grades) calls expected → outcomes ≡ expected
replayed a rows rows_left grades grades_left calls outcomes steps left n r all long expected comes =
    comes r.new r.last outcomes steps left r.not_begun (ap capacity r.empty) long
    (subst (λ (k : ℕ). Performed a calls outcomes r.new steps k r.last left) all r.performed)

-- what is known of one list of calls is known of the same list
pub come_to_same : {G : Type 0} (a : Algebra G) (rows : ℕ) (calls known : List (Call G)) (expected : List (Outcome G)) → calls ≡ known → ComeTo a rows known expected → ComeTo a rows calls expected
come_to_same {G} a rows calls known expected is = subst (λ (cs : List (Call G)). ComeTo a rows cs expected) (sym is)
