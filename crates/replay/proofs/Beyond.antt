-- No call writes beyond the rows that are used.
use Rattle.std.proofs.Common.{◌≡◌, ℕ, List, sym, subst}
use Rattle.standpoint.specs.declared.step.Step.{Step}
use Rattle.standpoint.specs.Algebra.{Algebra}
use Rattle.saturation.specs.declared.row.Row.{Row}
use Rattle.saturation.specs.declared.table.Table.{Table}
use Rattle.saturation.specs.Tables.{State, view, fresh}
use Rattle.saturation.specs.Memory.{Leaves, SameBeyond}
use Rattle.saturation.proofs.RowFacts.{fits_of}
use Rattle.saturation.proofs.Leaving.{beyond_refl, beyond_trans, leaves_beyond}
use Rattle.reasoner.proofs.Leaving.{unchanged_leaves, begin_leaves, add_leaves, settle_leaves}
use Rattle.replay.specs.declared.call.Call.{Call}
use Rattle.replay.specs.declared.call.Call.TheVariants.{Begin, Add, Settle, Ask, Explain}
use Rattle.replay.specs.Pasts.{Outcome}
use Rattle.replay.specs.Performing.{Performs, Performed, none, one_more}

module _ {G : Type 0} (a : Algebra G) where
  performs_leave : (call : Call G) (o : Outcome G) (s t : Table G) (old new : List (Step G)) → Performs a call o s t old new → Leaves (view s) (view t)
  performs_leave (Begin n) o s t old new h = begin_leaves s t a n h.1.0 h.1.2
  performs_leave (Add x g) o s t old new h = add_leaves s t a x g h.1.0 h.1.2
  performs_leave (Settle n) o s t old new h = settle_leaves s t a n h.1.0 h.1.2
  performs_leave (Ask x) o s t old new h = unchanged_leaves s t h.1
  performs_leave (Explain x most) o s t old new h = unchanged_leaves s t h.0

  pub performed_beyond : (calls : List (Call G)) {outcomes : List (Outcome G)} {s : Table G} {steps : List (Step G)} {n : ℕ} {t : Table G} {left : List (Step G)} →
      Performed a calls outcomes s steps n t left → SameBeyond (view s) (view t)
  performed_beyond calls {s = s} none = beyond_refl (view s)
  performed_beyond calls (one_more {i} {t} {u} {p} {q} before long same kept now) =
      beyond_trans (performed_beyond calls before) (leaves_beyond (fits_of u) (performs_leave _ _ t u _ _ now))

-- the same of the lent memory
pub memory_beyond : {G : Type 0} (s t : Table G) (rows rows_left : List Row) (grades grades_left : List G) → view s ≡ fresh rows grades → rows_left ≡ t.rows.now → grades_left ≡ t.grades.now →
    SameBeyond (view s) (view t) → SameBeyond (fresh rows grades) (fresh rows_left grades_left)
memory_beyond s t rows rows_left grades grades_left is rows_are grades_are b =
    let from : SameBeyond (fresh rows grades) (view t) = subst (λ (z : State _). SameBeyond z (view t)) is b in
    let told : SameBeyond (fresh rows grades) (fresh t.rows.now t.grades.now) = record { rows_long = from.rows_long; grades_long = from.grades_long; rows = from.rows; grades = from.grades } in
    subst (λ (z : List Row). SameBeyond (fresh rows grades) (fresh z grades_left)) (sym rows_are) (subst (λ (z : List _). SameBeyond (fresh rows grades) (fresh t.rows.now z)) (sym grades_are) told)
