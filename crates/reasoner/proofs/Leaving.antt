-- What the calls leave of memory.
use Rattle.std.proofs.Common.{◌≡◌, ℕ, Ok, Err, Result, sym, subst}
use Rattle.standpoint.specs.declared.refusal.Refusal.{Refusal}
use Rattle.standpoint.specs.declared.sizes.Sizes.{Sizes}
use Rattle.standpoint.specs.declared.statement.Statement.{Statement}
use Rattle.standpoint.specs.Algebra.{Algebra}
use Rattle.runs.specs.declared.Stand.{Stand}
use Rattle.saturation.specs.declared.table.Table.{Table}
use Rattle.saturation.specs.Tables.{State, view, fresh}
use Rattle.saturation.specs.Memory.{Leaves, KeepsSettled}
use Rattle.saturation.proofs.Leaving.{leaves_refl, keeps_refl}
use Rattle.saturation.proofs.Sealing.{settled_rows}
use Rattle.reasoner.specs.Calls.{Unchanged, Begun, Adds, SettledSo}

-- a table that is begun anew has the rows that it had
pub restarted_leaves : {G : Type 0} (s m t : State G) → m ≡ fresh s.rows s.grades → Leaves m t → Leaves s t
restarted_leaves s m t is l =
    let from : Leaves (fresh s.rows s.grades) t = subst (λ (z : State _). Leaves z t) is l in
    record { rows_long = from.rows_long; grades_long = from.grades_long; beyond = from.beyond; free_rows = from.free_rows; free_grades = from.free_grades }

module _ {G : Type 0} (s t : Table G) where
  pub unchanged_leaves : Unchanged s t → Leaves (view s) (view t)
  unchanged_leaves same = subst (Leaves (view s)) (sym same.0) (leaves_refl (view s))

  pub unchanged_keeps : Unchanged s t → KeepsSettled (view s) (view t)
  unchanged_keeps same = subst (KeepsSettled (view s)) (sym same.0) (keeps_refl (view s))

  module _ (a : Algebra G) where
    pub begin_leaves : (n : Sizes) (r : Result (Unit {0}) Refusal) → Begun a n s t r → Leaves (view s) (view t)
    begin_leaves n (Ok tt) h = h.3
    begin_leaves n (Err e) h = unchanged_leaves h.0

    pub add_leaves : (x : Statement) (g : G) (r : Result (Unit {0}) Refusal) → Adds a x g s t r → Leaves (view s) (view t)
    add_leaves x g (Ok tt) h = h.2.leaves
    add_leaves x g (Err e) h = unchanged_leaves h.0

    pub add_keeps : (x : Statement) (g : G) (r : Result (Unit {0}) Refusal) → Adds a x g s t r → KeepsSettled (view s) (view t)
    add_keeps x g (Ok tt) h = h.2.kept_settled
    add_keeps x g (Err e) h = unchanged_keeps h.0

    pub settle_leaves : (n : ℕ) (r : Result (ℕ × Stand) Refusal) → SettledSo a n s t r → Leaves (view s) (view t)
    settle_leaves n (Ok r) h = (settled_rows s t r.0 r.1 h.5).leaves
    settle_leaves n (Err e) h = unchanged_leaves h.0

    pub settle_keeps : (n : ℕ) (r : Result (ℕ × Stand) Refusal) → SettledSo a n s t r → KeepsSettled (view s) (view t)
    settle_keeps n (Ok r) h = (settled_rows s t r.0 r.1 h.5).kept_settled
    settle_keeps n (Err e) h = unchanged_keeps h.0
