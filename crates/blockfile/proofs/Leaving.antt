-- What a load leaves of memory: what begin and one add a record leave.
use Rattle.std.proofs.Common.{ℕ, ◌≤◌, List, Ok, Err, Option, Result, sym, subst, arith}
use Rattle.standpoint.specs.declared.statement.Statement.{Statement}
use Rattle.standpoint.specs.Algebra.{Algebra}
use Rattle.saturation.specs.declared.table.Table.{Table}
use Rattle.saturation.specs.Tables.{State, view}
use Rattle.saturation.specs.Memory.{Leaves}
use Rattle.saturation.proofs.Leaving.{leaves_refl, leaves_trans, offered_more}
use Rattle.reasoner.specs.Calls.{AddsRow}
use Rattle.reasoner.proofs.Leaving.{unchanged_leaves}
use Rattle.blockfile.specs.declared.fault.BlockFault.TheVariants.{Sum, Layout, Begin, InRecord}
use Rattle.blockfile.specs.declared.fault.LoadFault.{LoadFault}
use Rattle.blockfile.specs.declared.fault.LoadFault.TheVariants.{Length, InBlock}
use Rattle.blockfile.specs.Loads.{Added, none, one_more, StoppedAt, Loaded}
use Rattle.blockfile.proofs.Accepting.{refused_leaves}

module _ {G : Type 0} where
  more_rows : (a : Algebra G) (x : Statement) (g : G) (s t : Table G) → AddsRow a x g s t → s.len ≤ t.len
  more_rows a x g s t now = offered_more a (view s) (view t) x g _ _ now.row

  added_leaves : (a : Algebra G) (s : Table G) {rs : List (Statement × G)} {t : Table G} → Added a s rs t → (s.len ≤ t.len) × Leaves (view s) (view t)
  added_leaves a s none = (omega arith, leaves_refl (view s))
  added_leaves a s (one_more {rs} {t} {u} {x} {g} before now) =
      let w = added_leaves a s before in
      let low = w.0 in
      let high = more_rows a x g t u now.2 in
      (omega arith, leaves_trans high w.1 now.2.leaves)

module _ {G : Type 0} (decoded : ℕ → Option G) (file : List ℕ) (al : Algebra G) where
  stopped_leaves : (s t : Table G) (f : _) → StoppedAt decoded file al 1 s t f → (s.len ≤ t.len) × Leaves (view s) (view t)
  stopped_leaves s t f stop =
      let w = added_leaves al s stop.before.2 in
      let same = refused_leaves decoded file al f stop.reached t stop.refused in
      subst (λ (z : State G). (s.len ≤ z.len) × Leaves (view s) z) (sym same.0) w

  pub loaded_leaves : (letter : ℕ) (s t : Table G) (r : Result (Unit {0}) LoadFault) → Loaded decoded file al letter s t r → Leaves (view s) (view t)
  loaded_leaves letter s t (Ok tt) h = let w = added_leaves al h.2.0 h.2.2.2 in leaves_trans w.0 h.2.1.3 w.1
  loaded_leaves letter s t (Err Length) h = unchanged_leaves s t h.0
  loaded_leaves letter s t (Err (InBlock (Sum block))) h = unchanged_leaves s t h.0
  loaded_leaves letter s t (Err (InBlock (Layout block))) h = unchanged_leaves s t h.0
  loaded_leaves letter s t (Err (InBlock (Begin why))) h = unchanged_leaves s t h.1.0
  loaded_leaves letter s t (Err (InBlock (InRecord f))) h = let w = stopped_leaves h.3.0 t f h.3.2 in leaves_trans w.0 h.3.1.3 w.1
