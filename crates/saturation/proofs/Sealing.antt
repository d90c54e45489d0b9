-- A settle seals the base, and its phase tells whether the run stands full.
use Rattle.std.proofs.Common.{◌≡◌, ℕ, ◌≤◌, true, false, Ok, refl, sym, ap, ◌∙◌, subst}
use Rattle.standpoint.specs.declared.sizes.Sizes.{Sizes}
use Rattle.standpoint.specs.Algebra.{Algebra}
use Rattle.runs.specs.declared.Stand.{Stand}
use Rattle.runs.specs.declared.Stand.TheVariants.{Open, Ended, Full}
use Rattle.saturation.specs.declared.phase.Phase.{Phase}
use Rattle.saturation.specs.declared.phase.Phase.TheVariants as phase
use Rattle.saturation.specs.declared.phase.Phase.TheVariants.{Idle, Taking, Running}
use Rattle.saturation.specs.declared.table.Table.{Table}
use Rattle.saturation.specs.Phases.{is_begun, sizes_of, stands_full, phase_of}
use Rattle.saturation.specs.Tables.{State, view}
use Rattle.saturation.specs.Turns.{TakesTurns}
use Rattle.saturation.specs.Saturation.{SettledRows, TableSettles}
use Rattle.saturation.specs.Memory.{SettlesRows}
use Rattle.saturation.proofs.Leaving.{settles_none}
use Rattle.saturation.proofs.Turning.{takes_rows, takes_stands, takes_run}
use Rattle.saturation.specs.Saturation.SettledRows.{stood_full, went_on}

pub not_standing : (p : Phase) → ((n : Sizes) → p ≡ phase.Full n → ⊥) → stands_full p ≡ false
not_standing Idle other = refl
not_standing (Taking n) other = refl
not_standing (Running n) other = refl
not_standing (phase.Full n) other = absurd (other n refl)

pub phase_on : (n : Sizes) (stand : Stand) → (stand ≡ Full → ⊥) → Running n ≡ phase_of n stand
phase_on n Open other = refl
phase_on n Ended other = refl
phase_on n Full other = absurd (other refl)

-- a settle leaves rows as turns do, also where it takes none
pub settled_rows : {G : Type 0} (s t : Table G) (count : ℕ) (stand : Stand) → SettledRows s t count stand → SettlesRows (view s) (view t) count
settled_rows s t _ _ (stood_full full same phase) = subst (λ (z : State _). SettlesRows (view s) z 0) (sym same) (settles_none (view s))
settled_rows s t _ _ (went_on free phase rows stands) = rows

module _ {G : Type 0} (al : Algebra G) (n : ℕ) (r : ℕ × Stand) (s t : Table G) (u : State G) where
  pub went_so : (sizes : Sizes) → sizes ≡ sizes_of s.phase → is_begun s.phase ≡ true → stands_full s.phase ≡ false → view t ≡ u → t.phase ≡ phase_of sizes r.1 →
      r.0 ≤ n → TakesTurns al sizes.individuals n (view s) u r.0 r.1 → TableSettles al n s t (Ok r)
  went_so sizes are begun free rows_are ends within turns =
      let v = (sizes_of s.phase).individuals in
      let told : TakesTurns al v n (view s) (view t) r.0 r.1 =
      subst (λ (m : Sizes). TakesTurns al m.individuals n (view s) (view t) r.0 r.1) are (subst (λ (z : State G). TakesTurns al sizes.individuals n (view s) z r.0 r.1) (sym rows_are) turns) in (
        begun,
        within,
        went_on free (ends ∙ ap (λ (m : Sizes). phase_of m r.1) are) (takes_rows al v n (view s) (view t) r.0 r.1 told) (takes_stands al v n (view s) (view t) r.0 r.1 told),
        λ _. told,
        λ _. takes_run al v n (view s) (view t) r.0 r.1 told,
      )
