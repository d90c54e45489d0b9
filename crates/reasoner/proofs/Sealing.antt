-- A settle seals the base and goes on with the run.
use Rattle.std.proofs.Common.{◌≡◌, ℕ, ◌≤◌, true, false, [], ◌++◌, Ok, Err, Result, refl, sym, ap, ◌∙◌, subst}
use borrow.Author.Tests.{both_ways}
use Rattle.standpoint.specs.declared.refusal.Refusal.{Refusal}
use Rattle.standpoint.specs.declared.sizes.Sizes.{Sizes}
use Rattle.standpoint.specs.Sizes.{InRange}
use Rattle.standpoint.specs.Algebra.{Algebra}
use Rattle.standpoint.specs.Derivations.{Base}
use Rattle.runs.specs.Runs.{Settled}
use Rattle.runs.specs.declared.Stand.{Stand}
use Rattle.runs.specs.declared.Stand.TheVariants.{Open, Ended, Full}
use Rattle.saturation.specs.declared.table.Table.{Table}
use Rattle.saturation.specs.Phases.{is_begun, sizes_of, stands_full, phase_of}
use Rattle.saturation.specs.Tables.{view, capacity}
use Rattle.saturation.proofs.Leaving.{leaves_capacity}
use Rattle.saturation.proofs.Sealing.{settled_rows}
use Rattle.saturation.specs.Turns.{TakesTurns}
use Rattle.saturation.specs.Saturation.{Holds, HoldsFull, HoldsAs, Settles, SettledRows, TableSettles}
use Rattle.saturation.specs.Saturation.SettledRows.{stood_full, went_on}
use Rattle.reasoner.specs.Models.{stopped, StandsFor}
use Rattle.reasoner.specs.Calls.{model_after, SettlesOn, SettledSo}

-- a run that stands so is stood for in the phase that tells it
stands_for_after : {G : Type 0} (al : Algebra G) (b : Base G) (l : Settled G) (t : Table G) (stand : Stand) → t.phase ≡ phase_of b.sizes stand → InRange b.sizes → HoldsAs al b l (view t) stand → StandsFor al (model_after b l stand) t
stands_for_after al b l t Open is range h = (is, range, h)
stands_for_after al b l t Ended is range h = (is, range, h)
stands_for_after al b l t Full is range h = (is, range, h)

-- a table that does not stand full has the phase of how it stands after a settle
phase_told : {G : Type 0} (s t : Table G) (count : ℕ) (stand : Stand) → stands_full s.phase ≡ false → SettledRows s t count stand → t.phase ≡ phase_of (sizes_of s.phase) stand
phase_told s t _ _ free (stood_full full same phase) = absurd (both_ways _ free full)
phase_told s t _ _ free (went_on still phase rows stands) = phase

-- and one that does is left as it is
left_full : {G : Type 0} (s t : Table G) (count : ℕ) (stand : Stand) → stands_full s.phase ≡ true → SettledRows s t count stand → (count ≡ 0) × (stand ≡ Full) × (view t ≡ view s) × (t.phase ≡ s.phase)
left_full s t _ _ full (stood_full still same phase) = (refl, refl, same, phase)
left_full s t _ _ full (went_on free phase rows stands) = absurd (both_ways _ free full)

module _ {G : Type 0} (al : Algebra G) (n : ℕ) (s t : Table G) (r : ℕ × Stand) (rows : SettledRows s t r.0 r.1)
    (turns : stands_full s.phase ≡ false → TakesTurns al (sizes_of s.phase).individuals n (view s) (view t) r.0 r.1)
    (run : stands_full s.phase ≡ false → Settles al (sizes_of s.phase).individuals (view s) (view t) n r.0 r.1) where
  pub settles_on : (b : Base G) (l : Settled G) → stands_full s.phase ≡ false → sizes_of s.phase ≡ b.sizes → InRange b.sizes → Holds al b l (view s) → SettlesOn al n b l s t r.0 r.1
  settles_on b l free sizes range h =
      let w = run free b (sym (ap (λ (m : Sizes). m.individuals) sizes)) l h in
      let phase = phase_told s t r.0 r.1 free rows ∙ ap (λ (m : Sizes). phase_of m r.1) sizes in
      (w.0, (w.1.0, (w.1.1.0, (w.1.1.1.0, stands_for_after al b (l ++ w.0) t r.1 phase range w.1.1.1.1))))

  pub stays_full : (b : Base G) (l : Settled G) → StandsFor al (stopped b l) s → (r.0 ≡ 0) × (r.1 ≡ Full) × StandsFor al (stopped b l) t
  stays_full b l h =
      let left = left_full s t r.0 r.1 (ap stands_full h.0) rows in
      (left.0, left.1, (left.3 ∙ h.0, h.1, subst (HoldsFull al b l) (sym left.2) h.2))

  pub settled_so : is_begun s.phase ≡ true → r.0 ≤ n → SettledSo al n s t (Ok r)
  settled_so begun within = (
    begun,
    λ b h. settles_on b [] (ap stands_full h.0) (ap sizes_of h.0) h.1 h.2,
    λ b l h. settles_on b l (ap stands_full h.0) (ap sizes_of h.0) h.1 h.2,
    stays_full,
    within,
    rows,
    turns,
  )

pub settles_as_table : {G : Type 0} (al : Algebra G) (n : ℕ) (s t : Table G) (r : Result (ℕ × Stand) Refusal) → TableSettles al n s t r → SettledSo al n s t r
settles_as_table al n s t (Ok r) h = settled_so al n s t r h.2 h.3 h.4 h.0 h.1
settles_as_table al n s t (Err e) h = ((h.0, h.1), h.2, h.3)

pub settles_long : {G : Type 0} (al : Algebra G) (n : ℕ) (s t : Table G) (r : Result (ℕ × Stand) Refusal) → TableSettles al n s t r → capacity (view t) ≡ capacity (view s)
settles_long al n s t (Ok r) h = leaves_capacity (settled_rows s t r.0 r.1 h.2).leaves
settles_long al n s t (Err e) h = ap capacity h.0
