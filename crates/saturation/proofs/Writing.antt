-- One row written.
use Rattle.std.proofs.Common.{◌≡◌, ℕ, ◌<◌, Bool, List, length, get_or, slice_set, sym, ap, ◌∙◌, subst, ⊎_elim, get_or-set_other, get_or-set_same}
use Rattle.std.proofs.lemmas.Bool.Decides.{eqb_tells}
use Rattle.saturation.specs.declared.row.Row.{Row}
use Rattle.saturation.specs.Rows.{no_row, TurnsWithin, Unlisted, WinnersWithin}

module _ (rows : List Row) (k : ℕ) (r : Row) (within : k < length rows) where
  pub write_here : get_or (slice_set rows k r) k no_row ≡ r
  write_here = get_or-set_same rows k r no_row within

  pub write_other : (j : ℕ) → (j ≡ k → ⊥) → get_or (slice_set rows k r) j no_row ≡ get_or rows j no_row
  write_other j ne = get_or-set_other rows k j r no_row ne

  pub write_leaves : {X : Type 0} (f : Row → X) → f r ≡ f (get_or rows k no_row) → (j : ℕ) → f (get_or (slice_set rows k r) j no_row) ≡ f (get_or rows j no_row)
  write_leaves f same j =
      ⊎_elim
      (λ e. ap (λ (v : ℕ). f (get_or (slice_set rows k r) v no_row)) e.1 ∙ ap f write_here ∙ same ∙ ap (λ (v : ℕ). f (get_or rows v no_row)) (sym e.1))
      (λ ne. ap f (write_other j ne.1))
      (eqb_tells j k)

  pub turns_written : (n len : ℕ) → r.turn ≡ (get_or rows k no_row).turn → TurnsWithin rows n len → TurnsWithin (slice_set rows k r) n len
  turns_written n len same turns j below = subst (λ (t : ℕ). t < len) (sym (write_leaves (λ (v : Row). v.turn) same j)) (turns j below)

  pub unlisted_written : (len : ℕ) (begun : Bool) → r.listed ≡ (get_or rows k no_row).listed → Unlisted rows len begun → Unlisted (slice_set rows k r) len begun
  unlisted_written len begun same unlisted on j below = write_leaves (λ (v : Row). v.listed) same j ∙ unlisted on j below

  pub winners_written : (len : ℕ) → (k < len → r.winner < len) → WinnersWithin rows len → WinnersWithin (slice_set rows k r) len
  winners_written len new winners j below =
      ⊎_elim
      (λ e. subst (λ (v : Row). v.winner < len) (sym (ap (λ (i : ℕ). get_or (slice_set rows k r) i no_row) e.1 ∙ write_here)) (new (subst (λ (i : ℕ). i < len) e.1 below)))
      (λ ne. subst (λ (v : Row). v.winner < len) (sym (write_other j ne.1)) (winners j below))
      (eqb_tells j k)
