-- How the counts of a table tell how the run stands.
use Rattle.std.proofs.Common.{◌≡◌, ℕ, zero, suc, ◌<◌, ◌≤◌, ◌⊎◌, List, [], ◌∷◌, length, Some, sym, refl, ap, ◌∙◌, subst, inl, inr, ⊎_elim, arith}
use Rattle.std.specs.List.{slice_get}
use Rattle.standpoint.specs.declared.statement.Statement.{Statement}
use Rattle.standpoint.specs.Algebra.{Algebra}
use Rattle.standpoint.specs.Derivations.{Base}
use Rattle.runs.specs.Runs.{Settled, Known, Unsettled, AllSettled, StandsFull}
use Rattle.runs.proofs.Distinct.{in_nth}
use Rattle.saturation.specs.Tables.{State, row_at, statement_at, turn_at, OpenAt, capacity}
use Rattle.saturation.specs.Saturation.{Holds}
use Rattle.saturation.proofs.Offers.{below_or, none_or, last_or}
use Rattle.saturation.proofs.Lists.{Fit}
use Rattle.saturation.proofs.Pigeons.{pigeon}
use Rattle.saturation.proofs.Opening.{open_unsettled, open_room}
use Rattle.saturation.proofs.Going.{row_known, none_open}

nth_some : {X : Type 0} (xs : List X) (j : ℕ) → j < length xs → (x : X) × (slice_get xs j ≡ Some x)
nth_some [] j h = absurd (let z : ⊥ = omega arith in z)
nth_some (x ∷ xs) zero h = (x, refl)
nth_some (x ∷ xs) (suc j) h = nth_some xs j (omega arith)

-- so many numbers, each with a place of its own below m, are at most m
module _ (n m : ℕ) (Place : ℕ → ℕ → Type 0) (some : (j : ℕ) → j < n → (k : ℕ) × (k < m) × Place j k)
    (own : (i j k : ℕ) → i < n → j < n → Place i k → Place j k → i ≡ j) where
  spot : (j : ℕ) → (j < n) ⊎ (n ≤ j) → ℕ
  spot j (inl h) = (some j h).0
  spot j (inr h) = 0

  spot_is : (j : ℕ) (d : (j < n) ⊎ (n ≤ j)) → j < n → (spot j d < m) × Place j (spot j d)
  unfolding spot
  spot_is j (inl h) lt = ((some j h).1, (some j h).2)
  spot_is j (inr h) lt = absurd (let z : ⊥ = omega arith in z)

  pub placed_apart : n ≤ m
  placed_apart =
      pigeon m n (λ j. spot j (below_or j n)) (λ j h. (spot_is j (below_or j n) h).0)
      (λ i j hi hj e. own i j (spot j (below_or j n)) hi hj (subst (Place i) e (spot_is i (below_or i n) hi).1) (spot_is j (below_or j n) hj).1)

-- an open row among the first n, or none
open_or : {G : Type 0} (s : State G) (n : ℕ) → ((k : ℕ) × (k < n) × OpenAt s k) ⊎ ((k : ℕ) → k < n → OpenAt s k → ⊥)
open_or s zero = inr (λ k h. absurd (let z : ⊥ = omega arith in z))
open_or s (suc n) =
    ⊎_elim
    (λ e. inl (n, omega arith, e))
    (λ ne. ⊎_elim
    (λ found. let h = found.1 in inl (found.0, omega arith, found.2))
    (λ none. inr (λ k h o. ⊎_elim (λ lt. none k lt o) (λ e. ne (subst (OpenAt s) e o)) (last_or k n (omega arith))))
    (open_or s n))
    (none_or (row_at s n).place)

module _ {G : Type 0} (al : Algebra G) (base : Base G) (l : Settled G) (s : State G) (h : Holds al base l s) where
  -- a run that the rows hold does not stand full
  pub not_full : s.len ≤ capacity s → StandsFull al base (capacity s) l → ⊥
  not_full fits full =
      let xs = full.0 in
      let few = placed_apart (length xs) s.len (λ j k. slice_get xs j ≡ Some (statement_at s k))
      (λ j lt.
      let x = nth_some xs j lt in
      let known = full.2 x.0 (in_nth xs j x.0 x.1) in
      let p = h.rows.best.every x.0 known.0 (h.complete x.0 known.0 known.1) in
      (p.0, p.1, x.1 ∙ ap Some (sym p.2)))
      (λ i j k hi hj a b. full.1 i j (statement_at s k) a b) in
      let more = full.3 in
      omega arith

  -- fewer turns than rows leave a known statement unsettled
  pub some_open : Fit s → s.len ≤ length s.grades → s.settled < s.len → (x : Statement) × Known al base l x × Unsettled l x
  some_open fit grades_fit room =
      ⊎_elim
      (λ k. (statement_at s k.0, row_known al base l s h grades_fit k.0 k.1, open_unsettled s l h.lists al h.offered fit h.rows.best k.0 k.1 k.2))
      (λ none.
      let few = placed_apart s.len s.settled (λ i k. turn_at s k ≡ i) (λ i lt. h.lists.back i lt (none i lt)) (λ i j k hi hj a b. sym a ∙ b) in
      absurd (let z : ⊥ = omega arith in z))
      (open_or s s.len)

  -- as many turns as rows leave none
  pub all_closed : Fit s → s.len ≤ s.settled → AllSettled al base l
  all_closed fit out = none_open al base l s h (λ k lt free. let r = open_room s l h.lists fit k lt free in omega arith)
