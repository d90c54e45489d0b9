-- Turn after turn, in the words of rows and of a run.
use Rattle.std.proofs.Common.{◌≡◌, ℕ, ◌+◌, sym, refl, subst, arith, Bool, true, false, cond, nat_le}
use Rattle.std.proofs.lemmas.Bool.Decides.{nat_tests}
use Rattle.standpoint.specs.Algebra.{Algebra}
use Rattle.runs.specs.declared.Stand.{Stand}
use Rattle.runs.specs.declared.Stand.TheVariants.{Open, Ended, Full}
use Rattle.saturation.specs.declared.table.Table.{Table}
use Rattle.saturation.specs.declared.turn.Turn.{Turn}
use Rattle.saturation.specs.declared.turn.Turn.TheVariants.{Nothing, Settled, Overflowed}
use Rattle.saturation.specs.Tables.{State, view, has_room}
use Rattle.saturation.specs.Memory.{SettlesRows}
use Rattle.saturation.specs.Turns.{Turned, Turns, stand_of_rows, none, one_more, TakesTurns, all_taken, nothing_left, overflowed}
use Rattle.saturation.specs.Saturation.{Settles, StandsByRows}
use Rattle.saturation.proofs.RowFacts.{fits_of}
use Rattle.saturation.proofs.Leaving.{leaves_capacity, settles_none, settles_then}
use Rattle.saturation.proofs.Going.{GoesOn, went_on}
use Rattle.saturation.proofs.Taking.{turned_rows}
use Rattle.saturation.proofs.Lasting.{SoFar, so_far_none, so_far_more, so_far_ended, so_far_full, so_far_done}

-- rows of which one is not settled stand open
rows_stand : {G : Type 0} (t : State G) → StandsByRows t (stand_of_rows t)
rows_stand t = by_test (nat_le t.len t.settled) refl
  where
    by_test : (b : Bool) → nat_le t.len t.settled ≡ b → StandsByRows t (cond b Ended Open)
    by_test true e = tt
    by_test false e = grind (arith, nat_tests)

module _ {G : Type 0} (al : Algebra G) (v : ℕ) where
  goes_on : (t u : Table G) (r : Turn) → Turned al v (view t) (view u) r → GoesOn al v (view t) (view u) r
  goes_on t u r turned base e l h = went_on al base l (view t) h (view u) t.grades_fit r (subst (λ (n : ℕ). Turned al n (view t) (view u) r) (sym e) turned)

  turns_rows : (s : State G) {k : ℕ} {t : State G} → Turns al v s k t → SettlesRows s t k
  turns_rows s none = settles_none s
  turns_rows s (one_more {k} t u before turned) = settles_then k 1 (turns_rows s before) (turned_rows al v (view t) (view u) Settled turned)

  turns_far : (s : State G) {k : ℕ} {t : State G} → Turns al v s k t → SoFar al v s t k
  turns_far s none = so_far_none al v s
  turns_far s (one_more {k} t u before turned) =
      so_far_more al v s (view t) (view u) k (turns_far s before) (leaves_capacity (turns_rows s before).leaves) (fits_of t) (goes_on t u Settled turned)

  module _ (n : ℕ) (s t : State G) (count : ℕ) where
    pub takes_rows : (stand : Stand) → TakesTurns al v n s t count stand → SettlesRows s t count
    takes_rows _ (all_taken u turns all is) = subst (λ (z : State G). SettlesRows s z count) (sym is) (turns_rows s turns)
    takes_rows _ (nothing_left u w turns few turned is) =
        let both : SettlesRows s (view w) (count + 0) = settles_then count 0 (turns_rows s turns) (turned_rows al v (view u) (view w) Nothing turned) in
        let same : count + 0 ≡ count = omega arith in
        subst (λ (z : State G). SettlesRows s z count) (sym is) (subst (SettlesRows s (view w)) same both)
    takes_rows _ (overflowed {k} u w turns few one turned is) =
        let both : SettlesRows s (view w) (k + 1) = settles_then k 1 (turns_rows s turns) (turned_rows al v (view u) (view w) Overflowed turned) in
        subst (λ (z : State G). SettlesRows s z count) (sym is) (subst (SettlesRows s (view w)) (sym one) both)

    pub takes_stands : (stand : Stand) → TakesTurns al v n s t count stand → StandsByRows t stand
    takes_stands _ (all_taken u turns all is) = rows_stand t
    takes_stands _ (nothing_left u w turns few turned is) = tt
    takes_stands _ (overflowed u w turns few one turned is) = subst (λ (z : State G). has_room z ≡ false) (sym is) (turned.full refl)

    pub takes_run : (stand : Stand) → TakesTurns al v n s t count stand → Settles al v s t n count stand
    takes_run _ (all_taken u turns all is) =
        let far = subst (λ (k : ℕ). SoFar al v s (view u) k) all (turns_far s turns) in
        let done : Settles al v s (view u) n n (stand_of_rows (view u)) =
        so_far_done al v s (view u) n (stand_of_rows (view u)) far (leaves_capacity (turns_rows s turns).leaves) (fits_of u) (u.settled_fit, u.turns) u.grades_fit refl in
        subst (λ (z : State G). Settles al v s z n count (stand_of_rows z)) (sym is) (subst (λ (c : ℕ). Settles al v s (view u) n c (stand_of_rows (view u))) (sym all) done)
    takes_run _ (nothing_left u w turns few turned is) =
        let rows = turns_rows s turns in
        let last = turned_rows al v (view u) (view w) Nothing turned in
        subst (λ (z : State G). Settles al v s z n count Ended) (sym is)
        (so_far_ended al v s (view u) (view w) count (turns_far s turns) (leaves_capacity rows.leaves) (fits_of u) n few (goes_on u w Nothing turned) (leaves_capacity last.leaves) (fits_of w))
    takes_run _ (overflowed {k} u w turns few one turned is) =
        let rows = turns_rows s turns in
        let last = turned_rows al v (view u) (view w) Overflowed turned in
        subst (λ (z : State G). Settles al v s z n count Full) (sym is)
        (subst (λ (c : ℕ). Settles al v s (view w) n c Full) (sym one)
        (so_far_full al v s (view u) (view w) k (turns_far s turns) (leaves_capacity rows.leaves) (fits_of u) n few (goes_on u w Overflowed turned) (leaves_capacity last.leaves)))
