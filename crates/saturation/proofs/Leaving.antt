-- What is left of memory, and of what was settled, by one call after the other.
use Rattle.std.proofs.Common.{◌≡◌, ℕ, ◌+◌, ◌<◌, ◌≤◌, min, Bool, length, get_or, sym, refl, ap, ◌∙◌, subst, arith}
use Rattle.std.proofs.lemmas.Option.{none-some}
use Rattle.saturation.specs.Rows.{TurnsWithin, TurnsPlaced}
use Rattle.saturation.specs.Tables.{State, capacity, row_at, statement_at, turn_at, OpenAt}
use Rattle.saturation.specs.Tournament.{ButWinners}
use Rattle.standpoint.specs.declared.statement.Statement.{Statement}
use Rattle.standpoint.specs.Algebra.{Algebra}
use Rattle.saturation.specs.declared.row.Kept.{Kept}
use Rattle.saturation.specs.Memory.Offered.{new, bettered, as_good, no_row}
use Rattle.saturation.specs.Memory.{SameBeyond, Offered, content, Leaves, KeepsSettled, SettlesRows, ButRow}
use Rattle.saturation.specs.Offering.{Grown}

module _ {G : Type 0} where
  -- memory that keeps its lengths has as many rows
  pub same_capacity : (s t : State G) → length t.rows ≡ length s.rows → length t.grades ≡ length s.grades → capacity t ≡ capacity s
  same_capacity s t rows grades = ap (λ (n : ℕ). min (min n (length t.grades)) 16777215) rows ∙ ap (λ (n : ℕ). min (min (length s.rows) n) 16777215) grades

  pub leaves_capacity : {s t : State G} → Leaves s t → capacity t ≡ capacity s
  leaves_capacity {s} {t} l = same_capacity s t l.rows_long l.grades_long

  pub leaves_refl : (s : State G) → Leaves s s
  leaves_refl s = record { rows_long = refl; grades_long = refl; beyond = λ k h. refl; free_rows = λ k h. refl; free_grades = λ k h d. refl }

  pub leaves_trans : {s t u : State G} → t.len ≤ u.len → Leaves s t → Leaves t u → Leaves s u
  leaves_trans {s} {t} {u} more a b =
      let same = leaves_capacity a in
      record {
        rows_long = b.rows_long ∙ a.rows_long;
        grades_long = b.grades_long ∙ a.grades_long;
        beyond = λ k h. b.beyond k (omega arith) ∙ a.beyond k h;
        free_rows = λ k h. b.free_rows k h ∙ a.free_rows k (omega arith);
        free_grades = λ k h d. b.free_grades k h d ∙ a.free_grades k (omega arith) d;
      }

  -- what a write to row i leaves, where that is taken
  pub but_row_leaves : {s t : State G} (i : ℕ) → i < t.len → ButRow s t i → Leaves s t
  but_row_leaves i taken b = record {
    rows_long = b.rows_long;
    grades_long = b.grades_long;
    beyond = b.beyond;
    free_rows = λ k h. b.rows k (λ e. omega arith);
    free_grades = λ k h d. b.grades k (λ e. omega arith) d;
  }

  -- winners are of the queue
  pub but_content : {s t : State G} → ButWinners s t → (k : ℕ) → content (row_at t k) ≡ content (row_at s k)
  but_content but k = ap content (but.rows k)

  pub but_beyond : {s t : State G} → s.len ≤ capacity s → ButWinners s t → (k : ℕ) → capacity s ≤ k → row_at t k ≡ row_at s k
  but_beyond fits but k h = but.free k (omega arith)

  pub but_leaves : {s t : State G} → s.len ≤ capacity s → ButWinners s t → Leaves s t
  but_leaves fits but = record {
    rows_long = but.rows_long;
    grades_long = ap length but.grades;
    beyond = but_beyond fits but;
    free_rows = λ k h. but_content but k;
    free_grades = λ k h d. ap (λ gs. get_or gs k d) but.grades;
  }

  -- a write to row i, and the winners found anew
  pub but_row_then : {s m t : State G} (i : ℕ) → s.len ≤ m.len → m.len ≤ capacity m → ButRow s m i → ButWinners m t → ButRow s t i
  but_row_then {s} {m} {t} i more fits b but =
      let same = same_capacity s m b.rows_long b.grades_long in
      record {
        settled = but.settled ∙ b.settled;
        rows_long = but.rows_long ∙ b.rows_long;
        grades_long = ap length but.grades ∙ b.grades_long;
        beyond = λ k h. but_beyond fits but k (omega arith) ∙ b.beyond k h;
        rows = λ k ne. but_content but k ∙ b.rows k ne;
        grades = λ k ne d. ap (λ gs. get_or gs k d) but.grades ∙ b.grades k ne d;
      }

  pub keeps_refl : (s : State G) → KeepsSettled s s
  keeps_refl s = record {
    more = omega arith;
    turns = λ k h. refl;
    statements = λ k h. refl;
    places = λ k h. refl;
    kept = λ k h. refl;
    grades = λ k h d. refl;
  }

  pub keeps_trans : {s t u : State G} → KeepsSettled s t → KeepsSettled t u → KeepsSettled s u
  keeps_trans {s} {t} {u} a b =
      let m = a.more in
      let n = b.more in
      let up : (k : ℕ) → k < s.settled → k < t.settled = λ k h. omega arith in
      record {
        more = omega arith;
        turns = λ k h. b.turns k (up k h) ∙ a.turns k h;
        statements = λ k h. subst (λ (j : ℕ). statement_at u j ≡ statement_at t j) (a.turns k h) (b.statements k (up k h)) ∙ a.statements k h;
        places = λ k h. subst (λ (j : ℕ). (row_at u j).place ≡ (row_at t j).place) (a.turns k h) (b.places k (up k h)) ∙ a.places k h;
        kept = λ k h. subst (λ (j : ℕ). (row_at u j).kept ≡ (row_at t j).kept) (a.turns k h) (b.kept k (up k h)) ∙ a.kept k h;
        grades = λ k h d. subst (λ (j : ℕ). get_or u.grades j d ≡ get_or t.grades j d) (a.turns k h) (b.grades k (up k h) d) ∙ a.grades k h d;
      }

  -- rows that grow keep what is settled
  pub grown_keeps : {s t : State G} → s.settled ≤ s.len → TurnsWithin s.rows s.settled s.len → TurnsPlaced s.rows s.settled → Grown s t → KeepsSettled s t
  grown_keeps {s} {t} fit within placed g =
      let e = g.settled in
      let closed : (k : ℕ) → k < s.settled → OpenAt s (turn_at s k) → ⊥ = λ k h un. none-some k (sym un ∙ placed k h) in
      record {
        more = omega arith;
        turns = λ k h. g.turns k (omega arith);
        statements = λ k h. g.statements (turn_at s k) (within k h);
        places = λ k h. g.places (turn_at s k) (within k h);
        kept = λ k h. (g.kept (turn_at s k) (within k h) (closed k h)).0;
        grades = λ k h. (g.kept (turn_at s k) (within k h) (closed k h)).1;
      }

  pub settles_none : (s : State G) → SettlesRows s s 0
  settles_none s = record { more = omega arith; leaves = leaves_refl s; kept_settled = keeps_refl s; counts = omega arith }

  pub settles_then : {s t u : State G} (m n : ℕ) → SettlesRows s t m → SettlesRows t u n → SettlesRows s u (m + n)
  settles_then {s} {t} {u} m n a b =
      let low = a.more in
      let high = b.more in
      let e = a.counts in
      let f = b.counts in
      record { more = omega arith; leaves = leaves_trans high a.leaves b.leaves; kept_settled = keeps_trans a.kept_settled b.kept_settled; counts = omega arith }

  -- an offer gives no row back
  pub offered_more : (a : Algebra G) (s t : State G) (x : Statement) (g : G) (step : Kept) (r : Bool) → Offered a s t x g step r → s.len ≤ t.len
  offered_more a s t x g step r (new absent room more set) = omega arith
  offered_more a s t x g step r (bettered i within is un worse same set) = omega arith
  offered_more a s t x g step r (as_good i within is good same) = let e = ap (λ (z : State G). z.len) same in omega arith
  offered_more a s t x g step r (no_row absent none same) = let e = ap (λ (z : State G). z.len) same in omega arith

  -- memory beyond the rows that are used
  pub beyond_refl : (s : State G) → SameBeyond s s
  beyond_refl s = record { rows_long = refl; grades_long = refl; rows = λ k h. refl; grades = λ k h d. refl }

  pub beyond_trans : {s t u : State G} → SameBeyond s t → SameBeyond t u → SameBeyond s u
  beyond_trans {s} {t} {u} a b =
      let same = same_capacity s t a.rows_long a.grades_long in
      record {
        rows_long = b.rows_long ∙ a.rows_long;
        grades_long = b.grades_long ∙ a.grades_long;
        rows = λ k h. b.rows k (omega arith) ∙ a.rows k h;
        grades = λ k h d. b.grades k (omega arith) d ∙ a.grades k h d;
      }

  pub leaves_beyond : {s t : State G} → t.len ≤ capacity t → Leaves s t → SameBeyond s t
  leaves_beyond {s} {t} fits l =
      let same = leaves_capacity l in
      record { rows_long = l.rows_long; grades_long = l.grades_long; rows = l.beyond; grades = λ k h. l.free_grades k (omega arith) }
