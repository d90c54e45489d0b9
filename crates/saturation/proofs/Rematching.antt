-- The tournament over the rows: who plays below whom, and what a match leaves true.
use Rattle.std.proofs.Common.{◌≡◌, ◌≢◌, ℕ, zero, suc, ◌+◌, ◌*◌, ◌/◌, ◌<◌, ◌≤◌, Bool, true, false, ◌⊎◌, length, get_or, get_or-set_other, get_or-set_same, Some, None, Option, sym, refl, ap, ◌∙◌, subst, inl, inr, ⊎_elim, arith, length-set}
use Rattle.std.proofs.lemmas.List.{get_or_default}
use Rattle.std.proofs.lemmas.Option.{cond_some, none-some}
use Rattle.std.proofs.lemmas.Bool.Decides.{eqb_tells}
use borrow.Author.Tests.{both_ways}
use Rattle.std.specs.Option.{is_some}
use Rattle.standpoint.specs.Lists.{Tells}
use Rattle.standpoint.specs.Algebra.{Algebra, Laws}
use Rattle.saturation.specs.declared.row.Row.{Row}
use Rattle.saturation.specs.Rows.{no_row}
use Rattle.saturation.specs.Tables.{State, row_at, statement_at, OpenAt}
use Rattle.saturation.specs.Choosing.{Ahead, RowAhead, Chosen}
use Rattle.saturation.specs.Tournament.{parent, Under, Beats, Match, Wins, winner_at, Played, PlayedBut, won_by, crowned, ButWinners}
use Rattle.saturation.specs.Tournament.Under.{itself, below}
use Rattle.saturation.proofs.Writing.{write_other, write_leaves}
use Rattle.saturation.proofs.Chaining.{walk_left}
use Rattle.saturation.proofs.Choosing.{ahead_trans, ahead_irreflexive, behind_trans}

pub under_low : {k j : ℕ} → Under k j → k ≤ j
under_low itself = omega arith
under_low (below u) = let h = under_low u in omega arith

under_by : (n j : ℕ) → j ≤ n → Under 0 j
under_by n zero h = itself
under_by zero (suc j) h = elim h [ ]
under_by (suc n) (suc j) h = below (under_by n (j / 2) (omega arith))

halves : (j k : ℕ) → j / 2 ≡ k → (2 * k + 1 ≡ suc j) ⊎ (2 * k + 2 ≡ suc j)
halves j k e = ⊎_elim (λ t. inl (sym t.1)) (λ o. let ne = o.1 in inr (omega arith)) (eqb_tells (suc j) (2 * k + 1))

under_split : {k j : ℕ} → Under k j → (j ≡ k) ⊎ (Under (2 * k + 1) j ⊎ Under (2 * k + 2) j)
under_split itself = inl refl
under_split {k} (below {j} u) =
    ⊎_elim
    (λ e. inr (⊎_elim
    (λ o. inl (subst (Under (2 * k + 1)) o itself))
    (λ o. inr (subst (Under (2 * k + 2)) o itself))
    (halves j k e)))
    (λ r. inr (⊎_elim (λ a. inl (below a)) (λ b. inr (below b)) r))
    (under_split u)

under_trans : {k c j : ℕ} → Under k c → Under c j → Under k j
under_trans u itself = u
under_trans u (below v) = below (under_trans u v)

-- a row just below another
under_next : (k c j : ℕ) → c ≡ suc j → j / 2 ≡ k → Under k c
under_next k c j e h = subst (Under k) (sym e) (below (subst (Under k) (sym h) itself))

-- what is above row j, and is not j, is above its parent
under_parent : {k j p : ℕ} → parent j ≡ Some p → k ≢ j → Under k j → Under k p
under_parent e ne itself = absurd (ne refl)
under_parent {k} e ne (below u) = subst (Under k) ((cond_some true _ _ e).1) u

no_parent : (k : ℕ) → None ≡ parent k → k ≡ 0
no_parent zero e = refl
no_parent (suc k) e = absurd (none-some _ e)

parent_low : (k p : ℕ) → Some p ≡ parent k → p < k
parent_low zero p e = absurd (none-some p (sym e))
parent_low (suc k) p e = let h = (cond_some true p (k / 2) e).1 in omega (arith, h)

-- nothing but winners differs
module _ {G : Type 0} where
  pub but_refl : (s : State G) → ButWinners s s
  but_refl s = record { len = refl; settled = refl; grades = refl; rows_long = refl; rows = λ k. refl; free = λ k h. refl }

  pub but_trans : {s t u : State G} → ButWinners s t → ButWinners t u → ButWinners s u
  but_trans x y = record {
    len = y.len ∙ x.len;
    settled = y.settled ∙ x.settled;
    grades = y.grades ∙ x.grades;
    rows_long = y.rows_long ∙ x.rows_long;
    rows = λ k. y.rows k ∙ x.rows k;
    free = λ k h. let e = x.len in y.free k (omega arith) ∙ x.free k h;
  }

  pub but_crowned : (s : State G) (k w : ℕ) → k < s.len → k < length s.rows → ButWinners s (crowned s k w)
  but_crowned s k w taken within = record {
    len = refl;
    settled = refl;
    grades = refl;
    rows_long = length-set s.rows k (won_by (row_at s k) w);
    rows = write_leaves s.rows k (won_by (row_at s k) w) within (λ (r : Row). won_by r 0) refl;
    free = λ j h. write_other s.rows k (won_by (row_at s k) w) within j (λ e. omega arith);
  }

  module _ {s t : State G} (but : ButWinners s t) where
    pub but_statement : (k : ℕ) → statement_at t k ≡ statement_at s k
    but_statement k = ap (λ (r : Row). r.statement) (but.rows k)

    pub but_place : (k : ℕ) → (row_at t k).place ≡ (row_at s k).place
    but_place k = ap (λ (r : Row). r.place) (but.rows k)

    pub but_grade : (k : ℕ) (d : G) → get_or t.grades k d ≡ get_or s.grades k d
    but_grade k d = ap (λ gs. get_or gs k d) but.grades

-- what a match rests on, from rows of s to rows of t
pub record Plays {G : Type 0} (s t : State G) (j : ℕ) : Type 0 where
  pub place : (row_at t j).place ≡ (row_at s j).place
  pub statement : statement_at t j ≡ statement_at s j
  pub grade : (d : G) → get_or t.grades j d ≡ get_or s.grades j d

module _ {G : Type 0} (a : Algebra G) (s t : State G) where
  beats_as : (w j : ℕ) → Plays s t w → Plays s t j → Beats a s w j → Beats a t w j
  beats_as w j pw pj b un =
      let p = b (sym pj.place ∙ un) in (
        pw.place ∙ p.0,
        λ ahead. p.1 (λ d.
            let e = ahead d in
            subst (λ x. Ahead a (get_or s.grades j d) x (get_or s.grades w d) (statement_at s w)) pj.statement
            (subst (λ x. Ahead a (get_or s.grades j d) (statement_at t j) (get_or s.grades w d) x) pw.statement
            (subst (λ g. Ahead a g (statement_at t j) (get_or s.grades w d) (statement_at t w)) (pj.grade d)
            (subst (λ g. Ahead a (get_or t.grades j d) (statement_at t j) g (statement_at t w)) (pw.grade d) e)))),
      )

  pub wins_as : (k w : ℕ) → s.len ≤ t.len → ((j : ℕ) → j < t.len → Under k j → (j < s.len) × Plays s t j) → Wins a s k w → Wins a t k w
  wins_as k w more same wins =
      let h = wins.within in
      let in_t : w < t.len = omega arith in
      record {
        within = in_t;
        under = wins.under;
        beats = λ j lt u. let p = same j lt u in beats_as w j (same w in_t wins.under).1 p.1 (wins.beats j p.0 u);
      }

-- a row changed, or one more
pub record Touched {G : Type 0} (s t : State G) (i : ℕ) : Type 0 where
  pub more : s.len ≤ t.len
  pub old : (j : ℕ) → j < t.len → j ≢ i → j < s.len
  pub winners : (j : ℕ) → j < t.len → j ≢ i → winner_at t j ≡ winner_at s j
  pub plays : (j : ℕ) → j < t.len → j ≢ i → Plays s t j

module _ {G : Type 0} (a : Algebra G) (s t : State G) where
  pub touched_played : (i : ℕ) → Touched s t i → Played a s → PlayedBut a t i
  touched_played i x played k lt never =
      let other : (j : ℕ) → Under k j → j ≢ i = λ j u e. never (subst (Under k) e u) in
      let ne = other k itself in
      subst (Wins a t k) (sym (x.winners k lt ne))
      (wins_as a s t k (winner_at s k) x.more (λ j h u. (x.old j h (other j u), x.plays j h (other j u))) (played k (x.old k lt ne)))

  but_plays : ButWinners s t → (j : ℕ) → Plays s t j
  but_plays but j = record { place = but_place but j; statement = but_statement but j; grade = but_grade but j }

  but_wins : ButWinners s t → (k w : ℕ) → Wins a s k w → Wins a t k w
  but_wins but k w wins =
      let e = but.len in
      wins_as a s t k w (omega arith) (λ j lt u. (omega arith, but_plays but j)) wins

module _ {G : Type 0} (a : Algebra G) (l : Laws a) (s : State G) where
  pub beats_itself : (w : ℕ) → Beats a s w w
  beats_itself w un = (un, λ ahead. ahead_irreflexive a l _ _ (ahead a.start))

  -- a match of two unsettled rows
  pub match_told : (i j : ℕ) (b : Bool) → OpenAt s i → OpenAt s j → Tells b (RowAhead a s i j) → Match a s i j b
  match_told i j true un free ahead = λ _. (un, λ back. ahead_irreflexive a l _ _ (ahead_trans a l _ _ _ _ _ _ (ahead a.start) (back a.start)))
  match_told i j false un free behind = λ _. (free, behind)

module _ {G : Type 0} (a : Algebra G) (l : Laws a) (s : State G) (fits : s.len ≤ length s.grades) where
  told : (j w : ℕ) → j < s.len → w < s.len → Ahead a (get_or s.grades j a.start) (statement_at s j) (get_or s.grades w a.start) (statement_at s w) → RowAhead a s j w
  told j w hj hw p d =
      subst (λ g. Ahead a (get_or s.grades j d) (statement_at s j) g (statement_at s w)) (get_or_default s.grades w a.start d (omega arith))
      (subst (λ g. Ahead a g (statement_at s j) (get_or s.grades w a.start) (statement_at s w)) (get_or_default s.grades j a.start d (omega arith)) p)

  beats_trans : (w v j : ℕ) → w < s.len → v < s.len → j < s.len → Beats a s w v → Beats a s v j → Beats a s w j
  beats_trans w v j hw hv hj first second un =
      let p = second un in
      let q = first p.0 in
      (q.0, λ ahead. behind_trans a l _ _ _ _ _ _ (λ x. p.1 (told j v hj hv x)) (λ x. q.1 (told v w hv hw x)) (ahead a.start))

  -- the winner of two matches in a row
  module _ (k v w : ℕ) (within : k < s.len) (in_v : v < s.len) (in_w : w < s.len)
      (from_v : (v ≡ k) ⊎ ((2 * k + 1 < s.len) × (v ≡ winner_at s (2 * k + 1))))
      (over_v : Beats a s v k × (2 * k + 1 < s.len → Beats a s v (winner_at s (2 * k + 1))))
      (from_w : (w ≡ v) ⊎ ((2 * k + 2 < s.len) × (w ≡ winner_at s (2 * k + 2))))
      (over_w : Beats a s w v × (2 * k + 2 < s.len → Beats a s w (winner_at s (2 * k + 2))))
      (played : PlayedBut a s k) where
    left : 2 * k + 1 < s.len → Wins a s (2 * k + 1) (winner_at s (2 * k + 1))
    left h = played (2 * k + 1) h (λ u. let z = under_low u in omega arith)

    right : 2 * k + 2 < s.len → Wins a s (2 * k + 2) (winner_at s (2 * k + 2))
    right h = played (2 * k + 2) h (λ u. let z = under_low u in omega arith)

    under_v : Under k v
    under_v = ⊎_elim
        (λ e. subst (Under k) (sym e) itself)
        (λ p. subst (Under k) (sym p.1) (under_trans (under_next k (2 * k + 1) (2 * k) (omega arith) (omega arith)) (left p.0).under))
        from_v

    under_w : Under k w
    under_w = ⊎_elim
        (λ e. subst (Under k) (sym e) under_v)
        (λ p. subst (Under k) (sym p.1) (under_trans (under_next k (2 * k + 2) (2 * k + 1) (omega arith) (omega arith)) (right p.0).under))
        from_w

    pub wins_both : Wins a s k w
    wins_both = record {
      within = in_w;
      under = under_w;
      beats = λ j lt u. ⊎_elim
          (λ e. subst (Beats a s w) (sym e) (beats_trans w v k in_w in_v within over_w.0 over_v.0))
          (λ r. ⊎_elim
          (λ m.
          let z = under_low m in
          let h : 2 * k + 1 < s.len = omega arith in
          let c = left h in
          beats_trans w v j in_w in_v lt over_w.0 (beats_trans v (winner_at s (2 * k + 1)) j in_v c.within lt (over_v.1 h) (c.beats j lt m)))
          (λ m.
          let z = under_low m in
          let h : 2 * k + 2 < s.len = omega arith in
          let c = right h in
          beats_trans w (winner_at s (2 * k + 2)) j in_w c.within lt (over_w.1 h) (c.beats j lt m))
          r)
          (under_split u);
    }

-- what is still to be played: at this row and above it, or nothing
abbrev pub PlayedUpTo : {G : Type 0} → Algebra G → State G → Option ℕ → Type 0
PlayedUpTo a s None = Played a s
PlayedUpTo a s (Some k) = (k < s.len) × PlayedBut a s k

module _ {G : Type 0} (a : Algebra G) (s : State G) (k w : ℕ) (within : k < s.len) (rows_fit : s.len ≤ length s.rows) where
  in_rows : k < length s.rows
  in_rows = omega arith

  winner_other : (j : ℕ) → j ≢ k → winner_at (crowned s k w) j ≡ winner_at s j
  winner_other j ne = ap (λ (r : Row). r.winner) (get_or-set_other s.rows k j (won_by (row_at s k) w) no_row ne)

  winner_here : winner_at (crowned s k w) k ≡ w
  winner_here = ap (λ (r : Row). r.winner) (get_or-set_same s.rows k (won_by (row_at s k) w) no_row in_rows)

  at_row : PlayedBut a s k → Wins a s k w → (j : ℕ) → j < s.len → (j ≢ k → Under j k → ⊥) → Wins a (crowned s k w) j (winner_at (crowned s k w) j)
  at_row played wins j lt never =
      let but = but_crowned s k w within in_rows in
      ⊎_elim
      (λ e. subst (λ (n : ℕ). Wins a (crowned s k w) n (winner_at (crowned s k w) n)) (sym e.1) (subst (Wins a (crowned s k w) k) (sym winner_here) (but_wins a s (crowned s k w) but k w wins)))
      (λ ne. subst (Wins a (crowned s k w) j) (sym (winner_other j ne.1)) (but_wins a s (crowned s k w) but j (winner_at s j) (played j lt (never ne.1))))
      (eqb_tells j k)

  pub played_at_parent : (at : Option ℕ) → at ≡ parent k → PlayedBut a s k → Wins a s k w → PlayedUpTo a (crowned s k w) at
  played_at_parent None e played wins = λ j lt. at_row played wins j lt (λ ne u. let h = under_low u in let z = no_parent k e in omega arith)
  played_at_parent (Some p) e played wins = (
    let h = parent_low k p e in omega arith,
    λ j lt never. at_row played wins j lt (λ ne u. never (under_parent (sym e) ne u)),
  )

-- from s on, with row i changed, all is found up to the row that is next
pub record Rematched {G : Type 0} (a : Algebra G) (s t : State G) (i : ℕ) (at : Option ℕ) : Type 0 where
  pub but : ButWinners s t
  pub due : (k : ℕ) → at ≡ Some k → k < t.len
  pub played : PlayedBut a s i → PlayedUpTo a t at

module _ {G : Type 0} (a : Algebra G) (s : State G) where
  pub rematched_none : (i : ℕ) → i < s.len → Rematched a s s i (Some i)
  rematched_none i h = record { but = but_refl s; due = λ k e. subst (λ (n : ℕ). n < s.len) ((cond_some true i k e).1) h; played = λ p. (h, p) }

  pub row_due : (t : State G) (i : ℕ) (at : Option ℕ) (k : ℕ) → at ≡ Some k → Rematched a s t i at → k < t.len
  row_due t i at k is r = r.due k is

  pub rematched_all : (t : State G) (i : ℕ) (at : Option ℕ) → at ≡ None → Rematched a s t i at → PlayedBut a s i → Played a t
  rematched_all t i at is r p = subst (PlayedUpTo a t) is (r.played p)

  pub rematched_more : (t u : State G) (i : ℕ) (at : Option ℕ) (k w : ℕ) (next : Option ℕ) → t.len ≤ length t.rows → at ≡ Some k → next ≡ parent k → u ≡ crowned t k w →
      (PlayedBut a t k → Wins a t k w) → Rematched a s t i at → Rematched a s u i next
  rematched_more t u i at k w next rows_fit is on new wins r =
      let in_t = r.due k is in
      subst (λ (z : State G). Rematched a s z i next) (sym new) (record {
        but = but_trans r.but (but_crowned t k w in_t (omega arith));
        due = λ j e. let h = parent_low k j (sym e ∙ on) in omega arith;
        played = λ p. let q = subst (PlayedUpTo a t) is (r.played p) in played_at_parent a t k w in_t rows_fit next on q.1 (wins q.1);
      })

pub parent_falls : (at : Option ℕ) (k : ℕ) (next : Option ℕ) → at ≡ Some k → next ≡ parent k → walk_left next < walk_left at
parent_falls None k next is on = absurd (none-some k is)
parent_falls (Some i) k None is on = omega arith
parent_falls (Some i) k (Some p) is on =
    let same : i ≡ k = (cond_some true i k is).1 in
    let h = parent_low k p on in
    omega arith

-- below row 0 wins the next of all
module _ {G : Type 0} (a : Algebra G) (s : State G) (some : 0 < s.len) (played : Played a s) where
  pub first_wins : OpenAt s (winner_at s 0) → Chosen a s s.len (Some (winner_at s 0))
  first_wins un =
      let wins = played 0 some in
      (wins.within, un, λ k h free. (wins.beats k h (under_by k k (omega arith)) free).1)

  pub none_wins : true ≡ is_some (row_at s (winner_at s 0)).place → Chosen a s s.len None
  none_wins settled k h free =
      let p = (played 0 some).beats k h (under_by k k (omega arith)) free in
      both_ways true (settled ∙ ap is_some p.0) refl
