-- A row is settled.
use Rattle.std.proofs.Common.{◌≡◌, ℕ, ◌+◌, ◌<◌, ◌≤◌, List, [], ◌∷◌, ◌++◌, length, get_or, take, Some, None, sym, refl, ap, ◌∙◌, subst, ⊎_elim, arith, length-append}
use lib.Seq.{take-append-le, take-append_seam}
use Rattle.std.proofs.lemmas.List.{get_or_append_left, get_or_push}
use Rattle.standpoint.specs.declared.statement.Statement.{Statement}
use Rattle.standpoint.specs.Algebra.{Algebra}
use Rattle.standpoint.specs.Derivations.{Base}
use Rattle.saturation.specs.declared.row.Row.{Row}
use Rattle.saturation.specs.declared.row.Kept.{Kept}
use Rattle.saturation.specs.declared.side.Spots.{Spots}
use Rattle.saturation.specs.Sides.{SpotsWithin, settled_rows}
use Rattle.saturation.specs.Tables.{State, capacity, row_at, statement_at, turn_at, OpenAt, spots_at, settled_row}
use Rattle.saturation.specs.Rows.{TurnsPlaced}
use Rattle.saturation.specs.Memory.{content, Leaves, KeepsSettled}
use Rattle.saturation.specs.Places.{KeptRight}
use Rattle.saturation.specs.Offering.{Apart, BestOf, Grown, RowsRight, Explained}
use Rattle.saturation.specs.Searching.{Premise, Lists}
use Rattle.saturation.proofs.Offers.{last_or, equal_or, not_both, in_same}
use Rattle.saturation.proofs.Siding.{spots_within, kept_apart, winner_apart, content_apart, settled_long, settled_leaves, settled_far, settled_beyond, settled_statement, turn_old, turn_new, place_old, place_new}
use Rattle.saturation.proofs.Rematching.{Touched}
use Rattle.saturation.proofs.Lists.{Fit, turn_kept}
use Rattle.saturation.proofs.Stepping.{kept_up}

same_explained : {G : Type 0} (al : Algebra G) (base : Base G) (l m : List (Statement × G)) (a b : Statement × G) (j k : Kept) → l ≡ m → a ≡ b → j ≡ k → KeptRight al base l a j → KeptRight al base m b k
same_explained {G} al base l m a b j k e f h r =
    subst (λ (v : List (Statement × G)). KeptRight al base v b k) e (subst (λ (v : Statement × G). KeptRight al base l v k) f (subst (λ (v : Kept). KeptRight al base l a v) h r))

abbrev pub one_more : {G : Type 0} → State G → List Row → State G
one_more s rows = record { rows = rows; grades = s.grades; len = s.len; settled = s.settled + 1 }

-- rows with row i settled next
pub settled_as : {G : Type 0} (s : State G) (i : ℕ) (new : List Row) (spots : Spots) → spots ≡ spots_at s i → new ≡ settled_rows s.rows s.settled i spots → one_more s new ≡ settled_row s i
settled_as s i new spots at is = ap (one_more s) is ∙ ap (λ (v : Spots). one_more s (settled_rows s.rows s.settled i v)) at

module _ {G : Type 0} (s : State G) (i : ℕ) (within : i < s.len) (fits : s.len ≤ capacity s) (room : s.settled < s.len) where
  few : capacity s ≤ length s.rows
  few = omega arith

  in_n : s.settled < length s.rows
  in_n = omega arith

  in_i : i < length s.rows
  in_i = omega arith

  in_spots : SpotsWithin (spots_at s i) (capacity s)
  in_spots = spots_within (capacity s) s.rows s.settled (statement_at s i) (omega arith)

  pub settled_statements : (j : ℕ) → statement_at (settled_row s i) j ≡ statement_at s j
  settled_statements = settled_statement s.rows s.settled i (spots_at s i) (capacity s) few in_n in_i in_spots

  turn_before : (j : ℕ) → j < s.settled → turn_at (settled_row s i) j ≡ turn_at s j
  turn_before j h = turn_old s.rows s.settled i (spots_at s i) (capacity s) few in_n in_i in_spots j (λ e. omega arith)

  turn_now : turn_at (settled_row s i) s.settled ≡ i
  turn_now = turn_new s.rows s.settled i (spots_at s i) (capacity s) few in_n in_i in_spots

  place_before : (j : ℕ) → (j ≡ i → ⊥) → (row_at (settled_row s i) j).place ≡ (row_at s j).place
  place_before = place_old s.rows s.settled i (spots_at s i) (capacity s) few in_n in_i in_spots

  place_now : (row_at (settled_row s i) i).place ≡ Some s.settled
  place_now = place_new s.rows s.settled i (spots_at s i) (capacity s) few in_n in_i in_spots

  pub settled_rows_long : length (settled_row s i).rows ≡ length s.rows
  settled_rows_long = settled_long s.rows s.settled i (spots_at s i) (capacity s) few in_n in_i in_spots

  pub settled_leaves_memory : Leaves s (settled_row s i)
  settled_leaves_memory = record {
    rows_long = settled_rows_long;
    grades_long = refl;
    beyond = λ k h. settled_beyond s.rows s.settled i (spots_at s i) (capacity s) few in_n in_i in_spots k h (omega arith) (omega arith);
    free_rows = λ k h. settled_far s.rows s.settled i (spots_at s i) (capacity s) few in_n in_i in_spots content content_apart k (λ e. omega arith) (λ e. omega arith);
    free_grades = λ k h d. refl;
  }

  settled_kept : (j : ℕ) → (row_at (settled_row s i) j).kept ≡ (row_at s j).kept
  settled_kept = settled_leaves s.rows s.settled i (spots_at s i) (capacity s) few in_n in_i in_spots (λ (r : Row). r.kept) kept_apart (λ r p. refl) refl

  pub settled_keeps : TurnsPlaced s.rows s.settled → OpenAt s i → KeepsSettled s (settled_row s i)
  settled_keeps placed un =
      let never : (k : ℕ) → k < s.settled → turn_at s k ≡ i → ⊥ = λ k h e. not_both _ k (placed k h) (ap (λ (j : ℕ). (row_at s j).place) e ∙ un) in
      record {
        more = omega arith;
        turns = turn_before;
        statements = λ k h. settled_statements (turn_at s k);
        places = λ k h. place_before (turn_at s k) (never k h);
        kept = λ k h. settled_kept (turn_at s k);
        grades = λ k h d. refl;
      }

  pub settled_lists : (l : List (Statement × G)) (g : G) → OpenAt s i → ((d : G) → get_or s.grades i d ≡ g) → Lists s l → Lists (settled_row s i) (l ++ (statement_at s i, g) ∷ [])
  settled_lists l g un grade is =
      let o : Statement × G = (statement_at s i, g) in
      let t = settled_row s i in
      let n = s.settled in
      let lg = is.long in
      let never : (k : ℕ) → k < n → turn_at s k ≡ i → ⊥ = λ k kh e. not_both _ k (is.marked k kh) (ap (λ (j : ℕ). (row_at s j).place) e ∙ un) in
      record {
        long = length-append l (o ∷ []) ∙ ap (λ (k : ℕ). k + 1) lg;
        holds = λ k h d. ⊎_elim
            (λ lt.
            let e : get_or l k d ≡ get_or (l ++ o ∷ []) k d = sym (get_or_append_left l (o ∷ []) d k (omega arith)) in
            let p = is.holds k lt d in
            subst (Premise t k) e (
              settled_statements (turn_at t k) ∙ ap (statement_at s) (turn_before k lt) ∙ p.0,
              λ v. ap (λ (j : ℕ). get_or s.grades j v) (turn_before k lt) ∙ p.1 v,
            ))
            (λ eq.
            let e : o ≡ get_or (l ++ o ∷ []) k d = sym (get_or_push l o d k (lg ∙ sym eq)) in
            let turn : turn_at t k ≡ i = ap (turn_at t) eq ∙ turn_now in
            subst (Premise t k) e (
              settled_statements (turn_at t k) ∙ ap (statement_at s) turn,
              λ v. ap (λ (j : ℕ). get_or s.grades j v) turn ∙ grade v,
            ))
            (last_or k n h);
        marked = λ k h. ⊎_elim
            (λ lt. ap (λ (j : ℕ). (row_at t j).place) (turn_before k lt) ∙ place_before (turn_at s k) (never k lt) ∙ is.marked k lt)
            (λ eq. ap (λ (j : ℕ). (row_at t j).place) (ap (turn_at t) eq ∙ turn_now) ∙ place_now ∙ ap Some (sym eq))
            (last_or k n h);
        back = λ j h ne. ⊎_elim
            (λ e. (n, omega arith, turn_now ∙ sym e))
            (λ other.
            let b = is.back j h (λ z. ne (place_before j other ∙ z)) in
            let bh = b.1 in
            (b.0, omega arith, turn_before b.0 b.1 ∙ b.2))
            (equal_or j i);
      }

  pub settled_apart : Apart s → Apart (settled_row s i)
  settled_apart apart j k hj hk e = apart j k hj hk (sym (settled_statements j) ∙ e ∙ settled_statements k)

  pub settled_best : (al : Algebra G) (off : List (Statement × G)) → BestOf al s off → BestOf al (settled_row s i) off
  settled_best al off b =
      let t = settled_row s i in
      let was : (j : ℕ) → (row_at t j).place ≡ None → (row_at s j).place ≡ None = λ j z.
      ⊎_elim
      (λ e. absurd (not_both _ s.settled (ap (λ (v : ℕ). (row_at t v).place) e ∙ place_now) z))
      (λ ne. sym (place_before j ne) ∙ z)
      (equal_or j i) in
      record {
        apart = settled_apart b.apart;
        every = λ x g m. let p = b.every x g m in (p.0, p.1, settled_statements p.0 ∙ p.2);
        from = λ j h z d. in_same off (statement_at s j) (statement_at t j) (get_or s.grades j d) (get_or s.grades j d) (sym (settled_statements j)) refl (b.from j h (was j z) d);
        best = λ j h z g m d. b.best j h (was j z) g (in_same off (statement_at t j) (statement_at s j) g g (settled_statements j) refl m) d;
      }

  pub settled_touched : Touched s (settled_row s i) i
  settled_touched = record {
    more = omega arith;
    old = λ j h ne. h;
    winners = λ j h ne. settled_leaves s.rows s.settled i (spots_at s i) (capacity s) few in_n in_i in_spots (λ (r : Row). r.winner) winner_apart (λ r p. refl) refl j;
    plays = λ j h ne. record { place = place_before j ne; statement = settled_statements j; grade = λ d. refl };
  }

  pub settled_right : (al : Algebra G) (base : Base G) (l : List (Statement × G)) (p : Statement × G) → RowsRight al base l s → RowsRight al base (l ++ p ∷ []) (settled_row s i)
  settled_right al base l p all j h z d =
      let t = settled_row s i in
      let ne : j ≡ i → ⊥ = λ e. not_both _ s.settled (ap (λ (v : ℕ). (row_at t v).place) e ∙ place_now) z in
      let r = kept_up l p al base (statement_at s j, get_or s.grades j d) (row_at s j).kept (all j h (sym (place_before j ne) ∙ z) d) in
      subst (λ (k : Kept). KeptRight al base (l ++ p ∷ []) (statement_at t j, get_or s.grades j d) k) (sym (settled_kept j))
      (subst (λ (x : Statement). KeptRight al base (l ++ p ∷ []) (x, get_or s.grades j d) (row_at s j).kept) (sym (settled_statements j)) r)

  pub settled_explained : (al : Algebra G) (base : Base G) (l : List (Statement × G)) (g : G) → OpenAt s i → ((d : G) → get_or s.grades i d ≡ g) → Lists s l → RowsRight al base l s → Explained al base l s → Explained al base (l ++ (statement_at s i, g) ∷ []) (settled_row s i)
  settled_explained al base l g un grade is right old k h d =
      let o : Statement × G = (statement_at s i, g) in
      let t = settled_row s i in
      let lg = is.long in
      let long = length-append l (o ∷ []) in
      ⊎_elim
      (λ lt.
      let kh : k < s.settled = omega arith in
      let kept : (row_at t (turn_at t k)).kept ≡ (row_at s (turn_at s k)).kept = settled_kept (turn_at t k) ∙ ap (λ (j : ℕ). (row_at s j).kept) (turn_before k kh) in
      same_explained al base (take k l) (take k (l ++ o ∷ [])) (get_or l k d) (get_or (l ++ o ∷ []) k d) _ _
      (sym (take-append-le k l (o ∷ []) (omega arith))) (sym (get_or_append_left l (o ∷ []) d k lt)) (sym kept) (old k lt d))
      (λ eq.
      let kept : (row_at t (turn_at t k)).kept ≡ (row_at s i).kept = settled_kept (turn_at t k) ∙ ap (λ (j : ℕ). (row_at s j).kept) (ap (turn_at t) (eq ∙ lg) ∙ turn_now) in
      let here : KeptRight al base l o (row_at s i).kept = subst (λ (v : G). KeptRight al base l (statement_at s i, v) (row_at s i).kept) (grade g) (right i within un g) in
      same_explained al base l (take k (l ++ o ∷ [])) o (get_or (l ++ o ∷ []) k d) _ _
      (sym (ap (λ (n : ℕ). take n (l ++ o ∷ [])) eq ∙ take-append_seam l (o ∷ []))) (sym (get_or_push l o d k (sym eq))) (sym kept) here)
      (last_or k (length l) (omega arith))

pub explained_grown : {G : Type 0} (al : Algebra G) (s t : State G) (base : Base G) (l : List (Statement × G)) → Fit s → Grown s t → Lists s l → Explained al base l s → Explained al base l t
explained_grown al s t base l fit g is old k h d =
    let lg = is.long in
    let kh : k < s.settled = omega arith in
    let whole = g.kept (turn_at s k) (fit.1 k kh) (not_both _ k (is.marked k kh)) in
    let kept : (row_at t (turn_at t k)).kept ≡ (row_at s (turn_at s k)).kept = ap (λ (j : ℕ). (row_at t j).kept) (turn_kept s t fit g k kh) ∙ whole.0 in
    subst (λ (v : Kept). KeptRight al base (take k l) (get_or l k d) v) (sym kept) (old k h d)
