-- One offer: what the writes make of the rows, and that they keep the best of what was offered.
use Rattle.std.proofs.Common.{◌≡◌, ℕ, ◌+◌, ◌<◌, ◌≤◌, true, false, ◌⊎◌, List, ◌∷◌, length, get_or, Some, None, Option, sym, refl, ap, ◌∙◌, subst, inl, inr, ⊎_elim, arith, length-set, get_or-set_other, get_or-set_same}
use borrow.Author.Tests.{both_ways}
use Rattle.std.proofs.lemmas.Option.{cond_some, none-some}
use Rattle.std.proofs.lemmas.Bool.Decides.{nat_tests, eqb_tells, leb_tells}
use Rattle.std.specs.Option.{is_some}
use Rattle.standpoint.specs.Algebra.{Algebra, Laws}
use Rattle.standpoint.specs.declared.statement.Statement.{Statement}
use Rattle.saturation.specs.declared.row.Kept.{Kept}
use Rattle.saturation.specs.declared.row.Row.{Row}
use Rattle.standpoint.specs.Lists.{In}
use Rattle.saturation.specs.Rows.{no_row}
use Rattle.saturation.specs.Buckets.{bucket_of, headed}
use Rattle.saturation.specs.Tables.{State, capacity, row_at, statement_at, Absent, has_room, pushed, improved, entry, rekept}
use Rattle.saturation.specs.Memory.{content, ButRow, Sets, Offered}
use Rattle.saturation.specs.Memory.Offered.{new, bettered}
use Rattle.saturation.specs.Offering.{Apart, BestOf, Grown, Taken, Outdone, Keeps}
use Rattle.saturation.proofs.Writing.{write_leaves}
use Rattle.saturation.specs.Tournament.{Played, PlayedBut, ButWinners}
use Rattle.saturation.proofs.Rematching.{Touched, touched_played, but_statement, but_grade}
use Rattle.saturation.proofs.Winners.{same_right, but_grown, but_apart, but_best, but_right}
use Rattle.saturation.proofs.Leaving.{same_capacity, leaves_refl, leaves_trans, but_row_leaves, but_row_then, but_content}
use Rattle.saturation.proofs.Indexing.{entered_long, entered_beyond, entered_old, entered_new}

pub last_or : (i n : ℕ) → i < n + 1 → (i < n) ⊎ (i ≡ n)
last_or i n h = ⊎_elim (λ t. inr t.1) (λ f. let ne = f.1 in inl (omega arith)) (eqb_tells i n)

pub below_or : (i n : ℕ) → (i < n) ⊎ (n ≤ i)
below_or i n = ⊎_elim (λ e. inr e.1) (λ e. inl e.1) (leb_tells n i)

pub equal_or : (i n : ℕ) → (i ≡ n) ⊎ (i ≡ n → ⊥)
equal_or i n = ⊎_elim (λ t. inl t.1) (λ f. inr f.1) (eqb_tells i n)

pub none_or : {X : Type 0} (p : Option X) → (p ≡ None) ⊎ (p ≡ None → ⊥)
none_or None = inl refl
none_or (Some x) = inr (λ e. none-some x (sym e))

-- a place is settled, or none is
pub not_both : {X : Type 0} (p : Option X) (x : X) → p ≡ Some x → p ≡ None → ⊥
not_both p x some none = none-some x (sym none ∙ some)

pub none_told : {X : Type 0} (p : Option X) → false ≡ is_some p → p ≡ None
none_told None off = refl
none_told (Some x) off = absurd (both_ways true (sym off) refl)

pub same_some : {X : Type 0} {x y : X} → Some x ≡ Some y → x ≡ y
same_some {x = x} {y = y} e = (cond_some true x y e).1

pub in_same : {G : Type 0} (os : List (Statement × G)) (x y : Statement) (g h : G) → x ≡ y → g ≡ h → In os (x, g) → In os (y, h)
in_same {G} os x y g h e f m = let same : ◌≡◌ {A = Statement × G} (x, g) (y, h) = cc in subst (In os) same m

fst_is : {G : Type 0} {x y : Statement} {g h : G} → ◌≡◌ {A = Statement × G} (x, g) (y, h) → x ≡ y
fst_is {G} e = ap (λ (p : Statement × G). p.0) e

snd_is : {G : Type 0} {x y : Statement} {g h : G} → ◌≡◌ {A = Statement × G} (x, g) (y, h) → g ≡ h
snd_is {G} e = ap (λ (p : Statement × G). p.1) e

pub grown_refl : {G : Type 0} (s : State G) → Grown s s
grown_refl s = record {
  more = omega arith;
  settled = refl;
  statements = λ k h. refl;
  places = λ k h. refl;
  turns = λ k h. refl;
  fresh = λ k low h. absurd (let z : ⊥ = omega arith in z);
  kept = λ k h p. (refl, λ d. refl);
  leaves = leaves_refl s;
}

pub grown_trans : {G : Type 0} {s t u : State G} → Grown s t → Grown t u → Grown s u
grown_trans {G} {s} {t} {u} a b =
    let m = a.more in
    let n = b.more in
    let up : (k : ℕ) → k < s.len → k < t.len = λ k h. omega arith in
    record {
      more = omega arith;
      settled = b.settled ∙ a.settled;
      statements = λ k h. b.statements k (up k h) ∙ a.statements k h;
      places = λ k h. b.places k (up k h) ∙ a.places k h;
      turns = λ k h. b.turns k (up k h) ∙ a.turns k h;
      fresh = λ k low h. ⊎_elim (λ lt. b.places k lt ∙ a.fresh k low lt) (λ ge. b.fresh k ge h) (below_or k t.len);
      kept = λ k h p.
          let q = a.kept k h p in
          let r = b.kept k (up k h) (λ z. p (sym (a.places k h) ∙ z)) in
          (r.0 ∙ q.0, λ d. r.1 d ∙ q.1 d);
      leaves = leaves_trans n a.leaves b.leaves;
    }

module _ {G : Type 0} (s : State G) (x : Row) (g : G) (room : s.len < capacity s) where
  used : capacity s ≤ length s.rows
  used = omega arith

  grades_in : s.len < length s.grades
  grades_in = omega arith

  -- of the rows each column but the heads
  old_column : {X : Type 0} (f : Row → X) → ((r : Row) (k : ℕ) → f (headed r k) ≡ f r) → (k : ℕ) → k < s.len → f (row_at (pushed s x g) k) ≡ f (row_at s k)
  old_column f apart k h = entered_old (capacity s) s.rows s.len x (bucket_of (capacity s) x.statement) refl room used f apart k (λ e. omega arith)

  new_column : {X : Type 0} (f : Row → X) → ((r : Row) (k : ℕ) → f (headed r k) ≡ f r) → (k : ℕ) → k ≡ s.len → f (row_at (pushed s x g) k) ≡ f x
  new_column f apart k e = ap (λ (j : ℕ). f (row_at (pushed s x g) j)) e ∙ entered_new (capacity s) s.rows s.len x (bucket_of (capacity s) x.statement) refl room used f apart

  statement_old : (k : ℕ) → k < s.len → statement_at (pushed s x g) k ≡ statement_at s k
  statement_old = old_column (λ (r : Row). r.statement) (λ r k. refl)

  pub statement_new : (k : ℕ) → k ≡ s.len → statement_at (pushed s x g) k ≡ x.statement
  statement_new = new_column (λ (r : Row). r.statement) (λ r k. refl)

  place_old : (k : ℕ) → k < s.len → (row_at (pushed s x g) k).place ≡ (row_at s k).place
  place_old = old_column (λ (r : Row). r.place) (λ r k. refl)

  kept_old : (k : ℕ) → k < s.len → (row_at (pushed s x g) k).kept ≡ (row_at s k).kept
  kept_old = old_column (λ (r : Row). r.kept) (λ r k. refl)

  old_grade : (k : ℕ) → k < s.len → (d : G) → get_or (pushed s x g).grades k d ≡ get_or s.grades k d
  old_grade k h d = get_or-set_other s.grades s.len k g d (λ e. omega arith)

  new_grade : (d : G) → get_or (pushed s x g).grades s.len d ≡ g
  new_grade d = get_or-set_same s.grades s.len g d grades_in

  -- all but the new row and its grade, besides chains
  pub pushed_but : ButRow s (pushed s x g) s.len
  pushed_but = record {
    settled = refl;
    rows_long = entered_long (capacity s) s.rows s.len x (bucket_of (capacity s) x.statement) refl room used;
    grades_long = length-set s.grades s.len g;
    beyond = entered_beyond (capacity s) s.rows s.len x (bucket_of (capacity s) x.statement) refl room used;
    rows = entered_old (capacity s) s.rows s.len x (bucket_of (capacity s) x.statement) refl room used content (λ r k. refl);
    grades = λ k ne d. get_or-set_other s.grades s.len k g d ne;
  }

  pub pushed_grown : x.place ≡ None → Grown s (pushed s x g)
  pushed_grown un = record {
    more = omega arith;
    settled = refl;
    statements = statement_old;
    places = place_old;
    turns = old_column (λ (r : Row). r.turn) (λ r k. refl);
    fresh = λ k low h. new_column (λ (r : Row). r.place) (λ r k. refl) k (omega arith) ∙ un;
    kept = λ k h p. (kept_old k h, old_grade k h);
    leaves = but_row_leaves s.len (omega arith) pushed_but;
  }

  grade_at : (i : ℕ) → i ≡ s.len → (d : G) → get_or (pushed s x g).grades i d ≡ g
  grade_at i e d = ap (λ (k : ℕ). get_or (pushed s x g).grades k d) e ∙ new_grade d

  pub pushed_touched : Touched s (pushed s x g) s.len
  pushed_touched = record {
    more = omega arith;
    old = λ j h ne. omega arith;
    winners = λ j h ne. old_column (λ (r : Row). r.winner) (λ r k. refl) j (omega arith);
    plays = λ j h ne.
        let lt : j < s.len = omega arith in
        record { place = place_old j lt; statement = statement_old j lt; grade = old_grade j lt };
  }

  pub pushed_apart : Absent s x.statement → Apart s → Apart (pushed s x g)
  pushed_apart absent apart i j hi hj e =
      ⊎_elim
      (λ oi. ⊎_elim
      (λ oj. apart i j oi oj (sym (statement_old i oi) ∙ e ∙ statement_old j oj))
      (λ nj. absurd (absent i oi (sym (statement_old i oi) ∙ e ∙ statement_new j nj)))
      (last_or j s.len hj))
      (λ ni. ⊎_elim
      (λ oj. absurd (absent j oj (sym (statement_old j oj) ∙ sym e ∙ statement_new i ni)))
      (λ nj. ni ∙ sym nj)
      (last_or j s.len hj))
      (last_or i s.len hi)

  pub pushed_best : (al : Algebra G) → Laws al → Absent s x.statement → (offered : List (Statement × G)) → BestOf al s offered → BestOf al (pushed s x g) ((x.statement, g) ∷ offered)
  pushed_best al l absent off b =
      let t = pushed s x g in
      let reflexive : (v : G) → al.no_worse v v ≡ true = λ v. ⊎_elim (λ e. e) (λ e. e) (l.total v v) in
      record {
        apart = pushed_apart absent b.apart;
        every = λ y h.
            ⊎_elim
            (λ e. (s.len, omega arith, statement_new s.len refl ∙ fst_is e))
            (λ m. let p = b.every y h m in let lt = p.1 in (p.0, omega arith, statement_old p.0 p.1 ∙ p.2));
        from = λ i hi un d.
            ⊎_elim
            (λ oi. inr (in_same off (statement_at s i) (statement_at t i) (get_or s.grades i d) (get_or t.grades i d) (sym (statement_old i oi)) (sym (old_grade i oi d)) (b.from i oi (sym (place_old i oi) ∙ un) d)))
            (λ ni. let e1 = statement_new i ni in let e2 = grade_at i ni d in inl cc)
            (last_or i s.len hi);
        best = λ i hi un h m d.
            ⊎_elim
            (λ oi. ⊎_elim
            (λ e. absurd (absent i oi (sym (statement_old i oi) ∙ sym (fst_is e))))
            (λ m'. subst (λ (v : G). al.no_worse v h ≡ true) (sym (old_grade i oi d)) (b.best i oi (sym (place_old i oi) ∙ un) h (in_same off (statement_at t i) (statement_at s i) h h (statement_old i oi) refl m') d))
            m)
            (λ ni. ⊎_elim
            (λ e. subst (λ (v : G). al.no_worse v h ≡ true) (sym (snd_is e) ∙ sym (grade_at i ni d)) (reflexive h))
            (λ m'. let p = b.every (statement_at t i) h m' in absurd (absent p.0 p.1 (p.2 ∙ statement_new i ni)))
            m)
            (last_or i s.len hi);
      }

  pub pushed_right : (al : Algebra G) → Keeps al s (pushed s x g) x.statement g x.kept
  pushed_right al base l right all i h un d =
      let t = pushed s x g in
      ⊎_elim
      (λ oi. same_right al base l (statement_at s i) (statement_at t i) (get_or s.grades i d) (get_or t.grades i d) (row_at s i).kept (row_at t i).kept (sym (statement_old i oi)) (sym (old_grade i oi d)) (sym (kept_old i oi)) (all i oi (sym (place_old i oi) ∙ un) d))
      (λ ni. same_right al base l x.statement (statement_at t i) g (get_or t.grades i d) x.kept (row_at t i).kept (sym (statement_new i ni)) (sym (grade_at i ni d)) (sym (new_column (λ (r : Row). r.kept) (λ r k. refl) i ni)) right)
      (last_or i s.len h)

module _ {G : Type 0} (s : State G) (i : ℕ) (g : G) (kept : Kept) (within : i < s.len) (fits : s.len ≤ capacity s) where
  in_rows : i < length s.rows
  in_rows = omega arith

  in_grades : i < length s.grades
  in_grades = omega arith

  row_other : (k : ℕ) → (k ≡ i → ⊥) → row_at (improved s i g kept) k ≡ row_at s k
  row_other k ne = get_or-set_other s.rows i k (rekept (row_at s i) kept) no_row ne

  row_here : row_at (improved s i g kept) i ≡ rekept (row_at s i) kept
  row_here = get_or-set_same s.rows i (rekept (row_at s i) kept) no_row in_rows

  better_other : (k : ℕ) → (k ≡ i → ⊥) → (d : G) → get_or (improved s i g kept).grades k d ≡ get_or s.grades k d
  better_other k ne d = get_or-set_other s.grades i k g d ne

  better_here : (k : ℕ) → k ≡ i → (d : G) → get_or (improved s i g kept).grades k d ≡ g
  better_here k e d = ap (λ (j : ℕ). get_or (improved s i g kept).grades j d) e ∙ get_or-set_same s.grades i g d in_grades

  -- what a new step leaves of a row
  left_as : {X : Type 0} (f : Row → X) → f (rekept (row_at s i) kept) ≡ f (row_at s i) → (k : ℕ) → f (row_at (improved s i g kept) k) ≡ f (row_at s k)
  left_as = write_leaves s.rows i (rekept (row_at s i) kept) in_rows

  statements_left : (k : ℕ) → statement_at (improved s i g kept) k ≡ statement_at s k
  statements_left = left_as (λ (r : Row). r.statement) refl

  places_left : (k : ℕ) → (row_at (improved s i g kept) k).place ≡ (row_at s k).place
  places_left = left_as (λ (r : Row). r.place) refl

  pub improved_but : ButRow s (improved s i g kept) i
  improved_but = record {
    settled = refl;
    rows_long = length-set s.rows i (rekept (row_at s i) kept);
    grades_long = length-set s.grades i g;
    beyond = λ k h. row_other k (λ e. omega arith);
    rows = λ k ne. ap content (row_other k ne);
    grades = better_other;
  }

  pub improved_grown : (row_at s i).place ≡ None → Grown s (improved s i g kept)
  improved_grown un = record {
    more = omega arith;
    settled = refl;
    statements = λ k h. statements_left k;
    places = λ k h. places_left k;
    turns = λ k h. left_as (λ (r : Row). r.turn) refl k;
    fresh = λ k low h. absurd (let z : ⊥ = omega arith in z);
    kept = λ k h p.
        let ne : k ≡ i → ⊥ = λ e. p (ap (λ (j : ℕ). (row_at s j).place) e ∙ un) in
        (ap (λ (r : Row). r.kept) (row_other k ne), better_other k ne);
    leaves = but_row_leaves i within improved_but;
  }

  pub improved_touched : Touched s (improved s i g kept) i
  improved_touched = record {
    more = omega arith;
    old = λ j h ne. h;
    winners = λ j h ne. left_as (λ (r : Row). r.winner) refl j;
    plays = λ j h ne. record { place = places_left j; statement = statements_left j; grade = better_other j ne };
  }

  pub improved_apart : Apart s → Apart (improved s i g kept)
  improved_apart apart j k hj hk e = apart j k hj hk (sym (statements_left j) ∙ e ∙ statements_left k)

  pub improved_best : (al : Algebra G) → Laws al → (x : Statement) → statement_at s i ≡ x → (row_at s i).place ≡ None → ((d : G) → al.no_worse (get_or s.grades i d) g ≡ false) → (offered : List (Statement × G)) → BestOf al s offered → BestOf al (improved s i g kept) ((x, g) ∷ offered)
  improved_best al l x is un worse off b =
      let t = improved s i g kept in
      let reflexive : (v : G) → al.no_worse v v ≡ true = λ v. ⊎_elim (λ e. e) (λ e. e) (l.total v v) in
      let ahead : (d : G) → al.no_worse g (get_or s.grades i d) ≡ true = λ d. ⊎_elim (λ e. absurd (both_ways _ (worse d) e)) (λ e. e) (l.total (get_or s.grades i d) g) in
      record {
        apart = improved_apart b.apart;
        every = λ y h.
            ⊎_elim
            (λ e. (i, within, statements_left i ∙ is ∙ fst_is e))
            (λ m. let p = b.every y h m in (p.0, p.1, statements_left p.0 ∙ p.2));
        from = λ j hj uj d.
            ⊎_elim
            (λ e. let e1 = statements_left j in let e2 = better_here j e d in let e3 = ap (statement_at s) e in inl cc)
            (λ ne. inr (in_same off (statement_at s j) (statement_at t j) (get_or s.grades j d) (get_or t.grades j d) (sym (statements_left j)) (sym (better_other j ne d)) (b.from j hj (sym (places_left j) ∙ uj) d)))
            (equal_or j i);
        best = λ j hj uj h m d.
            ⊎_elim
            (λ e. subst (λ (v : G). al.no_worse v h ≡ true) (sym (better_here j e d))
            (⊎_elim
            (λ f. subst (λ (v : G). al.no_worse v h ≡ true) (sym (snd_is f)) (reflexive h))
            (λ m'. l.trans g (get_or s.grades i d) h (ahead d) (b.best i within un h (in_same off (statement_at t j) (statement_at s i) h h (statements_left j ∙ ap (statement_at s) e) refl m') d))
            m))
            (λ ne. ⊎_elim
            (λ f. absurd (ne (b.apart j i hj within (sym (statements_left j) ∙ sym (fst_is f) ∙ sym is))))
            (λ m'. subst (λ (v : G). al.no_worse v h ≡ true) (sym (better_other j ne d)) (b.best j hj (sym (places_left j) ∙ uj) h (in_same off (statement_at t j) (statement_at s j) h h (statements_left j) refl m') d))
            m)
            (equal_or j i);
      }

  pub improved_right : (al : Algebra G) (x : Statement) → statement_at s i ≡ x → Keeps al s (improved s i g kept) x g kept
  improved_right al x is base l right all j h un d =
      let t = improved s i g kept in
      ⊎_elim
      (λ e.
      let here : row_at t j ≡ rekept (row_at s i) kept = ap (row_at t) e ∙ row_here in
      same_right al base l x (statement_at t j) g (get_or t.grades j d) kept (row_at t j).kept (sym is ∙ sym (ap (λ (r : Row). r.statement) here)) (sym (better_here j e d)) (sym (ap (λ (r : Row). r.kept) here)) right)
      (λ ne. same_right al base l (statement_at s j) (statement_at t j) (get_or s.grades j d) (get_or t.grades j d) (row_at s j).kept (row_at t j).kept (sym (statements_left j)) (sym (better_other j ne d)) (sym (ap (λ (r : Row). r.kept) (row_other j ne))) (all j h (sym (places_left j) ∙ un) d))
      (equal_or j i)

-- an offer that changes nothing: its row is settled, or has a grade no worse
pub left_best : {G : Type 0} (al : Algebra G) (s : State G) (x : Statement) (g : G) (i : ℕ) → i < s.len → statement_at s i ≡ x → ((row_at s i).place ≡ None → (d : G) → al.no_worse (get_or s.grades i d) g ≡ true) → (offered : List (Statement × G)) → BestOf al s offered → BestOf al s ((x, g) ∷ offered)
left_best {G} al s x g i within is good off b = record {
  apart = b.apart;
  every = λ y h. ⊎_elim (λ e. (i, within, is ∙ fst_is e)) (λ m. b.every y h m);
  from = λ j hj uj d. inr (b.from j hj uj d);
  best = λ j hj uj h m d.
      ⊎_elim
      (λ e. let same : i ≡ j = b.apart i j within hj (is ∙ fst_is e) in
      let P : ℕ → Type 0 = λ k. (row_at s k).place ≡ None → al.no_worse (get_or s.grades k d) h ≡ true in
      subst P same (λ u. subst (λ (v : G). al.no_worse (get_or s.grades i d) v ≡ true) (snd_is e) (good u d)) uj)
      (λ m'. b.best j hj uj h m' d)
      m;
}

-- one row more, and the winners found anew
module _ {G : Type 0} (al : Algebra G) (s m t : State G) (x : Row) (g : G) (room : has_room s ≡ true) (is : m ≡ pushed s x g) (but : ButWinners m t) where
  from_pushed : ButWinners (pushed s x g) t
  from_pushed = subst (λ (z : State G). ButWinners z t) is but

  within : s.len < capacity s
  within = grind (arith, nat_tests)

  fits : s.len + 1 ≤ capacity (pushed s x g)
  fits = let lt = within in let b = pushed_but s x g within in let e = same_capacity s (pushed s x g) b.rows_long b.grades_long in omega arith

  pub taken_pushed : Laws al → x.place ≡ None → Absent s x.statement → (PlayedBut al m s.len → Played al t) → Taken al s t x.statement g true
  taken_pushed l un absent played = record {
    grown = grown_trans (pushed_grown s x g within un) (but_grown from_pushed fits);
    apart = λ h. but_apart from_pushed (pushed_apart s x g within absent h);
    only = λ k low h. let e = from_pushed.len in but_statement from_pushed k ∙ statement_new s x g within k (omega arith);
    ranked = λ _ offered r. record {
      best = but_best from_pushed al _ (pushed_best s x g within al l absent offered r.best);
      played = played (subst (λ (z : State G). PlayedBut al z s.len) (sym is) (touched_played al s (pushed s x g) s.len (pushed_touched s x g within) r.played));
    };
    refused = λ e. absurd (both_ways true e refl);
  }

  sets_pushed : Sets s t s.len x g
  sets_pushed = record {
    others = but_row_then s.len (omega arith) fits (pushed_but s x g within) from_pushed;
    row = but_content from_pushed s.len ∙ new_column s x g within content (λ r k. refl) s.len refl;
    grade = λ d. but_grade from_pushed s.len d ∙ new_grade s x g within d;
  }

  pub offered_pushed : (step : Kept) → content x ≡ content (entry (row_at s s.len) x.statement step) → Absent s x.statement → Offered al s t x.statement g step true
  offered_pushed step told absent =
      let e = from_pushed.len in
      let p = sets_pushed in
      new absent within e (record { others = p.others; row = p.row ∙ told; grade = p.grade })

  pub keeps_pushed : Keeps al s t x.statement g x.kept
  keeps_pushed base l right all = but_right from_pushed al base l (pushed_right s x g within al base l right all)

-- a better grade, and the winners found anew
module _ {G : Type 0} (al : Algebra G) (s m t : State G) (i : ℕ) (x : Statement) (g : G) (kept : Kept) (is : m ≡ improved s i g kept) (but : ButWinners m t)
    (within : i < s.len) (fits : s.len ≤ capacity s) (same : statement_at s i ≡ x) where
  from_improved : ButWinners (improved s i g kept) t
  from_improved = subst (λ (z : State G). ButWinners z t) is but

  still_fits : s.len ≤ capacity (improved s i g kept)
  still_fits = let e = same_capacity s (improved s i g kept) (length-set s.rows i (rekept (row_at s i) kept)) (length-set s.grades i g) in omega arith

  pub taken_improved : Laws al → Outdone al s i g true → (PlayedBut al m i → Played al t) → Taken al s t x g true
  taken_improved l out played = record {
    grown = grown_trans (improved_grown s i g kept within fits out.0) (but_grown from_improved still_fits);
    apart = λ h. but_apart from_improved (improved_apart s i g kept within fits h);
    only = λ k low h. let e = from_improved.len in absurd (let z : ⊥ = omega arith in z);
    ranked = λ _ offered r. record {
      best = but_best from_improved al _ (improved_best s i g kept within fits al l x same out.0 out.1 offered r.best);
      played = played (subst (λ (z : State G). PlayedBut al z i) (sym is) (touched_played al s (improved s i g kept) i (improved_touched s i g kept within fits) r.played));
    };
    refused = λ e. absurd (both_ways true e refl);
  }

  sets_improved : Sets s t i (rekept (row_at s i) kept) g
  sets_improved = record {
    others = but_row_then i (omega arith) still_fits (improved_but s i g kept within fits) from_improved;
    row = but_content from_improved i ∙ ap content (row_here s i g kept within fits);
    grade = λ d. but_grade from_improved i d ∙ better_here s i g kept within fits i refl d;
  }

  pub offered_improved : Outdone al s i g true → Offered al s t x g kept true
  offered_improved out = bettered i within same out.0 out.1 from_improved.len sets_improved

  pub keeps_improved : Keeps al s t x g kept
  keeps_improved base l right all = but_right from_improved al base l (improved_right s i g kept within fits al x same base l right all)

-- nothing is written
module _ {G : Type 0} (al : Algebra G) (s : State G) (x : Statement) (g : G) where
  pub taken_left : (i : ℕ) → i < s.len → statement_at s i ≡ x → ((row_at s i).place ≡ None → (d : G) → al.no_worse (get_or s.grades i d) g ≡ true) → Taken al s s x g true
  taken_left i within is good = record {
    grown = grown_refl s;
    apart = λ h. h;
    only = λ k low h. absurd (let z : ⊥ = omega arith in z);
    ranked = λ _ offered r. record { best = left_best al s x g i within is good offered r.best; played = r.played };
    refused = λ e. absurd (both_ways true e refl);
  }

pub keeps_same : {G : Type 0} (al : Algebra G) (s t : State G) (x : Statement) (g : G) (step : Kept) → t ≡ s → Keeps al s t x g step
keeps_same al s t x g step is = subst (λ z. Keeps al s z x g step) (sym is) (λ base l right all. all)
