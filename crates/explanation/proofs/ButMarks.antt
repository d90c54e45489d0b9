-- Two states of a table that differ in what is listed alone.
use Rattle.std.proofs.Common.{◌≡◌, ℕ, ◌+◌, ◌<◌, ◌≤◌, Bool, List, length, get_or, sym, refl, ap, ◌∙◌, subst, ⊎_elim, arith, length-set}
use Rattle.std.proofs.lemmas.List.{get_or-set_same, get_or-set_other, ext_get_or}
use Rattle.standpoint.specs.declared.statement.Statement.{Statement}
use Rattle.standpoint.specs.declared.step.Step.{Step}
use Rattle.standpoint.specs.Steps.{given}
use Rattle.saturation.specs.declared.row.Kept.{Kept}
use Rattle.saturation.specs.declared.row.Row.{Row}
use Rattle.saturation.specs.Rows.{no_row}
use Rattle.saturation.specs.Tables.{State, row_at, statement_at, turn_at}
use Rattle.saturation.specs.Searching.{Premise}
use Rattle.saturation.proofs.Offers.{equal_or, below_or}
use Rattle.explanation.specs.Needed.{kept_at, Names, Rests, rank, Renumbers, ChosenWritten}
use Rattle.explanation.specs.Marks.{listed_at, relisted, with_listed, Clean, ButMarks}

module _ {G : Type 0} where
  pub but_marks_trans : (s t u : State G) → ButMarks s t → ButMarks t u → ButMarks s u
  but_marks_trans s t u a b = record {
    len = b.len ∙ a.len;
    settled = b.settled ∙ a.settled;
    grades = b.grades ∙ a.grades;
    long = b.long ∙ a.long;
    each = λ k. b.each k ∙ ap (λ (r : Row). relisted r (listed_at u k)) (a.each k);
    above = λ k h. let e = a.settled in b.above k (omega arith) ∙ a.above k h;
  }

  -- one number listed
  module _ (s : State G) (k n : ℕ) (h : k < s.settled) (fit : s.settled ≤ length s.rows) where
    row_here : row_at (with_listed s k n) k ≡ relisted (row_at s k) n
    row_here = get_or-set_same s.rows k (relisted (row_at s k) n) no_row (omega arith)

    row_there : (j : ℕ) → (j ≡ k → ⊥) → row_at (with_listed s k n) j ≡ row_at s j
    row_there j ne = get_or-set_other s.rows k j (relisted (row_at s k) n) no_row ne

    pub listed_here : listed_at (with_listed s k n) k ≡ n
    listed_here = ap (λ (r : Row). r.listed) row_here

    pub listed_there : (j : ℕ) → (j ≡ k → ⊥) → listed_at (with_listed s k n) j ≡ listed_at s j
    listed_there j ne = ap (λ (r : Row). r.listed) (row_there j ne)

    pub but_one : ButMarks s (with_listed s k n)
    but_one = record {
      len = refl;
      settled = refl;
      grades = refl;
      long = length-set s.rows k (relisted (row_at s k) n);
      each = λ j. ⊎_elim
          (λ e. subst (λ (i : ℕ). row_at (with_listed s k n) i ≡ relisted (row_at s i) (listed_at (with_listed s k n) i)) (sym e) (row_here ∙ ap (relisted (row_at s k)) (sym listed_here)))
          (λ ne. row_there j ne ∙ ap (relisted (row_at s j)) (sym (listed_there j ne)))
          (equal_or j k);
      above = λ j le. row_there j (λ e. omega arith);
    }

  module _ (s u : State G) (b : ButMarks s u) where
    turn_same : (k : ℕ) → turn_at u k ≡ turn_at s k
    turn_same k = ap (λ (r : Row). r.turn) (b.each k)

    kept_same : (k : ℕ) → kept_at u k ≡ kept_at s k
    kept_same k = ap (λ (j : ℕ). (row_at u j).kept) (turn_same k) ∙ ap (λ (r : Row). r.kept) (b.each (turn_at s k))

    pub rests_same : (k j : ℕ) → Rests u k j → Rests s k j
    rests_same k j r = subst (λ (v : Kept). Names v (j + 1)) (kept_same k) r

    pub rests_back : (k j : ℕ) → Rests s k j → Rests u k j
    rests_back k j r = subst (λ (v : Kept). Names v (j + 1)) (sym (kept_same k)) r

    premise_same : (k : ℕ) (p : Statement × G) → Premise u k p → Premise s k p
    premise_same k p r =
        let e = turn_same k in (
          sym (ap (λ (v : Row). v.statement) (b.each (turn_at s k))) ∙ ap (statement_at u) (sym e) ∙ r.0,
          λ d. ap (λ (gs : List G). get_or gs (turn_at s k) d) (sym b.grades) ∙ ap (λ (j : ℕ). get_or u.grades j d) (sym e) ∙ r.1 d,
        )

    renumbers_same : (m : ℕ → Bool) (k : ℕ) (v : Step G) → Renumbers u m k v → Renumbers s m k v
    renumbers_same m k v w =
        let e = kept_same k in
        record {
          rule = w.rule ∙ ap (λ (x : Kept). x.rule) e;
          first = w.first ∙ ap (λ (x : Kept). rank m x.first) e;
          second = w.second ∙ ap (λ (x : Kept). rank m x.second) e;
          third = w.third ∙ ap (λ (x : Kept). rank m x.third) e;
          gives = premise_same k (given v) w.gives;
        }

    -- what is written does not depend on what is listed
    pub written_same : (m : ℕ → Bool) (n : ℕ) (old new : List (Step G)) → ChosenWritten u m n old new → ChosenWritten s m n old new
    written_same m n old new w = record { long = w.long; each = λ k h t d. renumbers_same m k (get_or new (rank m k) d) (w.each k h t d); rest = w.rest }

    -- with nothing listed the table is as it was
    pub clean_same : Clean s → Clean u → u ≡ s
    clean_same cs cu =
        let st = b.settled in
        let rows : u.rows ≡ s.rows = ext_get_or no_row u.rows s.rows b.long (λ k h.
        ⊎_elim
        (λ lt. b.each k ∙ ap (relisted (row_at s k)) (cu k (omega arith) ∙ sym (cs k lt)))
        (λ ge. b.above k ge)
        (below_or k s.settled)) in
        let e1 = b.grades in
        let e2 = b.len in
        let whole : ◌≡◌ {A = State G} (record { rows = u.rows; grades = u.grades; len = u.len; settled = u.settled }) (record { rows = s.rows; grades = s.grades; len = s.len; settled = s.settled }) = cc in
        whole
