-- Rows that list nothing below a place, and are else as they were.
use Rattle.std.proofs.Common.{◌≡◌, ℕ, ◌-◌, ◌+◌, ◌<◌, ◌≤◌, Bool, false, List, ◌++◌, length, map, take, drop, get_or, sym, refl, ap, ◌∙◌, subst, ⊎_elim, arith, length-append}
use borrow.Author.Tests.{both_ways}
use Rattle.std.proofs.lemmas.List.{get_or_append_left, get_or-append_right, get_or-map, get_or-take, get_or-drop, length-map, length-take-le, length-drop}
use Rattle.saturation.specs.declared.row.Row.{Row}
use Rattle.saturation.specs.Rows.{no_row}
use Rattle.saturation.specs.declared.table.Table.{Table}
use Rattle.saturation.specs.Tables.{State, row_at}
use Rattle.saturation.proofs.Offers.{below_or}
use Rattle.saturation.specs.Sides.{chain_of}
use Rattle.saturation.proofs.Indexing.{index_kept}
use Rattle.saturation.proofs.Siding.{same_chains, sides_kept}
use Rattle.saturation.proofs.RowFacts.{RowFacts, in_place_kept}
use Rattle.explanation.specs.Marks.{relisted, Clean, ButMarks}

pub settled_rows : {G : Type 0} (t : Table G) → t.settled ≤ length t.rows.now
settled_rows t = let f = t.settled_fit in let g = t.rows_fit in omega arith

module _ (rows : List Row) (n : ℕ) (fit : n ≤ length rows) (part : List Row) (is : part ≡ map (λ (r : Row). relisted r 0) (take n rows)) where
  part_long : length part ≡ n
  part_long = ap length is ∙ length-map (take n rows) (λ (r : Row). relisted r 0) ∙ length-take-le n rows fit

  pub cleared_long : length (part ++ drop n rows) ≡ length rows
  cleared_long = let p = part_long in let d = length-drop n rows in let a = length-append part (drop n rows) in omega arith

  below_cleared : (k : ℕ) → k < n → get_or (part ++ drop n rows) k no_row ≡ relisted (get_or rows k no_row) 0
  below_cleared k h =
      let p = part_long in
      let t = length-take-le n rows fit in
      get_or_append_left part (drop n rows) no_row k (omega arith)
      ∙ ap (λ (rs : List Row). get_or rs k no_row) is
      ∙ get_or-map (λ (r : Row). relisted r 0) (take n rows) k no_row no_row (omega arith)
      ∙ ap (λ (r : Row). relisted r 0) (get_or-take n rows k no_row h)

  above_cleared : (k : ℕ) → n ≤ k → get_or (part ++ drop n rows) k no_row ≡ get_or rows k no_row
  above_cleared k h =
      get_or-append_right part (drop n rows) n k no_row part_long h
      ∙ get_or-drop n rows (k - n) no_row
      ∙ ap (λ (j : ℕ). get_or rows j no_row) (let e : n + (k - n) ≡ k = omega arith in e)

  -- each column but that of what is listed
  cleared_column : {X : Type 0} (f : Row → X) → ((r : Row) → f (relisted r 0) ≡ f r) → (k : ℕ) → f (get_or (part ++ drop n rows) k no_row) ≡ f (get_or rows k no_row)
  cleared_column f apart k = ⊎_elim (λ lt. ap f (below_cleared k lt) ∙ apart (get_or rows k no_row)) (λ ge. ap f (above_cleared k ge)) (below_or k n)

  pub cleared_facts : (used len : ℕ) (begun : Bool) → begun ≡ false → RowFacts used rows n len begun → RowFacts used (part ++ drop n rows) n len begun
  cleared_facts used len begun off f =
      let fits = f.fits in
      let long = cleared_long in
      let statement = cleared_column (λ (r : Row). r.statement) (λ r. refl) in
      let turn = cleared_column (λ (r : Row). r.turn) (λ r. refl) in
      record {
        there = let h = f.there in omega arith;
        fits = fits;
        turns = λ k h. subst (λ (t : ℕ). t < len) (sym (turn k)) (f.turns k h);
        in_place = in_place_kept rows (part ++ drop n rows) statement turn (cleared_column (λ (r : Row). r.place) (λ r. refl)) n len f.in_place;
        unlisted = λ on. absurd (both_ways _ off on);
        winners = λ k h. subst (λ (w : ℕ). w < len) (sym (cleared_column (λ (r : Row). r.winner) (λ r. refl) k)) (f.winners k h);
        index = index_kept used rows (part ++ drop n rows) len statement (cleared_column (λ (r : Row). r.index) (λ r. refl)) f.index;
        sides = sides_kept used rows (part ++ drop n rows) n
            (λ k h. ap (λ (j : ℕ). (get_or (part ++ drop n rows) j no_row).statement) (turn k) ∙ statement (get_or rows k no_row).turn)
            (λ side. cleared_column (chain_of side) (λ r. same_chains (relisted r 0) r refl refl refl refl refl side)) f.sides;
      }

  module _ {G : Type 0} (s u : State G) (of : s.rows ≡ rows) (at : s.settled ≡ n) (new : u.rows ≡ part ++ drop n rows) (len : u.len ≡ s.len) (settled : u.settled ≡ s.settled) (grades : u.grades ≡ s.grades) where
    row_below : (k : ℕ) → k < n → row_at u k ≡ relisted (row_at s k) 0
    row_below k h = ap (λ (rs : List Row). get_or rs k no_row) new ∙ below_cleared k h ∙ ap (λ (rs : List Row). relisted (get_or rs k no_row) 0) (sym of)

    row_above : (k : ℕ) → n ≤ k → row_at u k ≡ row_at s k
    row_above k h = ap (λ (rs : List Row). get_or rs k no_row) new ∙ above_cleared k h ∙ ap (λ (rs : List Row). get_or rs k no_row) (sym of)

    pub cleared_but : ButMarks s u
    cleared_but = record {
      len = len;
      settled = settled;
      grades = grades;
      long = ap length new ∙ cleared_long ∙ ap length (sym of);
      each = λ k. ⊎_elim
          (λ lt. row_below k lt ∙ ap (relisted (row_at s k)) (sym (ap (λ (r : Row). r.listed) (row_below k lt))))
          (λ ge. row_above k ge ∙ ap (relisted (row_at s k)) (sym (ap (λ (r : Row). r.listed) (row_above k ge))))
          (below_or k n);
      above = λ k h. row_above k (omega arith);
    }

    pub cleared_clean : Clean u
    cleared_clean k h = ap (λ (r : Row). r.listed) (row_below k (omega arith))
