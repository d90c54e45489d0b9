-- Giving marked steps their places in the list.
use Rattle.std.proofs.Common.{◌≡◌, ℕ, ◌+◌, ◌<◌, ◌≤◌, true, false, length, nat_lt, sym, refl, ap, ◌∙◌, subst, ⊎_elim, arith}
use borrow.Author.Tests.{both_ways}
use Rattle.std.proofs.lemmas.Bool.Decides.{nat_tests}
use Rattle.saturation.specs.declared.table.Table.{Table}
use Rattle.saturation.specs.Tables.{State, view}
use Rattle.saturation.proofs.Offers.{equal_or, last_or}
use Rattle.explanation.specs.Needed.{rank}
use Rattle.explanation.specs.Marks.{listed_at, mark_at, with_listed, ButMarks, NumbersMarks}
use Rattle.explanation.proofs.ButMarks.{but_marks_trans, but_one, listed_here, listed_there}
use Rattle.explanation.proofs.Ranks.{rank_taken, rank_left, rank_most, rank_same}

more_than_none : (n : ℕ) → 0 < n → nat_lt 0 n ≡ true
more_than_none n h = grind (arith, nat_tests)

module _ {G : Type 0} where
  -- from s to u the marked ones of the first n were given their places
  pub record Numbered (s u : State G) (n : ℕ) : Type 0 where
    pub but_marks : ButMarks s u
    pub same : (k : ℕ) → mark_at u k ≡ mark_at s k
    pub placed : (k : ℕ) → k < n → mark_at s k ≡ true → listed_at u k ≡ rank (mark_at s) (k + 1)

  -- what the loop keeps, with so many counted
  abbrev pub Numbering : State G → State G → ℕ → ℕ → Type 0
  Numbering s u n count = (count ≡ rank (mark_at s) n) × Numbered s u n

  pub numbering_none : (s : State G) → Numbering s s 0 0
  numbering_none s = (
    refl,
    record {
      but_marks = record { len = refl; settled = refl; grades = refl; long = refl; each = λ k. refl; above = λ k h. refl };
      same = λ k. refl;
      placed = λ k h. absurd (omega arith);
    },
  )

  module _ (s u : State G) (k count : ℕ) (loop : Numbering s u k count) where
    pub numbering_skip : false ≡ mark_at u k → Numbering s u (k + 1) count
    numbering_skip un =
        let is = loop.1 in
        let off : mark_at s k ≡ false = sym (is.same k) ∙ sym un in (
          loop.0 ∙ sym (rank_left (mark_at s) k off),
          record {
            but_marks = is.but_marks;
            same = is.same;
            placed = λ j lt m. ⊎_elim (λ before. is.placed j before m) (λ e. absurd (both_ways (mark_at s j) (subst (λ (n : ℕ). mark_at s n ≡ false) (sym e) off) m)) (last_or j k lt);
          },
        )

    -- a count is within the rows
    count_low : count ≤ k
    count_low = let most = rank_most (mark_at s) k in let is = loop.0 in omega arith

    pub numbering_more : (v : State G) → k < u.settled → u.settled ≤ length u.rows → true ≡ mark_at u k → v ≡ with_listed u k (count + 1) → Numbering s v (k + 1) (count + 1)
    numbering_more v h fit marked is_v =
        let is = loop.1 in
        let on : mark_at s k ≡ true = sym (is.same k) ∙ sym marked in
        let w = with_listed u k (count + 1) in
        let next : count + 1 ≡ rank (mark_at s) (k + 1) = ap (λ (n : ℕ). n + 1) loop.0 ∙ sym (rank_taken (mark_at s) k on) in
        let here : listed_at w k ≡ count + 1 = listed_here u k (count + 1) h fit in
        let there : (j : ℕ) → (j ≡ k → ⊥) → listed_at w j ≡ listed_at u j = listed_there u k (count + 1) h fit in (
          next,
          subst (λ (x : State G). Numbered s x (k + 1)) (sym is_v) (record {
            but_marks = but_marks_trans s u w is.but_marks (but_one u k (count + 1) h fit);
            same = λ j. ⊎_elim
                (λ e. subst (λ (n : ℕ). mark_at w n ≡ mark_at s n) (sym e) (ap (λ (n : ℕ). nat_lt 0 n) here ∙ more_than_none (count + 1) (omega arith) ∙ sym on))
                (λ ne. ap (λ (n : ℕ). nat_lt 0 n) (there j ne) ∙ is.same j)
                (equal_or j k);
            placed = λ j lt m. ⊎_elim
                (λ before. there j (λ e. omega arith) ∙ is.placed j before m)
                (λ e. subst (λ (n : ℕ). listed_at w n ≡ rank (mark_at s) (n + 1)) (sym e) (here ∙ next))
                (last_or j k lt);
          }),
        )

  -- there are fewer than the most rows
  pub count_few : (a u : Table G) (t k count : ℕ) → Numbering (view a) (view u) k count → k < t + 1 → t < a.settled → count < 16777215
  count_few a u t k count loop lt within = let low = count_low (view a) (view u) k count loop in let fit = a.settled_fit in let few = a.few in omega arith

  pub numbers_marks : (s u : State G) (n : ℕ) → Numbered s u n → NumbersMarks s u n
  numbers_marks s u n is = record {
    but_marks = is.but_marks;
    same = is.same;
    placed = λ k h m. is.placed k h (sym (is.same k) ∙ m) ∙ rank_same (mark_at s) (mark_at u) (k + 1) (λ j lt. sym (is.same j));
  }

  pub numbers_count : (s u : State G) (n count : ℕ) → Numbering s u n count → count ≡ rank (mark_at u) n
  numbers_count s u n count loop = let is = loop.1 in loop.0 ∙ rank_same (mark_at s) (mark_at u) n (λ j lt. sym (is.same j))
