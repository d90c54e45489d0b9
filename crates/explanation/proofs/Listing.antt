-- Where every needed step rests on earlier ones, the list that a settled statement rests on can be written.
use Rattle.std.proofs.Common.{◌≡◌, ℕ, zero, suc, ◌+◌, ◌-◌, ◌<◌, ◌≤◌, Bool, true, false, ◌⊎◌, List, [], ◌∷◌, ◌++◌, length, get_or, sym, refl, ap, ◌∙◌, subst, inl, inr, ⊎_elim, arith, length-append}
use borrow.Author.Tests.{both_ways}
use Rattle.std.proofs.lemmas.List.{get_or_append_left, get_or-append_right}
use Rattle.standpoint.specs.declared.step.Step.{Step}
use Rattle.saturation.specs.declared.row.Kept.{Kept}
use Rattle.saturation.specs.declared.table.Table.{Table}
use Rattle.saturation.specs.Tables.{State, view, statement_at, turn_at}
use Rattle.saturation.proofs.Offers.{below_or, equal_or, last_or}
use Rattle.saturation.proofs.Stepping.{value_at}
use Rattle.explanation.specs.Needed.{kept_at, Names, Rests, Needed, itself, below, Founded, rank, Chooses, Renumbers, ListOf, OneList}
use Rattle.explanation.proofs.Ranks.{rank_taken, rank_left, rank_below}
use Rattle.explanation.proofs.Foundings.{needed_low}
use Rattle.explanation.proofs.OneLists.{list_same}

abbrev Decided : Type 0 → Type 0
Decided P = P ⊎ (P → ⊥)

abbrev is_so : {P : Type 0} → Decided P → Bool
is_so (inl h) = true
is_so (inr h) = false

so : {P : Type 0} (d : Decided P) → is_so d ≡ true → P
so (inl h) e = h
so (inr h) e = absurd (both_ways false refl e)

is_so_of : {P : Type 0} (d : Decided P) → P → is_so d ≡ true
is_so_of (inl h) p = refl
is_so_of (inr h) p = absurd (h p)

names_or : (kept : Kept) (p : ℕ) → Decided (Names kept p)
names_or kept p =
    ⊎_elim
    (λ e. inl (inl e))
    (λ one. ⊎_elim
    (λ e. inl (inr (inl e)))
    (λ two. ⊎_elim (λ e. inl (inr (inr e))) (λ three. inr (⊎_elim one (⊎_elim two three))) (equal_or kept.third p))
    (equal_or kept.second p))
    (equal_or kept.first p)

-- the needed steps can be told from the others
module _ {G : Type 0} (s : State G) (t : ℕ) (founded : Founded s t) where
  pub founded_low : {k : ℕ} → Needed s t k → k ≤ t
  founded_low n = needed_low s t (λ k need le. founded k need) n

  -- a needed step after the k-th and before the n-th that rests on it
  record User (k n : ℕ) : Type 0 where
    at : ℕ
    after : k < at
    before : at < n
    needed : Needed s t at
    rests : Rests s at k

  user_or : (k : ℕ) → ((q : ℕ) → k < q → Decided (Needed s t q)) → (n : ℕ) → Decided (User k n)
  user_or k needed_or zero = inr (λ u. let h = u.before in omega arith)
  user_or k needed_or (suc n) =
      ⊎_elim
      (λ u. let h = u.before in inl (record { at = u.at; after = u.after; before = omega arith; needed = u.needed; rests = u.rests }))
      (λ none. ⊎_elim (λ lt. here none lt (needed_or n lt) (names_or (kept_at s n) (k + 1))) (λ ge. inr (λ u. let h = u.before in let g = u.after in omega arith)) (below_or k n))
      (user_or k needed_or n)
    where
      other : (User k n → ⊥) → (u : User k (suc n)) → u.at ≡ n
      other none u =
          let h = u.before in
          ⊎_elim (λ lt. absurd (none (record { at = u.at; after = u.after; before = lt; needed = u.needed; rests = u.rests }))) (λ e. e) (last_or u.at n (omega arith))

      here : (User k n → ⊥) → k < n → Decided (Needed s t n) → Decided (Rests s n k) → Decided (User k (suc n))
      here none lt (inl need) (inl rests) = inl (record { at = n; after = lt; before = omega arith; needed = need; rests = rests })
      here none lt (inl need) (inr not) = inr (λ u. not (subst (λ (q : ℕ). Rests s q k) (other none u) u.rests))
      here none lt (inr not) rests = inr (λ u. not (subst (Needed s t) (other none u) u.needed))

  used_only : {k : ℕ} → (k ≡ t → ⊥) → (User k (t + 1) → ⊥) → Needed s t k → ⊥
  used_only ne none itself = ne refl
  used_only ne none (below {q} {j} n r) = let h = founded_low n in none (record { at = q; after = founded q n j r; before = omega arith; needed = n; rests = r })

  needed_or : (i k : ℕ) → t < k + i → Decided (Needed s t k)
  needed_or zero k h = inr (λ n. let low = founded_low n in omega arith)
  needed_or (suc i) k h =
      ⊎_elim
      (λ e. inl (subst (Needed s t) (sym e) itself))
      (λ ne. ⊎_elim (λ u. inl (below u.needed u.rests)) (λ none. inr (used_only ne none)) (user_or k (λ q lt. needed_or i q (omega arith)) (t + 1)))
      (equal_or k t)

  pub needed_chosen : (m : ℕ → Bool) × Chooses s t m
  needed_chosen =
      let told : (k : ℕ) → Decided (Needed s t k) = λ k. needed_or (suc t) k (omega arith) in
      (λ k. is_so (told k), record { sound = λ k lt e. so (told k) e; complete = λ k n. (founded_low n, is_so_of (told k) n) })

-- the chosen steps can be written one after the other
module _ {G : Type 0} (s : State G) (m : ℕ → Bool) where
  record Front (n : ℕ) : Type 0 where
    steps : List (Step G)
    long : length steps ≡ rank m n
    each : (k : ℕ) → k < n → m k ≡ true → (d : Step G) → Renumbers s m k (get_or steps (rank m k) d)

  front_more : (n : ℕ) (v : Step G) → Renumbers s m n v → m n ≡ true → Front n → Front (n + 1)
  front_more n v right e f =
      let lg = f.long in
      let up = rank_taken m n e in
      let la = length-append f.steps (v ∷ []) in
      record {
        steps = f.steps ++ v ∷ [];
        long = omega arith;
        each = λ k lt t d. ⊎_elim
            (λ before.
            let low = rank_below m k n before t in
            subst (Renumbers s m k) (sym (get_or_append_left f.steps (v ∷ []) d (rank m k) (omega arith))) (f.each k before t d))
            (λ i.
            let here : get_or (f.steps ++ v ∷ []) (rank m n) d ≡ v = get_or-append_right f.steps (v ∷ []) (rank m n) (rank m n) d f.long (omega arith) ∙ (let z : rank m n - rank m n ≡ 0 = omega arith in ap (λ (j : ℕ). get_or (v ∷ []) j d) z) in
            subst (λ (q : ℕ). Renumbers s m q (get_or (f.steps ++ v ∷ []) (rank m q) d)) (sym i) (subst (Renumbers s m n) (sym here) right))
            (last_or k n lt);
      }

  front_left : (n : ℕ) → m n ≡ false → Front n → Front (n + 1)
  front_left n e f =
      let stay = rank_left m n e in
      record {
        steps = f.steps;
        long = f.long ∙ sym stay;
        each = λ k lt t d. ⊎_elim (λ before. f.each k before t d) (λ i. absurd (both_ways (m k) (subst (λ (q : ℕ). m q ≡ false) (sym i) e) t)) (last_or k n lt);
      }

  -- each settled statement has a grade
  module _ (settled : ℕ) (graded : (k : ℕ) → k < settled → (g : G) × ((d : G) → get_or s.grades (turn_at s k) d ≡ g)) where
    numbered : (k : ℕ) → k < settled → (v : Step G) × Renumbers s m k v
    numbered k h =
        let kept = kept_at s k in
        let g = graded k h in (
          record { rule = kept.rule; first = rank m kept.first; second = rank m kept.second; third = rank m kept.third; statement = statement_at s (turn_at s k); grade = g.0 },
          record { rule = refl; first = refl; second = refl; third = refl; gives = (refl, g.1) },
        )

    front : (n : ℕ) → n ≤ settled → Front n
    front zero h = record { steps = []; long = refl; each = λ k lt. absurd (omega arith) }
    front (suc n) h =
        let next : n + 1 ≡ suc n = omega arith in
        let made = numbered n (omega arith) in
        let so_far = front n (omega arith) in
        let go : (b : Bool) → m n ≡ b → Front (n + 1) = λ b. elim b as (λ z. m n ≡ z → Front (n + 1)) [ true ↦ λ e. front_more n made.0 made.1 e so_far | false ↦ λ e. front_left n e so_far ] in
        subst Front next (go (m n) refl)

-- the rows hold a grade for each settled statement
grade_kept : {G : Type 0} (s : Table G) (k : ℕ) → k < s.settled → (g : G) × ((d : G) → get_or s.grades.now (turn_at (view s) k) d ≡ g)
grade_kept s k h =
    let turn = s.turns k h in
    let fit = s.grades_fit in
    value_at s.grades.now (turn_at (view s) k) (omega arith)

pub one_list : {G : Type 0} (s : Table G) (t : ℕ) → t < s.settled → Founded (view s) t → (steps : List (Step G)) × OneList (view s) t steps
one_list s t within founded =
    let m = needed_chosen (view s) t founded in
    let f = front (view s) m.0 s.settled (grade_kept s) (t + 1) (omega arith) in
    let is : ListOf (view s) t f.steps = record { chosen = m.0; chooses = m.1; founded = founded; long = f.long; each = λ k h. f.each k (omega arith) } in
    (f.steps, record { is = is; only = λ others o. list_same (view s) t within others f.steps o is })
