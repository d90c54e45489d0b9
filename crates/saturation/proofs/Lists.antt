-- The settled list, and what was offered.
use Rattle.std.proofs.Common.{◌≡◌, ℕ, ◌<◌, ◌≤◌, ◌⊎◌, List, [], ◌∷◌, ◌++◌, get_or, sym, ap, ◌∙◌, inl, inr, ⊎_elim, arith}
use Rattle.standpoint.specs.declared.statement.Statement.{Statement}
use Rattle.standpoint.specs.Lists.{In, StandsAt}
use Rattle.saturation.specs.Rows.{TurnsWithin}
use Rattle.saturation.specs.Tables.{State, row_at, statement_at, turn_at}
use Rattle.saturation.specs.Offering.{Grown}
use Rattle.saturation.specs.Searching.{Premise, Lists}
use Rattle.saturation.proofs.Offers.{below_or, not_both}

pub in_append_left : {X : Type 0} (xs ys : List X) (x : X) → In xs x → In (xs ++ ys) x
in_append_left [] ys x m = absurd m
in_append_left (y ∷ xs) ys x m = ⊎_elim (λ e. inl e) (λ r. inr (in_append_left xs ys x r)) m

pub in_append_right : {X : Type 0} (xs ys : List X) (x : X) → In ys x → In (xs ++ ys) x
in_append_right [] ys x m = m
in_append_right (y ∷ xs) ys x m = inr (in_append_right xs ys x m)

pub in_append_cases : {X : Type 0} (xs ys : List X) (x : X) → In (xs ++ ys) x → In xs x ⊎ In ys x
in_append_cases [] ys x m = inr m
in_append_cases (y ∷ xs) ys x m = ⊎_elim (λ e. inl (inl e)) (λ r. ⊎_elim (λ a. inl (inr a)) (λ b. inr b) (in_append_cases xs ys x r)) m

-- the facts of a table that its ghost fields hold
abbrev pub Fit : {G : Type 0} → State G → Type 0
Fit s = (s.settled ≤ s.len) × TurnsWithin s.rows s.settled s.len

pub turn_kept : {G : Type 0} (s t : State G) → Fit s → Grown s t → (k : ℕ) → k < s.settled → turn_at t k ≡ turn_at s k
turn_kept s t fit g k h = let f = fit.0 in g.turns k (omega arith)

pub statement_kept : {G : Type 0} (s t : State G) → Fit s → Grown s t → (k : ℕ) → k < s.settled → statement_at t (turn_at t k) ≡ statement_at s (turn_at s k)
statement_kept s t fit g k h = ap (statement_at t) (turn_kept s t fit g k h) ∙ g.statements (turn_at s k) (fit.1 k h)

-- what is settled stays as it is while rows are added and improved
pub lists_grown : {G : Type 0} (s t : State G) (l : List (Statement × G)) → Fit s → Grown s t → Lists s l → Lists t l
lists_grown {G} s t l fit g is =
    let back : (k : ℕ) → k < t.settled → k < s.settled = λ k h. let e = g.settled in omega arith in
    let turn = turn_kept s t fit g in
    let grade : (k : ℕ) → k < s.settled → (d : G) → get_or t.grades (turn_at s k) d ≡ get_or s.grades (turn_at s k) d = λ k h. (g.kept (turn_at s k) (fit.1 k h) (not_both _ k (is.marked k h))).1 in
    record {
      long = is.long ∙ sym g.settled;
      holds = λ k h d.
          let h' = back k h in
          let p = is.holds k h' d in (
            statement_kept s t fit g k h' ∙ p.0,
            λ e. ap (λ (j : ℕ). get_or t.grades j e) (turn k h') ∙ grade k h' e ∙ p.1 e,
          );
      marked = λ k h.
          let h' = back k h in
          ap (λ (j : ℕ). (row_at t j).place) (turn k h') ∙ g.places (turn_at s k) (fit.1 k h') ∙ is.marked k h';
      back = λ i h un.
          ⊎_elim
          (λ lt. let b = is.back i lt (λ z. un (g.places i lt ∙ z)) in let e = g.settled in let bh = b.1 in (b.0, omega arith, turn b.0 b.1 ∙ b.2))
          (λ ge. absurd (un (g.fresh i ge h)))
          (below_or i s.len);
    }

-- what was read of the rows stands in the list
pub premise_at : {G : Type 0} (s : State G) (l : List (Statement × G)) (k : ℕ) (p : Statement × G) → Lists s l → k < s.settled → Premise s k p → StandsAt l k p
premise_at {G} s l k p is h read =
    let lg = is.long in (
      omega arith,
      λ d.
          let q = is.holds k h d in
          let first : (get_or l k d).0 ≡ p.0 = sym q.0 ∙ read.0 in
          let second : (get_or l k d).1 ≡ p.1 = sym (q.1 p.1) ∙ read.1 p.1 in
          let pair : ◌≡◌ {A = Statement × G} ((get_or l k d).0, (get_or l k d).1) (p.0, p.1) = cc in
          pair,
    )

pub stands_same : {X : Type 0} (l : List X) (k : ℕ) (p q : X) → StandsAt l k p → StandsAt l k q → p ≡ q
stands_same l k p q a b = sym (a.1 p) ∙ b.1 p
