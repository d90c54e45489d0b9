-- The list that a settled statement rests on stays the same where what was settled keeps its turn, statement, step and grade.
use Rattle.std.proofs.Common.{◌≡◌, ℕ, ◌+◌, ◌<◌, ◌≤◌, Bool, true, false, cond, leb, List, get_or, sym, refl, ap, ◌∙◌, subst, inl, inr, arith, leb-false, leb-true}
use borrow.Author.Tests.{both_ways}
use Rattle.standpoint.specs.declared.statement.Statement.{Statement}
use Rattle.standpoint.specs.declared.step.Step.{Step}
use Rattle.standpoint.specs.Steps.{given}
use Rattle.saturation.specs.declared.row.Kept.{Kept}
use Rattle.saturation.specs.Tables.{State, row_at, statement_at, turn_at}
use Rattle.saturation.specs.Memory.{KeepsSettled}
use Rattle.saturation.specs.Searching.{Premise}
use Rattle.explanation.specs.Needed.{kept_at, Names, Rests, Needed, itself, below, Founded, rank, Renumbers, ListOf}
use Rattle.explanation.specs.Explaining.{FirstSettled}
use Rattle.explanation.proofs.Ranks.{rank_same}
use Rattle.explanation.proofs.Listing.{founded_low}
use Rattle.explanation.proofs.Marking.{place_within}

-- a choice up to a place
module _ (m : ℕ → Bool) (t : ℕ) where
  abbrev up_to : ℕ → Bool
  up_to k = cond (leb k t) (m k) false

  up_to_low : (k : ℕ) → k ≤ t → up_to k ≡ m k
  up_to_low k h = go (leb k t) refl
    where
      go : (b : Bool) → leb k t ≡ b → cond b (m k) false ≡ m k
      go true e = refl
      go false e = let over = leb-false k t e in absurd (omega arith)

  up_to_true : (k : ℕ) → up_to k ≡ true → (k ≤ t) × (m k ≡ true)
  up_to_true k = go (leb k t) refl
    where
      go : (b : Bool) → leb k t ≡ b → cond b (m k) false ≡ true → (k ≤ t) × (m k ≡ true)
      go true e is = (leb-true k t e, is)
      go false e is = absurd (both_ways false refl is)

module _ {G : Type 0} (s u : State G) (keeps : KeepsSettled s u) where
  kept_kept : (k : ℕ) → k < s.settled → kept_at u k ≡ kept_at s k
  kept_kept k h = ap (λ (j : ℕ). (row_at u j).kept) (keeps.turns k h) ∙ keeps.kept k h

  rests_kept : (k j : ℕ) → k < s.settled → Rests s k j → Rests u k j
  rests_kept k j h r = subst (λ (v : Kept). Names v (j + 1)) (sym (kept_kept k h)) r

  rests_before : (k j : ℕ) → k < s.settled → Rests u k j → Rests s k j
  rests_before k j h r = subst (λ (v : Kept). Names v (j + 1)) (kept_kept k h) r

  premise_kept : (k : ℕ) (p : Statement × G) → k < s.settled → Premise s k p → Premise u k p
  premise_kept k p h r = (
    ap (statement_at u) (keeps.turns k h) ∙ keeps.statements k h ∙ r.0,
    λ d. ap (λ (j : ℕ). get_or u.grades j d) (keeps.turns k h) ∙ keeps.grades k h d ∙ r.1 d,
  )

  module _ (t : ℕ) (within : t < s.settled) (founded : Founded s t) where
    needed_kept : {k : ℕ} → Needed s t k → Needed u t k
    needed_kept itself = itself
    needed_kept (below {q} {j} n r) = let h = founded_low s t founded n in below (needed_kept n) (rests_kept q j (omega arith) r)

    needed_before : {k : ℕ} → Needed u t k → Needed s t k
    needed_before itself = itself
    needed_before (below {q} {j} n r) = let n' = needed_before n in let h = founded_low s t founded n' in below n' (rests_before q j (omega arith) r)

    founded_kept : Founded u t
    founded_kept k n j r =
        let n' = needed_before n in
        let h = founded_low s t founded n' in
        founded k n' j (rests_before k j (omega arith) r)

    -- a step is numbered alike by choices that agree up to t
    numbered_kept : (m q : ℕ → Bool) → ((n : ℕ) → n ≤ t + 1 → rank m n ≡ rank q n) → (k : ℕ) (v : Step G) → Needed s t k → Renumbers s m k v → Renumbers u q k v
    numbered_kept m q alike k v n w =
        let h = founded_low s t founded n in
        let e = kept_kept k (omega arith) in
        let place : (p : ℕ) → Names (kept_at s k) p → rank m p ≡ rank q p = λ p r. alike p (place_within s k p (t + 1) (kept_at s k) refl (founded k n) (omega arith) r) in
        record {
          rule = w.rule ∙ sym (ap (λ (x : Kept). x.rule) e);
          first = w.first ∙ place _ (inl refl) ∙ sym (ap (λ (x : Kept). rank q x.first) e);
          second = w.second ∙ place _ (inr (inl refl)) ∙ sym (ap (λ (x : Kept). rank q x.second) e);
          third = w.third ∙ place _ (inr (inr refl)) ∙ sym (ap (λ (x : Kept). rank q x.third) e);
          gives = premise_kept k (given v) (omega arith) w.gives;
        }

  pub list_kept : (t : ℕ) → t < s.settled → (steps : List (Step G)) → ListOf s t steps → ListOf u t steps
  list_kept t within steps a =
      let m = a.chosen in
      let q = up_to m t in
      let alike : (n : ℕ) → n ≤ t + 1 → rank m n ≡ rank q n = λ n h. rank_same m q n (λ k lt. sym (up_to_low m t k (omega arith))) in
      record {
        chosen = q;
        chooses = record {
          sound = λ k h e. let c = up_to_true m t k e in let low = c.0 in needed_kept t within a.founded (a.chooses.sound k (omega arith) c.1);
          complete = λ k n. let c = a.chooses.complete k (needed_before t within a.founded n) in (c.0, up_to_low m t k c.0 ∙ c.1);
        };
        founded = founded_kept t within a.founded;
        long = a.long ∙ alike (t + 1) (omega arith);
        each = λ k h e d.
            let c = up_to_true m t k e in
            let n = a.chooses.sound k (omega arith) c.1 in
            subst (λ (j : ℕ). Renumbers u q k (get_or steps j d)) (alike k (omega arith)) (numbered_kept t within a.founded m q alike k (get_or steps (rank m k) d) n (a.each k h c.1 d));
      }

  pub first_kept : (x : Statement) (t : ℕ) → FirstSettled s x t → FirstSettled u x t
  first_kept x t at =
      let more = keeps.more in
      let lt = at.within in
      let same : (k : ℕ) → k < s.settled → statement_at u (turn_at u k) ≡ statement_at s (turn_at s k) = λ k h. ap (statement_at u) (keeps.turns k h) ∙ keeps.statements k h in
      record { within = omega arith; holds = same t at.within ∙ at.holds; first = λ k h e. at.first k h (sym (same k (omega arith)) ∙ e) }
