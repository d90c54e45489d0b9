-- There is only one list that a settled statement rests on.
use Rattle.std.proofs.Common.{◌≡◌, ℕ, ◌+◌, ◌<◌, ◌≤◌, Bool, true, false, List, [], ◌∷◌, get_or, sym, refl, ap, ◌∙◌, inl, inr, arith}
use Rattle.std.proofs.lemmas.List.{ext_get_or}
use Rattle.standpoint.specs.declared.step.Step.{Step}
use Rattle.saturation.specs.Tables.{State}
use Rattle.explanation.specs.Needed.{kept_at, Names, itself, rank, Chooses, Renumbers, ListOf}
use Rattle.explanation.proofs.Ranks.{rank_below, rank_same, unrank}
use Rattle.explanation.proofs.Marking.{place_within}

both_true : (x y : Bool) → (x ≡ true → y ≡ true) → (y ≡ true → x ≡ true) → x ≡ y
both_true true y there back = sym (there refl)
both_true false true there back = back refl
both_true false false there back = refl

module _ {G : Type 0} (s : State G) where
  -- two numberings of a step that give its places alike
  step_same : (m q : ℕ → Bool) (k : ℕ) (v w : Step G) → Renumbers s m k v → Renumbers s q k w → ((p : ℕ) → Names (kept_at s k) p → rank m p ≡ rank q p) → v ≡ w
  step_same m q k v w a b alike =
      let e1 = a.rule ∙ sym b.rule in
      let e2 = a.first ∙ alike _ (inl refl) ∙ sym b.first in
      let e3 = a.second ∙ alike _ (inr (inl refl)) ∙ sym b.second in
      let e4 = a.third ∙ alike _ (inr (inr refl)) ∙ sym b.third in
      let e5 = sym a.gives.0 ∙ b.gives.0 in
      let e6 = sym (a.gives.1 v.grade) ∙ b.gives.1 v.grade in
      let whole : ◌≡◌ {A = Step G}
      (record { rule = v.rule; first = v.first; second = v.second; third = v.third; statement = v.statement; grade = v.grade })
      (record { rule = w.rule; first = w.first; second = w.second; third = w.third; statement = w.statement; grade = w.grade }) = cc in
      whole

  module _ (t : ℕ) (within : t < s.settled) where
    pub choices_rank : (m q : ℕ → Bool) → Chooses s t m → Chooses s t q → (n : ℕ) → n ≤ t + 1 → rank m n ≡ rank q n
    choices_rank m q a b n h =
        rank_same m q n (λ k lt.
        both_true (m k) (q k) (λ e. (b.complete k (a.sound k (omega arith) e)).1) (λ e. (a.complete k (b.sound k (omega arith) e)).1))

    pub some_chosen : (m : ℕ → Bool) → Chooses s t m → 0 < rank m (t + 1)
    some_chosen m a = let low = rank_below m t (t + 1) (omega arith) (a.complete t itself).1 in omega arith

    pub list_same : (xs ys : List (Step G)) → ListOf s t xs → ListOf s t ys → xs ≡ ys
    list_same [] ys a b = let some = some_chosen a.chosen a.chooses in let none = a.long in absurd (omega arith)
    list_same (v ∷ xs) ys a b =
        let m = a.chosen in
        let q = b.chosen in
        let alike = choices_rank m q a.chooses b.chooses in
        ext_get_or v (v ∷ xs) ys (a.long ∙ alike (t + 1) (omega arith) ∙ sym b.long) (λ i h.
        let long = a.long in
        let at = unrank m (t + 1) i (omega arith) in
        let k = at.0 in
        let lt = at.1 in
        let rank_is = alike k (omega arith) in
        let low : k ≤ t = omega arith in
        let n = a.chooses.sound k (omega arith) at.2 in
        let named : (p : ℕ) → Names (kept_at s k) p → rank m p ≡ rank q p = λ p r. alike p (place_within s k p (t + 1) (kept_at s k) refl (a.founded k n) lt r) in
        let one = a.each k low at.2 v in
        let other = b.each k low (b.chooses.complete k n).1 v in
        sym (ap (λ (j : ℕ). get_or (v ∷ xs) j v) at.3)
        ∙ step_same m q k (get_or (v ∷ xs) (rank m k) v) (get_or ys (rank q k) v) one other named
        ∙ ap (λ (j : ℕ). get_or ys j v) (sym rank_is ∙ at.3))
