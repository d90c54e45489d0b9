-- In a run no kept step rests on one that was not settled earlier.
use Rattle.std.proofs.Common.{◌≡◌, ℕ, zero, suc, ◌+◌, ◌<◌, ◌≤◌, true, List, [], ◌∷◌, length, get_or, take, sym, ap, ◌∙◌, ⊎_elim, arith, length-take}
use Rattle.standpoint.specs.declared.statement.Statement.{Statement}
use Rattle.standpoint.specs.Algebra.{Algebra}
use Rattle.standpoint.specs.Derivations.{Base}
use Rattle.saturation.specs.declared.row.Kept.{Kept}
use Rattle.saturation.specs.Tables.{State}
use Rattle.saturation.specs.Places.{StandAt, place_or, KeptRight, kept_accepted, kept_tautology, kept_step}
use Rattle.saturation.specs.Offering.{Explained}
use Rattle.explanation.specs.Needed.{kept_at, Names, RestsEarlier, Needed, itself, below, Founded}

-- a place of a rule's premises is within the list that they stand in
place_low : {X : Type 0} (xs : List X) (places : List ℕ) (premises : List X) → StandAt xs places premises → (n j : ℕ) → place_or places n ≡ j + 1 → j < length xs
place_low xs [] premises st n j e = absurd (omega arith)
place_low xs (i ∷ is) [] st n j e = absurd st
place_low xs (i ∷ is) (p ∷ ps) st zero j e = let h = st.0.0 in omega arith
place_low xs (i ∷ is) (p ∷ ps) st (suc n) j e = place_low xs is ps st.1 n j e

-- what rests on earlier ones alone needs none that is later than itself
pub needed_low : {G : Type 0} (s : State G) (t : ℕ) → ((k : ℕ) → Needed s t k → k ≤ t → RestsEarlier s k true) → {k : ℕ} → Needed s t k → k ≤ t
needed_low s t early itself = omega arith
needed_low s t early (below {q} {j} n r) = let h = needed_low s t early n in let e = early q n h j r in omega arith

module _ {G : Type 0} (a : Algebra G) (base : Base G) (l : List (Statement × G)) where
  none_named : (kept : Kept) (j : ℕ) → kept.first ≡ 0 → kept.second ≡ 0 → kept.third ≡ 0 → Names kept (j + 1) → ⊥
  none_named kept j z1 z2 z3 = ⊎_elim (λ f. omega arith) (⊎_elim (λ f. omega arith) (λ f. omega arith))

  named_earlier : (k : ℕ) (o : Statement × G) (kept : Kept) → KeptRight a base (take k l) o kept → (j : ℕ) → Names kept (j + 1) → j < k
  named_earlier k o kept (kept_accepted e m) j r = absurd (none_named kept j (ap (λ (x : Kept). x.first) e) (ap (λ (x : Kept). x.second) e) (ap (λ (x : Kept). x.third) e) r)
  named_earlier k o kept (kept_tautology e t g) j r = absurd (none_named kept j (ap (λ (x : Kept). x.first) e) (ap (λ (x : Kept). x.second) e) (ap (λ (x : Kept). x.third) e) r)
  named_earlier k o kept (kept_step rule places e step) j r =
      let low : (n : ℕ) → place_or places n ≡ j + 1 → j < k = λ n is. let h = place_low (take k l) places step.premises step.stand n j is in let t = length-take k l in omega arith in
      ⊎_elim
      (λ f. low 0 (sym (ap (λ (x : Kept). x.first) e) ∙ f))
      (⊎_elim (λ f. low 1 (sym (ap (λ (x : Kept). x.second) e) ∙ f)) (λ f. low 2 (sym (ap (λ (x : Kept). x.third) e) ∙ f)))
      r

  module _ (s : State G) (ex : Explained a base l s) (t : ℕ) (o : Statement × G) (within : t < length l) where
    earlier : (k : ℕ) → k < length l → RestsEarlier s k true
    earlier k h j r = named_earlier k (get_or l k o) (kept_at s k) (ex k h o) j r

    pub explained_founded : Founded s t
    explained_founded k n j r = let h = needed_low s t (λ i need le. earlier i (omega arith)) n in earlier k (omega arith) j r
