-- Steps over places of the settled list, and one settled statement more.
use Rattle.std.proofs.Common.{◌≡◌, ℕ, zero, suc, ◌+◌, ◌<◌, ◌≤◌, ◌⊎◌, List, [], ◌∷◌, ◌++◌, length, get_or, sym, refl, ◌∙◌, subst, inl, inr, ⊎_elim, arith, length-append}
use Rattle.std.proofs.lemmas.List.{get_or_append_left}
use Rattle.standpoint.specs.declared.statement.Statement.{Statement}
use Rattle.standpoint.specs.Lists.{In, StandsAt}
use Rattle.standpoint.proofs.Lists.{in_stands, in_getD}
use Rattle.standpoint.specs.Algebra.{Algebra}
use Rattle.standpoint.specs.Rules.{Rule, arity_of}
use Rattle.standpoint.specs.Derivations.{Base, Leaf}
use Rattle.standpoint.proofs.Arities.{few_premises, has_arity}
use Rattle.runs.specs.Runs.{Offers}
use Rattle.runs.specs.Runs.Offers.{leaf, one, two, three}
use Rattle.saturation.specs.declared.row.Kept.{Kept}
use Rattle.saturation.specs.Places.{StandAt, Step, Uses, statements_of, grades_of, joined, KeptRight, kept_accepted, kept_tautology, kept_step}
use Rattle.saturation.proofs.Offers.{last_or}
use Rattle.saturation.proofs.Lists.{stands_same}

-- the same places have the same premises
pub stand_same : {X : Type 0} (l : List X) (ks : List ℕ) (ps qs : List X) → StandAt l ks ps → StandAt l ks qs → ps ≡ qs
stand_same l [] [] [] a b = refl
stand_same l [] [] (q ∷ qs) a b = absurd b
stand_same l [] (p ∷ ps) qs a b = absurd a
stand_same l (k ∷ ks) [] qs a b = absurd a
stand_same l (k ∷ ks) (p ∷ ps) [] a b = absurd b
stand_same l (k ∷ ks) (p ∷ ps) (q ∷ qs) a b =
    let e = stands_same l k p q a.0 b.0 in
    let f = stand_same l ks ps qs a.1 b.1 in
    cc

module _ {G : Type 0} (l : List (Statement × G)) (p : Statement × G) where
  long : length (l ++ p ∷ []) ≡ length l + 1
  long = length-append l (p ∷ [])

  stands_up : (k : ℕ) (x : Statement × G) → StandsAt l k x → StandsAt (l ++ p ∷ []) k x
  stands_up k x a = let e = long in let h = a.0 in (omega arith, λ d. get_or_append_left l (p ∷ []) d k a.0 ∙ a.1 d)

  stands_down : (k : ℕ) (x : Statement × G) → k < length l → StandsAt (l ++ p ∷ []) k x → StandsAt l k x
  stands_down k x h a = (h, λ d. sym (get_or_append_left l (p ∷ []) d k h) ∙ a.1 d)

  stand_up : (ks : List ℕ) (ps : List (Statement × G)) → StandAt l ks ps → StandAt (l ++ p ∷ []) ks ps
  stand_up [] [] a = tt
  stand_up [] (q ∷ qs) a = absurd a
  stand_up (k ∷ ks) [] a = absurd a
  stand_up (k ∷ ks) (q ∷ qs) a = (stands_up k q a.0, stand_up ks qs a.1)

  -- places of the longer list are all old, or the new one is among them
  stand_down : (ks : List ℕ) (ps : List (Statement × G)) → StandAt (l ++ p ∷ []) ks ps → StandAt l ks ps ⊎ In ks (length l)
  stand_down [] [] a = inl tt
  stand_down [] (q ∷ qs) a = absurd a
  stand_down (k ∷ ks) [] a = absurd a
  stand_down (k ∷ ks) (q ∷ qs) a =
      let e = long in
      let h = a.0.0 in
      ⊎_elim
      (λ lt. ⊎_elim (λ rest. inl (stands_down k q lt a.0, rest)) (λ new. inr (inr new)) (stand_down ks qs a.1))
      (λ eq. inr (inl eq))
      (last_or k (length l) (omega arith))

  module _ (al : Algebra G) (individuals : ℕ) where
    pub step_up : (rule : ℕ) (places : List ℕ) (o : Statement × G) → Step al individuals l rule places o → Step al individuals (l ++ p ∷ []) rule places o
    step_up rule places o a = record { premises = a.premises; stand = stand_up places a.premises a.stand; gives = a.gives; grade = a.grade }

    -- a step over one settled statement more is an old one, or uses the new one
    pub step_down : (rule : ℕ) (places : List ℕ) (o : Statement × G) → Step al individuals (l ++ p ∷ []) rule places o → Step al individuals l rule places o ⊎ Uses al individuals (l ++ p ∷ []) (length l) o
    step_down rule places o a =
        ⊎_elim
        (λ old. inl (record { premises = a.premises; stand = old; gives = a.gives; grade = a.grade }))
        (λ new. inr (record { rule = rule; places = places; used = new; step = a }))
        (stand_down places a.premises a.stand)

  pub kept_up : (al : Algebra G) (base : Base G) (o : Statement × G) (step : Kept) → KeptRight al base l o step → KeptRight al base (l ++ p ∷ []) o step
  kept_up al base o step (kept_accepted e m) = kept_accepted e m
  kept_up al base o step (kept_tautology e t g) = kept_tautology e t g
  kept_up al base o step (kept_step rule places e a) = kept_step rule places e (step_up al base.sizes.individuals rule places o a)

-- places of a list
pub value_at : {X : Type 0} (xs : List X) (k : ℕ) → k < length xs → (x : X) × ((d : X) → get_or xs k d ≡ x)
value_at [] k h = absurd (let z : ⊥ = omega arith in z)
value_at (x ∷ xs) zero h = (x, λ d. refl)
value_at (x ∷ xs) (suc k) h = value_at xs k (omega arith)

pub stands_in : {X : Type 0} (xs : List X) (k : ℕ) (x : X) → StandsAt xs k x → In xs x
stands_in xs k x a = subst (In xs) (a.1 x) (in_getD xs k x a.0)

module _ {G : Type 0} (al : Algebra G) (base : Base G) (l : List (Statement × G)) where
  -- a rule over what stands at places is an offer
  pub step_offers : (rule : ℕ) (places : List ℕ) (x : Statement) (g : G) → Step al base.sizes.individuals l rule places (x, g) → Offers al base l x g
  step_offers rule places x g a = go places a.premises a.stand a.gives a.grade
    where
      go : (ks : List ℕ) (ps : List (Statement × G)) → StandAt l ks ps → Rule base.sizes.individuals rule (statements_of ps) x → g ≡ joined al (grades_of ps) → Offers al base l x g
      go ks [] s r e = let h = (few_premises r).0 in absurd (let z : ⊥ = omega arith in z)
      go [] (p ∷ []) s r e = absurd s
      go (k ∷ []) (p ∷ []) s r e = subst (Offers al base l x) (sym e) (one r (stands_in l k p s.0))
      go (k ∷ j ∷ ks) (p ∷ []) s r e = absurd s.1
      go [] (p ∷ q ∷ []) s r e = absurd s
      go (k ∷ []) (p ∷ q ∷ []) s r e = absurd s.1
      go (k ∷ j ∷ []) (p ∷ q ∷ []) s r e = subst (Offers al base l x) (sym e) (two r (stands_in l k p s.0) (stands_in l j q s.1.0))
      go (k ∷ j ∷ i ∷ ks) (p ∷ q ∷ []) s r e = absurd s.1.1
      go [] (p ∷ q ∷ t ∷ []) s r e = absurd s
      go (k ∷ []) (p ∷ q ∷ t ∷ []) s r e = absurd s.1
      go (k ∷ j ∷ []) (p ∷ q ∷ t ∷ []) s r e = absurd s.1.1
      go (k ∷ j ∷ i ∷ []) (p ∷ q ∷ t ∷ []) s r e = subst (Offers al base l x) (sym e) (three r (stands_in l k p s.0) (stands_in l j q s.1.0) (stands_in l i t s.1.1.0))
      go (k ∷ j ∷ i ∷ h ∷ ks) (p ∷ q ∷ t ∷ []) s r e = absurd s.1.1.1
      go ks (p ∷ q ∷ t ∷ u ∷ ps) s r e = let h = (few_premises r).1 in absurd (let z : ⊥ = omega arith in z)

  -- an offer is a leaf, or a rule over what stands at places
  pub offers_step : (x : Statement) (g : G) → Offers al base l x g → Leaf al base x g ⊎ ((rule : ℕ) × ((places : List ℕ) × Step al base.sizes.individuals l rule places (x, g)))
  offers_step x g (leaf m) = inl m
  offers_step x g (one {rule} {p} r m) =
      let i = in_stands l (p, g) m in
      inr (rule, (i.0 ∷ [], record { premises = (p, g) ∷ []; stand = (i.1, tt); gives = r; grade = refl }))
  offers_step x _ (two {rule} {p} {q} {g = g} {h} r m n) =
      let i = in_stands l (p, g) m in
      let j = in_stands l (q, h) n in
      inr (rule, (i.0 ∷ j.0 ∷ [], record { premises = (p, g) ∷ (q, h) ∷ []; stand = (i.1, (j.1, tt)); gives = r; grade = refl }))
  offers_step x _ (three {rule} {p} {q} {r = t} {g = g} {h} {i = v} r m n o) =
      let i = in_stands l (p, g) m in
      let j = in_stands l (q, h) n in
      let k = in_stands l (t, v) o in
      inr (rule, (i.0 ∷ j.0 ∷ k.0 ∷ [], record { premises = (p, g) ∷ (q, h) ∷ (t, v) ∷ []; stand = (i.1, (j.1, (k.1, tt))); gives = r; grade = refl }))

module _ {G : Type 0} (al : Algebra G) (base : Base G) (l : List (Statement × G)) (p : Statement × G) where
  -- what was offered is offered over one settled statement more
  pub offers_up : (x : Statement) (g : G) → Offers al base l x g → Offers al base (l ++ p ∷ []) x g
  offers_up x g o =
      ⊎_elim
      (λ m. leaf m)
      (λ s. step_offers al base (l ++ p ∷ []) s.0 s.1.0 x g (step_up l p al base.sizes.individuals s.0 s.1.0 (x, g) s.1.1))
      (offers_step al base l x g o)

  pub uses_offers : (o : Statement × G) → Uses al base.sizes.individuals (l ++ p ∷ []) (length l) o → Offers al base (l ++ p ∷ []) o.0 o.1
  uses_offers o u = step_offers al base (l ++ p ∷ []) u.rule u.places o.0 o.1 u.step

  -- an offer over one settled statement more is an old one, or uses the new one
  pub offers_down : (x : Statement) (g : G) → Offers al base (l ++ p ∷ []) x g → Offers al base l x g ⊎ Uses al base.sizes.individuals (l ++ p ∷ []) (length l) (x, g)
  offers_down x g o =
      ⊎_elim
      (λ m. inl (leaf m))
      (λ s. ⊎_elim
      (λ old. inl (step_offers al base l s.0 s.1.0 x g old))
      (λ new. inr new)
      (step_down l p al base.sizes.individuals s.0 s.1.0 (x, g) s.1.1))
      (offers_step al base (l ++ p ∷ []) x g o)

stand_long : {X : Type 0} (l : List X) (ks : List ℕ) (ps : List X) → StandAt l ks ps → length ks ≡ length ps
stand_long l [] [] a = refl
stand_long l [] (p ∷ ps) a = absurd a
stand_long l (k ∷ ks) [] a = absurd a
stand_long l (k ∷ ks) (p ∷ ps) a = let e = stand_long l ks ps a.1 in omega arith

long_statements : {G : Type 0} (ps : List (Statement × G)) → length (statements_of ps) ≡ length ps
long_statements [] = refl
long_statements (p ∷ ps) = let e = long_statements ps in omega arith

-- a step has as many places as its rule has premises: 1, 2 or 3
module _ {G : Type 0} (al : Algebra G) (v : ℕ) (l : List (Statement × G)) (rule : ℕ) (places : List ℕ) (o : Statement × G) (a : Step al v l rule places o) where
  pub step_long : length places ≡ arity_of rule
  step_long =
      let e = stand_long l places a.premises a.stand in
      let f = long_statements a.premises in
      let h = (has_arity rule (arity_of rule) refl).premises v (statements_of a.premises) o.0 a.gives in
      omega arith

  pub step_few : (1 ≤ length places) × (length places ≤ 3)
  step_few =
      let e = stand_long l places a.premises a.stand in
      let f = long_statements a.premises in
      let h = few_premises a.gives in
      let low = h.0 in
      let high = h.1 in
      (omega arith, omega arith)
