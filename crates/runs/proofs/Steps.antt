-- The steps of the computed run are the offers.
use Rattle.std.proofs.Common.{◌≡◌, ℕ, ◌<◌, ◌≤◌, true, eqb, ◌⊎◌, List, [], ◌∷◌, ◌++◌, length, Some, None, Option, sym, refl, ap, subst, inl, inr, arith, eq-eqb}
use Rattle.std.proofs.lemmas.Bool.Decides.{nat_tests}
use Rattle.std.specs.List.{range_with_len}
use Rattle.standpoint.specs.declared.statement.Statement.{Statement}
use Rattle.standpoint.specs.declared.premises.Premises.{Premises}
use Rattle.standpoint.specs.declared.premises.Premises.TheVariants.{One, Two, Three}
use Rattle.standpoint.specs.Lists.{In}
use Rattle.standpoint.specs.Algebra.{Algebra}
use Rattle.standpoint.specs.Rules.{Rule, Concluded, listed, arity_of}
use Rattle.standpoint.specs.Rules.Rule.{sharper_than_both, existential_widened, existential_chained, conjunction_met}
use Rattle.standpoint.specs.Conclusions.{conclusion}
use Rattle.standpoint.specs.Tautologies.{tautologies}
use Rattle.standpoint.specs.Derivations.{Base, Leaf}
use Rattle.standpoint.proofs.Listing.{in_left, in_right, in_either}
use Rattle.standpoint.proofs.Arities.{has_arity, few_premises}
use Rattle.standpoint.proofs.Conclusions.{concluded}
use Rattle.standpoint.proofs.TautologyList.{tautologies_listed}
use Rattle.runs.specs.Runs.{Settled, Offers}
use Rattle.runs.specs.Model.{rules_of, third_shape, leaves, graded, by_one, by_two, by_three, steps_with}
use Rattle.runs.proofs.Lists.{in_counting, of_map, in_map, of_each, in_each, of_kept, in_kept}
use Rattle.runs.proofs.Offers.{new_or_old}
use Rattle.runs.proofs.Told.{true_tells, tells_true, fits_told}

-- the conclusion is what the rule gives
given_rule : (individuals rule : ℕ) (premises : Premises) (x : Statement) → conclusion individuals rule premises ≡ Some x → Rule individuals rule (listed premises) x
given_rule i rule premises x e = (concluded i rule premises (Some x) (sym e)).0

rule_gives : (individuals rule : ℕ) (premises : Premises) (x : Statement) → Rule individuals rule (listed premises) x → conclusion individuals rule premises ≡ Some x
rule_gives i rule premises x r = go (conclusion i rule premises) (concluded i rule premises _ refl)
  where
    go : (answer : Option Statement) → Concluded i rule (listed premises) answer → answer ≡ Some x
    go None none = absurd (none x r)
    go (Some y) some = ap Some (sym (some.1 x r))

-- each rule is among those with as many premises
rule_listed : {i rule : ℕ} {premises : List Statement} {x : Statement} → Rule i rule premises x → In (rules_of (length premises)) rule
rule_listed {i} {rule} {premises} {x} r =
    let count : length premises ≡ arity_of rule = (has_arity rule (arity_of rule) refl).premises i premises x r in
    let some : 1 ≤ length premises = (few_premises r).0 in
    let low : 1 ≤ rule = grind (arith, nat_tests) in
    let high : rule < 24 = grind (arith, nat_tests) in
    in_kept (λ k. eqb (arity_of k) (length premises)) (range_with_len 1 23) rule (in_counting 1 23 rule low (omega arith)) (eq-eqb _ _ (sym count))

third_shaped : {i rule : ℕ} {p q r x : Statement} → Rule i rule (p ∷ q ∷ r ∷ []) x → eqb r.shape (third_shape rule) ≡ true
third_shaped sharper_than_both = refl
third_shaped existential_widened = refl
third_shaped existential_chained = refl
third_shaped conjunction_met = refl

module _ {G : Type 0} where
  of_graded : (g : G) (answer : Option Statement) (x : Statement) (h : G) → In (graded g answer) (x, h) → (answer ≡ Some x) × (g ≡ h)
  of_graded g None x h m = elim m [ ]
  of_graded g (Some y) x h (inl e) = (ap Some (ap (λ (v : Statement × G). v.0) e), ap (λ (v : Statement × G). v.1) e)
  of_graded g (Some y) x h (inr z) = elim z [ ]

  in_graded : (g : G) (answer : Option Statement) (x : Statement) → answer ≡ Some x → In (graded g answer) (x, g)
  in_graded g answer x e = subst (λ z. In (graded g z) (x, g)) (sym e) (inl refl)

  -- all of one list stand in the other
  abbrev Part : Settled G → Settled G → Type 0
  Part ps all = (o : Statement × G) → In ps o → In all o

module _ {G : Type 0} (a : Algebra G) (base : Base G) where
  abbrev individuals : ℕ
  individuals = base.sizes.individuals

  -- what the rules give from settled premises is offered
  one_offered : {all : Settled G} (ps : Settled G) → Part ps all → (x : Statement) (g : G) → In (by_one a individuals ps) (x, g) → Offers a base all x g
  one_offered {all} ps within x g m =
      let rule = of_each _ (rules_of 1) (x, g) m in
      let p = of_each _ ps (x, g) rule.2 in
      let c = of_graded p.0.1 _ x g p.2 in
      subst (Offers a base all x) c.1 (Offers.one (given_rule _ rule.0 (One p.0.0) x c.0) (within _ p.1))

  two_offered : {all : Settled G} (ps qs : Settled G) → Part ps all → Part qs all → (x : Statement) (g : G) → In (by_two a individuals ps qs) (x, g) →
      Offers a base all x g
  two_offered {all} ps qs ps-within qs-within x g m =
      let rule = of_each _ (rules_of 2) (x, g) m in
      let p = of_each _ ps (x, g) rule.2 in
      let q = of_each _ qs (x, g) p.2 in
      let c = of_graded (a.join p.0.1 q.0.1) _ x g q.2 in
      subst (Offers a base all x) c.1
      (Offers.two (given_rule _ rule.0 (Two p.0.0 q.0.0) x c.0) (ps-within _ p.1) (qs-within _ q.1))

  three_offered : {all : Settled G} (ps qs rs : Settled G) → Part ps all → Part qs all → Part rs all → (x : Statement) (g : G) →
      In (by_three a individuals ps qs rs) (x, g) → Offers a base all x g
  three_offered {all} ps qs rs ps-within qs-within rs-within x g m =
      let rule = of_each _ (rules_of 3) (x, g) m in
      let r = of_each _ _ (x, g) rule.2 in
      let p = of_each _ ps (x, g) r.2 in
      let q = of_each _ qs (x, g) p.2 in
      let c = of_graded (a.join (a.join p.0.1 q.0.1) r.0.1) _ x g q.2 in
      subst (Offers a base all x) c.1
      (Offers.three (given_rule _ rule.0 (Three p.0.0 q.0.0 r.0.0) x c.0) (ps-within _ p.1) (qs-within _ q.1)
      (rs-within _ (of_kept _ rs r.0 r.1).0))

  -- and what a rule gives is among it
  by_one_has : (ps : Settled G) (g : G) {rule : ℕ} {p x : Statement} → Rule individuals rule (p ∷ []) x → In ps (p, g) → In (by_one a individuals ps) (x, g)
  by_one_has ps g {rule} {p} {x} s m =
      in_each _ (rules_of 1) rule (x, g) (rule_listed s) (in_each _ ps (p, g) (x, g) m (in_graded g _ x (rule_gives _ rule (One p) x s)))

  by_two_has : (ps qs : Settled G) (g h : G) {rule : ℕ} {p q x : Statement} → Rule individuals rule (p ∷ q ∷ []) x → In ps (p, g) → In qs (q, h) →
      In (by_two a individuals ps qs) (x, a.join g h)
  by_two_has ps qs g h {rule} {p} {q} {x} s m n =
      let o : Statement × G = (x, a.join g h) in
      in_each _ (rules_of 2) rule o (rule_listed s) (in_each _ ps (p, g) o m (in_each _ qs (q, h) o n
      (in_graded (a.join g h) _ x (rule_gives _ rule (Two p q) x s))))

  by_three_has : (ps qs rs : Settled G) (g h i : G) {rule : ℕ} {p q r x : Statement} → Rule individuals rule (p ∷ q ∷ r ∷ []) x →
      In ps (p, g) → In qs (q, h) → In rs (r, i) → In (by_three a individuals ps qs rs) (x, a.join (a.join g h) i)
  by_three_has ps qs rs g h i {rule} {p} {q} {r} {x} s l m n =
      let o : Statement × G = (x, a.join (a.join g h) i) in
      in_each _ (rules_of 3) rule o (rule_listed s) (in_each _ _ (r, i) o (in_kept _ rs (r, i) n (third_shaped s))
      (in_each _ ps (p, g) o l (in_each _ qs (q, h) o m (in_graded (a.join (a.join g h) i) _ x (rule_gives _ rule (Three p q r) x s)))))

  module _ (new : Statement × G) (settled : Settled G) where
    abbrev only : Settled G
    only = new ∷ []

    abbrev all : Settled G
    all = settled ++ only

    only_within : Part only all
    only_within o = in_right settled only o

    old_within : Part settled all
    old_within o = in_left settled only o

    all_within : Part all all
    all_within o m = m

    -- the steps with the new one are offers
    pub steps_offered : (x : Statement) (g : G) → In (steps_with a individuals new settled) (x, g) → Offers a base all x g
    steps_offered x g m = elim (in_either (by_one a individuals only) _ (x, g) m) [
      | inl h ↦ one_offered only only_within x g h
      | inr m ↦ elim (in_either (by_two a individuals only all) _ (x, g) m) [
        | inl h ↦ two_offered only all only_within all_within x g h
        | inr m ↦ elim (in_either (by_two a individuals settled only) _ (x, g) m) [
          | inl h ↦ two_offered settled only old_within only_within x g h
          | inr m ↦ elim (in_either (by_three a individuals only all all) _ (x, g) m) [
            | inl h ↦ three_offered only all all only_within all_within all_within x g h
            | inr m ↦ elim (in_either (by_three a individuals settled only all) _ (x, g) m) [
              | inl h ↦ three_offered settled only all old_within only_within all_within x g h
              | inr h ↦ three_offered settled settled only old_within old_within only_within x g h
            ]
          ]
        ]
      ]
    ]

    is_new : (x : Statement) (g : G) → In all (x, g) → In only (x, g) ⊎ In settled (x, g)
    is_new x g m = elim (new_or_old settled new (x, g) m) [ inl e ↦ inl (inl e) | inr old ↦ inr old ]

    -- past the steps of one and two premises
    past_two : (rest : Settled G) (o : Statement × G) → In rest o →
        In (by_one a individuals only ++ (by_two a individuals only all ++ (by_two a individuals settled only ++ rest))) o
    past_two rest o m = in_right (by_one a individuals only) _ _ (in_right (by_two a individuals only all) _ _ (in_right (by_two a individuals settled only) _ _ m))

    -- and every offer is an old one or such a step
    pub steps_have : {x : Statement} {g : G} → Offers a base all x g → Offers a base settled x g ⊎ In (steps_with a individuals new settled) (x, g)
    steps_have (Offers.leaf l) = inl (Offers.leaf l)
    steps_have (Offers.one s m) = elim (is_new _ _ m) [
      | inl h ↦ inr (in_left (by_one a individuals only) _ _ (by_one_has only _ s h))
      | inr h ↦ inl (Offers.one s h)
    ]
    steps_have (Offers.two s m n) = elim (is_new _ _ m) [
      | inl h ↦ inr (in_right (by_one a individuals only) _ _ (in_left (by_two a individuals only all) _ _ (by_two_has only all _ _ s h n)))
      | inr h ↦ elim (is_new _ _ n) [
        | inl k ↦
            inr (in_right (by_one a individuals only) _ _ (in_right (by_two a individuals only all) _ _
            (in_left (by_two a individuals settled only) _ _ (by_two_has settled only _ _ s h k))))
        | inr k ↦ inl (Offers.two s h k)
      ]
    ]
    steps_have (Offers.three s l m n) = elim (is_new _ _ l) [
      | inl h ↦ inr (past_two _ _ (in_left (by_three a individuals only all all) _ _ (by_three_has only all all _ _ _ s h m n)))
      | inr h ↦ elim (is_new _ _ m) [
        | inl k ↦
            inr (past_two _ _ (in_right (by_three a individuals only all all) _ _
            (in_left (by_three a individuals settled only all) _ _ (by_three_has settled only all _ _ _ s h k n))))
        | inr k ↦ elim (is_new _ _ n) [
          | inl j ↦
              inr (past_two _ _ (in_right (by_three a individuals only all all) _ _
              (in_right (by_three a individuals settled only all) _ _ (by_three_has settled settled only _ _ _ s h k j))))
          | inr j ↦ inl (Offers.three s h k j)
        ]
      ]
    ]

  -- the listed leaves are the leaves
  pub leaf_listed : (x : Statement) (g : G) → Leaf a base x g → In (leaves a base) (x, g)
  leaf_listed x g (Leaf.accepted m f) = in_left _ _ _ (in_kept _ base.accepted (x, g) m (tells_true _ (fits_told base.sizes x) f))
  leaf_listed x g (Leaf.tautology t) = in_right _ _ _ (in_map _ (tautologies base.sizes) x ((tautologies_listed base.sizes _ refl).complete x t))

  pub listed_leaf : (x : Statement) (g : G) → In (leaves a base) (x, g) → Leaf a base x g
  listed_leaf x g m = elim (in_either _ _ (x, g) m) [
    | inl h ↦
        let w = of_kept _ base.accepted (x, g) h in Leaf.accepted w.0 (true_tells _ (fits_told base.sizes x) w.1)
    | inr h ↦
        let w = of_map _ (tautologies base.sizes) (x, g) h in
        let t = (tautologies_listed base.sizes _ refl).sound w.0 w.1 in
        subst (λ (v : Statement × G). Leaf a base v.0 v.1) w.2 (Leaf.tautology t)
  ]
