-- Over a run, the list that a settled statement rests on is one of right steps that ends in it at its settled grade.
use Rattle.std.proofs.Common.{◌≡◌, ℕ, ◌+◌, ◌-◌, ◌<◌, ◌≤◌, Bool, List, [], ◌∷◌, length, get_or, take, sym, ap, ◌∙◌, subst, inl, inr, arith}
use Rattle.std.proofs.lemmas.List.{get_or_default, get_or-take}
use Rattle.standpoint.specs.declared.statement.Statement.{Statement}
use Rattle.standpoint.specs.declared.step.Step.{Step}
use Rattle.standpoint.specs.Lists.{StandsAt}
use Rattle.standpoint.specs.Sizes.{InRange}
use Rattle.standpoint.specs.Algebra.{Algebra}
use Rattle.standpoint.specs.Rules.{Rule}
use Rattle.standpoint.specs.Derivations.{Base}
use Rattle.standpoint.specs.Steps.{given, Earlier, Agrees, by_acceptance, by_tautology, by_one, by_two, by_three, Right}
use Rattle.standpoint.specs.Verdicts.{Passes}
use Rattle.standpoint.proofs.Arities.{few_premises}
use Rattle.standpoint.proofs.Derived.{derived_fits}
use Rattle.runs.specs.Runs.{Settled, Run}
use Rattle.runs.proofs.Offers.{settled_derives}
use Rattle.saturation.specs.declared.row.Kept.{Kept}
use Rattle.saturation.specs.Tables.{State}
use Rattle.saturation.specs.Places.{StandAt, statements_of, grades_of, joined, kept_of, KeptRight, kept_accepted, kept_tautology, kept_step}
use Rattle.saturation.specs.Offering.{Explained}
use Rattle.saturation.specs.Searching.{Lists}
use Rattle.saturation.proofs.Lists.{premise_at, stands_same}
use Rattle.saturation.proofs.Stepping.{stands_in}
use Rattle.explanation.specs.Needed.{kept_at, Rests, Needed, itself, below, rank, Renumbers, ListOf}
use Rattle.explanation.proofs.Ranks.{rank_taken, rank_below, unrank}

module _ {G : Type 0} (a : Algebra G) (base : Base G) (range : InRange base.sizes) (l : Settled G) (run : Run a base l) (s : State G) (lists : Lists s l) (ex : Explained a base l s)
    (t : ℕ) (within : t < s.settled) (steps : List (Step G)) (w : ListOf s t steps) where
  abbrev m : ℕ → Bool
  m = w.chosen

  -- what is written for k was settled as the k-th
  settled_there : (k : ℕ) → k ≤ t → (v : Step G) → Renumbers s m k v → StandsAt l k (given v)
  settled_there k h v wr = premise_at s l k (given v) lists (omega arith) wr.gives

  -- a premise of a needed step, where it is written
  record Line (k i : ℕ) (p : Statement × G) : Type 0 where
    step : Step G
    at : Earlier steps (rank m k) (rank m (i + 1)) step
    gives : given step ≡ p

  line : (k i : ℕ) (p : Statement × G) → k ≤ t → Needed s t k → Rests s k i → StandsAt (take k l) i p → Step G → Line k i p
  line k i p hk n r at v =
      let c = w.chooses.complete i (below n r) in
      let lt = w.founded k n i r in
      let le = c.0 in
      let lg = lists.long in
      let e = rank_taken m i c.1 in
      let lo = rank_below m i k lt c.1 in
      let hi = rank_below m i (t + 1) (omega arith) c.1 in
      let nl = w.long in
      let f : rank m (i + 1) - 1 ≡ rank m i = omega arith in
      let h : rank m i < length steps = omega arith in
      let u : Step G = get_or steps (rank m i) v in
      record {
        step = u;
        at = (omega arith, omega arith, (omega arith, λ d. ap (λ (j : ℕ). get_or steps j d) f ∙ get_or_default steps (rank m i) d v h));
        gives = stands_same l i (given u) p (settled_there i c.0 u (w.each i c.0 c.1 v)) (omega arith, λ d. sym (get_or-take k l i d lt) ∙ at.1 d);
      }

  module _ (k : ℕ) (v : Step G) (hk : k ≤ t) (n : Needed s t k) (wr : Renumbers s m k v) where
    earlier_line : (place i : ℕ) (p : Statement × G) → place ≡ rank m (i + 1) → (u : Line k i p) → Earlier steps (rank m k) place u.step
    earlier_line place i p e u = subst (λ (j : ℕ). Earlier steps (rank m k) j u.step) (sym e) u.at

    -- a rule over premises that stand among those settled before
    rule_agrees : (rule : ℕ) (places : List ℕ) (premises : List (Statement × G)) → kept_at s k ≡ kept_of rule places → StandAt (take k l) places premises →
        Rule base.sizes.individuals v.rule (statements_of premises) v.statement → v.grade ≡ joined a (grades_of premises) → Agrees a base steps (rank m k) v
    rule_agrees rule [] [] e st gives grade = let h = few_premises gives in absurd (omega arith)
    rule_agrees rule [] (p ∷ ps) e st gives grade = absurd st
    rule_agrees rule (i ∷ is) [] e st gives grade = absurd st
    rule_agrees rule (i ∷ []) (p ∷ []) e st gives grade =
        let e1 = ap (λ (x : Kept). x.first) e in
        let u = line k i p hk n (inl e1) st.0 v in
        let by = subst (λ (o : Statement × G). Rule base.sizes.individuals v.rule (o.0 ∷ []) v.statement × (v.grade ≡ o.1)) (sym u.gives) (gives, grade) in
        by_one u.step (earlier_line v.first i p (wr.first ∙ ap (rank m) e1) u) (wr.second ∙ ap (λ (x : Kept). rank m x.second) e) (wr.third ∙ ap (λ (x : Kept). rank m x.third) e) by.0 by.1
    rule_agrees rule (i ∷ []) (p ∷ q ∷ ps) e st gives grade = absurd st.1
    rule_agrees rule (i ∷ j ∷ is) (p ∷ []) e st gives grade = absurd st.1
    rule_agrees rule (i ∷ j ∷ []) (p ∷ q ∷ []) e st gives grade =
        let e1 = ap (λ (x : Kept). x.first) e in
        let e2 = ap (λ (x : Kept). x.second) e in
        let u = line k i p hk n (inl e1) st.0 v in
        let x = line k j q hk n (inr (inl e2)) st.1.0 v in
        let two : Statement × G → Statement × G → Type 0 = λ o r. Rule base.sizes.individuals v.rule (o.0 ∷ r.0 ∷ []) v.statement × (v.grade ≡ a.join o.1 r.1) in
        let by = subst (λ (o : Statement × G). two o (given x.step)) (sym u.gives) (subst (two p) (sym x.gives) (gives, grade)) in
        by_two u.step x.step (earlier_line v.first i p (wr.first ∙ ap (rank m) e1) u) (earlier_line v.second j q (wr.second ∙ ap (rank m) e2) x) (wr.third ∙ ap (λ (x : Kept). rank m x.third) e) by.0 by.1
    rule_agrees rule (i ∷ j ∷ []) (p ∷ q ∷ r ∷ ps) e st gives grade = absurd st.1.1
    rule_agrees rule (i ∷ j ∷ h ∷ is) (p ∷ q ∷ []) e st gives grade = absurd st.1.1
    rule_agrees rule (i ∷ j ∷ h ∷ []) (p ∷ q ∷ r ∷ []) e st gives grade =
        let e1 = ap (λ (x : Kept). x.first) e in
        let e2 = ap (λ (x : Kept). x.second) e in
        let e3 = ap (λ (x : Kept). x.third) e in
        let u = line k i p hk n (inl e1) st.0 v in
        let x = line k j q hk n (inr (inl e2)) st.1.0 v in
        let y = line k h r hk n (inr (inr e3)) st.1.1.0 v in
        let three : Statement × G → Statement × G → Statement × G → Type 0 = λ o1 o2 o3. Rule base.sizes.individuals v.rule (o1.0 ∷ o2.0 ∷ o3.0 ∷ []) v.statement × (v.grade ≡ a.join (a.join o1.1 o2.1) o3.1) in
        let by = subst (λ (o : Statement × G). three o (given x.step) (given y.step)) (sym u.gives) (subst (λ (o : Statement × G). three p o (given y.step)) (sym x.gives) (subst (three p q) (sym y.gives) (gives, grade))) in
        by_three u.step x.step y.step (earlier_line v.first i p (wr.first ∙ ap (rank m) e1) u) (earlier_line v.second j q (wr.second ∙ ap (rank m) e2) x) (earlier_line v.third h r (wr.third ∙ ap (rank m) e3) y) by.0 by.1
    rule_agrees rule (i ∷ j ∷ h ∷ []) (p ∷ q ∷ r ∷ o ∷ ps) e st gives grade = absurd st.1.1.1
    rule_agrees rule (i ∷ j ∷ h ∷ f ∷ is) (p ∷ q ∷ r ∷ []) e st gives grade = absurd st.1.1.1
    rule_agrees rule (i ∷ j ∷ h ∷ f ∷ is) (p ∷ q ∷ r ∷ o ∷ ps) e st gives grade = let few = few_premises gives in absurd (omega arith)

    step_agrees : KeptRight a base (take k l) (given v) (kept_at s k) → Agrees a base steps (rank m k) v
    step_agrees (kept_accepted e mem) =
        by_acceptance (wr.rule ∙ ap (λ (x : Kept). x.rule) e) (wr.first ∙ ap (λ (x : Kept). rank m x.first) e) (wr.second ∙ ap (λ (x : Kept). rank m x.second) e) (wr.third ∙ ap (λ (x : Kept). rank m x.third) e) mem
    step_agrees (kept_tautology e truth start) =
        by_tautology (wr.rule ∙ ap (λ (x : Kept). x.rule) e) (wr.first ∙ ap (λ (x : Kept). rank m x.first) e) (wr.second ∙ ap (λ (x : Kept). rank m x.second) e) (wr.third ∙ ap (λ (x : Kept). rank m x.third) e) truth start
    step_agrees (kept_step rule places e step) =
        let is_rule : rule ≡ v.rule = sym (wr.rule ∙ ap (λ (x : Kept). x.rule) e) in
        rule_agrees rule places step.premises e step.stand (subst (λ (r : ℕ). Rule base.sizes.individuals r (statements_of step.premises) v.statement) is_rule step.gives) step.grade

    step_right : Right a base steps (rank m k) v
    step_right =
        let at = settled_there k hk v wr in
        let mem = stands_in l k (given v) at in
        let right = subst (λ (o : Statement × G). KeptRight a base (take k l) o (kept_at s k)) (at.1 (given v)) (ex k at.0 (given v)) in
        record { fits = derived_fits a base range (settled_derives a base run v.statement v.grade mem); agrees = step_agrees right }

  all_right : (n : ℕ) → n < length steps → (d : Step G) → Right a base steps n (get_or steps n d)
  all_right n h d =
      let long = w.long in
      let f = unrank m (t + 1) n (omega arith) in
      let lt = f.1 in
      let low : f.0 ≤ t = omega arith in
      subst (λ (i : ℕ). Right a base steps i (get_or steps i d)) f.3
      (step_right f.0 (get_or steps (rank m f.0) d) low (w.chooses.sound f.0 (omega arith) f.2) (w.each f.0 low f.2 d))

  pub list_passes : (o : Statement × G) → StandsAt l t o → Passes a base steps o.0 o.1
  list_passes o at =
      let long = w.long in
      let own = w.chooses.complete t itself in
      let e = rank_taken m t own.1 in
      let back : length steps - 1 ≡ rank m t = omega arith in
      let low : rank m t < length steps = omega arith in
      let d : Step G = record { rule = 0; first = 0; second = 0; third = 0; statement = o.0; grade = o.1 } in
      let v : Step G = get_or steps (rank m t) d in
      record {
        in_range = range;
        right = all_right;
        last = record {
          step = v;
          at_end = (omega arith, λ z. ap (λ (j : ℕ). get_or steps j z) back ∙ get_or_default steps (rank m t) z d low);
          gives = stands_same l t (given v) o (settled_there t (omega arith) v (w.each t (omega arith) own.1 d)) at;
        };
      }
