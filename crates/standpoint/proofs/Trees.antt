-- A list of right steps derives what it ends in, and every derivation is written as such a list.
use Rattle.std.proofs.Common.{◌≡◌, ℕ, zero, suc, ◌-◌, ◌<◌, List, [], ◌∷◌, ◌++◌, length, get_or, sym, refl, ap, ◌∙◌, subst, arith, length-append, below_none, below_more}
use Rattle.std.proofs.lemmas.List.{get_or_append_left, get_or_push}
use Rattle.standpoint.specs.declared.statement.Statement.{Statement}
use Rattle.standpoint.specs.declared.step.Step.{Step}
use Rattle.standpoint.specs.Sizes.{InRange}
use Rattle.standpoint.specs.Lists.{StandsAt}
use Rattle.standpoint.specs.Algebra.{Algebra}
use Rattle.standpoint.specs.Derivations.{Base, Derives}
use Rattle.standpoint.specs.Derivations.Leaf.{accepted, tautology}
use Rattle.standpoint.specs.Derivations.Derives.{leaf, one, two, three}
use Rattle.standpoint.specs.Steps.{given, Earlier, Agrees, by_acceptance, by_tautology, by_one, by_two, by_three, Right, RightAt, RightBelow}
use Rattle.standpoint.specs.Verdicts.{ListDerives, DerivedListed, ListMet, ContradictionExcludes, NothingContradicts}
use Rattle.standpoint.proofs.Earlier.{right_moved}
use Rattle.standpoint.proofs.Derived.{derived_fits, derived_met, contradiction_underivable}
use Rattle.standpoint.proofs.OneThing.{one_thing}

module _ {G : Type 0} (a : Algebra G) (base : Base G) where
  -- what the step gives is derived
  abbrev Derived : Step G → Type 0
  Derived s = Derives a base s.statement s.grade

  -- the first m steps give what is derived
  abbrev DerivedBelow : List (Step G) → ℕ → Type 0
  DerivedBelow steps m = (k : ℕ) → k < m → (d : Step G) → Derived (get_or steps k d)

  step_derived : (steps : List (Step G)) (n : ℕ) (s : Step G) → DerivedBelow steps n → Right a base steps n s → Derived s
  step_derived steps n s before right = by right.agrees
    where
      graded : {g : G} → s.grade ≡ g → Derives a base s.statement g → Derived s
      graded e d = subst (Derives a base s.statement) (sym e) d

      premise : (place : ℕ) (p : Step G) → Earlier steps n place p → Derived p
      premise place p at = let l = at.0 in let u = at.1 in subst Derived (at.2.1 p) (before (place - 1) (omega arith) p)

      by : Agrees a base steps n s → Derived s
      by (by_acceptance _ _ _ _ m) = leaf (accepted m right.fits)
      by (by_tautology _ _ _ _ t e) = graded e (leaf (tautology t))
      by (by_one p i _ _ r e) = graded e (one r (premise s.first p i))
      by (by_two p q i j _ r e) = graded e (two r (premise s.first p i) (premise s.second q j))
      by (by_three p q t i j k r e) = graded e (three r (premise s.first p i) (premise s.second q j) (premise s.third t k))

  pub below_derived : (steps : List (Step G)) (m : ℕ) → RightBelow a base steps m → DerivedBelow steps m
  below_derived steps zero right k h = absurd (let z : ⊥ = omega arith in z)
  below_derived steps (suc m) right k h =
      let before = below_derived steps m (λ j l. right j (omega arith)) in
      let P : ℕ → Type 0 = λ j. (d : Step G) → Derived (get_or steps j d) in
      below_more P m before (λ d. step_derived steps m (get_or steps m d) before (right m (omega arith) d)) k (omega arith)

  -- what stands in xs stands at its place in ys
  abbrev Kept : List (Step G) → List (Step G) → Type 0
  Kept xs ys = (k : ℕ) (p : Step G) → StandsAt xs k p → StandsAt ys k p

  kept_pushed : (xs : List (Step G)) (s : Step G) → Kept xs (xs ++ s ∷ [])
  kept_pushed xs s k p at =
      let e = length-append xs (s ∷ []) in let l = at.0 in (omega arith, λ d. get_or_append_left xs (s ∷ []) d k l ∙ at.1 d)

  right_kept : (xs ys : List (Step G)) → Kept xs ys → (n : ℕ) (s : Step G) → Right a base xs n s → Right a base ys n s
  right_kept xs ys keep n = right_moved a base xs ys n n (λ place p at. (at.0, at.1, keep (place - 1) p at.2))

  right_pushed : (xs : List (Step G)) (s : Step G) → RightBelow a base xs (length xs) → Right a base xs (length xs) s →
      RightBelow a base (xs ++ s ∷ []) (length (xs ++ s ∷ []))
  right_pushed xs s right here n h =
      let e = length-append xs (s ∷ []) in
      let ys = xs ++ s ∷ [] in
      let up = right_kept xs ys (kept_pushed xs s) in
      below_more (RightAt a base ys) (length xs)
      (λ k l d. subst (Right a base ys k) (sym (get_or_append_left xs (s ∷ []) d k l)) (up k (get_or xs k d) (right k l d)))
      (λ d. subst (Right a base ys (length xs)) (sym (get_or_push xs s d (length xs) refl)) (up (length xs) s here))
      n (omega arith)

  abbrev made : ℕ → ℕ → ℕ → ℕ → Statement → G → Step G
  made rule first second third x g = record { rule = rule; first = first; second = second; third = third; statement = x; grade = g }

  -- a list of right steps that keeps what stands in xs, and ends in x at the grade g
  record Longer (xs : List (Step G)) (x : Statement) (g : G) : Type 0 where
    steps : List (Step G)
    right : RightBelow a base steps (length steps)
    keep : Kept xs steps
    rule : ℕ
    first : ℕ
    second : ℕ
    third : ℕ
    at_end : StandsAt steps (length steps - 1) (made rule first second third x g)

  -- one right step more
  longer : (xs ys : List (Step G)) (s : Step G) → RightBelow a base ys (length ys) → Kept xs ys → Right a base ys (length ys) s →
      Longer xs s.statement s.grade
  longer xs ys s right keep here =
      let e = length-append ys (s ∷ []) in
      record {
        steps = ys ++ s ∷ [];
        right = right_pushed ys s right here;
        keep = λ k p at. kept_pushed ys s k p (keep k p at);
        rule = s.rule;
        first = s.first;
        second = s.second;
        third = s.third;
        at_end = (omega arith, λ d. get_or_push ys s d (length (ys ++ s ∷ []) - 1) (omega arith));
      }

  -- the step that a list ends in
  abbrev end : {xs : List (Step G)} {x : Statement} {g : G} → Longer xs x g → Step G
  end {x = x} {g} l = made l.rule l.first l.second l.third x g

  end_earlier : {xs : List (Step G)} {x : Statement} {g : G} (l : Longer xs x g) (ys : List (Step G)) → Kept l.steps ys →
      Earlier ys (length ys) (length l.steps) (end l)
  end_earlier l ys keep =
      let up = keep (length l.steps - 1) (end l) l.at_end in
      let here = l.at_end.0 in
      let there = up.0 in
      (omega arith, omega arith, up)

  module _ (range : InRange base.sizes) where
    -- the steps of a derivation, written behind a list of right steps
    extend : (xs : List (Step G)) → RightBelow a base xs (length xs) → {x : Statement} {g : G} → Derives a base x g → Longer xs x g
    extend xs right (leaf {x} {g} (accepted m f)) =
        longer xs xs (made 0 0 0 0 x g) right (λ k p at. at) (record { fits = f; agrees = by_acceptance refl refl refl refl m })
    extend xs right (leaf {x} (tautology t)) =
        longer xs xs (made 24 0 0 0 x a.start) right (λ k p at. at)
        (record { fits = derived_fits a base range (leaf (tautology t)); agrees = by_tautology refl refl refl refl t refl })
    extend xs right (one {rule} {x = x} {g} r d) =
        let l = extend xs right d in
        longer xs l.steps (made rule (length l.steps) 0 0 x g) l.right l.keep (record {
          fits = derived_fits a base range (one r d);
          agrees = by_one (end l) (end_earlier l l.steps (λ k p at. at)) refl refl r refl;
        })
    extend xs right (two {rule} {x = x} {g} {h} r d e) =
        let l = extend xs right d in
        let m = extend l.steps l.right e in
        longer xs m.steps (made rule (length l.steps) (length m.steps) 0 x (a.join g h)) m.right (λ k p at. m.keep k p (l.keep k p at)) (record {
          fits = derived_fits a base range (two r d e);
          agrees = by_two (end l) (end m) (end_earlier l m.steps m.keep) (end_earlier m m.steps (λ k p at. at)) refl r refl;
        })
    extend xs right (three {rule} {x = x} {g} {h} {i} r d e f) =
        let l = extend xs right d in
        let m = extend l.steps l.right e in
        let n = extend m.steps m.right f in
        let far : Kept l.steps n.steps = λ k p at. n.keep k p (m.keep k p at) in
        longer xs n.steps (made rule (length l.steps) (length m.steps) (length n.steps) x (a.join (a.join g h) i)) n.right (λ k p at. far k p (l.keep k p at)) (record {
          fits = derived_fits a base range (three r d e f);
          agrees = by_three (end l) (end m) (end n) (end_earlier l n.steps far) (end_earlier m n.steps n.keep) (end_earlier n n.steps (λ k p at. at)) r refl;
        })

module _ {G : Type 0} (a : Algebra G) where
  pub list_derives : ListDerives a
  list_derives base steps x g p =
      let last = p.last in
      let l = last.at_end.0 in
      let there = below_derived a base steps (length steps) p.right (length steps - 1) l last.step in
      subst (λ (o : Statement × G). Derives a base o.0 o.1) (ap given (last.at_end.1 last.step) ∙ last.gives) there

  pub derived_listed : DerivedListed a
  derived_listed base x g range d =
      let l = extend a base range [] (below_none _) d in
      (l.steps, record { in_range = range; right = l.right; last = record { step = end a base l; at_end = l.at_end; gives = refl } })

  pub list_met : ListMet a
  list_met base steps x g p M met = derived_met a base p.in_range M met (list_derives base steps x g p)

  pub contradiction_excludes : ContradictionExcludes a
  contradiction_excludes base steps g p M met = contradiction_underivable a base p.in_range M met (list_derives base steps _ g p)

  pub nothing_contradicts : NothingContradicts a
  nothing_contradicts n steps g p = contradiction_excludes _ steps g p (one_thing n) (λ x h m _. absurd m)
