-- What a run has settled, and what it offers as more is settled.
use Rattle.std.proofs.Common.{◌≡◌, ◌⊎◌, List, [], ◌∷◌, ◌++◌, map, sym, ap, ◌∙◌, subst, inl, inr}
use mathlib.Core.List.{map-append}
use Rattle.standpoint.specs.declared.statement.Statement.{Statement}
use Rattle.standpoint.specs.Lists.{In, Distinct}
use Rattle.standpoint.specs.Algebra.{Algebra}
use Rattle.standpoint.specs.Derivations.{Base, Derives}
use Rattle.standpoint.proofs.Listing.{in_left, in_either}
use Rattle.standpoint.proofs.Orders.{same?}
use Rattle.runs.specs.Runs.{Settled, Unsettled, Offers, Run, AllSettled}
use Rattle.runs.specs.Runs.Run.{fresh, settles}
use Rattle.runs.proofs.Lists.{of_map}
use Rattle.runs.proofs.Distinct.{Apart, apart_push, apart_distinct}

-- one more at the end: what is there is the new one, or was there before
pub new_or_old : {X : Type 0} (xs : List X) (o x : X) → In (xs ++ o ∷ []) x → (o ≡ x) ⊎ In xs x
new_or_old xs o x m = elim (in_either xs (o ∷ []) x m) [ inl old ↦ inr old | inr (inl e) ↦ inl e | inr (inr z) ↦ elim z [ ] ]

-- x is settled at some grade, or at none
pub settled_or : {G : Type 0} (settled : Settled G) (x : Statement) → ((g : G) × In settled (x, g)) ⊎ Unsettled settled x
settled_or [] x = inr (λ g m. m)
settled_or {G} (o ∷ settled) x = elim (same? o.0 x) [
  | yes e ↦ let here : ◌≡◌ {A = Statement × G} (o.0, o.1) (x, o.1) = cc in inl (o.1, inl here)
  | no differs ↦ elim (settled_or settled x) [
    | inl m ↦ inl (m.0, inr m.1)
    | inr rest ↦ inr (λ g m. elim m [ inl e ↦ differs (ap (λ (v : Statement × G). v.0) e) | inr old ↦ rest g old ])
  ]
]

-- the settled statements without their grades
abbrev pub statements : {G : Type 0} → Settled G → List Statement
statements {G} = map (λ (o : Statement × G). o.0)

-- an unsettled statement is none of them
pub none_of : {G : Type 0} (settled : Settled G) (x : Statement) → Unsettled settled x → In (statements settled) x → ⊥
none_of {G} settled x un m =
    let o = of_map (λ (o : Statement × G). o.0) settled x m in un o.0.1 (subst (λ z. In settled (z, o.0.1)) o.2 o.1)

module _ {G : Type 0} (a : Algebra G) (base : Base G) where
  -- an offer over more settled statements
  pub more_offers : {settled later : Settled G} → ((x : Statement) (g : G) → In settled (x, g) → In later (x, g)) →
      {x : Statement} {g : G} → Offers a base settled x g → Offers a base later x g
  more_offers more (Offers.leaf l) = Offers.leaf l
  more_offers more (Offers.one r p) = Offers.one r (more _ _ p)
  more_offers more (Offers.two r p q) = Offers.two r (more _ _ p) (more _ _ q)
  more_offers more (Offers.three r p q s) = Offers.three r (more _ _ p) (more _ _ q) (more _ _ s)

  -- what is offered is still offered when one more is settled
  pub still_offered : (settled : Settled G) (o : Statement × G) {x : Statement} {g : G} → Offers a base settled x g → Offers a base (settled ++ o ∷ []) x g
  still_offered settled o = more_offers (λ x g. in_left settled (o ∷ []) (x, g))

  -- what is settled is still offered
  pub in_offers : {settled : Settled G} → Run a base settled → (x : Statement) (g : G) → In settled (x, g) → Offers a base settled x g
  in_offers fresh x g m = elim m [ ]
  in_offers (settles {settled} {x = y} {g = h} run next) x g m = elim (new_or_old settled (y, h) (x, g) m) [
    | inl e ↦ still_offered settled (y, h) (subst (λ (v : Statement × G). Offers a base settled v.0 v.1) e next.offered)
    | inr old ↦ still_offered settled (y, h) (in_offers run x g old)
  ]

  -- an offer over derived statements is a derivation
  offer_derives : {settled : Settled G} → ((x : Statement) (g : G) → In settled (x, g) → Derives a base x g) →
      {x : Statement} {g : G} → Offers a base settled x g → Derives a base x g
  offer_derives derived (Offers.leaf l) = Derives.leaf l
  offer_derives derived (Offers.one r p) = Derives.one r (derived _ _ p)
  offer_derives derived (Offers.two r p q) = Derives.two r (derived _ _ p) (derived _ _ q)
  offer_derives derived (Offers.three r p q s) = Derives.three r (derived _ _ p) (derived _ _ q) (derived _ _ s)

  -- what a run settled has a derivation at its grade
  pub settled_derives : {settled : Settled G} → Run a base settled → (x : Statement) (g : G) → In settled (x, g) → Derives a base x g
  settled_derives fresh x g m = elim m [ ]
  settled_derives (settles {settled} {x = y} {g = h} run next) x g m = elim (new_or_old settled (y, h) (x, g) m) [
    | inl e ↦ subst (λ (v : Statement × G). Derives a base v.0 v.1) e (offer_derives (settled_derives run) next.offered)
    | inr old ↦ settled_derives run x g old
  ]

  -- where every known statement is settled, whatever has a derivation is settled
  pub derived_settled : {settled : Settled G} → AllSettled a base settled → {x : Statement} {g : G} → Derives a base x g → (m : G) × In settled (x, m)
  derived_settled all (Derives.leaf l) = all _ _ (Offers.leaf l)
  derived_settled all (Derives.one r p) = all _ _ (Offers.one r (derived_settled all p).1)
  derived_settled all (Derives.two r p q) = all _ _ (Offers.two r (derived_settled all p).1 (derived_settled all q).1)
  derived_settled all (Derives.three r p q s) =
      all _ _ (Offers.three r (derived_settled all p).1 (derived_settled all q).1 (derived_settled all s).1)

  -- no statement is settled twice, so none at two grades
  pub apart_run : {settled : Settled G} → Run a base settled → Apart (statements settled)
  apart_run fresh = tt
  apart_run (settles {settled} {x} {g} run next) =
      subst Apart (sym (map-append _ settled ((x, g) ∷ []))) (apart_push (statements settled) x (apart_run run) (none_of settled x next.unsettled))

  pub settled_once : {settled : Settled G} → Run a base settled → (x : Statement) (g h : G) → In settled (x, g) → In settled (x, h) → g ≡ h
  settled_once fresh x g h m n = elim m [ ]
  settled_once (settles {settled} {x = y} {g = i} run next) x g h m n = elim (new_or_old settled (y, i) (x, g) m) [
    | inl e ↦ elim (new_or_old settled (y, i) (x, h) n) [
      | inl f ↦ ap (λ (v : Statement × G). v.1) (sym e ∙ f)
      | inr old ↦ absurd (next.unsettled h (subst (λ (v : Statement × G). In settled (v.0, h)) (sym e) old))
    ]
    | inr old ↦ elim (new_or_old settled (y, i) (x, h) n) [
      | inl f ↦ absurd (next.unsettled g (subst (λ (v : Statement × G). In settled (v.0, g)) (sym f) old))
      | inr too ↦ settled_once run x g h old too
    ]
  ]
