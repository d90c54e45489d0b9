-- What waits for its turn in the computed run: each statement that is taken in, once, at the best of its grades.
use Rattle.std.proofs.Common.{◌≡◌, Bool, true, false, cond, not, ◌⊎◌, [], ◌∷◌, sym, refl, ap, ◌∙◌, subst, inl, inr, arith}
use Rattle.standpoint.specs.declared.statement.Statement.{Statement}
use Rattle.standpoint.specs.Lists.{Tells, In}
use Rattle.standpoint.specs.Algebra.{Algebra, Laws, NoWorse}
use Rattle.standpoint.specs.Statements.{same}
use Rattle.runs.specs.Runs.{Settled, Unsettled}
use Rattle.runs.specs.Model.{take_in, is_settled, gather, without}
use Rattle.runs.proofs.Lists.{of_map, in_map, of_kept, in_kept}
use Rattle.runs.proofs.Distinct.{Apart, apart_kept}
use Rattle.runs.proofs.Grades.{no_worse_itself}
use Rattle.runs.proofs.Offers.{statements}
use Rattle.runs.proofs.Told.{same_told, settled_told}

module _ {G : Type 0} (a : Algebra G) where
  -- an entry is the offer taken in, or was there before
  of_take_in : (o : Statement × G) (ps : Settled G) (q : Statement × G) → In (take_in a o ps) q → (o ≡ q) ⊎ In ps q
  of_take_in o [] q m = elim m [ inl e ↦ inl e | inr z ↦ elim z [ ] ]
  of_take_in o (p ∷ ps) q m = go (same p.0 o.0) (a.no_worse p.1 o.1) (of_take_in o ps q) m
    where
      go : (b c : Bool) → (In (take_in a o ps) q → (o ≡ q) ⊎ In ps q) → In (cond b (cond c p o ∷ ps) (p ∷ take_in a o ps)) q → (o ≡ q) ⊎ In (p ∷ ps) q
      go true true rest (inl e) = inr (inl e)
      go true false rest (inl e) = inl e
      go true c rest (inr m) = inr (inr m)
      go false c rest (inl e) = inr (inl e)
      go false c rest (inr m) = elim (rest m) [ inl e ↦ inl e | inr old ↦ inr (inr old) ]

  apart_take_in : (o : Statement × G) (ps : Settled G) → Apart (statements ps) → Apart (statements (take_in a o ps))
  apart_take_in o [] apart = ((λ m. m), tt)
  apart_take_in o (p ∷ ps) apart = go (same p.0 o.0) (a.no_worse p.1 o.1) (same_told p.0 o.0) (apart_take_in o ps apart.1)
    where
      go : (b c : Bool) → Tells b (p.0 ≡ o.0) → Apart (statements (take_in a o ps)) → Apart (statements (cond b (cond c p o ∷ ps) (p ∷ take_in a o ps)))
      go true true e rest = apart
      go true false e rest = ((λ m. apart.0 (subst (In (statements ps)) (sym e) m)), apart.1)
      go false c differs rest = (
        (λ m. let w = of_map _ (take_in a o ps) p.0 m in elim (of_take_in o ps w.0 w.1) [
          | inl e ↦ differs (sym w.2 ∙ ap (λ (v : Statement × G). v.0) (sym e))
          | inr old ↦ apart.0 (subst (In (statements ps)) w.2 (in_map _ ps w.0 old))
        ]),
        rest,
      )

  pub of_gather : (settled os ps : Settled G) (q : Statement × G) → In (gather a settled os ps) q → (In os q × Unsettled settled q.0) ⊎ In ps q
  of_gather settled [] ps q m = inr m
  of_gather settled (o ∷ os) ps q m = elim (of_gather settled os (cond (is_settled settled o.0) ps (take_in a o ps)) q m) [
    | inl later ↦ inl (inr later.0, later.1)
    | inr now ↦ go (is_settled settled o.0) (settled_told settled o.0) now
  ]
    where
      go : (b : Bool) → Tells b ((g : G) × In settled (o.0, g)) → In (cond b ps (take_in a o ps)) q → (In (o ∷ os) q × Unsettled settled q.0) ⊎ In ps q
      go true t m = inr m
      go false un m = elim (of_take_in o ps q m) [
        | inl e ↦ inl (inl e, λ g n. un (g, subst (λ (v : Statement × G). In settled (v.0, g)) (sym e) n))
        | inr old ↦ inr old
      ]

  pub apart_gather : (settled os ps : Settled G) → Apart (statements ps) → Apart (statements (gather a settled os ps))
  apart_gather settled [] ps apart = apart
  apart_gather settled (o ∷ os) ps apart = apart_gather settled os _ (go (is_settled settled o.0))
    where
      go : (b : Bool) → Apart (statements (cond b ps (take_in a o ps)))
      go true = apart
      go false = apart_take_in o ps apart

  -- what is left without one statement
  pub of_without : (x : Statement) (ps : Settled G) (q : Statement × G) → In (without x ps) q → In ps q × (q.0 ≡ x → ⊥)
  of_without x ps q m = let w = of_kept _ ps q m in (w.0, go (same q.0 x) (same_told q.0 x) w.1)
    where
      go : (b : Bool) → Tells b (q.0 ≡ x) → not b ≡ true → q.0 ≡ x → ⊥
      go true t e = absurd (grind arith)
      go false t e = t

  pub in_without : (x : Statement) (ps : Settled G) (q : Statement × G) → In ps q → (q.0 ≡ x → ⊥) → In (without x ps) q
  in_without x ps q m differs = in_kept _ ps q m (go (same q.0 x) (same_told q.0 x))
    where
      go : (b : Bool) → Tells b (q.0 ≡ x) → not b ≡ true
      go true t = absurd (differs t)
      go false t = refl

  pub apart_without : (x : Statement) (ps : Settled G) → Apart (statements ps) → Apart (statements (without x ps))
  apart_without x ps = apart_kept _ (λ p. not (same p.0 x)) ps

  module _ (laws : Laws a) where
    -- x waits at a grade no worse than g
    abbrev pub Covers : Settled G → Statement → G → Type 0
    Covers ps x g = (h : G) × In ps (x, h) × NoWorse a h g

    covers_new : (o : Statement × G) (ps : Settled G) → Covers (take_in a o ps) o.0 o.1
    covers_new o [] = (o.1, inl refl, no_worse_itself a laws o.1)
    covers_new o (p ∷ ps) = go (same p.0 o.0) (a.no_worse p.1 o.1) (same_told p.0 o.0) refl (covers_new o ps)
      where
        go : (b c : Bool) → Tells b (p.0 ≡ o.0) → a.no_worse p.1 o.1 ≡ c → Covers (take_in a o ps) o.0 o.1 →
            Covers (cond b (cond c p o ∷ ps) (p ∷ take_in a o ps)) o.0 o.1
        go true true e w rest = (p.1, inl (let here : ◌≡◌ {A = Statement × G} (p.0, p.1) (o.0, p.1) = cc in here), w)
        go true false e w rest = (o.1, inl refl, no_worse_itself a laws o.1)
        go false c e w rest = (rest.0, inr rest.1, rest.2)

    covers_old : (o : Statement × G) (ps : Settled G) (q : Statement × G) → In ps q → Covers (take_in a o ps) q.0 q.1
    covers_old o [] q m = elim m [ ]
    covers_old o (p ∷ ps) q m = go (same p.0 o.0) (a.no_worse p.1 o.1) (same_told p.0 o.0) refl (covers_old o ps q) m
      where
        go : (b c : Bool) → Tells b (p.0 ≡ o.0) → a.no_worse p.1 o.1 ≡ c → (In ps q → Covers (take_in a o ps) q.0 q.1) → In (p ∷ ps) q →
            Covers (cond b (cond c p o ∷ ps) (p ∷ take_in a o ps)) q.0 q.1
        go true true e w rest m = (q.1, m, no_worse_itself a laws q.1)
        go true false e w rest (inl f) =
            let here : ◌≡◌ {A = Statement × G} (o.0, o.1) (q.0, o.1) = cc in
            (o.1, inl here, subst (λ (v : Statement × G). NoWorse a o.1 v.1) f (elim (laws.total p.1 o.1) [ inl u ↦ absurd (grind arith) | inr u ↦ u ]))
        go true false e w rest (inr m) = (q.1, inr m, no_worse_itself a laws q.1)
        go false c e w rest (inl f) = (q.1, inl f, no_worse_itself a laws q.1)
        go false c e w rest (inr m) = let r = rest m in (r.0, inr r.1, r.2)

    -- what waits is still covered when more is gathered, and so is what is gathered
    pub gather_old : (settled os ps : Settled G) (x : Statement) (g : G) → Covers ps x g → Covers (gather a settled os ps) x g
    gather_old settled [] ps x g covers = covers
    gather_old settled (o ∷ os) ps x g covers = gather_old settled os _ x g (go (is_settled settled o.0))
      where
        go : (b : Bool) → Covers (cond b ps (take_in a o ps)) x g
        go true = covers
        go false =
            let more = covers_old o ps (x, covers.0) covers.1 in (more.0, more.1, laws.trans _ _ _ more.2 covers.2)

    pub gather_new : (settled os ps : Settled G) (x : Statement) (g : G) → In os (x, g) → Unsettled settled x → Covers (gather a settled os ps) x g
    gather_new settled [] ps x g m un = elim m [ ]
    gather_new settled (o ∷ os) ps x g (inl e) un = gather_old settled os _ x g (go (is_settled settled o.0) (settled_told settled o.0))
      where
        go : (b : Bool) → Tells b ((h : G) × In settled (o.0, h)) → Covers (cond b ps (take_in a o ps)) x g
        go true t = absurd (un t.0 (subst (λ (v : Statement × G). In settled (v.0, t.0)) e t.1))
        go false t = subst (λ (v : Statement × G). Covers (take_in a o ps) v.0 v.1) e (covers_new o ps)
    gather_new settled (o ∷ os) ps x g (inr m) un = gather_new settled os _ x g m un
