-- Which of those that wait goes first.
use Rattle.std.proofs.Common.{◌≡◌, Bool, true, false, cond, not, ◌&&◌, ◌||◌, ◌⊎◌, [], ◌∷◌, sym, refl, ◌∙◌, subst, inl, inr, arith}
use Rattle.standpoint.specs.declared.statement.Statement.{Statement}
use Rattle.standpoint.specs.Lists.{Tells, In}
use Rattle.standpoint.specs.Algebra.{Algebra, Laws, NoWorse}
use Rattle.standpoint.specs.Statements.{Before}
use Rattle.standpoint.proofs.Orders.{before_total, before_transitive}
use Rattle.runs.specs.Runs.{Settled}
use Rattle.runs.specs.Model.{before, goes_before, first_of}
use Rattle.runs.proofs.Grades.{no_worse_itself}
use Rattle.runs.proofs.Told.{before_told}

module _ {G : Type 0} (a : Algebra G) (laws : Laws a) where
  -- o is no worse, and where both are as good its statement is the same or stands before
  abbrev pub GoesFirst : Statement × G → Statement × G → Type 0
  GoesFirst o p = NoWorse a o.1 p.1 × (NoWorse a p.1 o.1 → (o.0 ≡ p.0) ⊎ Before o.0 p.0)

  first_itself : (o : Statement × G) → GoesFirst o o
  first_itself o = (no_worse_itself a laws o.1, λ _. inl refl)

  first_transitive : (o p q : Statement × G) → GoesFirst o p → GoesFirst p q → GoesFirst o q
  first_transitive o p q v w = (
    laws.trans o.1 p.1 q.1 v.0 w.0,
    λ back. joined (v.1 (laws.trans p.1 q.1 o.1 w.0 back)) (w.1 (laws.trans q.1 o.1 p.1 back v.0)),
  )
    where
      joined : (o.0 ≡ p.0) ⊎ Before o.0 p.0 → (p.0 ≡ q.0) ⊎ Before p.0 q.0 → (o.0 ≡ q.0) ⊎ Before o.0 q.0
      joined (inl d) (inl e) = inl (d ∙ e)
      joined (inl d) (inr e) = inr (subst (λ z. Before z q.0) (sym d) e)
      joined (inr d) (inl e) = inr (subst (Before o.0) e d)
      joined (inr d) (inr e) = inr (before_transitive o.0 p.0 q.0 d e)

  -- the first of two, by the test
  abbrev FirstBy : Bool → Statement × G → Statement × G → Type 0
  FirstBy true o p = GoesFirst o p
  FirstBy false o p = GoesFirst p o

  first_by : (o p : Statement × G) → FirstBy (goes_before a o p) o p
  first_by o p = go (a.no_worse o.1 p.1) (a.no_worse p.1 o.1) (before o.0 p.0) refl refl (before_told o.0 p.0)
    where
      go : (b c d : Bool) → a.no_worse o.1 p.1 ≡ b → a.no_worse p.1 o.1 ≡ c → Tells d (Before o.0 p.0) → FirstBy (b && (not c || d)) o p
      go true true true v w t = (v, λ _. inr t)
      go true true false v w t =
          (w, λ _. elim (before_total o.0 p.0) [ inl b ↦ absurd (t b) | inr (inl e) ↦ inl (sym e) | inr (inr b) ↦ inr b ])
      go true false d v w t = (v, λ back. absurd (grind arith))
      go false c d v w t = (elim (laws.total o.1 p.1) [ inl u ↦ absurd (grind arith) | inr u ↦ u ], λ back. absurd (grind arith))

  -- the first of all is one of them, and goes before each
  abbrev First : Statement × G → Settled G → Type 0
  First o ps = In ps o × ((q : Statement × G) → In ps q → GoesFirst o q)

  pub first_found : (o : Statement × G) (ps : Settled G) → First (first_of a o ps) (o ∷ ps)
  first_found o [] = (inl refl, λ q m. elim m [ inl e ↦ subst (GoesFirst o) e (first_itself o) | inr z ↦ elim z [ ] ])
  first_found o (p ∷ ps) = go (goes_before a p o) (first_by p o) (first_found p ps) (first_found o ps)
    where
      go : (b : Bool) → FirstBy b p o → First (first_of a p ps) (p ∷ ps) → First (first_of a o ps) (o ∷ ps) → First (first_of a (cond b p o) ps) (o ∷ p ∷ ps)
      go true by from-p from-o = (
        inr from-p.0,
        λ q m. elim m [
          | inl e ↦ subst (GoesFirst (first_of a p ps)) e (first_transitive (first_of a p ps) p o (from-p.1 p (inl refl)) by)
          | inr n ↦ from-p.1 q n
        ],
      )
      go false by from-p from-o = (
        elim from-o.0 [ inl e ↦ inl e | inr n ↦ inr (inr n) ],
        λ q m. elim m [
          | inl e ↦ from-o.1 q (inl e)
          | inr (inl e) ↦ subst (GoesFirst (first_of a o ps)) e (first_transitive (first_of a o ps) o p (from-o.1 o (inl refl)) by)
          | inr (inr n) ↦ from-o.1 q (inr n)
        ],
      )
