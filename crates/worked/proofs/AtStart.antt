-- Where nothing is accepted, every kind settles the tautologies that a kind with one grade settles, at the start grade.
use Rattle.std.proofs.Common.{ℕ, true, List, [], ◌∷◌, map, refl, ap, subst, inl, inr}
use mathlib.Core.List.{map-append}
use Rattle.standpoint.specs.declared.statement.Statement.{Statement}
use Rattle.standpoint.specs.Lists.{In, All, ◌&◌}
use Rattle.standpoint.specs.Algebra.{Algebra, Laws, NoWorse}
use Rattle.standpoint.specs.Rules.{Tautology}
use Rattle.standpoint.specs.Derivations.{Leaf}
use Rattle.runs.specs.Runs.{Settled, Offers, Next, Settling}
use Rattle.runs.specs.Runs.Settling.{no_more_asked, no_more_to_do, one_more}
use Rattle.worked.specs.Bases.{bare}
use Rattle.runs.proofs.Grades.{no_worse_itself, no_worse_same, above_first}
use Rattle.runs.proofs.Lists.{of_map, in_map}
use Rattle.runs.proofs.Offers.{statements}
use Rattle.worked.proofs.AnyKind.{Within, known_too, full_too}

-- the kind with one grade
abbrev pub single : Algebra (Unit {0})
single = record { start = tt; no_worse = λ _ _. true; join = λ _ _. tt }

pub single_laws : Laws single
single_laws = record {
  total = λ _ _. inl refl;
  trans = λ _ _ _ _ _. refl;
  same = λ _ _ _ _. refl;
  left = λ _ _. refl;
  right = λ _ _. refl;
  mono_left = λ _ _ _ _. refl;
  mono_right = λ _ _ _ _. refl;
}

-- each is a tautology
abbrev pub Tautologies : List Statement → Type 0
Tautologies = All (Tautology (bare {G = Unit {0}}).sizes)

module _ {G : Type 0} (a : Algebra G) where
  -- the same statements, at the start grade
  abbrev pub at_start : Settled (Unit {0}) → Settled G
  at_start = map (λ (o : Statement × Unit {0}). (o.0, a.start))

  pub from_start : (settled : Settled (Unit {0})) → Within a single (at_start settled) settled
  from_start settled x g m =
      let w = of_map _ settled (x, g) m in
      (tt, subst (λ z. In settled (z, tt)) (ap (λ (v : Statement × G). v.0) w.2) w.1)

  pub to_start : (settled : Settled (Unit {0})) → Within single a settled (at_start settled)
  to_start settled x g m = (a.start, in_map _ settled (x, g) m)

  module _ (laws : Laws a) where
    of_start : (settled : Settled (Unit {0})) (x : Statement) (g : G) → In (at_start settled) (x, g) → NoWorse a a.start g
    of_start settled x g m =
        let w = of_map _ settled (x, g) m in
        no_worse_same a laws a.start g (ap (λ (v : Statement × G). v.1) w.2)

    -- nothing is offered better than the start grade
    start_best : (settled : Settled (Unit {0})) {x : Statement} {g : G} → Offers a bare (at_start settled) x g → NoWorse a a.start g
    start_best settled (Offers.leaf (Leaf.accepted m f)) = elim m [ ]
    start_best settled (Offers.leaf (Leaf.tautology t)) = no_worse_itself a laws a.start
    start_best settled (Offers.one {g} r p) = of_start settled _ g p
    start_best settled (Offers.two {g} {h} r p q) = laws.trans a.start g _ (of_start settled _ g p) (laws.left g h)
    start_best settled (Offers.three {g} {h} {i} r p q s) = laws.trans a.start g _ (of_start settled _ g p) (above_first a laws g h i)

    -- so where the one grade settles tautologies alone, every kind settles the same
    pub settling_too : {rows n : ℕ} {settled later : Settled (Unit {0})} → Tautologies (statements later) → Settling single bare rows n settled later →
        Settling a bare rows n (at_start settled) (at_start later)
    settling_too _ no_more_asked = no_more_asked
    settling_too _ (no_more_to_do {settled} (inl full)) = no_more_to_do (inl (full_too single a (to_start settled) full))
    settling_too _ (no_more_to_do {settled} (inr ended)) =
        no_more_to_do (inr (
          (λ full. ended.0 (full_too a single (from_start settled) full)),
          (λ x g offer. let k = known_too a single (from_start settled) offer in let m = ended.1 x k.0 k.1 in to_start settled x m.0 m.1),
        ))
    settling_too {rows} (t & ts) (one_more {n} {settled} {later} {x} {g} room next rest) =
        one_more (λ full. room (full_too a single (from_start settled) full)) next_too
        (subst (λ z. Settling a bare rows n z (at_start later)) (map-append _ settled ((x, g) ∷ [])) (settling_too ts rest))
      where
        next_too : Next a bare (at_start settled) x a.start
        next_too = record {
          offered = Offers.leaf (Leaf.tautology t);
          unsettled = λ h m. let k = from_start settled x h m in next.unsettled k.0 k.1;
          best = λ y h offer un. start_best settled offer;
          least = λ y offer un. next.least y (known_too a single (from_start settled) offer).1 (λ h m. let k = to_start settled y h m in un k.0 k.1);
        }
