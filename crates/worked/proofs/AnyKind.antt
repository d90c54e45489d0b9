-- Where nothing is accepted, runs of any two kinds of grade know and settle the same statements.
use Rattle.std.proofs.Common.{◌≡◌, ℕ, ◌≤◌, length, subst, inl, inr, arith}
use lib.ListN.{length-map}
use Rattle.standpoint.specs.declared.statement.Statement.{Statement}
use Rattle.standpoint.specs.Lists.{In}
use Rattle.standpoint.specs.Algebra.{Algebra}
use Rattle.standpoint.specs.Derivations.{Leaf}
use Rattle.runs.specs.Runs.{Settled, Offers, Known, Run, StandsFull, AllSettled}
use Rattle.runs.specs.Runs.Run.{fresh, settles}
use Rattle.worked.specs.Bases.{bare}
use Rattle.runs.proofs.Lists.{of_map, in_map}
use Rattle.runs.proofs.Distinct.{no_longer}
use Rattle.runs.proofs.Offers.{new_or_old, statements, apart_run}

module _ {G H : Type 0} (a : Algebra G) (b : Algebra H) where
  -- each statement that is settled in one run is settled in the other
  abbrev pub Within : Settled G → Settled H → Type 0
  Within settled other = (x : Statement) (g : G) → In settled (x, g) → (h : H) × In other (x, h)

  -- then what is known in the one is known in the other, and if the one stands full, so does the other
  pub known_too : {settled : Settled G} {other : Settled H} → Within settled other → {x : Statement} {g : G} → Offers a bare settled x g → Known b bare other x
  known_too within (Offers.leaf (Leaf.accepted m f)) = elim m [ ]
  known_too within (Offers.leaf (Leaf.tautology t)) = (b.start, Offers.leaf (Leaf.tautology t))
  known_too within (Offers.one r p) = let v = within _ _ p in (v.0, Offers.one r v.1)
  known_too within (Offers.two r p q) = let v = within _ _ p in let w = within _ _ q in (b.join v.0 w.0, Offers.two r v.1 w.1)
  known_too within (Offers.three r p q s) =
      let u = within _ _ p in let v = within _ _ q in let w = within _ _ s in
      (b.join (b.join u.0 v.0) w.0, Offers.three r u.1 v.1 w.1)

  pub full_too : {rows : ℕ} {settled : Settled G} {other : Settled H} → Within settled other → StandsFull a bare rows settled → StandsFull b bare rows other
  full_too within full = (full.0, full.1, (λ x m. known_too within (full.2 x m).1), full.3)

  module _ {other : Settled H} (all : AllSettled b bare other) where
    -- whatever a run settles is settled where every known statement is
    pub settled_too : {settled : Settled G} → Run a bare settled → Within settled other
    settled_too fresh x g m = elim m [ ]
    settled_too (settles {settled} {x = y} {g = h} run next) x g m = elim (new_or_old settled (y, h) (x, g) m) [
      | inl e ↦
          let known = known_too (settled_too run) next.offered in
          subst (λ (v : Statement × G). (k : H) × In other (v.0, k)) e (all y known.0 known.1)
      | inr old ↦ settled_too run x g old
    ]

    -- so it settles no more of them
    pub settled_no_longer : {settled : Settled G} → Run a bare settled → length settled ≤ length other
    settled_no_longer {settled} run =
        let fewer : length (statements settled) ≤ length (statements other) = no_longer _ _ (apart_run a bare run) within in
        let here : length (statements settled) ≡ length settled = simp length-map in
        let there : length (statements other) ≡ length other = simp length-map in
        omega (arith, fewer, here, there)
      where
        within : (x : Statement) → In (statements settled) x → In (statements other) x
        within x m =
            let w = of_map _ settled x m in
            let k = settled_too run w.0.0 w.0.1 w.1 in
            subst (In (statements other)) w.2 (in_map _ other (w.0.0, k.0) k.1)
