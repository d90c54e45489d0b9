-- The computed run settles as runs do.
use Rattle.std.proofs.Common.{◌≡◌, ℕ, zero, suc, ◌+◌, Bool, true, false, cond, ◌⊎◌, List, [], ◌∷◌, ◌++◌, length, sym, refl, ap, subst, inl, inr, append_assoc, append-nil, arith, length-append, ltb-true, lt-ltb}
use lib.ListN.{length-map}
use Rattle.standpoint.specs.declared.statement.Statement.{Statement}
use Rattle.standpoint.specs.Lists.{Tells, In}
use Rattle.standpoint.specs.Algebra.{Algebra, Laws}
use Rattle.standpoint.specs.Derivations.{Base, Leaf}
use Rattle.standpoint.proofs.Listing.{in_left, in_right, in_either}
use Rattle.runs.specs.declared.Stand.{Stand}
use Rattle.runs.specs.declared.Stand.TheVariants.{Open, Ended, Full}
use Rattle.runs.specs.Runs.{Settled, Unsettled, Offers, Known, Next, Run, StandsFull, AllSettled, Stands, Settling}
use Rattle.runs.specs.Runs.Run.{fresh, settles}
use Rattle.runs.specs.Runs.Settling.{no_more_asked, no_more_to_do, one_more}
use Rattle.runs.specs.Model.{leaves, steps_with, gather, first_of, without, full, stand, settle}
use Rattle.runs.specs.Laws.{ModelSettles}
use Rattle.runs.proofs.Lists.{of_map, in_map}
use Rattle.runs.proofs.Distinct.{Apart, apart_append, apart_distinct, distinct_apart, no_longer}
use Rattle.runs.proofs.Offers.{new_or_old, settled_or, statements, none_of, still_offered, in_offers, apart_run}
use Rattle.runs.proofs.Told.{told}
use Rattle.runs.proofs.Waiting.{Covers, of_gather, apart_gather, gather_old, gather_new, of_without, in_without, apart_without}
use Rattle.runs.proofs.First.{first_found}
use Rattle.runs.proofs.Steps.{steps_offered, steps_have, leaf_listed, listed_leaf}

module _ {G : Type 0} (a : Algebra G) (laws : Laws a) (base : Base G) where
  -- what waits: each known statement that is unsettled, once, at its present grade
  record Waiting (settled waiting : Settled G) : Type 0 where
    offered : (x : Statement) (g : G) → In waiting (x, g) → Offers a base settled x g × Unsettled settled x
    covers : (x : Statement) (g : G) → Offers a base settled x g → Unsettled settled x → Covers a laws waiting x g
    apart : Apart (statements waiting)

  begun : Waiting [] (gather a [] (leaves a base) [])
  begun = record {
    offered = λ x g m. elim (of_gather a [] (leaves a base) [] (x, g) m) [
      | inl new ↦ (Offers.leaf (listed_leaf a base x g new.0), new.1)
      | inr z ↦ elim z [ ]
    ];
    covers = λ x g offer un. gather_new a laws [] (leaves a base) [] x g (leaf_listed a base x g (is_leaf offer)) un;
    apart = apart_gather a [] (leaves a base) [] tt;
  }
    where
      is_leaf : {x : Statement} {g : G} → Offers a base [] x g → Leaf a base x g
      is_leaf (Offers.leaf l) = l
      is_leaf (Offers.one s m) = elim m [ ]
      is_leaf (Offers.two s m n) = elim m [ ]
      is_leaf (Offers.three s l m n) = elim l [ ]

  module _ (settled : Settled G) (o : Statement × G) (os : Settled G) (W : Waiting settled (o ∷ os)) where
    abbrev new : Statement × G
    new = first_of a o os

    abbrev now : Settled G
    now = settled ++ new ∷ []

    abbrev steps : Settled G
    steps = steps_with a base.sizes.individuals new settled

    abbrev rest : Settled G
    rest = without new.0 (o ∷ os)

    is_new : (x : Statement) → x ≡ new.0 → ◌≡◌ {A = Statement × G} (new.0, new.1) (x, new.1)
    is_new x e = cc

    -- the first that waits is the next to be settled
    first_next : Next a base settled new.0 new.1
    first_next =
        let first = first_found a laws o os in
        record {
          offered = (W.offered new.0 new.1 first.0).0;
          unsettled = (W.offered new.0 new.1 first.0).1;
          best = λ y h offer un. let c = W.covers y h offer un in laws.trans _ _ _ (first.1 (y, c.0) c.1).0 c.2;
          least = λ y offer un. let c = W.covers y new.1 offer un in (first.1 (y, c.0) c.1).1 c.2;
        }

    still_waiting : Waiting now (gather a now steps rest)
    still_waiting = record {
      offered = λ x g m. elim (of_gather a now steps rest (x, g) m) [
        | inl step ↦ (steps_offered a base new settled x g step.0, step.1)
        | inr old ↦
            let w = of_without a new.0 (o ∷ os) (x, g) old in
            let before = W.offered x g w.0 in (
              still_offered a base settled new before.0,
              λ h n. elim (new_or_old settled new (x, h) n) [
                | inl e ↦ w.1 (sym (ap (λ (v : Statement × G). v.0) e))
                | inr there ↦ before.1 h there
              ],
            )
      ];
      covers = λ x g offer un. elim (steps_have a base new settled offer) [
        | inl old ↦
            let c = W.covers x g old (λ h n. un h (in_left settled (new ∷ []) (x, h) n)) in
            let other : x ≡ new.0 → ⊥ = λ e. un new.1 (in_right settled (new ∷ []) (x, new.1) (inl (is_new x e))) in
            gather_old a laws now steps rest x g (c.0, in_without a new.0 (o ∷ os) (x, c.0) c.1 other, c.2)
        | inr step ↦ gather_new a laws now steps rest x g step un
      ];
      apart = apart_gather a now steps rest (apart_without a new.0 (o ∷ os) W.apart);
    }

  module _ (settled waiting : Settled G) (run : Run a base settled) (W : Waiting settled waiting) where
    abbrev listed : List Statement
    listed = statements settled ++ statements waiting

    -- the known statements are those settled and those that wait
    known_listed : (x : Statement) → Known a base settled x → In listed x
    known_listed x known = elim (settled_or settled x) [
      | inl m ↦ in_left (statements settled) (statements waiting) x (in_map _ settled (x, m.0) m.1)
      | inr un ↦
          let c = W.covers x known.0 known.1 un in
          in_right (statements settled) (statements waiting) x (in_map _ waiting (x, c.0) c.1)
    ]

    listed_known : (x : Statement) → In listed x → Known a base settled x
    listed_known x m = elim (in_either (statements settled) (statements waiting) x m) [
      | inl h ↦
          let w = of_map _ settled x h in
          (w.0.1, subst (λ z. Offers a base settled z w.0.1) w.2 (in_offers a base run w.0.0 w.0.1 w.1))
      | inr h ↦
          let w = of_map _ waiting x h in
          (w.0.1, subst (λ z. Offers a base settled z w.0.1) w.2 (W.offered w.0.0 w.0.1 w.1).0)
    ]

    listed_apart : Apart listed
    listed_apart =
        apart_append (statements settled) (statements waiting) (apart_run a base run) W.apart
        (λ x m n. let w = of_map _ waiting x n in none_of settled w.0.0 (W.offered w.0.0 w.0.1 w.1).1 (subst (In (statements settled)) (sym w.2) m))

    counted : length listed ≡ length settled + length waiting
    counted = simp (length-append, length-map)

    full_told : (rows : ℕ) → Tells (full rows settled waiting) (StandsFull a base rows settled)
    full_told rows =
        told (full rows settled waiting)
        (λ e. (listed, apart_distinct listed listed_apart, listed_known, omega (arith, counted, ltb-true rows (length settled + length waiting) e)))
        (λ f. lt-ltb rows (length settled + length waiting) (omega (arith, counted, f.3, no_longer f.0 listed (distinct_apart f.0 f.1) (λ x m. known_listed x (f.2 x m)))))

  all_settled : (settled : Settled G) → Waiting settled [] → AllSettled a base settled
  all_settled settled W x g offer = elim (settled_or settled x) [ inl m ↦ m | inr un ↦ elim (W.covers x g offer un).1 [ ] ]

  stands : (rows : ℕ) (settled waiting : Settled G) → Run a base settled → Waiting settled waiting → Stands a base rows settled (stand rows settled waiting)
  stands rows settled [] run W = go (full rows settled []) (full_told settled [] run W rows)
    where
      go : (b : Bool) → Tells b (StandsFull a base rows settled) → Stands a base rows settled (cond b Full Ended)
      go true f = f
      go false room = (room, all_settled settled W)
  stands rows settled (o ∷ os) run W = go (full rows settled (o ∷ os)) (full_told settled (o ∷ os) run W rows)
    where
      go : (b : Bool) → Tells b (StandsFull a base rows settled) → Stands a base rows settled (cond b Full Open)
      go true f = f
      go false room = let here = W.offered o.0 o.1 (inl refl) in (room, (o.0, (o.1, here.0), here.1))

  -- what was settled in turn, and how the run then stands
  abbrev Settles : ℕ → ℕ → Settled G → Settled G × Stand → Type 0
  Settles rows n settled answer = Settling a base rows n settled answer.0 × Stands a base rows (settled ++ answer.0) answer.1

  no_later : (rows : ℕ) (settled : Settled G) (stand : Stand) → Stands a base rows settled stand → Stands a base rows (settled ++ []) stand
  no_later rows settled stand = subst (λ z. Stands a base rows z stand) (sym (append-nil settled))

  settles_as_runs : (rows n : ℕ) (settled waiting : Settled G) → Run a base settled → Waiting settled waiting →
      Settles rows n settled (settle a base.sizes.individuals rows n settled waiting)
  settles_as_runs rows zero settled waiting run W = (no_more_asked, no_later rows settled _ (stands rows settled waiting run W))
  settles_as_runs rows (suc n) settled [] run W =
      (no_more_to_do (go (full rows settled []) (full_told settled [] run W rows)), no_later rows settled _ (stands rows settled [] run W))
    where
      go : (b : Bool) → Tells b (StandsFull a base rows settled) → Stands a base rows settled Full ⊎ Stands a base rows settled Ended
      go true f = inl f
      go false room = inr (room, all_settled settled W)
  settles_as_runs rows (suc n) settled (o ∷ os) run W =
      let next = first_next settled o os W in
      go (full rows settled (o ∷ os)) (full_told settled (o ∷ os) run W rows) _ (settles_as_runs rows n _ _ (settles run next) (still_waiting settled o os W))
    where
      go : (b : Bool) → Tells b (StandsFull a base rows settled) → (rest : Settled G × Stand) → Settles rows n (settled ++ first_of a o os ∷ []) rest →
          Settles rows (suc n) settled (cond b ([], Full) (first_of a o os ∷ rest.0, rest.1))
      go true f rest later = (no_more_to_do (inl f), no_later rows settled Full f)
      go false room rest later = (
        one_more room (first_next settled o os W) later.0,
        subst (λ z. Stands a base rows z rest.1) (append_assoc settled (first_of a o os ∷ []) rest.0) later.1,
      )

pub model_settles : {G : Type 0} (a : Algebra G) → Laws a → ModelSettles a
model_settles a laws base rows n = settles_as_runs a laws base rows n [] _ fresh (begun a laws base)
