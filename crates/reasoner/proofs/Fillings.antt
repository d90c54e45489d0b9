-- Taking the tautologies one by one.
use Rattle.std.proofs.Common.{◌≡◌, ℕ, ◌+◌, ◌<◌, ◌≤◌, Bool, true, false, List, [], ◌∷◌, length, Some, None, sym, refl, ap, ◌∙◌, subst, inl, inr, ⊎_elim, arith}
use Rattle.std.specs.List.{slice_get}
use Rattle.std.proofs.lemmas.Bool.Decides.{nat_tests}
use Rattle.std.proofs.lemmas.Option.{slice_get_within}
use Rattle.standpoint.specs.declared.sizes.Sizes.{Sizes}
use Rattle.standpoint.specs.declared.statement.Statement.{Statement}
use Rattle.standpoint.specs.Lists.{In}
use Rattle.standpoint.specs.Algebra.{Algebra}
use Rattle.standpoint.specs.Rules.{Tautology}
use Rattle.standpoint.specs.Tautologies.{tautologies}
use Rattle.standpoint.specs.Derivations.{Leaf}
use Rattle.standpoint.specs.Derivations.Leaf.{accepted, tautology}
use Rattle.standpoint.proofs.TautologyList.{tautologies_listed}
use Rattle.runs.specs.Runs.{Offers}
use Rattle.runs.specs.Runs.Run.{fresh}
use Rattle.runs.specs.Runs.Offers.{leaf, one, two, three}
use Rattle.runs.proofs.Distinct.{in_nth, nth_in}
use Rattle.saturation.specs.declared.row.Row.{Row}
use Rattle.saturation.specs.Rows.{kept}
use Rattle.saturation.specs.Tables.{State, OpenAt, statement_at, capacity, has_room}
use Rattle.saturation.specs.Tables as tables
use Rattle.saturation.specs.Places.{kept_tautology}
use Rattle.saturation.specs.Offering.{Apart, Grown, Taken, Keeps}
use Rattle.saturation.specs.Saturation.{Holds}
use Rattle.saturation.proofs.Offers.{last_or, below_or}
use Rattle.reasoner.specs.Models.{empty_base}
use Rattle.reasoner.specs.Filling.{Filled}

-- an offer takes at most one row
pub one_row : {G : Type 0} (al : Algebra G) (s t : State G) (x : Statement) (g : G) (r : Bool) → Taken al s t x g r → Apart s → t.len ≤ s.len + 1
one_row al s t x g r taken apart =
    ⊎_elim
    (λ over.
    let m = taken.grown.more in
    let first : statement_at t s.len ≡ x = taken.only s.len (omega arith) (omega arith) in
    let second : statement_at t (s.len + 1) ≡ x = taken.only (s.len + 1) (omega arith) (omega arith) in
    let same = taken.apart apart s.len (s.len + 1) (omega arith) (omega arith) (first ∙ sym second) in
    absurd (omega arith))
    (λ fine. fine)
    (below_or (s.len + 1) t.len)

-- rows that are not settled stay so under an offer
pub still_open : {G : Type 0} (s t : State G) → Grown s t → ((i : ℕ) → i < s.len → OpenAt s i) → (i : ℕ) → i < t.len → OpenAt t i
still_open s t g opened i h = ⊎_elim (λ lt. g.places i lt ∙ opened i lt) (λ ge. g.fresh i ge h) (below_or i s.len)

module _ {G : Type 0} (al : Algebra G) (n : Sizes) (s : State G) (k : ℕ) (f : Filled al n s k) where
  pub filled_more : (t : State G) (x : Statement) (r : Bool) → slice_get (tautologies n) k ≡ Some x → k < capacity s →
      Taken al s t x al.start r → Keeps al s t x al.start (kept 24 0 0 0) → Filled al n t (k + 1)
  filled_more t x r is room taken keeps =
      let free : r ≡ true = took r refl in
      let truth : Tautology n x = (tautologies_listed n _ refl).sound x (in_nth (tautologies n) k x is) in
      let few = f.few in
      record {
        offered = (x, al.start) ∷ f.offered;
        rows = taken.ranked free f.offered f.rows;
        sound = λ o. ⊎_elim
            (λ e. (subst (Tautology n) (ap (λ (p : Statement × G). p.0) e) truth, sym (ap (λ (p : Statement × G). p.1) e)))
            (λ m. f.sound o m);
        complete = λ j y h at. ⊎_elim
            (λ lt. inr (f.complete j y lt at))
            (λ e. inl (same_pair (some_same (sym is ∙ sym (ap (slice_get (tautologies n)) e) ∙ at))))
            (last_or j k h);
        few = let more = one_row al s t x al.start r taken f.rows.best.apart in omega arith;
        unsettled = taken.grown.settled ∙ f.unsettled;
        opened = still_open s t taken.grown f.opened;
        right = keeps (empty_base n) [] (kept_tautology refl truth refl) f.right;
      }
    where
      some_same : {y : Statement} → Some x ≡ Some y → x ≡ y
      some_same e = cc

      same_pair : {y : Statement} → x ≡ y → ◌≡◌ {A = Statement × G} (x, al.start) (y, al.start)
      same_pair e = ap (λ (z : Statement). (z, al.start)) e

      took : (b : Bool) → r ≡ b → r ≡ true
      took true e = e
      took false e =
          let no = (taken.refused e).1 in
          let few = f.few in
          absurd (grind (arith, nat_tests))

  pub filled_skip : slice_get (tautologies n) k ≡ None → Filled al n s (k + 1)
  filled_skip none = record {
    offered = f.offered;
    rows = f.rows;
    sound = f.sound;
    complete = λ j y h at. ⊎_elim (λ lt. f.complete j y lt at) (λ e. absurd (never (sym none ∙ sym (ap (slice_get (tautologies n)) e) ∙ at))) (last_or j k h);
    few = let h = f.few in omega arith;
    unsettled = f.unsettled;
    opened = f.opened;
    right = f.right;
  }
    where
      never : {y : Statement} → None ≡ Some y → ⊥
      never e = grind arith

-- no row is taken
pub filled_none : {G : Type 0} (al : Algebra G) (n : Sizes) (rows : List Row) (grades : List G) → Filled al n (tables.fresh rows grades) 0
filled_none al n rows grades = record {
  offered = [];
  rows = record {
    best = record { apart = λ i j h. absurd (omega arith); every = λ x g m. absurd m; from = λ i h. absurd (omega arith); best = λ i h. absurd (omega arith) };
    played = λ k h. absurd (omega arith);
  };
  sound = λ o m. absurd m;
  complete = λ j x h. absurd (omega arith);
  few = omega arith;
  unsettled = refl;
  opened = λ i h. absurd (omega arith);
  right = λ i h. absurd (omega arith);
}

-- all tautologies are taken: the rows hold the run with nothing accepted and nothing settled
pub filled_holds : {G : Type 0} (al : Algebra G) (n : Sizes) (s : State G) (k : ℕ) → Filled al n s k → length (tautologies n) ≤ k → Holds al (empty_base n) [] s
filled_holds {G} al n s k f all = record {
  run = fresh;
  lists = record {
    long = sym f.unsettled;
    holds = λ j h. absurd (none j h);
    marked = λ j h. absurd (none j h);
    back = λ i h closed. absurd (closed (f.opened i h));
  };
  offered = f.offered;
  rows = f.rows;
  sound = λ o m. let p = f.sound o m in leaf (subst (Leaf al (empty_base n) o.0) (sym p.1) (tautology p.0));
  complete = known;
  right = f.right;
  explained = λ j h. absurd (omega arith);
}
  where
    none : (j : ℕ) → j < s.settled → ⊥
    none j h = let e = f.unsettled in omega arith

    known : (x : Statement) (g : G) → Offers al (empty_base n) [] x g → In f.offered (x, g)
    known x g (leaf (accepted m fits)) = absurd m
    known x _ (leaf (tautology t)) =
        let p = nth_in (tautologies n) x ((tautologies_listed n _ refl).complete x t) in
        let within = slice_get_within (tautologies n) p.0 x p.1 in
        f.complete p.0 x (omega arith) p.1
    known x g (one r m) = absurd m
    known x _ (two r m o) = absurd m
    known x _ (three r m o q) = absurd m
