-- What an explanation means over a run.
use Rattle.std.proofs.Common.{◌≡◌, ℕ, ◌<◌, List, length, Some, Err, Option, Result, sym, ap, ◌∙◌, subst, ⊎_elim, arith}
use Rattle.standpoint.specs.declared.refusal.Refusal.{Refusal}
use Rattle.standpoint.specs.declared.statement.Statement.{Statement}
use Rattle.standpoint.specs.declared.step.Step.{Step}
use Rattle.standpoint.specs.Lists.{In, StandsAt}
use Rattle.standpoint.specs.Algebra.{Algebra, Laws}
use Rattle.standpoint.specs.Derivations.{Base}
use Rattle.standpoint.proofs.Derived.{derived_fits}
use Rattle.standpoint.proofs.Lists.{in_stands}
use Rattle.runs.specs.Runs as runs
use Rattle.runs.specs.Runs.{Settled}
use Rattle.runs.proofs.Offers.{settled_derives, settled_once}
use Rattle.saturation.specs.declared.table.Table.{Table}
use Rattle.saturation.specs.Tables.{State, view, statement_at, turn_at, row_at}
use Rattle.saturation.proofs.Offers.{below_or}
use Rattle.saturation.proofs.Stepping.{stands_in, value_at}
use Rattle.reasoner.proofs.Holding.{Held, refused_misfit}
use Rattle.reasoner.proofs.Saying.{says_settled}
use Rattle.explanation.specs.Explaining.{NoneBelow, FirstSettled, NotFound, not_askable, not_settled, Gives, Writes, rests_on_later, listed, Explains, not_found, found, Explanation, ExplainsAs, does_not_fit, unsettled, explained}
use Rattle.explanation.specs.Needed.{Unfounded, ListOf}
use Rattle.explanation.proofs.Foundings.{explained_founded}
use Rattle.explanation.proofs.Listing.{one_list}
use Rattle.explanation.proofs.Ordered.{in_order, each_used}
use Rattle.explanation.proofs.RightSteps.{list_passes}

-- a statement is settled first at one place
first_same : {G : Type 0} (s : State G) (x : Statement) (t v : ℕ) → FirstSettled s x t → FirstSettled s x v → t ≡ v
first_same s x t v one other = ⊎_elim (λ lt. absurd (other.first t lt one.holds)) (λ ge. ⊎_elim (λ lt. absurd (one.first v lt other.holds)) (λ le. omega arith) (below_or v t)) (below_or t v)

module _ {G : Type 0} (a : Algebra G) (laws : Laws a) (b : Base G) (l : Settled G) (s : Table G) (h : Held a b s l) (x : Statement) where
  -- the settled statement with its grade
  settled_so : (t : ℕ) → FirstSettled (view s) x t → (g : G) × StandsAt l t (x, g)
  settled_so t at =
      let lg = h.lists.long in
      let lt = at.within in
      let within : t < length l = omega arith in
      let p = value_at l t within in
      let o = p.0 in
      let same : o.0 ≡ x = sym (ap (λ (v : Statement × G). v.0) (p.1 o)) ∙ sym (h.lists.holds t at.within o).0 ∙ at.holds in
      (o.1, subst (λ (y : Statement). StandsAt l t (y, o.1)) same (within, p.1))

  none_settled : NoneBelow (view s) x s.settled → runs.Unsettled l x
  none_settled none g m =
      let p = in_stands l (x, g) m in
      let lg = h.lists.long in
      let lt = p.1.0 in
      let within : p.0 < s.settled = omega arith in
      none p.0 within ((h.lists.holds p.0 within (x, g)).0 ∙ ap (λ (v : Statement × G). v.0) (p.1.1 (x, g)))

  unfound_means : (old new : List (Step G)) → new ≡ old → {e : Refusal} → NotFound s x e → ExplainsAs a b l x old new (Err e)
  unfound_means old new same (not_askable refused) = let unfit = refused_misfit h x refused in rw unfit.0 (does_not_fit unfit.1 same)
  unfound_means old new same (not_settled asked none) = unsettled (none_settled none) same

  no_later : (t : ℕ) → FirstSettled (view s) x t → Unfounded (view s) t → ⊥
  no_later t at (k, n, (j, r, le)) =
      let o = settled_so t at in
      let lt = explained_founded a b l (view s) h.explained t (x, o.0) o.1.0 k n j r in
      omega arith

  pub list_means : (t : ℕ) → FirstSettled (view s) x t → (steps : List (Step G)) → ListOf (view s) t steps → (g : G) × Explanation a b l x g steps
  list_means t at steps w =
      let o = settled_so t at in
      let said = says_settled a b s laws h x o.0 (stands_in l t (x, o.0) o.1) in (
        o.0,
        record {
          settled = said.0;
          passes = list_passes a b h.in_range l h.run (view s) h.lists h.explained t at.within steps w (x, o.0) o.1;
          order = in_order (view s) t at.within steps w l h.lists;
          used = each_used (view s) t at.within steps w;
          best = said.1;
          excludes = said.2;
        },
      )

  writing_means : (t : ℕ) → FirstSettled (view s) x t → (old new : List (Step G)) {r : Result ℕ Refusal} → Writes (view s) t old new r → ExplainsAs a b l x old new r
  writing_means t at old new (rests_on_later un same) = absurd (no_later t at un)
  writing_means t at old new (listed steps one gives) = let e = list_means t at steps one.is in explained e.0 steps e.1 gives

  pub means : (old new : List (Step G)) (r : Result ℕ Refusal) → Explains s x old new r → ExplainsAs a b l x old new r
  means old new r (not_found why same) = unfound_means old new same why
  means old new r (found asked t at answer) = writing_means t at old new answer

  -- a settled statement is given the list that it rests on
  module _ (t : ℕ) (at : FirstSettled (view s) x t) (list : List (Step G)) (is : ListOf (view s) t list) where
    pub gives_list : (old new : List (Step G)) (r : Result ℕ Refusal) → Explains s x old new r → Gives list old new r
    gives_list old new r (not_found (not_askable refused) same) =
        let o = settled_so t at in
        absurd ((refused_misfit h x refused).1 (derived_fits a b h.in_range (settled_derives a b h.run x o.0 (stands_in l t (x, o.0) o.1))))
    gives_list old new r (not_found (not_settled asked none) same) = absurd (none t at.within at.holds)
    gives_list old new r (found asked v first (rests_on_later un same)) = absurd (no_later v first un)
    gives_list old new r (found asked v first (listed steps one gives)) =
        let there : t ≡ v = first_same (view s) x t v at first in
        subst (λ (z : List (Step G)). Gives z old new r) (sym (one.only list (subst (λ (i : ℕ). ListOf (view s) i list) there is))) gives

  -- the list that a settled statement rests on explains it
  pub record Listed (g : G) : Type 0 where
    pub place : ℕ
    pub first : FirstSettled (view s) x place
    pub list : List (Step G)
    pub is : ListOf (view s) place list
    pub explanation : Explanation a b l x g list

  settled_apart : (j k : ℕ) → j < s.settled → k < s.settled → statement_at (view s) (turn_at (view s) j) ≡ statement_at (view s) (turn_at (view s) k) → j ≡ k
  settled_apart j k lt gt same =
      let rows = h.apart (turn_at (view s) j) (turn_at (view s) k) (s.turns j lt) (s.turns k gt) same in
      let places : ◌≡◌ {A = Option ℕ} (Some j) (Some k) = sym (h.lists.marked j lt) ∙ ap (λ (i : ℕ). (row_at (view s) i).place) rows ∙ h.lists.marked k gt in
      cc

  -- a statement is settled at one grade
  regraded : (d g : G) (steps : List (Step G)) → Explanation a b l x d steps → In l (x, g) → Explanation a b l x g steps
  regraded d g steps e m = subst (λ (z : G). Explanation a b l x z steps) (settled_once a b h.run x d g e.settled m) e

  pub listed_so : (g : G) → In l (x, g) → Listed g
  listed_so g m =
      let p = in_stands l (x, g) m in
      let t = p.0 in
      let lg = h.lists.long in
      let lt = p.1.0 in
      let within : t < s.settled = omega arith in
      let holds = (h.lists.holds t within (x, g)).0 ∙ ap (λ (v : Statement × G). v.0) (p.1.1 (x, g)) in
      let at : FirstSettled (view s) x t = record {
        within = within;
        holds = holds;
        first = λ k before same. let e = settled_apart k t (omega arith) within (same ∙ sym holds) in omega arith;
      } in
      let one = one_list s t within (explained_founded a b l (view s) h.explained t (x, g) lt) in
      let e = list_means t at one.0 one.1.is in
      record {
        place = t;
        first = at;
        list = one.0;
        is = one.1.is;
        explanation = regraded e.0 g one.0 e.1 m;
      }
