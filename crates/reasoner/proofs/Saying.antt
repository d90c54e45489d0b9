-- What the rows tell of a statement, and of how the run stands.
use Rattle.std.proofs.Common.{◌≡◌, ℕ, ◌<◌, true, get_or, Some, None, sym, ap, ◌∙◌, subst, ⊎_elim, arith}
use Rattle.standpoint.specs.declared.refusal.Refusal.TheVariants.{DoesNotFit}
use Rattle.standpoint.specs.declared.sizes.Sizes.{Sizes}
use Rattle.standpoint.specs.declared.statement.Statement.{Statement}
use Rattle.standpoint.specs.Lists.{In}
use Rattle.standpoint.specs.Algebra.{Algebra, Laws}
use Rattle.standpoint.specs.Statements.{Fits}
use Rattle.standpoint.specs.Derivations.{Base, Derives}
use Rattle.standpoint.proofs.Derived.{contradiction_underivable}
use Rattle.standpoint.proofs.Lists.{in_stands, in_getD}
use Rattle.runs.specs.declared.Stand.TheVariants.{Ended}
use Rattle.runs.specs.Runs.{Settled, Unsettled, Stands}
use Rattle.runs.proofs.Best.{settled_is_best, none_is_exact}
use Rattle.saturation.specs.declared.table.Table.{Table}
use Rattle.saturation.specs.Phases.{is_begun, sizes_of}
use Rattle.saturation.specs.Tables.{State, view, capacity, statement_at, turn_at, OpenAt}
use Rattle.saturation.specs.Offering.{Apart}
use Rattle.saturation.specs.Searching.{Lists}
use Rattle.saturation.proofs.Offers.{not_both, in_same}
use Rattle.saturation.proofs.Lists.{Fit}
use Rattle.reasoner.specs.Models.{Holding}
use Rattle.reasoner.specs.declared.asking.Answer.{Answer}
use Rattle.reasoner.specs.declared.asking.Answer.TheVariants.{Graded, Nothing, Pending}
use Rattle.reasoner.specs.Asking.{Says, Askable, AskRefused, misfit, RowGraded, LeftOver}
use Rattle.reasoner.proofs.Holding.{Held, held}

-- the facts of a table that its ghost fields hold
fit_of : {G : Type 0} (t : Table G) → Fit (view t)
fit_of t = (t.settled_fit, t.turns)

module _ {G : Type 0} (s : State G) (l : Settled G) (is : Lists s l) (fit : Fit s) where
  -- a settled statement has a settled row
  settled_row : (x : Statement) (g : G) → In l (x, g) → (i : ℕ) × (i < s.len) × (statement_at s i ≡ x) × (OpenAt s i → ⊥)
  settled_row x g m =
      let p = in_stands l (x, g) m in
      let k = p.0 in
      let long = is.long in
      let within = p.1.0 in
      let below : k < s.settled = omega arith in
      let there : statement_at s (turn_at s k) ≡ x = (is.holds k below (x, g)).0 ∙ ap (λ (v : Statement × G). v.0) (p.1.1 (x, g)) in
      (turn_at s k, fit.1 k below, there, not_both _ k (is.marked k below))

  -- no settled row holds x: it is not settled
  pub no_settled_row : (x : Statement) → Apart s → RowGraded s x None → Unsettled l x
  no_settled_row x apart none g m =
      let p = settled_row x g m in
      ⊎_elim
      (λ absent. absent p.0 p.1 p.2)
      (λ found. p.3 (subst (OpenAt s) (apart found.0 p.0 found.1 p.1 (found.2 ∙ sym p.2)) found.3))
      none

-- a settled row's statement is settled at the row's grade
pub graded_row : {G : Type 0} (s : State G) (l : Settled G) → Lists s l → (x : Statement) (g : G) → RowGraded s x (Some g) → In l (x, g)
graded_row {G} s l is x g (i, within, holds, closed, grade) =
    let b = is.back i within closed in
    let k = b.0 in
    let long = is.long in
    let below = b.1 in
    let p = is.holds k below (x, g) in
    let same_statement : (get_or l k (x, g)).0 ≡ x = sym p.0 ∙ ap (statement_at s) b.2 ∙ holds in
    let same_grade : (get_or l k (x, g)).1 ≡ g = sym (p.1 g) ∙ ap (λ (j : ℕ). get_or s.grades j g) b.2 ∙ grade g in
    in_same l (get_or l k (x, g)).0 x (get_or l k (x, g)).1 g same_statement same_grade (in_getD l k (x, g) (omega arith))

module _ {G : Type 0} (a : Algebra G) (b : Base G) (t : Table G) where
  -- a settled grade is the best, and if x is the contradiction, the base is unmeetable
  pub says_settled : Laws a → {l : Settled G} → Held a b t l → (x : Statement) (g : G) → In l (x, g) → Says a b l (capacity (view t)) x (Graded g)
  says_settled laws {l} h x g m =
      let best = settled_is_best a laws b l h.run x g m in
      (m, best, λ is M meets. contradiction_underivable a b h.in_range M meets (subst (λ (y : Statement). Derives a b y g) is best.0))

  module _ (laws : Laws a) {l : Settled G} (h : Holding a b t l) (x : Statement) where
    pub says_graded : (g : G) → RowGraded (view t) x (Some g) → Says a b l (capacity (view t)) x (Graded g)
    says_graded g row = says_settled laws (held h) x g (graded_row (view t) l (held h).lists x g row)

    says_nothing : RowGraded (view t) x None → Stands a b (capacity (view t)) l Ended → Says a b l (capacity (view t)) x Nothing
    says_nothing row ended =
        let un = no_settled_row (view t) l (held h).lists (fit_of t) x (held h).apart row in
        (un, ended, (none_is_exact a b l (held h).run ended.1 x).0 un)

    says_pending : RowGraded (view t) x None → (Stands a b (capacity (view t)) l Ended → ⊥) → Says a b l (capacity (view t)) x Pending
    says_pending row still = (no_settled_row (view t) l (held h).lists (fit_of t) x (held h).apart row, still)

    pub said_without : RowGraded (view t) x None → (said : Answer G) → LeftOver t said → Says a b l (capacity (view t)) x said
    said_without row (Graded g) none = absurd none
    said_without row Nothing ended = says_nothing row (ended a b l h)
    said_without row Pending still = says_pending row (still a b l h)

-- one may ask for what fits the sizes of the run that is begun, and for nothing else
module _ {G : Type 0} (s : Table G) (x : Statement) {n : Sizes} (run : (is_begun s.phase ≡ true) × (n ≡ sizes_of s.phase)) where
  pub askable : Fits n x → Askable s x
  askable fits = record { begun = run.0; fits = subst (λ (m : Sizes). Fits m x) run.1 fits }

  pub unfit_refused : (Fits n x → ⊥) → AskRefused s x DoesNotFit
  unfit_refused unfit = misfit run.0 (λ f. unfit (subst (λ (m : Sizes). Fits m x) (sym run.1) f))
