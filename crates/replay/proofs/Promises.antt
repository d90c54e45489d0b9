-- What is promised at every place of a list of calls where it is asked.
use Rattle.std.proofs.Common.{◌≡◌, ℕ, ◌<◌, false, ◌↔◌, List, length, Ok, Err, Result, sym, refl, ap, ◌∙◌, subst, arith}
use borrow.Author.Tests.{both_ways}
use Rattle.standpoint.specs.declared.refusal.Refusal.{Refusal}
use Rattle.standpoint.specs.declared.statement.Statement.{Statement}
use Rattle.standpoint.specs.declared.step.Step.{Step}
use Rattle.standpoint.specs.Algebra.{Algebra, Laws}
use Rattle.standpoint.specs.Statements.{contradiction}
use Rattle.standpoint.specs.Derivations.{Base}
use Rattle.runs.specs.declared.Stand.TheVariants.{Ended}
use Rattle.runs.specs.Runs as runs
use Rattle.runs.specs.Runs.{Run, fresh, Stands}
use Rattle.runs.proofs.OneRun.{one_run}
use Rattle.saturation.specs.declared.table.Table.{Table}
use Rattle.saturation.specs.Phases.{is_begun}
use Rattle.saturation.specs.Tables.{view, capacity}
use Rattle.reasoner.specs.declared.asking.Answer.{Answer}
use Rattle.reasoner.specs.declared.asking.Answer.TheVariants.{Graded, Nothing, Pending}
use Rattle.reasoner.specs.Asking.{Asked, Says, Underivable}
use Rattle.reasoner.proofs.Holding.{held}
use Rattle.replay.specs.declared.call.Call.{Call}
use Rattle.replay.specs.declared.call.Call.TheVariants.{Ask}
use Rattle.replay.specs.declared.call.Done.{Done}
use Rattle.replay.specs.declared.call.Done.TheVariants.{Said}
use Rattle.replay.specs.Pasts.{Outcome, Past, call_at, outcome_at, before}
use Rattle.replay.specs.Performing.{as_outcome, Performs, Performed}
use Rattle.replay.specs.Replays.{base_at, GradesAreBest, GradedContradictionExcludes, RunAt, NothingIsExact}
use Rattle.replay.proofs.Histories.{Tied, not_yet, begun, settled_in}
use Rattle.replay.proofs.Places.{Place, place, rows_kept, tied_at}

-- a performed call has an answer
answered : {G R : Type 0} (done : R → Done G) (r : Result R Refusal) (d : Done G) → ◌≡◌ {A = Outcome G} (Ok d) (as_outcome done r) → (x : R) × (r ≡ Ok x) × (d ≡ done x)
answered done (Ok x) d is = (x, refl, cc)
answered done (Err e) d is = absurd (grind arith)

-- nothing is said exactly when the run stands ended and there is no derivation
exactly : {G : Type 0} {a : Algebra G} (b : Base G) (l : runs.Settled G) (rows : ℕ) (x : Statement) (said : Answer G) → Says a b l rows x said →
    (said ≡ Nothing) ↔ (Stands a b rows l Ended × Underivable a b x)
exactly b l rows x (Graded g) says = (λ e. absurd (grind arith), λ r. absurd (r.1 g says.1.0))
exactly b l rows x Nothing says = (λ e. (says.1, says.2), λ r. refl)
exactly b l rows x Pending says = (λ e. absurd (grind arith), λ r. absurd (says.1 r.0))

module _ {G : Type 0} (a : Algebra G) where
  pub run_of : {p : Past G} {s : Table G} (tied : Tied a p s) → Run a p.base (settled_in tied)
  run_of (not_yet nothing unsettled asleep) = fresh
  run_of (begun l some holding number) = (held holding).run

  pub count_of : {p : Past G} {s : Table G} (tied : Tied a p s) → length (settled_in tied) ≡ p.settled
  count_of (not_yet nothing unsettled asleep) = sym unsettled
  count_of (begun l some holding number) = number

  -- the rows of a begun reasoner count what is settled
  pub rows_of : {p : Past G} {s : Table G} → Tied a p s → 0 < p.begins → s.settled ≡ p.settled
  rows_of (not_yet nothing unsettled asleep) some = absurd (omega arith)
  rows_of (begun l some holding number) _ = sym (held holding).lists.long ∙ number

module _ {G : Type 0} (a : Algebra G) (laws : Laws a) where
  -- what was said at a place where it was asked for x
  told : {p : Past G} {s : Table G} (t : Table G) (tied : Tied a p s) (x : Statement) (said : Answer G) (call : Call G) (o : Outcome G) (room left : List (Step G)) →
      call ≡ Ask x → o ≡ Ok (Said said) → Performs a call o s t room left → Says a p.base (settled_in tied) (capacity (view s)) x said
  told {p} {s} t tied x said call o room left is_call is_o here =
      let asks : Performs a (Ask x) o s t room left = subst (λ (c : Call G). Performs a c o s t room left) is_call here in
      let w = answered Said asks.2.0 (Said said) (sym is_o ∙ asks.2.1) in
      let same : said ≡ w.0 = cc in
      spoke tied (subst (λ (r : Result (Answer G) Refusal). Asked s x r) (w.1 ∙ ap Ok (sym same)) asks.2.2)
    where
      spoke : (tied : Tied a p s) → Asked s x (Ok said) → Says a p.base (settled_in tied) (capacity (view s)) x said
      spoke (not_yet nothing unsettled asleep) asked = absurd (both_ways _ asleep asked.0.begun)
      spoke (begun l some holding number) asked = asked.1 a laws p.base l holding

  module _ (calls : List (Call G)) (os : List (Outcome G)) (first : Table G) (steps : List (Step G)) (asleep : is_begun first.phase ≡ false) {n : ℕ} {t : Table G} {end : List (Step G)}
      (all : Performed a calls os first steps n t end) where
    -- place i, with what the calls before it tell of the reasoner
    module _ (i : ℕ) (below : i < n) where
      abbrev at : Place a calls os first steps all i
      at = place a calls os first steps all i below

      abbrev tied : Tied a (before calls os i) at.from
      tied = tied_at a calls os first steps asleep at.so_far

      pub run_at : RunAt a calls os n i (settled_in tied)
      run_at =
          let run = run_of a tied in
          let count = count_of a tied in
          record { run = run; count = count; only = λ other r e. one_run a laws (before calls os i).base other (settled_in tied) r run (e ∙ sym count) }

      pub said_at : (x : Statement) (said : Answer G) → call_at calls i ≡ Ask x → outcome_at os i ≡ Ok (Said said) → Says a (before calls os i).base (settled_in tied) (capacity (view first)) x said
      said_at x said is_call is_o =
          subst (λ (rows : ℕ). Says a (before calls os i).base (settled_in tied) rows x said) (rows_kept a calls os first steps at.so_far)
          (told at.to tied x said (call_at calls i) (outcome_at os i) _ _ is_call is_o at.here)

    pub grades_are_best : GradesAreBest a calls os n
    grades_are_best i x g (below, is_call, is_o) = (said_at i below x (Graded g) is_call is_o).1

    pub graded_contradiction_excludes : GradedContradictionExcludes a calls os n
    graded_contradiction_excludes i g (below, is_call, is_o) = (said_at i below contradiction (Graded g) is_call is_o).2 refl

    pub nothing_is_exact : NothingIsExact a calls os n (capacity (view first))
    nothing_is_exact i x said (below, is_call, is_o) =
        let l = settled_in (tied i below) in
        (l, run_at i below, exactly (base_at a calls os n i) l (capacity (view first)) x said (said_at i below x said is_call is_o))
