-- What the past of a list of calls tells of the reasoner.
use Rattle.std.proofs.Common.{◌≡◌, ℕ, ◌+◌, ◌<◌, ◌≤◌, false, List, [], ◌++◌, length, Ok, Err, Result, sym, refl, ap, ◌∙◌, subst, append-nil, arith, length-append}
use borrow.Author.Tests.{both_ways}
use Rattle.standpoint.specs.declared.refusal.Refusal.{Refusal}
use Rattle.standpoint.specs.declared.sizes.Sizes.{Sizes}
use Rattle.standpoint.specs.declared.statement.Statement.{Statement}
use Rattle.standpoint.specs.declared.step.Step.{Step}
use Rattle.standpoint.specs.Algebra.{Algebra}
use Rattle.standpoint.specs.Derivations.{Base}
use Rattle.runs.specs.declared.Stand.{Stand}
use Rattle.runs.specs.declared.Stand.TheVariants.{Full}
use Rattle.runs.specs.Runs as runs
use Rattle.saturation.specs.declared.table.Table.{Table}
use Rattle.saturation.specs.Phases.{is_begun, is_sealed}
use Rattle.saturation.specs.Tables.{State, view}
use Rattle.saturation.specs.Memory.{KeepsSettled}
use Rattle.saturation.specs.Saturation.{Holds, HoldsFull}
use Rattle.reasoner.specs.declared.asking.Answer.{Answer}
use Rattle.reasoner.specs.Models.{based, running, stopped, accepting, StandsFor, Holding, taking, going, standing}
use Rattle.reasoner.specs.Calls.{Unchanged, Begun, Adds, SettledSo, SettlesOn}
use Rattle.reasoner.proofs.Holding.{holding_after}
use Rattle.replay.specs.declared.call.Call.{Call}
use Rattle.replay.specs.declared.call.Call.TheVariants.{Begin, Add, Settle, Ask, Explain}
use Rattle.replay.specs.declared.call.Done.TheVariants.{Began, Added, Settled, Said, Explained}
use Rattle.replay.specs.Pasts.{Outcome, Past, after}
use Rattle.replay.specs.Performing.{as_outcome, Performs}
use Rattle.reasoner.proofs.Leaving.{unchanged_keeps, add_keeps, settle_keeps}

-- nothing was begun yet, or the reasoner holds a run over what the past accepted
pub data Tied {G : Type 0} (a : Algebra G) (p : Past G) (t : Table G) : Type 0 where
  not_yet : p.begins ≡ 0 → p.settled ≡ 0 → is_begun t.phase ≡ false → Tied a p t
  begun : (l : runs.Settled G) → 0 < p.begins → Holding a p.base t l → length l ≡ p.settled → Tied a p t

abbrev pub settled_in : {G : Type 0} {a : Algebra G} {p : Past G} {t : Table G} → Tied a p t → runs.Settled G
settled_in (not_yet none unsettled asleep) = []
settled_in (begun l some holding count) = l

-- what is settled is kept until the next begin
pub record GoesOn {G : Type 0} (a : Algebra G) {p : Past G} {s : Table G} (old : Tied a p s) (q : Past G) (t : Table G) : Type 0 where
  pub tied : Tied a q t
  pub begins : p.begins ≤ q.begins
  pub keeps : q.begins ≡ p.begins → KeepsSettled (view s) (view t)

module _ {G : Type 0} (a : Algebra G) where
  unchanged_holding : {b : Base G} {s t : Table G} {l : runs.Settled G} → Unchanged s t → Holding a b s l → Holding a b t l
  unchanged_holding {b} {s} {t} same (taking (is, range, h)) = taking (same.1 ∙ is, range, subst (λ (z : State G). Holds a b [] z) (sym same.0) h)
  unchanged_holding {b} {s} {t} {l} same (going (is, range, h)) = going (same.1 ∙ is, range, subst (λ (z : State G). Holds a b l z) (sym same.0) h)
  unchanged_holding {b} {s} {t} {l} same (standing (is, range, h)) = standing (same.1 ∙ is, range, subst (λ (z : State G). HoldsFull a b l z) (sym same.0) h)

  -- a call that changes nothing
  still : {p : Past G} {s t : Table G} (old : Tied a p s) → Unchanged s t → GoesOn a old p t
  still {s = s} {t} (not_yet none unsettled asleep) same = record {
    tied = not_yet none unsettled (ap is_begun same.1 ∙ asleep);
    begins = omega arith;
    keeps = λ e. unchanged_keeps s t same;
  }
  still {s = s} {t} (begun l some holding count) same = record {
    tied = begun l some (unchanged_holding same holding) count;
    begins = omega arith;
    keeps = λ e. unchanged_keeps s t same;
  }

  begin_on : {p : Past G} {s t : Table G} (old : Tied a p s) (n : Sizes) (r : Result (Unit {0}) Refusal) → Begun a n s t r → GoesOn a old (after p (Begin n) (as_outcome (λ _. Began) r)) t
  begin_on old n (Ok _) made = record {
    tied = begun [] (omega arith) (taking made.2) refl;
    begins = omega arith;
    keeps = λ e. absurd (omega arith);
  }
  begin_on old n (Err e) made = still old made.0

  -- only a base that takes statements accepts one more
  accepted_on : {b : Base G} {s t : Table G} {l : runs.Settled G} (x : Statement) (g : G) → is_sealed s.phase ≡ false →
      ((c : Base G) → StandsFor a (based c) s → StandsFor a (based (accepting c x g)) t) → Holding a b s l → Holding a (accepting b x g) t l
  accepted_on {b} x g free more (taking h) = taking (more b h)
  accepted_on x g free more (going h) = absurd (both_ways _ free (ap is_sealed h.0))
  accepted_on x g free more (standing h) = absurd (both_ways _ free (ap is_sealed h.0))

  add_on : {p : Past G} {s t : Table G} (old : Tied a p s) (x : Statement) (g : G) (r : Result (Unit {0}) Refusal) → Adds a x g s t r → GoesOn a old (after p (Add x g) (as_outcome (λ _. Added) r)) t
  add_on (not_yet none unsettled asleep) x g (Ok _) made = absurd (both_ways _ asleep (ap is_begun made.0.1))
  add_on {s = s} {t} (begun l some holding count) x g (Ok r) made = record {
    tied = begun l some (accepted_on x g (ap is_sealed made.0.1) made.1 holding) count;
    begins = omega arith;
    keeps = λ e. add_keeps s t a x g (Ok r) made;
  }
  add_on old x g (Err e) made = still old made.0

  -- more is settled behind what was
  settled_more : {b : Base G} {s t : Table G} {l : runs.Settled G} (n count : ℕ) (stand : Stand) →
      ((c : Base G) → StandsFor a (based c) s → SettlesOn a n c [] s t count stand) →
      ((c : Base G) (m : runs.Settled G) → StandsFor a (running c m) s → SettlesOn a n c m s t count stand) →
      ((c : Base G) (m : runs.Settled G) → StandsFor a (stopped c m) s → (count ≡ 0) × (stand ≡ Full) × StandsFor a (stopped c m) t) →
      Holding a b s l → (later : runs.Settled G) × (length later ≡ count) × Holding a b t (l ++ later)
  settled_more {b} {t = t} n count stand first more full (taking h) = let w = first b h in (w.0, w.1.0, holding_after a b t w.0 stand w.1.1.1.1)
  settled_more {b} {t = t} {l = l} n count stand first more full (going h) = let w = more b l h in (w.0, w.1.0, holding_after a b t (l ++ w.0) stand w.1.1.1.1)
  settled_more {b} {t = t} {l = l} n count stand first more full (standing h) =
      let w = full b l h in
      ([], sym w.0, subst (λ (z : runs.Settled G). Holding a b t z) (sym (append-nil l)) (standing w.2))

  settle_on : {p : Past G} {s t : Table G} (old : Tied a p s) (n : ℕ) (r : Result (ℕ × Stand) Refusal) → SettledSo a n s t r →
      GoesOn a old (after p (Settle n) (as_outcome (λ (q : ℕ × Stand). Settled q.0 q.1) r)) t
  settle_on (not_yet none unsettled asleep) n (Ok r) made = absurd (both_ways _ asleep made.0)
  settle_on {p} {s} {t} (begun l some holding count) n (Ok r) made =
      let on = settled_more n r.0 r.1 made.1 made.2 made.3 holding in
      record {
        tied = begun (l ++ on.0) some on.2 (length-append l on.0 ∙ (let e = on.1 in let f : length l + length on.0 ≡ p.settled + r.0 = omega arith in f));
        begins = omega arith;
        keeps = λ e. settle_keeps s t a n (Ok r) made;
      }
  settle_on old n (Err e) made = still old made.0

  ask_on : {p : Past G} {s t : Table G} (old : Tied a p s) (x : Statement) (r : Result (Answer G) Refusal) → Unchanged s t → GoesOn a old (after p (Ask x) (as_outcome Said r)) t
  ask_on old x (Ok said) same = still old same
  ask_on old x (Err e) same = still old same

  explain_on : {p : Past G} {s t : Table G} (old : Tied a p s) (x : Statement) (most : ℕ) (r : Result ℕ Refusal) → Unchanged s t → GoesOn a old (after p (Explain x most) (as_outcome Explained r)) t
  explain_on old x most (Ok count) same = still old same
  explain_on old x most (Err e) same = still old same

  -- one call on
  pub goes_on : {p : Past G} {s t : Table G} (old : Tied a p s) (call : Call G) (o : Outcome G) (room left : List (Step G)) → Performs a call o s t room left → GoesOn a old (after p call o) t
  goes_on {p} {s} {t} old (Begin n) o room left (same, (r, is, made)) = subst (λ (z : Outcome G). GoesOn a old (after p (Begin n) z) t) (sym is) (begin_on old n r made)
  goes_on {p} {s} {t} old (Add x g) o room left (same, (r, is, made)) = subst (λ (z : Outcome G). GoesOn a old (after p (Add x g) z) t) (sym is) (add_on old x g r made)
  goes_on {p} {s} {t} old (Settle n) o room left (same, (r, is, made)) = subst (λ (z : Outcome G). GoesOn a old (after p (Settle n) z) t) (sym is) (settle_on old n r made)
  goes_on {p} {s} {t} old (Ask x) o room left (same, unchanged, (r, is, made)) = subst (λ (z : Outcome G). GoesOn a old (after p (Ask x) z) t) (sym is) (ask_on old x r unchanged)
  goes_on {p} {s} {t} old (Explain x most) o room left (unchanged, (r, is, made)) = subst (λ (z : Outcome G). GoesOn a old (after p (Explain x most) z) t) (sym is) (explain_on old x most r unchanged)
