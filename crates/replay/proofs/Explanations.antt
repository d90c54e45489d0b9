-- What is promised of the explanations in a list of calls.
use Rattle.std.proofs.Common.{◌≡◌, ℕ, ◌+◌, ◌-◌, ◌<◌, ◌≤◌, min, false, ◌⊎◌, List, [], length, take, drop, Ok, Err, Result, sym, refl, ap, ◌∙◌, subst, inl, inr, ⊎_elim, arith, length-drop, length-take, take-take, take_at}
use borrow.Author.Tests.{both_ways}
use Rattle.std.proofs.lemmas.List.{drop-take}
use Rattle.standpoint.specs.declared.refusal.Refusal.{Refusal}
use Rattle.standpoint.specs.declared.refusal.Refusal.TheVariants.{BufferTooShort}
use Rattle.standpoint.specs.declared.statement.Statement.{Statement}
use Rattle.standpoint.specs.declared.step.Step.{Step}
use Rattle.standpoint.specs.Lists.{In}
use Rattle.standpoint.specs.Algebra.{Algebra, Laws}
use Rattle.runs.specs.Runs as runs
use Rattle.saturation.specs.declared.table.Table.{Table}
use Rattle.saturation.specs.Phases.{is_begun}
use Rattle.saturation.specs.Tables.{view}
use Rattle.saturation.specs.Memory.{KeepsSettled}
use Rattle.saturation.proofs.Offers.{below_or}
use Rattle.reasoner.specs.declared.asking.Answer.TheVariants.{Graded}
use Rattle.reasoner.specs.Asking.{AskRefused}
use Rattle.reasoner.proofs.Holding.{held}
use Rattle.explanation.specs.Needed.{ListOf}
use Rattle.explanation.specs.Explaining.{FirstSettled, not_askable, not_settled, Gives, Explains, not_found, found, Explanation, ExplainsAs}
use Rattle.explanation.proofs.Keeping.{list_kept, first_kept}
use Rattle.explanation.proofs.Meaning.{listed_so, gives_list}
use Rattle.replay.specs.declared.call.Call.{Call}
use Rattle.replay.specs.declared.call.Call.TheVariants.{Explain}
use Rattle.replay.specs.declared.call.Done.TheVariants.{Explained}
use Rattle.replay.specs.Pasts.{Outcome, Past, steps_of, call_at, outcome_at, before, written}
use Rattle.replay.specs.Performing.{as_outcome, ExplainsWithin, Performs, Performed}
use Rattle.replay.specs.Replays.{Explainable, IsGiven, ExplanationsAreOne}
use Rattle.replay.proofs.Kept.{keeps_back}
use Rattle.replay.proofs.Histories.{Tied, not_yet, begun, settled_in}
use Rattle.replay.proofs.Places.{Place, place, tied_at, kept_between}
use Rattle.replay.proofs.Promises.{rows_of, run_at, said_at}

-- so many steps of the room, taken whether through its first places or not, are those that stand at the end
module _ {X : Type 0} (w count places : ℕ) (end left : List X) where
  window : count ≤ places → take (w + count) end ≡ take (w + count) left → take count (take places (drop w left)) ≡ take count (drop w end)
  window few same =
      take-take count places (drop w left) few ∙ sym (drop-take w count left) ∙ sym (ap (λ (z : List X). drop w z) same) ∙ drop-take w count end

-- what an explanation gave in its part of the room, as it stands at the end
module _ {G : Type 0} (x : Statement) (most w : ℕ) (s : Table G) (room left end list : List (Step G)) (o : Outcome G) (long : length room ≡ length end) (stays : take (w + steps_of o) end ≡ take (w + steps_of o) left) where
  given_at_end : (r : Result ℕ Refusal) → o ≡ as_outcome Explained r → (within : ExplainsWithin x most s (drop w room) (drop w left) r) →
      Gives list (take within.places (drop w room)) (take within.places (drop w left)) r →
      ((length list ≤ min most (length end - w)) × (o ≡ Ok (Explained (length list))) × (take (length list) (drop w end) ≡ list))
      ⊎ ((min most (length end - w) < length list) × (o ≡ Err BufferTooShort))
  given_at_end (Ok count) is within gives =
      let cut = length-take within.places (drop w room) in
      let part = length-drop w room in
      let most_is = within.at_most in
      let fits = gives.1 in
      let told : o ≡ Ok (Explained (length list)) = is ∙ ap (λ (c : ℕ). Ok (Explained c)) gives.0 in
      let same : take (w + length list) end ≡ take (w + length list) left = subst (λ (z : Outcome G). take (w + steps_of z) end ≡ take (w + steps_of z) left) told stays in
      inl (omega arith, told, sym (window w (length list) within.places end left (omega arith) same) ∙ ap (take (length list)) gives.2 ∙ take_at list _ (length list) refl)
  given_at_end (Err e) is within gives =
      let cut = length-take within.places (drop w room) in
      let part = length-drop w room in
      let most_is = within.at_most in
      let short = gives.1 in
      inr (omega arith, is ∙ ap Err gives.0)

module _ {G : Type 0} (a : Algebra G) (laws : Laws a) where
  -- a settled statement, the list that it rests on, and what that explains
  record Known {p : Past G} {s : Table G} (tied : Tied a p s) (x : Statement) (g : G) : Type 0 where
    some : 0 < p.begins
    place : ℕ
    first : FirstSettled (view s) x place
    list : List (Step G)
    is : ListOf (view s) place list
    explanation : Explanation a p.base (settled_in tied) x g list

  known : {p : Past G} {s : Table G} (tied : Tied a p s) (x : Statement) (g : G) → In (settled_in tied) (x, g) → Known tied x g
  known (not_yet nothing unsettled asleep) x g m = absurd m
  known {p} {s} (begun l some holding number) x g m =
      let w = listed_so a laws p.base l s (held holding) x g m in
      record { some = some; place = w.place; first = w.first; list = w.list; is = w.is; explanation = w.explanation }

  -- what an explanation answers
  module _ {p : Past G} {s : Table G} (x : Statement) (most : ℕ) (room left : List (Step G)) {r : Result ℕ Refusal} (within : ExplainsWithin x most s room left r) where
    given_so : Tied a p s → 0 < p.begins → (t : ℕ) → FirstSettled (view s) x t → (list : List (Step G)) → ListOf (view s) t list → Gives list (take within.places room) (take within.places left) r
    given_so (not_yet nothing unsettled asleep) some t first list is = absurd (omega arith)
    given_so (begun l some holding number) _ t first list is =
        gives_list a laws p.base l s (held holding) x t first list is (take within.places room) (take within.places left) r within.explains

  module _ (calls : List (Call G)) (os : List (Outcome G)) (first : Table G) (steps : List (Step G)) (asleep : is_begun first.phase ≡ false) {n : ℕ} {t : Table G} {end : List (Step G)}
      (all : Performed a calls os first steps n t end) where
    abbrev place_of : (i : ℕ) → i < n → Place a calls os first steps all i
    place_of i below = place a calls os first steps all i below

    abbrev tied_of : (i : ℕ) (below : i < n) → Tied a (before calls os i) (place_of i below).from
    tied_of i below = tied_at a calls os first steps asleep (place_of i below).so_far

    -- the explanation that is called for at a place
    performs_at : {i : ℕ} (at : Place a calls os first steps all i) (x : Statement) (most : ℕ) → call_at calls i ≡ Explain x most →
        Performs a (Explain x most) (outcome_at os i) at.from at.to (drop (written os i) at.room) (drop (written os i) at.left)
    performs_at {i} at x most is_call = subst (λ (c : Call G). Performs a c (outcome_at os i) at.from at.to (drop (written os i) at.room) (drop (written os i) at.left)) is_call at.here

    -- an explanation before a begin is refused for that
    before_begin : (i : ℕ) (s : Table G) (x : Statement) → (before calls os i).begins ≡ 0 → is_begun s.phase ≡ false → {old new : List (Step G)} {r : Result ℕ Refusal} → Explains s x old new r →
        Explainable a calls os n i [] x (as_outcome Explained r)
    before_begin i s x nothing off (not_found (not_askable (AskRefused.before_begin _)) same) = Explainable.not_begun nothing
    before_begin i s x nothing off (not_found (not_askable (AskRefused.misfit on unfit)) same) = absurd (both_ways _ off on)
    before_begin i s x nothing off (not_found (not_settled asked none) same) = absurd (both_ways _ off asked.begun)
    before_begin i s x nothing off (found asked v settled answer) = absurd (both_ways _ off asked.begun)

    -- what an explanation comes to over a run
    over_run : (i : ℕ) (l : runs.Settled G) (x : Statement) {old new : List (Step G)} {r : Result ℕ Refusal} → ExplainsAs a (before calls os i).base l x old new r →
        Explainable a calls os n i l x (as_outcome Explained r)
    over_run i l x (ExplainsAs.does_not_fit unfit same) = Explainable.does_not_fit unfit
    over_run i l x (ExplainsAs.unsettled un same) = Explainable.unsettled un
    over_run i l x (ExplainsAs.explained g list e gives) = Explainable.explainable g e.settled

    -- and so at every place
    told_so : (i : ℕ) (s : Table G) (x : Statement) (most : ℕ) (tied : Tied a (before calls os i) s) {room left : List (Step G)} {r : Result ℕ Refusal} → ExplainsWithin x most s room left r →
        Explainable a calls os n i (settled_in tied) x (as_outcome Explained r)
    told_so i s x most (not_yet nothing none off) within = before_begin i s x nothing off within.explains
    told_so i s x most (begun l some holding number) within = over_run i l x (within.meaning a laws (before calls os i).base l holding)

    module _ (i : ℕ) (below : i < n) (x : Statement) (g : G) (k : Known (tied_of i below) x g) where
      -- what was settled before place i is kept at a place with as many settled, till the next begin, and before it
      kept_at_both : (j : ℕ) (within : j < n) → (before calls os j).begins ≡ (before calls os i).begins → (before calls os i).settled ≤ (before calls os j).settled →
          KeepsSettled (view (place_of i below).from) (view (place_of j within).from)
      kept_at_both j within same many =
          let one = place_of i below in
          let other = place_of j within in
          let some = k.some in
          let count = rows_of a (tied_of i below) some in
          let more = rows_of a (tied_of j within) (omega arith) in
          ⊎_elim
          (λ lt. keeps_back (view other.from) (view one.from) (kept_between a calls os first steps asleep all other one (omega arith) (sym same)) (omega arith))
          (λ ge. kept_between a calls os first steps asleep all one other ge same)
          (below_or j i)

      given_there : (j most : ℕ) → j < n → (before calls os j).begins ≡ (before calls os i).begins → (before calls os i).settled ≤ (before calls os j).settled →
          call_at calls j ≡ Explain x most → IsGiven a calls os n end j most k.list
      given_there j most within same many is_call =
          let at = place_of j within in
          let keep = kept_at_both j within same many in
          let here = performs_at at x most is_call in
          let some = k.some in
          let gives = given_so x most _ _ here.1.2 (tied_of j within) (omega arith) k.place (first_kept _ _ keep x k.place k.first) k.list (list_kept _ _ keep k.place k.first.within k.list k.is) in
          given_at_end x most (written os j) at.from at.room at.left end k.list (outcome_at os j) at.long at.stays here.1.0 here.1.1 here.1.2 gives

    pub explanations_are_one : ExplanationsAreOne a calls os n end
    explanations_are_one i below = record {
      settled = settled_in (tied_of i below);
      run = run_at a laws calls os first steps asleep all i below;
      graded = λ x g at. (said_at a laws calls os first steps asleep all i below x (Graded g) at.1 at.2).0;
      explains = λ x most is_call.
          let here = performs_at (place_of i below) x most is_call in
          subst (Explainable a calls os n i (settled_in (tied_of i below)) x) (sym here.1.1) (told_so i (place_of i below).from x most (tied_of i below) here.1.2);
      one = λ x g m. let k = known (tied_of i below) x g m in record { list = k.list; explanation = k.explanation; every = given_there i below x g k };
    }
