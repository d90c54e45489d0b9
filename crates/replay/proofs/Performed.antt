-- Calls performed one after the other.
use Rattle.std.proofs.Common.{◌≡◌, ℕ, zero, suc, ◌+◌, ◌<◌, ◌≤◌, ◌≢◌, List, ◌++◌, length, take, drop, set, Ok, Err, Result, sym, refl, ap, ◌∙◌, subst, arith, length-drop, length-take-le, get_or-set_other, get_or-set_same, drop-drop, drop-set-lt, drop_at}
use Rattle.std.proofs.lemmas.List.{take-append-drop, drop-append-le}
use Rattle.standpoint.specs.declared.refusal.Refusal.{Refusal}
use Rattle.standpoint.specs.declared.statement.Statement.{Statement}
use Rattle.standpoint.specs.declared.step.Step.{Step}
use Rattle.standpoint.specs.Algebra.{Algebra}
use Rattle.runs.specs.declared.Stand.{Stand}
use Rattle.saturation.specs.declared.table.Table.{Table}
use Rattle.saturation.specs.Tables.{view, capacity}
use Rattle.explanation.specs.Explaining.{Gives, rests_on_later, listed, Explains, not_found, found}
use Rattle.replay.specs.declared.call.Call.{Call}
use Rattle.replay.specs.declared.call.Call.TheVariants.{Begin, Add, Settle, Ask, Explain}
use Rattle.replay.specs.declared.call.Done.{Done}
use Rattle.replay.specs.declared.call.Done.TheVariants.{Began, Added, Settled, Said, Explained}
use Rattle.replay.specs.Pasts.{Outcome, steps_of, call_at, outcome_at, written}
use Rattle.replay.specs.Performing.{as_outcome, ExplainsWithin, Performs, Performed, none, one_more}

-- a call that writes no steps
no_steps : {G R : Type 0} (done : R → Done G) → ((r : R) → steps_of {G = G} (Ok (done r)) ≡ 0) → (r : Result R Refusal) (o : Outcome G) → o ≡ as_outcome done r → steps_of o ≡ 0
no_steps {G} done zero_of (Ok r) o is = ap (λ (z : Outcome G). steps_of z) is ∙ zero_of r
no_steps {G} done zero_of (Err e) o is = ap (λ (z : Outcome G). steps_of z) is

-- so many steps are within this room, and behind them it is as it was
abbrev pub LeavesBehind : {G : Type 0} → ℕ → List (Step G) → List (Step G) → Type 0
LeavesBehind n old new = (n ≤ length old) × (drop n new ≡ drop n old)

-- how many steps an explanation wrote
abbrev written_by : Result ℕ Refusal → ℕ
written_by (Ok count) = count
written_by (Err e) = 0

-- a call leaves the room behind what it writes
module _ {G : Type 0} where
  gives_behind : (list old new : List (Step G)) (r : Result ℕ Refusal) → Gives list old new r → LeavesBehind (written_by r) old new
  gives_behind list old new (Ok count) gives =
      let is = gives.0 in
      let fits = gives.1 in
      (omega arith, ap (drop count) gives.2 ∙ drop_at list (drop (length list) old) count (sym gives.0) ∙ ap (λ (n : ℕ). drop n old) (sym gives.0))
  gives_behind list old new (Err e) gives = (omega arith, gives.2)

  explains_behind : (s : Table G) (x : Statement) (old new : List (Step G)) (r : Result ℕ Refusal) → Explains s x old new r → LeavesBehind (written_by r) old new
  explains_behind s x old new r (not_found why same) = (omega arith, same)
  explains_behind s x old new r (found asked t at (rests_on_later un same)) = (omega arith, same)
  explains_behind s x old new r (found asked t at (listed list one gives)) = gives_behind list old new r gives

  -- within the first places, and none of the others written
  module _ (n places : ℕ) (old new : List (Step G)) (few : n ≤ places) (within : places ≤ length old) (long : length new ≡ length old) where
    both_parts : (xs : List (Step G)) → length xs ≡ length old → drop n xs ≡ drop n (take places xs) ++ drop places xs
    both_parts xs same =
        let all = length-take-le places xs (omega arith) in
        ap (drop n) (sym (take-append-drop places xs)) ∙ drop-append-le n (take places xs) (drop places xs) (omega arith)

    whole_behind : drop n (take places new) ≡ drop n (take places old) → drop places new ≡ drop places old → drop n new ≡ drop n old
    whole_behind front back = both_parts new long ∙ ap (λ (z : List (Step G)). z ++ drop places new) front ∙ ap (λ (z : List (Step G)). drop n (take places old) ++ z) back ∙ sym (both_parts old refl)

  explained_behind : (x : Statement) (most : ℕ) (s : Table G) (old new : List (Step G)) (r : Result ℕ Refusal) (o : Outcome G) →
      length new ≡ length old → o ≡ as_outcome Explained r → ExplainsWithin x most s old new r → LeavesBehind (steps_of o) old new
  explained_behind x most s old new r o same is w =
      let most_is = w.at_most in
      let fits : w.places ≤ length old = omega arith in
      let long = length-take-le w.places old fits in
      let made = explains_behind s x (take w.places old) (take w.places new) r w.explains in
      let few = made.0 in
      let back = whole_behind (written_by r) w.places old new (omega arith) fits same made.1 w.beyond in
      let count : written_by r ≡ steps_of o = sym (ap (λ (z : Outcome G). steps_of z) is ∙ steps_told r) in
      subst (λ (n : ℕ). LeavesBehind n old new) count (omega arith, back)
    where
      steps_told : (r : Result ℕ Refusal) → steps_of {G = G} (as_outcome Explained r) ≡ written_by r
      steps_told (Ok count) = refl
      steps_told (Err e) = refl

  nothing_written : (o : Outcome G) (old new : List (Step G)) → steps_of o ≡ 0 → new ≡ old → LeavesBehind (steps_of o) old new
  nothing_written o old new zero_of same = (omega arith, ap (drop (steps_of o)) same)

  pub leaves_behind : (a : Algebra G) (call : Call G) (o : Outcome G) (s t : Table G) (old new : List (Step G)) → length new ≡ length old → Performs a call o s t old new → LeavesBehind (steps_of o) old new
  leaves_behind a (Begin n) o s t old new long p = nothing_written o old new (no_steps (λ _. Began) (λ _. refl) p.1.0 o p.1.1) p.0
  leaves_behind a (Add x g) o s t old new long p = nothing_written o old new (no_steps (λ _. Added) (λ _. refl) p.1.0 o p.1.1) p.0
  leaves_behind a (Settle n) o s t old new long p = nothing_written o old new (no_steps (λ (q : ℕ × Stand). Settled q.0 q.1) (λ _. refl) p.1.0 o p.1.1) p.0
  leaves_behind a (Ask x) o s t old new long p = nothing_written o old new (no_steps Said (λ _. refl) p.2.0 o p.2.1) p.0
  leaves_behind a (Explain x most) o s t old new long p = explained_behind x most s old new p.1.0 o long p.1.1 p.1.2

drops_add : {X : Type 0} (n w : ℕ) (xs : List X) → drop (w + n) xs ≡ drop n (drop w xs)
drops_add n w xs = sym (drop-drop n w xs)

module _ {G : Type 0} (a : Algebra G) (calls : List (Call G)) (s : Table G) (steps : List (Step G)) where
  -- lists of outcomes that agree before a place tell the same of the calls before it
  written_same : (os us : List (Outcome G)) (i : ℕ) → ((k : ℕ) → k < i → outcome_at os k ≡ outcome_at us k) → written os i ≡ written us i
  written_same os us zero agree = refl
  written_same os us (suc i) agree =
      let rest = written_same os us i (λ k h. agree k (omega arith)) in
      let here = ap (λ (o : Outcome G). steps_of o) (agree i (omega arith)) in
      omega arith

  performed_same : (os us : List (Outcome G)) {i : ℕ} {t : Table G} {q : List (Step G)} → ((k : ℕ) → k < i → outcome_at os k ≡ outcome_at us k) →
      Performed a calls os s steps i t q → Performed a calls us s steps i t q
  performed_same os us agree none = none
  performed_same os us agree (one_more {i} {t} {u} {p} {q} before rows long kept here) =
      let rest = written_same os us i (λ k h. agree k (omega arith)) in
      one_more (performed_same os us (λ k h. agree k (omega arith)) before) rows long
      (subst (λ (w : ℕ). take w q ≡ take w p) rest kept)
      (subst (λ (o : Outcome G). Performs a (call_at calls i) o t u (drop (written us i) p) (drop (written us i) q)) (agree i (omega arith))
      (subst (λ (w : ℕ). Performs a (call_at calls i) (outcome_at os i) t u (drop w p) (drop w q)) rest here))

  -- one more call, whose outcome is written at its place
  module _ (os : List (Outcome G)) (i : ℕ) (o : Outcome G) (within : i < length os) where
    agree_set : (k : ℕ) → k < i → outcome_at os k ≡ outcome_at (set os i o) k
    agree_set k h = let ne : k ≢ i = omega arith in sym (get_or-set_other os i k o (Ok Began) ne)

    pub written_more : (w : ℕ) → w ≡ written os i → w + steps_of o ≡ written (set os i o) (i + 1)
    written_more w is =
        let old = written_same os (set os i o) i agree_set in
        let here : outcome_at (set os i o) i ≡ o = get_or-set_same os i o (Ok Began) within in
        let steps_here = ap (λ (z : Outcome G). steps_of z) here in
        let next : i + 1 ≡ suc i = omega arith in
        let whole : written (set os i o) (i + 1) ≡ written (set os i o) (suc i) = ap (written (set os i o)) next in
        omega arith

    pub performed_more : (t u : Table G) (p q : List (Step G)) (call : Call G) → call ≡ call_at calls i → Performed a calls os s steps i t p → capacity (view u) ≡ capacity (view t) → length q ≡ length p →
        take (written os i) q ≡ take (written os i) p → Performs a call o t u (drop (written os i) p) (drop (written os i) q) →
        Performed a calls (set os i o) s steps (i + 1) u q
    performed_more t u p q call is before rows long kept here =
        let us = set os i o in
        let old = written_same os us i agree_set in
        let said : o ≡ outcome_at us i = sym (get_or-set_same os i o (Ok Began) within) in
        let next : suc i ≡ i + 1 = omega arith in
        subst (λ (n : ℕ). Performed a calls us s steps n u q) next
        (one_more (performed_same os us agree_set before) rows long
        (subst (λ (w : ℕ). take w q ≡ take w p) old kept)
        (subst (λ (z : Outcome G). Performs a (call_at calls i) z t u (drop (written us i) p) (drop (written us i) q)) said
        (subst (λ (z : Call G). Performs a z o t u (drop (written us i) p) (drop (written us i) q)) is
        (subst (λ (w : ℕ). Performs a call o t u (drop w p) (drop w q)) old here))))

    -- the outcomes from the next place on are as they were
    pub later_kept : (first : List (Outcome G)) → drop i os ≡ drop i first → drop (i + 1) (set os i o) ≡ drop (i + 1) first
    later_kept first same = drop-set-lt (i + 1) os i o (omega arith) ∙ sym (drop-drop 1 i os) ∙ ap (λ (z : List (Outcome G)). drop 1 z) same ∙ drop-drop 1 i first

    -- a turn of the loop over the calls
    pub next_performed : (first us : List (Outcome G)) (t u : Table G) (p q : List (Step G)) (call : Call G) (w n : ℕ) → us ≡ set os i o → n ≡ steps_of o → call ≡ call_at calls i →
        w ≡ written os i → w ≤ length p → length q ≡ length p → drop i os ≡ drop i first → Performed a calls os s steps i t p →
        capacity (view u) ≡ capacity (view t) → take w q ≡ take w p → Performs a call o t u (drop w p) (drop w q) →
        (w + n ≡ written us (i + 1)) × (w + n ≤ length q) × (drop (i + 1) us ≡ drop (i + 1) first) × Performed a calls us s steps (i + 1) u q
    next_performed first us t u p q call w n put count is so_far within long later before rows kept here =
        let left = length-drop w p in
        let right = length-drop w q in
        let few = (leaves_behind a call o t u (drop w p) (drop w q) (omega arith) here).0 in
        let KeptHere = subst (λ (m : ℕ). take m q ≡ take m p) so_far kept in
        let done = performed_more t u p q call is before rows long KeptHere (subst (λ (m : ℕ). Performs a call o t u (drop m p) (drop m q)) so_far here) in (
          ap (λ (m : ℕ). w + m) count ∙ written_more w so_far ∙ ap (λ (z : List (Outcome G)). written z (i + 1)) (sym put),
          omega arith,
          ap (λ (z : List (Outcome G)). drop (i + 1) z) put ∙ later_kept first later,
          subst (λ (z : List (Outcome G)). Performed a calls z s steps (i + 1) u q) (sym put) done,
        )

  -- the steps behind all that is written are as they were
  pub behind_kept : {os : List (Outcome G)} {i : ℕ} {t : Table G} {q : List (Step G)} → Performed a calls os s steps i t q → drop (written os i) q ≡ drop (written os i) steps
  behind_kept none = refl
  behind_kept {os = os} (one_more {i} {t} {u} {p} {q} before rows long kept here) =
      let w = written os i in
      let n = steps_of (outcome_at os i) in
      let left = length-drop w p in
      let right = length-drop w q in
      let back = (leaves_behind a (call_at calls i) (outcome_at os i) t u (drop w p) (drop w q) (omega arith) here).1 in
      drops_add n w q ∙ back ∙ ap (drop n) (behind_kept before) ∙ sym (drops_add n w steps)
