-- The places of a list of calls.
use Rattle.std.proofs.Common.{◌≡◌, ℕ, zero, suc, ◌<◌, ◌≤◌, Bool, true, false, cond, leb, List, length, take, drop, sym, refl, ap, ◌∙◌, subst, ⊎_elim, arith, take-take, leb-false, leb-true}
use Rattle.standpoint.specs.declared.step.Step.{Step}
use Rattle.standpoint.specs.Algebra.{Algebra}
use Rattle.saturation.specs.declared.table.Table.{Table}
use Rattle.saturation.specs.Phases.{is_begun}
use Rattle.saturation.specs.Tables.{view, capacity}
use Rattle.saturation.specs.Memory.{KeepsSettled}
use Rattle.saturation.proofs.Offers.{last_or}
use Rattle.replay.specs.declared.call.Call.{Call}
use Rattle.replay.specs.Pasts.{Outcome, call_at, outcome_at, before, written}
use Rattle.replay.specs.Performing.{Performs, Performed, none, one_more}
use Rattle.saturation.proofs.Leaving.{keeps_refl, keeps_trans}
use Rattle.replay.proofs.Histories.{Tied, not_yet, goes_on}

take_fewer : {X : Type 0} (m n : ℕ) (xs ys : List X) → m ≤ n → take n xs ≡ take n ys → take m xs ≡ take m ys
take_fewer {X} m n xs ys h same = sym (take-take m n xs h) ∙ ap (λ (z : List X). take m z) same ∙ take-take m n ys h

written_up : {G : Type 0} (os : List (Outcome G)) (i n : ℕ) → i ≤ n → written os i ≤ written os n
written_up os i zero h = let e : i ≡ 0 = omega arith in subst (λ (k : ℕ). written os k ≤ 0) (sym e) (omega arith)
written_up os i (suc n) h =
    ⊎_elim
    (λ lt. let rest = written_up os i n (omega arith) in omega arith)
    (λ e. subst (λ (k : ℕ). written os k ≤ written os (suc n)) (sym e) (omega arith))
    (last_or i (suc n) (omega arith))

module _ {X : Type 0} (k n : ℕ) (old new : X) where
  pick_old : k ≤ n → cond (leb k n) old new ≡ old
  pick_old h = go (leb k n) refl
    where
      go : (b : Bool) → leb k n ≡ b → cond b old new ≡ old
      go true e = refl
      go false e = let over = leb-false k n e in absurd (omega arith)

  pick_new : n < k → cond (leb k n) old new ≡ new
  pick_new h = go (leb k n) refl
    where
      go : (b : Bool) → leb k n ≡ b → cond b old new ≡ new
      go true e = let low = leb-true k n e in absurd (omega arith)
      go false e = refl

module _ {G : Type 0} (a : Algebra G) (calls : List (Call G)) (os : List (Outcome G)) (first : Table G) (steps : List (Step G)) where
  -- the reasoner before place k
  abbrev pub state_at : {n : ℕ} {t : Table G} {q : List (Step G)} → Performed a calls os first steps n t q → ℕ → Table G
  state_at none k = first
  state_at (one_more {i = n} {u = u} so_far rows long kept here) k = cond (leb k n) (state_at so_far k) u

  state_end : {n : ℕ} {t : Table G} {q : List (Step G)} (all : Performed a calls os first steps n t q) → state_at all n ≡ t
  state_end none = refl
  state_end (one_more {i = n} {u = u} so_far rows long kept here) = pick_new (suc n) n (state_at so_far (suc n)) u (omega arith)

  -- the call at place i, and that what it wrote is still there at the end
  pub record Place {n : ℕ} {t : Table G} {end : List (Step G)} (all : Performed a calls os first steps n t end) (i : ℕ) : Type 0 where
    pub from : Table G
    pub to : Table G
    pub room : List (Step G)
    pub left : List (Step G)
    pub so_far : Performed a calls os first steps i from room
    pub states : (k : ℕ) → k ≤ i → state_at so_far k ≡ state_at all k
    pub here : Performs a (call_at calls i) (outcome_at os i) from to (drop (written os i) room) (drop (written os i) left)
    pub stays : take (written os (suc i)) end ≡ take (written os (suc i)) left
    pub long : length room ≡ length end

  pub place : {n : ℕ} {t : Table G} {q : List (Step G)} (all : Performed a calls os first steps n t q) (i : ℕ) → i < n → Place all i
  place none i h = absurd (omega arith)
  place (one_more {i = n} {t} {u} {p} {q} so_far rows long kept here) i h =
      ⊎_elim
      (λ lt.
      let old = place so_far i lt in
      let up = written_up os (suc i) n (omega arith) in
      record {
        from = old.from;
        to = old.to;
        room = old.room;
        left = old.left;
        so_far = old.so_far;
        states = λ k low. old.states k low ∙ sym (pick_old k n (state_at so_far k) u (omega arith));
        here = old.here;
        stays = take_fewer (written os (suc i)) (written os n) q p up kept ∙ old.stays;
        long = old.long ∙ sym long;
      })
      (λ e. subst (Place (one_more so_far rows long kept here)) (sym e) (record {
        from = t;
        to = u;
        room = p;
        left = q;
        so_far = so_far;
        states = λ k low. sym (pick_old k n (state_at so_far k) u low);
        here = here;
        stays = refl;
        long = sym long;
      }))
      (last_or i n (omega arith))

  pub rows_kept : {n : ℕ} {t : Table G} {q : List (Step G)} → Performed a calls os first steps n t q → capacity (view t) ≡ capacity (view first)
  rows_kept none = refl
  rows_kept (one_more so_far rows long kept here) = rows ∙ rows_kept so_far

  module _ (asleep : is_begun first.phase ≡ false) where
    -- what the calls so far tell of the reasoner
    abbrev pub tied_at : {n : ℕ} {t : Table G} {q : List (Step G)} → Performed a calls os first steps n t q → Tied a (before calls os n) t
    tied_at none = not_yet refl refl asleep
    tied_at (one_more {i = n} {t} {u} {p} {q} so_far rows long kept here) = (goes_on a (tied_at so_far) (call_at calls n) (outcome_at os n) (drop (written os n) p) (drop (written os n) q) here).tied

    pub begins_up : {n : ℕ} {t : Table G} {q : List (Step G)} → Performed a calls os first steps n t q → (i : ℕ) → i ≤ n → (before calls os i).begins ≤ (before calls os n).begins
    begins_up none i h = let e : i ≡ 0 = omega arith in subst (λ (k : ℕ). (before calls os k).begins ≤ 0) (sym e) (omega arith)
    begins_up (one_more {i = n} {t} {u} {p} {q} so_far rows long kept here) i h =
        ⊎_elim
        (λ lt.
        let rest = begins_up so_far i (omega arith) in
        let up = (goes_on a (tied_at so_far) (call_at calls n) (outcome_at os n) (drop (written os n) p) (drop (written os n) q) here).begins in
        omega arith)
        (λ e. subst (λ (k : ℕ). (before calls os k).begins ≤ (before calls os (suc n)).begins) (sym e) (omega arith))
        (last_or i (suc n) (omega arith))

    -- what was settled before a place is kept until the next begin
    kept_since : {n : ℕ} {t : Table G} {q : List (Step G)} (all : Performed a calls os first steps n t q) (i : ℕ) → i ≤ n → (before calls os n).begins ≡ (before calls os i).begins →
        KeepsSettled (view (state_at all i)) (view t)
    kept_since none i h same = keeps_refl (view first)
    kept_since (one_more {i = n} {t} {u} {p} {q} so_far rows long kept here) i h same =
        let on = goes_on a (tied_at so_far) (call_at calls n) (outcome_at os n) (drop (written os n) p) (drop (written os n) q) here in
        let more = on.begins in
        let KeptTo : Table G → Type 0 = λ z. KeepsSettled (view z) (view u) in
        ⊎_elim
        (λ lt.
        let up = begins_up so_far i (omega arith) in
        subst KeptTo (sym (pick_old i n (state_at so_far i) u (omega arith)))
        (keeps_trans (kept_since so_far i (omega arith) (omega arith)) (on.keeps (omega arith))))
        (λ e. subst KeptTo (sym (pick_new i n (state_at so_far i) u (omega arith))) (keeps_refl (view u)))
        (last_or i (suc n) (omega arith))

    pub kept_between : {n : ℕ} {t : Table G} {end : List (Step G)} (all : Performed a calls os first steps n t end) {i j : ℕ} (one : Place all i) (other : Place all j) → i ≤ j →
        (before calls os j).begins ≡ (before calls os i).begins → KeepsSettled (view one.from) (view other.from)
    kept_between all {i} {j} one other low same =
        let there : state_at other.so_far i ≡ one.from = other.states i low ∙ sym (one.states i (omega arith)) ∙ state_end one.so_far in
        subst (λ (z : Table G). KeepsSettled (view z) (view other.from)) there (kept_since other.so_far i low same)
