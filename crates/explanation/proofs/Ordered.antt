-- The list that a settled statement rests on is in settling order, and each step but the last is used.
use Rattle.std.proofs.Common.{◌≡◌, ℕ, zero, suc, ◌+◌, ◌<◌, ◌≤◌, Bool, true, false, List, [], ◌∷◌, ◌++◌, length, map, get_or, take, drop, sym, refl, ap, ◌∙◌, subst, inl, inr, arith, add-one}
use lib.Seq.{take-suc}
use Rattle.std.proofs.lemmas.List.{map-append, take-append-drop, take_all}
use Rattle.standpoint.specs.declared.statement.Statement.{Statement}
use Rattle.standpoint.specs.declared.step.Step.{Step}
use Rattle.standpoint.specs.Lists.{StandsAt}
use Rattle.standpoint.specs.Steps.{given}
use Rattle.runs.specs.Runs.{Settled}
use Rattle.saturation.specs.Tables.{State}
use Rattle.saturation.specs.Searching.{Lists}
use Rattle.saturation.proofs.Lists.{premise_at}
use Rattle.saturation.proofs.Stepping.{value_at}
use Rattle.explanation.specs.Needed.{kept_at, Names, Rests, Needed, itself, below, rank, Renumbers, ListOf}
use Rattle.explanation.specs.Explaining.{InOrder, nothing, skips, takes, Cites, EachUsed}
use Rattle.explanation.proofs.Ranks.{rank_taken, rank_left, rank_below, unrank}

module _ {X : Type 0} where
  order_skip : {xs ys : List X} → InOrder xs ys → (y : X) → InOrder xs (ys ++ y ∷ [])
  order_skip nothing y = skips y nothing
  order_skip (skips z p) y = skips z (order_skip p y)
  order_skip (takes z p) y = takes z (order_skip p y)

  order_take : {xs ys : List X} → InOrder xs ys → (y : X) → InOrder (xs ++ y ∷ []) (ys ++ y ∷ [])
  order_take nothing y = takes y nothing
  order_take (skips z p) y = skips z (order_take p y)
  order_take (takes z p) y = takes z (order_take p y)

  none_of : (ys : List X) → InOrder [] ys
  none_of [] = nothing
  none_of (y ∷ ys) = skips y (none_of ys)

  order_more : {xs ys : List X} → InOrder xs ys → (zs : List X) → InOrder xs (ys ++ zs)
  order_more nothing zs = none_of zs
  order_more (skips z p) zs = skips z (order_more p zs)
  order_more (takes z p) zs = takes z (order_more p zs)

module _ {G : Type 0} (s : State G) (t : ℕ) (within : t < s.settled) (steps : List (Step G)) (w : ListOf s t steps) where
  abbrev m : ℕ → Bool
  m = w.chosen

  -- a needed one before the last is a premise of a needed one
  needed_by : {k : ℕ} → Needed s t k → k < t → (q : ℕ) × Needed s t q × Rests s q k
  needed_by itself h = absurd (omega arith)
  needed_by (below {q} {j} n r) h = (q, n, r)

  -- a step as it is written names what it rests on
  cites_numbered : (k : ℕ) (v : Step G) (p : ℕ) → Renumbers s m k v → Names (kept_at s k) p → Cites v (rank m p)
  cites_numbered k v p r (inl e) = inl (r.first ∙ ap (rank m) e)
  cites_numbered k v p r (inr (inl e)) = inr (inl (r.second ∙ ap (rank m) e))
  cites_numbered k v p r (inr (inr e)) = inr (inr (r.third ∙ ap (rank m) e))

  pub each_used : EachUsed steps
  each_used i h =
      let long = w.long in
      let last = w.chooses.complete t itself in
      let up = rank_taken m t last.1 in
      let at = unrank m t i (omega arith) in
      let k = at.0 in
      let lt = at.1 in
      let by = needed_by (w.chooses.sound k (omega arith) at.2) lt in
      let q = by.0 in
      let c = w.chooses.complete q by.1 in
      let low = c.0 in
      let early = w.founded q by.1 k by.2 in
      let is = at.3 in
      let taken = rank_taken m k at.2 in
      let before = rank_below m k q early at.2 in
      let after = rank_below m q (t + 1) (omega arith) c.1 in
      let place : rank m (k + 1) ≡ i + 1 = omega arith in
      (rank m q, omega arith, omega arith, λ d. subst (Cites (get_or steps (rank m q) d)) place (cites_numbered q (get_or steps (rank m q) d) (k + 1) (w.each q c.0 c.1 d) by.2))

  module _ (l : Settled G) (lists : Lists s l) where
    -- the step that is written for a needed one
    written_for : (k : ℕ) → k ≤ t → m k ≡ true → (v : Step G) × StandsAt steps (rank m k) v × Renumbers s m k v
    written_for k h e =
        let up = rank_below m k (t + 1) (omega arith) e in
        let long = w.long in
        let low : rank m k < length steps = omega arith in
        let at = value_at steps (rank m k) low in
        (at.0, (low, at.1), subst (Renumbers s m k) (at.1 at.0) (w.each k h e at.0))

    -- one settled statement more, whose step is written or not
    order_next : (k : ℕ) → k ≤ t → InOrder (map given (take (rank m k) steps)) (take k l) → (b : Bool) → m k ≡ b → InOrder (map given (take (rank m (k + 1)) steps)) (take (k + 1) l)
    order_next k h so_far true e =
        let v = written_for k h e in
        let at = premise_at s l k (given v.0) lists (omega arith) v.2.gives in
        let here : take (rank m (k + 1)) steps ≡ take (rank m k) steps ++ v.0 ∷ [] =
        ap (λ (n : ℕ). take n steps) (rank_taken m k e) ∙ rw (add-one, take-suc steps (rank m k) v.0 v.1.0, v.1.1 v.0) refl in
        let there : take (k + 1) l ≡ take k l ++ given v.0 ∷ [] = rw (add-one, take-suc l k (given v.0) at.0, at.1 (given v.0)) refl in
        let both = order_take so_far (given v.0) in
        subst (λ (ys : List (Statement × G)). InOrder (map given (take (rank m (k + 1)) steps)) ys) (sym there)
        (subst (λ (xs : List (Statement × G)). InOrder xs (take k l ++ given v.0 ∷ [])) (sym (ap (map given) here ∙ map-append given (take (rank m k) steps) (v.0 ∷ []))) both)
    order_next k h so_far false e =
        let long = lists.long in
        let low : k < length l = omega arith in
        let o = (value_at l k low).0 in
        let there : take (k + 1) l ≡ take k l ++ get_or l k o ∷ [] = rw (add-one, take-suc l k o low) refl in
        subst (λ (n : ℕ). InOrder (map given (take n steps)) (take (k + 1) l)) (sym (rank_left m k e))
        (subst (λ (ys : List (Statement × G)). InOrder (map given (take (rank m k) steps)) ys) (sym there) (order_skip so_far (get_or l k o)))

    -- the steps for the first k settled ones, among these
    order_to : (k : ℕ) → k ≤ t + 1 → InOrder (map given (take (rank m k) steps)) (take k l)
    order_to zero h = nothing
    order_to (suc k) h =
        let next : k + 1 ≡ suc k = omega arith in
        subst (λ (n : ℕ). InOrder (map given (take (rank m n) steps)) (take n l)) next (order_next k (omega arith) (order_to k (omega arith)) (m k) refl)

    pub in_order : InOrder (map given steps) l
    in_order =
        let whole : take (rank m (t + 1)) steps ≡ steps = take_all (rank m (t + 1)) steps (let long = w.long in omega arith) in
        subst (InOrder (map given steps)) (take-append-drop (t + 1) l)
        (order_more (subst (λ (z : List (Step G)). InOrder (map given z) (take (t + 1) l)) whole (order_to (t + 1) (omega arith))) (drop (t + 1) l))
