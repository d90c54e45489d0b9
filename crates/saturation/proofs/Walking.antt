-- A walk back along a lane.
use Rattle.std.proofs.Common.{◌≡◌, ℕ, zero, suc, ◌-◌, ◌<◌, ◌≤◌, true, ◌⊎◌, List, Some, None, Option, SomeIff, Bool, nat_lt, sym, refl, ap, ◌∙◌, subst, inl, inr, ⊎_elim, arith}
use Rattle.std.specs.Bool.{then_some}
use Rattle.std.proofs.lemmas.Bool.Decides.{nat_tests}
use Rattle.standpoint.specs.declared.statement.Statement.{Statement}
use Rattle.standpoint.specs.Algebra.{Algebra}
use Rattle.saturation.specs.declared.row.Row.{Row}
use Rattle.saturation.specs.declared.lane.Lane.{Lane}
use Rattle.saturation.specs.declared.lane.Lane.TheVariants.{Nowhere, Alone, Along, AlongIn, Only, Outer, Inside}
use Rattle.saturation.specs.declared.side.Side.{Side}
use Rattle.saturation.specs.Chains.{last_in, links_in}
use Rattle.saturation.specs.Buckets.{bucket_of}
use Rattle.saturation.specs.Sides.{node_of, chain_of, settled_at, side_bucket, Sided}
use Rattle.saturation.specs.Lanes.{Within, track, lane_bucket}
use Rattle.saturation.specs.Tables.{State, capacity}
use Rattle.saturation.specs.Offering.{Grown}
use Rattle.saturation.specs.Searching.{Lists, Went, OnLane}
use Rattle.saturation.proofs.Chaining.{Passed, On, none_past, on_last, past_link}
use Rattle.saturation.proofs.Leaving.{leaves_capacity}
use Rattle.saturation.proofs.Lists.{Fit, statement_kept, lists_grown}
use Rattle.saturation.proofs.Stepping.{value_at}
use Rattle.saturation.proofs.Searches.{Family, went_none, went_then, went_as}

-- what is on a lane is in its bucket
pub tracked : (buckets : ℕ) (rows : List Row) (lane : Lane) (k : ℕ) → Within lane k (settled_at rows k) → track buckets rows lane k ≡ lane_bucket buckets lane
tracked buckets rows Nowhere k within = absurd within
tracked buckets rows (Alone n) k within = within
tracked buckets rows (Along side node) k within = ap (bucket_of buckets) within
tracked buckets rows (AlongIn standpoint side node) k within = ap (bucket_of buckets) within.1
tracked buckets rows (Only side x) k within = ap (λ (y : Statement). bucket_of buckets (node_of side y)) within
tracked buckets rows (Outer standpoint) k within = refl
tracked buckets rows (Inside standpoint) k within = refl

-- the link of a place on a lane
pub link_along : (buckets : ℕ) (rows : List Row) (settled : ℕ) → Sided buckets rows settled → (side : Side) (bucket k : ℕ) → k < settled → side_bucket side buckets rows k ≡ bucket →
    links_in (chain_of side) rows k ≡ last_in (side_bucket side buckets rows) bucket k
link_along buckets rows settled sides side bucket k h here = (sides side).back k h ∙ ap (λ (b : ℕ). last_in (side_bucket side buckets rows) b k) here

-- a lane along this side
abbrev pub Sidewise : Lane → Side → Type 0
Sidewise lane side = ((x : Statement) × (lane ≡ Along side x)) ⊎ (((s : ℕ) × (x : Statement) × (lane ≡ AlongIn s side x)) ⊎ ((x : Statement) × (lane ≡ Only side x)))

module _ (buckets : ℕ) (rows : List Row) (settled : ℕ) (sides : Sided buckets rows settled) (lane : Lane) (k : ℕ) (below : k < settled) (here : track buckets rows lane k ≡ lane_bucket buckets lane) where
  abbrev Linked : Side → Lane → Type 0
  Linked side w = track buckets rows w k ≡ lane_bucket buckets w → links_in (chain_of side) rows k ≡ last_in (track buckets rows w) (lane_bucket buckets w) k

  linked_as : (side : Side) (w : Lane) → lane ≡ w → Linked side w → links_in (chain_of side) rows k ≡ last_in (track buckets rows lane) (lane_bucket buckets lane) k
  linked_as side w is linked = subst (Linked side) (sym is) linked here

  pub link_sidewise : (side : Side) → Sidewise lane side → links_in (chain_of side) rows k ≡ last_in (track buckets rows lane) (lane_bucket buckets lane) k
  link_sidewise side which =
      ⊎_elim
      (λ w. linked_as side (Along side w.0) w.1 (link_along buckets rows settled sides side _ k below))
      (λ other. ⊎_elim
      (λ w. linked_as side (AlongIn w.0 side w.1) w.2 (link_along buckets rows settled sides side _ k below))
      (λ w. linked_as side (Only side w.0) w.1 (link_along buckets rows settled sides side _ k below))
      other)
      which

pub last_nowhere : (buckets : ℕ) (rows : List Row) (n : ℕ) → last_in (track buckets rows Nowhere) 1 n ≡ None
last_nowhere buckets rows zero = refl
last_nowhere buckets rows (suc n) = last_nowhere buckets rows n

-- a walk along one place
pub last_alone : (n m : ℕ) → then_some (nat_lt n m) n ≡ last_in (λ k. k) n m
last_alone n zero = grind (arith, nat_tests)
last_alone n (suc m) = let before = last_alone n m in grind (arith, nat_tests)

pub none_from : (buckets : ℕ) (rows : List Row) (lane : Lane) (k : ℕ) → (lane ≡ Nowhere) ⊎ ((n : ℕ) × (lane ≡ Alone n)) → track buckets rows lane k ≡ lane_bucket buckets lane → None ≡ last_in (track buckets rows lane) (lane_bucket buckets lane) k
none_from buckets rows lane k which =
    let Ended : Lane → Type 0 = λ w. track buckets rows w k ≡ lane_bucket buckets w → None ≡ last_in (track buckets rows w) (lane_bucket buckets w) k in
    ⊎_elim
    (λ e. subst Ended (sym e) (λ _. sym (last_nowhere buckets rows k)))
    (λ w. subst Ended (sym w.1) (λ same. let last = last_alone w.0 k in grind (arith, nat_tests)))
    which

-- a walk along all settled places
last_of_all : (n : ℕ) (r : Option ℕ) → SomeIff r (1 ≤ n) (n - 1) → r ≡ last_in (λ k. 0) 0 n
last_of_all zero None e = refl
last_of_all zero (Some i) e = absurd (let h = e.0 in let z : ⊥ = omega arith in z)
last_of_all (suc n) None e = absurd (e (omega arith))
last_of_all (suc n) (Some i) e = let same = e.1 in ap Some (omega (arith, same))

pub last_by_number : (buckets : ℕ) (rows : List Row) (lane : Lane) (n : ℕ) (r : Option ℕ) → ((x : ℕ) × (lane ≡ Outer x)) ⊎ ((x : ℕ) × (lane ≡ Inside x)) → SomeIff r (1 ≤ n) (n - 1) →
    r ≡ last_in (track buckets rows lane) (lane_bucket buckets lane) n
last_by_number buckets rows lane n r which e =
    let at : (v : Lane) → lane ≡ v → r ≡ last_in (track buckets rows v) (lane_bucket buckets v) n → r ≡ last_in (track buckets rows lane) (lane_bucket buckets lane) n =
    λ v is. subst (λ (w : Lane). r ≡ last_in (track buckets rows w) (lane_bucket buckets w) n) (sym is) in
    ⊎_elim (λ w. at (Outer w.0) w.1 (last_of_all n r e)) (λ w. at (Inside w.0) w.1 (last_of_all n r e)) which

module _ {G : Type 0} (s : State G) (l : List (Statement × G)) (is : Lists s l) (lane : Lane) (k : ℕ) where
  -- what is listed on a lane is so in the rows
  pub within_listed : OnLane lane l k → Within lane k (settled_at s.rows k)
  within_listed on =
      let long = is.long in
      let below = on.0 in
      let v = value_at l k below in
      subst (Within lane k) (sym (is.holds k (omega arith) v.0).0) (on.1 v.0)

-- a place in a lane's bucket stays in it
pub track_kept : {G : Type 0} (s t : State G) (lane : Lane) (k : ℕ) → Fit s → Grown s t → k < s.settled →
    track (capacity s) s.rows lane k ≡ lane_bucket (capacity s) lane → track (capacity t) t.rows lane k ≡ lane_bucket (capacity t) lane
track_kept s t lane k fit grown h = at lane
  where
    by_node : (side : Side) (node : Statement) → bucket_of (capacity s) (node_of side (settled_at s.rows k)) ≡ bucket_of (capacity s) node → bucket_of (capacity t) (node_of side (settled_at t.rows k)) ≡ bucket_of (capacity t) node
    by_node side node here =
        subst (λ (m : ℕ). bucket_of m (node_of side (settled_at t.rows k)) ≡ bucket_of m node) (sym (leaves_capacity grown.leaves))
        (subst (λ (y : Statement). bucket_of (capacity s) (node_of side y) ≡ bucket_of (capacity s) node) (sym (statement_kept s t fit grown k h)) here)

    at : (w : Lane) → track (capacity s) s.rows w k ≡ lane_bucket (capacity s) w → track (capacity t) t.rows w k ≡ lane_bucket (capacity t) w
    at Nowhere here = here
    at (Alone n) here = here
    at (Along side node) here = by_node side node here
    at (AlongIn standpoint side node) here = by_node side node here
    at (Only side x) here = by_node side (node_of side x) here
    at (Outer standpoint) here = here
    at (Inside standpoint) here = here

-- so does the one where a walk stands
pub stands_kept : {G : Type 0} (s t : State G) (lane : Lane) (at : Option ℕ) (k : ℕ) → Fit s → Grown s t → at ≡ Some k →
    On (track (capacity s) s.rows lane) (lane_bucket (capacity s) lane) s.settled at → (k < t.settled) × (track (capacity t) t.rows lane k ≡ lane_bucket (capacity t) lane)
stands_kept s t lane at k fit grown is_at on =
    let here = subst (On (track (capacity s) s.rows lane) (lane_bucket (capacity s) lane) s.settled) is_at on in
    (subst (λ (m : ℕ). k < m) (sym grown.settled) here.0, track_kept s t lane k fit grown here.0 here.1)

-- what F gives at each place of a lane that the walk has passed
abbrev pub From : {G : Type 0} → Lane → (ℕ → Family G) → Option ℕ → Family G
From lane F at l o = (i : ℕ) × OnLane lane l i × Passed at i × F i l o

module _ {G : Type 0} (al : Algebra G) (v : ℕ) (lane : Lane) (F : ℕ → Family G) (May : Family G) where
  -- from s to m a walk has offered what F gives at each place of the lane that lies past the one at which it stands
  abbrev pub Walk : State G → State G → Option ℕ → Type 0
  Walk s m at = On (track (capacity m) m.rows lane) (lane_bucket (capacity m) lane) m.settled at × Went al v s m (From lane F at) May true

  -- before the walk: no place of the lane lies past the last one
  pub walk_start : (s : State G) (at : Option ℕ) → at ≡ last_in (track (capacity s) s.rows lane) (lane_bucket (capacity s) lane) s.settled → Walk s s at
  walk_start s at last = (
    on_last (track (capacity s) s.rows lane) (lane_bucket (capacity s) lane) s.settled s.settled at (omega arith) last,
    went_none al v s (From lane F at) May (λ l is o b.
        let long = is.long in
        let below = b.1.0 in
        none_past (track (capacity s) s.rows lane) (lane_bucket (capacity s) lane) s.settled at (sym last) b.0 (omega arith) (tracked (capacity s) s.rows lane b.0 (within_listed s l is lane b.0 b.1)) b.2),
  )

  -- one place more: the walk goes on from where it is linked to
  pub walk_next : (s m u : State G) (at : Option ℕ) (k : ℕ) (r : Option ℕ) (b : Bool) → Fit s → at ≡ Some k → r ≡ last_in (track (capacity u) u.rows lane) (lane_bucket (capacity u) lane) k → b ≡ true →
      Walk s m at → Went al v m u (λ l o. OnLane lane l k × F k l o) May b → Walk s u r
  walk_next s m u at k r b fit is_at link on walk here =
      let from : Walk s m (Some k) = subst (Walk s m) is_at walk in
      let below = from.0.0 in
      let same = here.grown.settled in
      let both = went_then al v s m u (From lane F (Some k)) (λ l o. OnLane lane l k × F k l o) May true true fit refl from.1 (subst (Went al v m u (λ l o. OnLane lane l k × F k l o) May) on here) in (
        on_last (track (capacity u) u.rows lane) (lane_bucket (capacity u) lane) k u.settled r (omega arith) link,
        went_as al v s u (λ l o. From lane F (Some k) l o ⊎ (OnLane lane l k × F k l o)) (From lane F r) May May true
            (λ l is o b.
            let here = tracked (capacity u) u.rows lane b.0 (within_listed u l (lists_grown s u l fit both.grown is) lane b.0 b.1) in
            ⊎_elim
            (λ over. inl (b.0, b.1, over, b.3))
            (λ e. inr (subst (λ (j : ℕ). OnLane lane l j × F j l o) e (b.1, b.3)))
            (past_link (track (capacity u) u.rows lane) (lane_bucket (capacity u) lane) k r link b.0 here b.2))
            (λ l is o w. w)
            both,
      )
