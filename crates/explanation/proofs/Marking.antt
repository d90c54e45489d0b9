-- Marking all that a settled statement rests on.
use Rattle.std.proofs.Common.{◌≡◌, ℕ, zero, suc, ◌+◌, ◌-◌, ◌<◌, ◌≤◌, max, ◌⊎◌, Bool, true, false, leb, length, nat_lt, sym, refl, ap, ◌∙◌, subst, inl, inr, ⊎_elim, arith, leb-false, leb-true}
use borrow.Author.Tests.{both_ways}
use Rattle.saturation.specs.declared.row.Kept.{Kept}
use Rattle.saturation.specs.declared.table.Table.{Table}
use Rattle.saturation.specs.Tables.{State, view, Same}
use Rattle.saturation.proofs.Offers.{equal_or}
use Rattle.saturation.proofs.Sameness.{same_then}
use Rattle.explanation.specs.Needed.{kept_at, Names, Rests, RestsEarlier, Needed, itself, below, Founded, Unfounded, rank, Chooses}
use Rattle.explanation.specs.Marks.{mark_at, place_of, with_listed, Clean, ButMarks, AddsMarks, MarksDown, NumbersMarks, PremisesPlaced, MarksPlaced}
use Rattle.explanation.proofs.ButMarks.{but_marks_trans, but_one, listed_here, listed_there, rests_same, rests_back}

-- a place that is not 0 is that of a settled statement
rests_on : {G : Type 0} (s : State G) (k p : ℕ) (kept : Kept) → kept ≡ kept_at s k → 0 < p → Names kept p → Rests s k (p - 1)
rests_on s k p kept is some named =
    let place : p ≡ p - 1 + 1 = omega arith in
    subst (λ (w : Kept). Names w (p - 1 + 1)) is (subst (Names kept) place named)

-- the latest place that a step names decides whether it names earlier ones alone
pub rests_told : {G : Type 0} (s : State G) (k p : ℕ) (kept : Kept) → kept ≡ kept_at s k → p ≡ max (max kept.first kept.second) kept.third → RestsEarlier s k (leb p k)
rests_told s k p kept is latest = go (leb p k) refl
  where
    named : Names kept p
    named = ⊎_elim (λ e. inr (inr e)) (λ ne. ⊎_elim (λ e. inr (inl e)) (λ ne2. inl (omega arith)) (equal_or kept.second p)) (equal_or kept.third p)

    go : (b : Bool) → leb p k ≡ b → RestsEarlier s k b
    go true e =
        let low = leb-true p k e in
        subst (λ (w : Kept). (j : ℕ) → Names w (j + 1) → j < k) is
        (λ j. ⊎_elim (λ f. omega arith) (⊎_elim (λ f. omega arith) (λ f. omega arith)))
    go false e =
        let high = leb-false p k e in
        (p - 1, rests_on s k p kept is (omega arith) named, omega arith)

-- a place of a step that rests on earlier ones alone
pub place_within : {G : Type 0} (s : State G) (k p n : ℕ) (kept : Kept) → kept ≡ kept_at s k → RestsEarlier s k true → k < n → Names kept p → p ≤ n
place_within s k p n kept is all h which =
    ⊎_elim
    (λ z. omega arith)
    (λ some.
    let low = all (p - 1) (rests_on s k p kept is (omega arith) which) in
    omega arith)
    (equal_or p 0)

-- where a premise stands in the list
pub place_ranks : {G : Type 0} (s : State G) (k p : ℕ) → PremisesPlaced s k → Names (kept_at s k) p → place_of s p ≡ rank (mark_at s) p
place_ranks s k zero placed named = refl
place_ranks s k (suc j) placed named =
    let next : suc j ≡ j + 1 = omega arith in
    (placed j (subst (Names (kept_at s k)) next named)).1 ∙ ap (rank (mark_at s)) (sym next)

-- each number but 0 is a mark
abbrev marked : ℕ → Bool
marked n = nat_lt 0 n

module _ {G : Type 0} where
  adds_one : (s u : State G) (k : ℕ) → k < s.settled → s.settled ≤ length s.rows → u ≡ with_listed s k 1 → AddsMarks s u (λ j. k + 1 ≡ j + 1)
  adds_one s u k h fit e =
      let w = with_listed s k 1 in
      let here = ap marked (listed_here s k 1 h fit) in
      let there : (j : ℕ) → (j ≡ k → ⊥) → mark_at w j ≡ mark_at s j = λ j ne. ap marked (listed_there s k 1 h fit j ne) in
      subst (λ (v : State G). AddsMarks s v (λ j. k + 1 ≡ j + 1)) (sym e) (record {
        but_marks = but_one s k 1 h fit;
        old = λ j m. ⊎_elim (λ i. subst (λ (n : ℕ). mark_at w n ≡ true) (sym i) here) (λ ne. there j ne ∙ m) (equal_or j k);
        new = λ j i. let f : k ≡ j = omega arith in subst (λ (n : ℕ). mark_at w n ≡ true) f here;
        only = λ j m. ⊎_elim (λ i. inr (omega arith)) (λ ne. inl (sym (there j ne) ∙ m)) (equal_or j k);
      })

  adds_then : (s t u : State G) (P Q : ℕ → Type 0) → AddsMarks s t P → AddsMarks t u Q → AddsMarks s u (λ j. P j ⊎ Q j)
  adds_then s t u P Q a b = record {
    but_marks = but_marks_trans s t u a.but_marks b.but_marks;
    old = λ j m. b.old j (a.old j m);
    new = λ j. ⊎_elim (λ p. b.old j (a.new j p)) (λ q. b.new j q);
    only = λ j m. ⊎_elim (λ there. ⊎_elim (λ here. inl here) (λ p. inr (inl p)) (a.only j there)) (λ q. inr (inr q)) (b.only j m);
  }

  -- the places that a kept step names, one after the other
  pub adds_named : (s t u v : State G) (kept : Kept) → AddsMarks s t (λ j. kept.first ≡ j + 1) → AddsMarks t u (λ j. kept.second ≡ j + 1) → AddsMarks u v (λ j. kept.third ≡ j + 1) → AddsMarks s v (λ j. Names kept (j + 1))
  adds_named s t u v kept one two three = adds_then s t v _ _ one (adds_then t u v _ _ two three)

  -- the loop
  marks_start : (s u : State G) (t : ℕ) → t < s.settled → s.settled ≤ length s.rows → Clean s → u ≡ with_listed s t 1 → MarksDown s u t 0
  marks_start s u t h fit clean e =
      let a = adds_one s u t h fit e in
      record {
        but_marks = a.but_marks;
        own = a.new t refl;
        sound = λ j lt m. ⊎_elim (λ x. absurd (both_ways (mark_at s j) (ap marked (clean j lt)) x)) (λ i. let f : t ≡ j = omega arith in (subst (Needed s t) f itself, omega arith)) (a.only j m);
        closed = λ q le lt. absurd (omega arith);
      }

  marks_skip : (s u : State G) (t i k : ℕ) → k + i ≡ t → mark_at u k ≡ false → MarksDown s u t i → MarksDown s u t (i + 1)
  marks_skip s u t i k is un p = record {
    but_marks = p.but_marks;
    own = p.own;
    sound = p.sound;
    closed = λ q le lt m. ⊎_elim
        (λ e. absurd (both_ways (mark_at u q) (subst (λ (n : ℕ). mark_at u n ≡ false) (sym e) un) m))
        (λ ne. p.closed q le (omega arith) m)
        (equal_or q k);
  }

  marks_more : (s u v : State G) (t i k : ℕ) → t < s.settled → k + i ≡ t → mark_at u k ≡ true → RestsEarlier u k true → AddsMarks u v (Rests u k) → MarksDown s u t i → MarksDown s v t (i + 1)
  marks_more s u v t i k within is m early a p =
      let here = p.sound k (omega arith) m in
      record {
        but_marks = but_marks_trans s u v p.but_marks a.but_marks;
        own = a.old t p.own;
        sound = λ j lt x. ⊎_elim (λ y. p.sound j lt y) (λ r. let low = early j r in (below here.0 (rests_same s u p.but_marks k j r), omega arith)) (a.only j x);
        closed = λ q le lt x j r. ⊎_elim
            (λ e.
            let r' : Rests u k j = rests_back s u p.but_marks k j (subst (λ (n : ℕ). Rests s n j) e r) in
            let low = early j r' in
            (omega arith, a.new j r'))
            (λ ne. ⊎_elim
            (λ y. let c = p.closed q le (omega arith) y j r in (c.0, a.old j c.1))
            (λ y. let low = early q y in absurd (omega arith))
            (a.only q x))
            (equal_or q k);
      }

  marks_stopped : (s u : State G) (t i k : ℕ) → t < s.settled → k + i ≡ t → mark_at u k ≡ true → RestsEarlier u k false → MarksDown s u t i → ButMarks s u × Unfounded s t
  marks_stopped s u t i k within is m late p =
      let here = p.sound k (omega arith) m in
      (p.but_marks, (k, here.0, (late.0, rests_same s u p.but_marks k late.0 late.1, late.2)))

  module _ (s u : State G) (t : ℕ) (p : MarksDown s u t (t + 1)) where
    needed_marked : {k : ℕ} → Needed s t k → (k ≤ t) × (mark_at u k ≡ true)
    needed_marked itself = (omega arith, p.own)
    needed_marked (below {q} {j} n r) =
        let a = needed_marked n in
        let h = a.0 in
        let c = p.closed q a.0 (omega arith) a.1 j r in
        let l = c.0 in
        (omega arith, c.1)

    pub marks_chosen : Chooses s t (mark_at u)
    marks_chosen = record { sound = λ k lt m. (p.sound k lt m).0; complete = λ k n. needed_marked n }

    pub marks_founded : Founded s t
    marks_founded k n j r = let a = needed_marked n in let h = a.0 in (p.closed k a.0 (omega arith) a.1 j r).0

  -- marks that are numbered are the same
  pub marks_numbered : (s u v : State G) (t i : ℕ) → MarksDown s u t i → NumbersMarks u v (t + 1) → MarksDown s v t i
  marks_numbered s u v t i p q =
      let there : (k : ℕ) → mark_at u k ≡ true → mark_at v k ≡ true = λ k m. q.same k ∙ m in
      let back : (k : ℕ) → mark_at v k ≡ true → mark_at u k ≡ true = λ k m. sym (q.same k) ∙ m in
      record {
        but_marks = but_marks_trans s u v p.but_marks q.but_marks;
        own = there t p.own;
        sound = λ j lt m. p.sound j lt (back j m);
        closed = λ k le lt m j r. let c = p.closed k le lt (back k m) j r in (c.0, there j c.1);
      }

  -- the premises of a marked step have their places in the list, read in the numbered rows
  pub marks_placed : (s u v : State G) (t : ℕ) → MarksDown s u t (t + 1) → NumbersMarks u v (t + 1) → MarksPlaced v t
  marks_placed s u v t p q k le m j r =
      let w = marks_numbered s u v t (t + 1) p q in
      let c = w.closed k le (omega arith) m j (rests_same s v w.but_marks k j r) in
      let low = c.0 in
      (c.0, q.placed j (omega arith) c.1)

-- what the marking loop keeps, from u on, where the t-th alone is marked
abbrev pub Marking : {G : Type 0} → Table G → Table G → ℕ → ℕ → Type 0
Marking {G} u v t i = Same u v × (v.settled ≡ u.settled) × ((s : State G) → MarksDown s (view u) t 0 → MarksDown s (view v) t i)

module _ {G : Type 0} (u v : Table G) (t i : ℕ) (loop : Marking u v t i) where
  -- the loop's states, seen from before the t-th was marked
  module _ (a : Table G) (within : t < a.settled) (clean : Clean (view a)) (first : view u ≡ with_listed (view a) t 1) where
    pub marks_so_far : MarksDown (view a) (view v) t i
    marks_so_far = let f = a.settled_fit in let g = a.rows_fit in loop.2 (view a) (marks_start (view a) (view u) t within (omega arith) clean first)

  -- the k-th is the next one
  module _ (k : ℕ) (next : k + i ≡ t) where
    pub marking_skip : false ≡ mark_at (view v) k → Marking u v t (i + 1)
    marking_skip un = (loop.0, loop.1, λ s p. marks_skip s (view v) t i k next (sym un) (loop.2 s p))

    pub marking_more : (w : Table G) → t < u.settled → true ≡ mark_at (view v) k → RestsEarlier (view v) k true → Same v w → AddsMarks (view v) (view w) (Rests (view v) k) → Marking u w t (i + 1)
    marking_more w within m early same adds = (
      same_then loop.0 same,
      adds.but_marks.settled ∙ loop.1,
      λ s p. let e = p.but_marks.settled in marks_more s (view v) (view w) t i k (omega arith) next (sym m) early adds (loop.2 s p),
    )

    pub marking_stops : (a : Table G) → t < a.settled → Clean (view a) → view u ≡ with_listed (view a) t 1 → true ≡ mark_at (view v) k → RestsEarlier (view v) k false → ButMarks (view a) (view v) × Unfounded (view a) t
    marking_stops a within clean first m late = marks_stopped (view a) (view v) t i k within next (sym m) late (marks_so_far a within clean first)
