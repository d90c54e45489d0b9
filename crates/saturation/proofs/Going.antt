-- From one turn to the run.
use Rattle.std.proofs.Common.{◌≡◌, ℕ, zero, suc, ◌<◌, ◌≤◌, false, List, [], ◌∷◌, ◌++◌, length, get_or, sym, refl, ap, ◌∙◌, subst, ⊎_elim, arith, length-append}
use Rattle.std.proofs.lemmas.Bool.Decides.{nat_tests}
use Rattle.standpoint.specs.declared.statement.Statement.{Statement}
use Rattle.standpoint.specs.Lists.{In}
use Rattle.standpoint.specs.Algebra.{Algebra}
use Rattle.standpoint.specs.Derivations.{Base}
use Rattle.runs.specs.Runs.{Settled, Offers, Known, Next, AllSettled, StandsFull}
use Rattle.runs.specs.Runs.Run.{settles}
use Rattle.runs.proofs.Offers.{in_offers}
use Rattle.runs.proofs.Distinct.{apart_push, apart_distinct}
use Rattle.runs.proofs.Distinct as lists
use Rattle.saturation.specs.declared.turn.Turn.{Turn}
use Rattle.saturation.specs.declared.turn.Turn.TheVariants as turn
use Rattle.saturation.specs.Tables.{State, row_at, statement_at, OpenAt, capacity}
use Rattle.saturation.specs.Offering.{Apart}
use Rattle.saturation.specs.Searching.{Lists}
use Rattle.saturation.specs.Turns.{FirstOffered, TookTurn, Turned}
use Rattle.saturation.specs.Saturation.{Holds, HoldsFull}
use Rattle.saturation.proofs.Offers.{below_or, none_or, in_same}
use Rattle.saturation.proofs.Lists.{in_append_left, in_append_right, in_append_cases}
use Rattle.standpoint.proofs.Lists.{in_getD}
use Rattle.saturation.proofs.Stepping.{offers_up, offers_down, uses_offers, value_at}

-- one turn of a run
abbrev pub WentOn : {G : Type 0} → Algebra G → Base G → Settled G → State G → Turn → Type 0
WentOn a base settled t turn.Nothing = Holds a base settled t × AllSettled a base settled
WentOn {G} a base settled t turn.Settled = (x : Statement) × ((g : G) × (Next a base settled x g × Holds a base (settled ++ (x, g) ∷ []) t))
WentOn {G} a base settled t turn.Overflowed = (x : Statement) × ((g : G) × (Next a base settled x g × HoldsFull a base (settled ++ (x, g) ∷ []) t))

-- the same of any run that the rows hold, over as many individuals
abbrev pub GoesOn : {G : Type 0} → Algebra G → ℕ → State G → State G → Turn → Type 0
GoesOn {G} a individuals s t r = (base : Base G) → base.sizes.individuals ≡ individuals → (settled : Settled G) → Holds a base settled s → WentOn a base settled t r

-- a settled row's statement stands in the settled list
pub closed_settled : {G : Type 0} (s : State G) (l : Settled G) → Lists s l → (i : ℕ) → i < s.len → (OpenAt s i → ⊥) → (g : G) × In l (statement_at s i, g)
closed_settled {G} s l is i h closed =
    let b = is.back i h closed in
    let k = b.0 in
    let lg = is.long in
    let kh = b.1 in
    let v = value_at l k (omega arith) in
    let e : (get_or l k v.0).0 ≡ statement_at s i = sym (is.holds k kh v.0).0 ∙ ap (statement_at s) b.2 in
    let d = v.0 in
    ((get_or l k d).1, in_same l (get_or l k d).0 (statement_at s i) (get_or l k d).1 (get_or l k d).1 e refl (in_getD l k d (omega arith)))

-- the statements of the first n rows
pub held : {G : Type 0} → State G → ℕ → List Statement
held s zero = []
held s (suc n) = held s n ++ statement_at s n ∷ []

pub length_held : {G : Type 0} (s : State G) (n : ℕ) → length (held s n) ≡ n
unfolding held
length_held s zero = refl
length_held s (suc n) = let e = length_held s n in let f = length-append (held s n) (statement_at s n ∷ []) in omega arith

pub in_held : {G : Type 0} (s : State G) (n : ℕ) (x : Statement) → In (held s n) x → (k : ℕ) × (k < n) × (statement_at s k ≡ x)
unfolding held
in_held s zero x m = absurd m
in_held s (suc n) x m =
    ⊎_elim
    (λ a. let p = in_held s n x a in let h = p.1 in (p.0, omega arith, p.2))
    (⊎_elim (λ e. (n, omega arith, e)) (λ z. absurd z))
    (in_append_cases (held s n) (statement_at s n ∷ []) x m)

pub apart_held : {G : Type 0} (s : State G) (n : ℕ) → n ≤ s.len → Apart s → lists.Apart (held s n)
unfolding held
apart_held s zero h apart = tt
apart_held s (suc n) h apart =
    apart_push (held s n) (statement_at s n) (apart_held s n (omega arith) apart) (λ m.
    let p = in_held s n (statement_at s n) m in
    let lt = p.1 in
    let same = apart p.0 n (omega arith) (omega arith) p.2 in
    omega arith)

module _ {G : Type 0} (al : Algebra G) (base : Base G) (l : Settled G) (s : State G) (h : Holds al base l s) where
  first_next : (o : Statement × G) → FirstOffered al l h.offered o → Next al base l o.0 o.1
  first_next o n = record {
    offered = h.sound o n.known;
    unsettled = n.unsettled;
    best = λ y g m un. n.best (y, g) (h.complete y g m) un;
    least = λ y m un. n.least y (h.complete y o.1 m) un;
  }

  -- every row holds a known statement
  pub row_known : s.len ≤ length s.grades → (k : ℕ) → k < s.len → Known al base l (statement_at s k)
  row_known fits k lt =
      ⊎_elim
      (λ un.
      let v = value_at s.grades k (omega arith) in
      (get_or s.grades k v.0, h.sound (statement_at s k, get_or s.grades k v.0) (h.rows.best.from k lt un v.0)))
      (λ closed. let m = closed_settled s l h.lists k lt closed in (m.0, in_offers al base h.run (statement_at s k) m.0 m.1))
      (none_or (row_at s k).place)

  -- where no row is unsettled, every known statement is settled
  pub none_open : ((k : ℕ) → k < s.len → OpenAt s k → ⊥) → AllSettled al base l
  none_open closed x g m =
      let p = h.rows.best.every x g (h.complete x g m) in
      let c = closed_settled s l h.lists p.0 p.1 (closed p.0 p.1) in
      (c.0, in_same l (statement_at s p.0) x c.0 c.0 p.2 refl c.1)

  module _ (t : State G) (grades_fit : s.len ≤ length s.grades) where
    -- more known statements than rows
    overflowed : (it : TookTurn al base.sizes.individuals s t false) → StandsFull al base (capacity t) (l ++ it.o ∷ [])
    overflowed it =
        let o = it.o in
        let k = it.stuck refl l h.lists in
        let x = k.o.0 in
        let known : (j : ℕ) → j < t.len → Known al base (l ++ o ∷ []) (statement_at t j) = λ j lt.
        ⊎_elim
        (λ old.
        let v = row_known grades_fit j old in
        (v.0, subst (λ (z : Statement). Offers al base (l ++ o ∷ []) z v.0) (sym (it.old j old)) (offers_up al base l o (statement_at s j) v.0 v.1)))
        (λ new.
        let u = it.new l h.lists j new lt in
        (u.0, uses_offers al base l o (statement_at t j, u.0) u.1))
        (below_or j s.len) in
        let full = it.full refl in
        let long = length_held t t.len in
        let more = length-append (held t t.len) (x ∷ []) in (
          held t t.len ++ x ∷ [],
          apart_distinct (held t t.len ++ x ∷ []) (apart_push (held t t.len) x (apart_held t t.len (omega arith) (it.apart h.rows.best.apart)) (λ m.
              let p = in_held t t.len x m in k.absent p.0 p.1 p.2)),
          λ y m.
              ⊎_elim
              (λ a. let p = in_held t t.len y a in subst (Known al base (l ++ o ∷ [])) p.2 (known p.0 p.1))
              (⊎_elim (λ e. subst (Known al base (l ++ o ∷ [])) e (k.o.1, uses_offers al base l o k.o k.may)) (λ z. absurd z))
              (in_append_cases (held t t.len) (x ∷ []) y m),
          let cap : capacity t ≤ t.len = grind (arith, nat_tests) in omega arith,
        )

    pub went_on : (r : Turn) → Turned al base.sizes.individuals s t r → WentOn al base l t r
    went_on turn.Nothing it = (subst (Holds al base l) (sym it.0) h, none_open (it.1 l h.offered h.lists h.rows))
    went_on turn.Settled it =
        let o = it.o in
        let f = first_next o (it.next l h.offered h.lists h.rows) in
        let en = it.all l h.lists in
        let k = it.keeps base refl l h.lists h.right h.explained in (
          o.0,
          (
            o.1,
            (
              f,
              record {
                run = settles h.run f;
                lists = it.lists l h.lists;
                offered = en.os ++ h.offered;
                rows = en.ranked refl h.offered (it.rematched h.offered h.rows);
                sound = λ v m. ⊎_elim (λ a. uses_offers al base l o v (en.sound v a)) (λ b. offers_up al base l o v.0 v.1 (h.sound v b)) (in_append_cases en.os h.offered v m);
                complete = λ x g m. ⊎_elim (λ a. in_append_right en.os h.offered (x, g) (h.complete x g a)) (λ b. in_append_left en.os h.offered (x, g) (en.complete refl (x, g) b)) (offers_down al base l o x g m);
                right = k.0;
                explained = k.1;
              },
            ),
          ),
        )
    went_on turn.Overflowed it =
        let o = it.o in
        let f = first_next o (it.next l h.offered h.lists h.rows) in (
          o.0,
          (
            o.1,
            (
              f,
              record {
                run = settles h.run f;
                lists = it.lists l h.lists;
                apart = it.apart h.rows.best.apart;
                full = overflowed it;
                explained = (it.keeps base refl l h.lists h.right h.explained).1;
              },
            ),
          ),
        )
