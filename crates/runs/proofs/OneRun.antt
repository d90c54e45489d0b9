-- How a run goes on is determined.
use Rattle.std.proofs.Common.{◌≡◌, ℕ, zero, suc, ◌+◌, ◌≤◌, ◌⊎◌, [], ◌∷◌, ◌++◌, length, sym, refl, ap, subst, inl, inr, append_assoc, append-nil, arith, length-append}
use Rattle.standpoint.specs.declared.statement.Statement.{Statement}
use Rattle.standpoint.specs.Algebra.{Algebra, Laws}
use Rattle.standpoint.specs.Statements.{Before}
use Rattle.standpoint.specs.Derivations.{Base}
use Rattle.standpoint.proofs.Orders.{before_asymmetric}
use Rattle.runs.specs.declared.Stand.{Stand}
use Rattle.runs.specs.declared.Stand.TheVariants.{Open, Ended, Full}
use Rattle.runs.specs.Runs.{Settled, Offers, Next, Run, Stands, Settling}
use Rattle.runs.specs.Runs.Run.{fresh, settles}
use Rattle.runs.specs.Runs.Settling.{no_more_asked, no_more_to_do, one_more}
use Rattle.runs.specs.Laws.{OneRun, OneSettling, OneStand}

module _ {G : Type 0} (a : Algebra G) (laws : Laws a) (base : Base G) where
  -- two that are next are the same
  pub next_same : {settled : Settled G} {x y : Statement} {g h : G} → Next a base settled x g → Next a base settled y h →
      ◌≡◌ {A = Statement × G} (x, g) (y, h)
  next_same {settled} {x} {y} {g} {h} n m = cc (same_grade, same_statement)
    where
      same_grade : g ≡ h
      same_grade = laws.same g h (n.best y h m.offered m.unsettled) (m.best x g n.offered n.unsettled)

      x_least : (x ≡ y) ⊎ Before x y
      x_least = n.least y (subst (Offers a base settled y) (sym same_grade) m.offered) m.unsettled

      y_least : (y ≡ x) ⊎ Before y x
      y_least = m.least x (subst (Offers a base settled x) same_grade n.offered) n.unsettled

      same_statement : x ≡ y
      same_statement = elim x_least [
        | inl e ↦ e
        | inr p ↦ elim y_least [ inl e ↦ sym e | inr q ↦ absurd (before_asymmetric x y p q) ]
      ]

  -- one more at the end is one longer
  longer : (settled : Settled G) (o : Statement × G) → length (settled ++ o ∷ []) ≡ length settled + 1
  longer settled o = length-append settled (o ∷ [])

  run_same : {settled other : Settled G} → Run a base settled → Run a base other → length settled ≡ length other → settled ≡ other
  run_same fresh fresh e = refl
  run_same fresh (settles {settled} {x} {g} run next) e = absurd (omega (arith, longer settled (x, g)))
  run_same (settles {settled} {x} {g} run next) fresh e = absurd (omega (arith, longer settled (x, g)))
  run_same (settles {settled} {x} {g} run next) (settles {settled = other} {x = y} {g = h} run' next') e =
      let old = run_same run run' (omega (arith, longer settled (x, g), longer other (y, h))) in
      let new = next_same next (subst (λ z. Next a base z y h) (sym old) next') in
      cc

  -- a run that stands full or ended settles no more
  stopped : {rows : ℕ} {settled : Settled G} {x : Statement} {g : G} → Stands a base rows settled Full ⊎ Stands a base rows settled Ended →
      (Stands a base rows settled Full → ⊥) → Next a base settled x g → ⊥
  stopped (inl full) room next = room full
  stopped {x = x} {g} (inr ended) room next = let m = ended.1 x g next.offered in next.unsettled m.0 m.1

  settling_same : {rows n : ℕ} {settled later other : Settled G} → Settling a base rows n settled later → Settling a base rows n settled other → later ≡ other
  settling_same no_more_asked no_more_asked = refl
  settling_same (no_more_to_do _) (no_more_to_do _) = refl
  settling_same (no_more_to_do stands) (one_more room next rest) = absurd (stopped stands room next)
  settling_same (one_more room next rest) (no_more_to_do stands) = absurd (stopped stands room next)
  settling_same {rows} (one_more {n} {settled} room next rest) (one_more {later = other} room' next' rest') =
      let new = next_same next next' in
      let old = settling_same rest (subst (λ z. Settling a base rows n (settled ++ z ∷ []) other) (sym new) rest') in
      cc

module _ {G : Type 0} (a : Algebra G) (base : Base G) (rows : ℕ) (settled : Settled G) where
  -- nothing known is left, and something is
  not_both : Stands a base rows settled Ended → Stands a base rows settled Open → ⊥
  not_both ended left = let known = left.1.1 in let m = ended.1 left.1.0 known.0 known.1 in left.1.2 m.0 m.1

  stand_same : (stand other : Stand) → Stands a base rows settled stand → Stands a base rows settled other → stand ≡ other
  stand_same Full Full s t = refl
  stand_same Full Ended s t = absurd (t.0 s)
  stand_same Full Open s t = absurd (t.0 s)
  stand_same Ended Full s t = absurd (s.0 t)
  stand_same Ended Ended s t = refl
  stand_same Ended Open s t = absurd (not_both s t)
  stand_same Open Full s t = absurd (s.0 t)
  stand_same Open Ended s t = absurd (not_both t s)
  stand_same Open Open s t = refl

-- what is settled in turn from a run makes a run
pub settling_run : {G : Type 0} (a : Algebra G) (base : Base G) {rows n : ℕ} {settled later : Settled G} → Run a base settled → Settling a base rows n settled later →
    Run a base (settled ++ later)
settling_run a base {settled = settled} run no_more_asked = subst (Run a base) (sym (append-nil settled)) run
settling_run a base {settled = settled} run (no_more_to_do _) = subst (Run a base) (sym (append-nil settled)) run
settling_run a base run (one_more {settled} {later} {x} {g} room next rest) =
    subst (Run a base) (append_assoc settled ((x, g) ∷ []) later) (settling_run a base (settles run next) rest)

-- a settling stops once it has settled as often as it was asked to, or where the run stands full or ended
pub stops : {G : Type 0} (a : Algebra G) (base : Base G) {rows n : ℕ} {settled later : Settled G} → Settling a base rows n settled later →
    (length later ≡ n) ⊎ (Stands a base rows (settled ++ later) Full ⊎ Stands a base rows (settled ++ later) Ended)
stops a base no_more_asked = inl refl
stops a base {rows} (no_more_to_do {settled} stands) =
    inr (subst (λ z. Stands a base rows z Full ⊎ Stands a base rows z Ended) (sym (append-nil settled)) stands)
stops a base {rows} (one_more {settled} {later} {x} {g} room next rest) = elim (stops a base rest) [
  | inl e ↦ inl (ap suc e)
  | inr stands ↦ inr (subst (λ z. Stands a base rows z Full ⊎ Stands a base rows z Ended) (append_assoc settled ((x, g) ∷ []) later) stands)
]

-- a run that ended ends so on more rows too, however often it is asked to settle
module _ {G : Type 0} (a : Algebra G) (base : Base G) {rows more : ℕ} (larger : rows ≤ more) where
  more_room : {settled : Settled G} → (Stands a base rows settled Full → ⊥) → Stands a base more settled Full → ⊥
  more_room room full = let l = full.3 in room (full.0, full.1, full.2, omega arith)

  pub still_ended : {settled : Settled G} → Stands a base rows settled Ended → Stands a base more settled Ended
  still_ended ended = (more_room ended.0, ended.1)

  no_more : (n : ℕ) {settled : Settled G} → Stands a base rows (settled ++ []) Ended → Settling a base more n settled []
  no_more zero ended = no_more_asked
  no_more (suc n) {settled} ended = no_more_to_do (inr (subst (λ z. Stands a base more z Ended) (append-nil settled) (still_ended ended)))

  pub ended_settling : {n : ℕ} {settled later : Settled G} (m : ℕ) → n ≤ m → Settling a base rows n settled later → Stands a base rows (settled ++ later) Ended →
      Settling a base more m settled later
  ended_settling m l no_more_asked ended = no_more m ended
  ended_settling m l (no_more_to_do _) ended = no_more m ended
  ended_settling zero l (one_more room next rest) ended = absurd (omega arith)
  ended_settling (suc m) l (one_more {settled} {later} {x} {g} room next rest) ended =
      one_more (more_room room) next
      (ended_settling m (omega arith) rest (subst (λ z. Stands a base rows z Ended) (sym (append_assoc settled ((x, g) ∷ []) later)) ended))

pub one_run : {G : Type 0} (a : Algebra G) → Laws a → OneRun a
one_run a laws base settled other run run' = run_same a laws base run run'

pub one_settling : {G : Type 0} (a : Algebra G) → Laws a → OneSettling a
one_settling a laws base rows n settled later other s t = settling_same a laws base s t

pub one_stand : {G : Type 0} (a : Algebra G) → OneStand a
one_stand a base rows settled = stand_same a base rows settled
