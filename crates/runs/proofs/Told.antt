-- What the tests of the computed run tell.
use Rattle.std.proofs.Common.{◌≡◌, ℕ, ◌<◌, Bool, true, false, ◌&&◌, ◌||◌, eqb, ltb, ◌⊎◌, [], ◌∷◌, Some, None, Option, refl, ap, subst, inl, inr, arith, ltb-true, lt-ltb, eq-eqb, eqb-true}
use Rattle.standpoint.specs.declared.sizes.Sizes.{Sizes}
use Rattle.standpoint.specs.declared.statement.Statement.{Statement}
use Rattle.standpoint.specs.declared.statement.Sort.{Sort}
use Rattle.standpoint.specs.declared.statement.Sort.TheVariants.{Standpoint, Concept, Role, Unused}
use Rattle.standpoint.specs.declared.statement.Sorts.{Sorts}
use Rattle.standpoint.specs.Lists.{Tells, In}
use Rattle.standpoint.specs.Statements.{SmallerOr, Before, Within, Sorted, Fits, same, sorts_of}
use Rattle.standpoint.proofs.Lists.{tells_as}
use Rattle.standpoint.proofs.Testing.{same_true, same_refl}
use Rattle.runs.specs.Runs.{Settled}
use Rattle.runs.specs.Model.{smaller_or, before, within, sorted, fits, is_settled}

pub told : (b : Bool) {P : Type 0} → (b ≡ true → P) → (P → b ≡ true) → Tells b P
told true sound complete = sound refl
told false sound complete = λ p. let e = complete p in absurd (grind arith)

-- what holds is told
pub tells_true : (b : Bool) {P : Type 0} → Tells b P → P → b ≡ true
tells_true true t p = refl
tells_true false t p = absurd (t p)

-- and what is told holds
pub true_tells : (b : Bool) {P : Type 0} → Tells b P → b ≡ true → P
true_tells true t e = t
true_tells false t e = absurd (grind arith)

and_told : (b c : Bool) (P Q : Type 0) → Tells b P → Tells c Q → Tells (b && c) (P × Q)
and_told true true P Q p q = (p, q)
and_told true false P Q p q = λ w. q w.1
and_told false c P Q p q = λ w. p w.0

or_told : (b c : Bool) (P Q : Type 0) → Tells b P → Tells c Q → Tells (b || c) (P ⊎ Q)
or_told true c P Q p q = inl p
or_told false true P Q p q = inr q
or_told false false P Q p q = λ w. elim w [ inl l ↦ p l | inr r ↦ q r ]

less_told : (m n : ℕ) → Tells (ltb m n) (m < n)
less_told m n = told (ltb m n) (ltb-true m n) (lt-ltb m n)

equal_told : (m n : ℕ) → Tells (eqb m n) (m ≡ n)
equal_told m n = told (eqb m n) (eqb-true m n) (eq-eqb m n)

pub same_told : (x y : Statement) → Tells (same x y) (x ≡ y)
same_told x y = told (same x y) (same_true x y) (λ e. subst (λ z. same x z ≡ true) e (same_refl x))

smaller_told : (m n : ℕ) (rest : Bool) (P : Type 0) → Tells rest P → Tells (smaller_or m n rest) (SmallerOr m n P)
unfolding smaller_or
smaller_told m n rest P t = or_told (ltb m n) (eqb m n && rest) (m < n) ((m ≡ n) × P) (less_told m n) (and_told (eqb m n) rest (m ≡ n) P (equal_told m n) t)

pub before_told : (x y : Statement) → Tells (before x y) (Before x y)
before_told x y =
    smaller_told _ _ _ _ (smaller_told _ _ _ _ (smaller_told _ _ _ _ (smaller_told _ _ _ _ (smaller_told _ _ _ _ (less_told x.fifth y.fifth)))))

within_told : (n : Sizes) (s : Sort) (k : ℕ) → Tells (within n s k) (Within n s k)
within_told n Standpoint k = less_told k n.standpoints
within_told n Concept k = less_told k n.concepts
within_told n Role k = less_told k n.roles
within_told n Unused k = equal_told k 0

sorted_told : (n : Sizes) (sorts : Option Sorts) (x : Statement) → Tells (sorted n sorts x) (Sorted n sorts x)
sorted_told n None x = λ z. z
sorted_told n (Some p) x =
    tells_as (sorted n (Some p) x)
    (λ w. (w.0, w.1.0, w.1.1.0, w.1.1.1.0, w.1.1.1.1))
    (λ w. (w.0, (w.1, (w.2, (w.3, w.4)))))
    (and_told (within n p.first x.first) _ _ _ (within_told n p.first x.first)
    (and_told (within n p.second x.second) _ _ _ (within_told n p.second x.second)
    (and_told (within n p.third x.third) _ _ _ (within_told n p.third x.third)
    (and_told (within n p.fourth x.fourth) _ _ _ (within_told n p.fourth x.fourth) (within_told n p.fifth x.fifth)))))

pub fits_told : (n : Sizes) (x : Statement) → Tells (fits n x) (Fits n x)
fits_told n x = sorted_told n (sorts_of x.shape) x

pub settled_told : {G : Type 0} (settled : Settled G) (x : Statement) → Tells (is_settled settled x) ((g : G) × In settled (x, g))
settled_told [] x = λ w. w.1
settled_told {G} (o ∷ settled) x =
    tells_as (same o.0 x || is_settled settled x)
    (λ w. elim w [
      | inl e ↦ let here : ◌≡◌ {A = Statement × G} (o.0, o.1) (x, o.1) = cc in (o.1, inl here)
      | inr m ↦ (m.0, inr m.1)
    ])
    (λ w. elim w.1 [ inl e ↦ inl (ap (λ (v : Statement × G). v.0) e) | inr m ↦ inr (w.0, m) ])
    (or_told (same o.0 x) (is_settled settled x) (o.0 ≡ x) ((g : G) × In settled (x, g)) (same_told o.0 x) (settled_told settled x))
