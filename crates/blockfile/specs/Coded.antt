-- Numbers within a bound and what is made of them are inverse.
use Rattle.std.specs.Prelude.{◌≡◌, ℕ, ◌≤◌, Bool, true, false, leb, Some, None, nat_le}
use Rattle.std.proofs.Math.Path.{refl, ap, sym}
use Rattle.std.proofs.Common.{◌∙◌, arith, leb-true, le-leb}
use Rattle.std.proofs.Math.Bridge.{le_prop}
use Rattle.std.proofs.lemmas.Bool.Decides.{nat_tests}
use Rattle.blockfile.specs.Codes.{made_by, bounded}

module _ {X : Type 0} (m : ℕ) (make : (n : ℕ) → n ≤ m → X) (n : ℕ) where
  made : (h : n ≤ m) (b : Bool) (e : leb n m ≡ b) → made_by m make n b e ≡ Some (make n h)
  unfolding made_by
  made h true e = ap (λ l. Some (make n l)) (le_prop (leb-true n m e) h)
  made h false e = let z : ◌≡◌ {A = Bool} true false = sym (le-leb n m h) ∙ e in absurd (grind (arith, nat_tests))

  pub bounded_some : (h : n ≤ m) → bounded m make n ≡ Some (make n h)
  unfolding bounded
  bounded_some h = made h (nat_le n m) refl

  unmade : (b : Bool) (e : leb n m ≡ b) (x : X) → made_by m make n b e ≡ Some x → (h : n ≤ m) × (x ≡ make n h)
  unfolding made_by
  unmade true e x is = (leb-true n m e, cc)
  unmade false e x is = absurd (grind arith)

  pub bounded_only : (x : X) → bounded m make n ≡ Some x → (h : n ≤ m) × (x ≡ make n h)
  unfolding bounded
  bounded_only x is = unmade (nat_le n m) refl x is

  past : (b : Bool) (e : leb n m ≡ b) → (n ≤ m → ⊥) → made_by m make n b e ≡ None
  unfolding made_by
  past true e h = absurd (h (leb-true n m e))
  past false e h = refl

  pub bounded_none : (n ≤ m → ⊥) → bounded m make n ≡ None
  unfolding bounded
  bounded_none h = past (nat_le n m) refl h
