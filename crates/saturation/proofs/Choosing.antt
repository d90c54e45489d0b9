-- The order in which statements are settled.
use Rattle.std.proofs.Common.{◌≡◌, Bool, true, false, ◌⊎◌, sym, refl, ◌∙◌, subst, ⊎_elim}
use borrow.Author.Tests.{both_ways}
use Rattle.standpoint.specs.declared.statement.Statement.{Statement}
use Rattle.standpoint.specs.Algebra.{Algebra, Laws, NoWorse}
use Rattle.standpoint.specs.Statements.{Before}
use Rattle.standpoint.proofs.Orders.{before_transitive, before_asymmetric, before_total}
use Rattle.saturation.specs.Choosing.{Ahead}

module _ {G : Type 0} (a : Algebra G) (l : Laws a) where
  pub no_worse_refl : (g : G) → NoWorse a g g
  no_worse_refl g = ⊎_elim (λ e. e) (λ e. e) (l.total g g)

  pub ahead_trans : (g h i : G) (x y z : Statement) → Ahead a g x h y → Ahead a h y i z → Ahead a g x i z
  ahead_trans g h i x y z p q = (
    l.trans g h i p.0 q.0,
    λ back. before_transitive x y z (p.1 (l.trans h i g q.0 back)) (q.1 (l.trans i g h back p.0)),
  )

  pub ahead_irreflexive : (g : G) (x : Statement) → Ahead a g x g x → ⊥
  ahead_irreflexive g x p = let b = p.1 (no_worse_refl g) in before_asymmetric x x b b

  -- what x is not ahead of is no worse, and among equals not greater
  not_ahead : (g h : G) (x y : Statement) → (Ahead a g x h y → ⊥) → NoWorse a h g × (NoWorse a g h → (x ≡ y) ⊎ Before y x)
  not_ahead g h x y never = (
    no_worse_or (a.no_worse h g) refl,
    λ e. ⊎_elim (λ b. absurd (never (e, λ _. b))) (λ r. r) (before_total x y),
  )
    where
      no_worse_or : (b : Bool) → a.no_worse h g ≡ b → NoWorse a h g
      no_worse_or true e = e
      no_worse_or false e = absurd (never (⊎_elim (λ v. v) (λ v. absurd (both_ways _ e v)) (l.total g h), λ back. absurd (both_ways _ e back)))

  -- where x is not ahead of y, nor y of z, x is not ahead of z
  pub behind_trans : (g h i : G) (x y z : Statement) → (Ahead a g x h y → ⊥) → (Ahead a h y i z → ⊥) → Ahead a g x i z → ⊥
  behind_trans g h i x y z p q r =
      let first = not_ahead g h x y p in
      let second = not_ahead h i y z q in
      let before = r.1 (l.trans i h g second.0 first.0) in
      let up = first.1 (l.trans g i h r.0 second.0) in
      let down = second.1 (l.trans h g i first.0 r.0) in
      ⊎_elim
      (λ e. ⊎_elim
      (λ f. never e f before)
      (λ b. before_asymmetric x z before (subst (Before z) (sym e) b))
      down)
      (λ b. ⊎_elim
      (λ f. before_asymmetric x z before (subst (λ (w : Statement). Before w x) f b))
      (λ c. before_asymmetric x z before (before_transitive z y x c b))
      down)
      up
    where
      never : x ≡ y → y ≡ z → Before x z → ⊥
      never e f b = let c = subst (Before x) (sym (e ∙ f)) b in before_asymmetric x x c c
