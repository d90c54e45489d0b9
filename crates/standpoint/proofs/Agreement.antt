-- When a step agrees, by its rule.
use Rattle.std.proofs.Common.{◌≡◌, ℕ, Bool, List, ◌∷◌, sym, refl, ap, subst, arith}
use Rattle.standpoint.specs.declared.statement.Statement.{Statement}
use Rattle.standpoint.specs.declared.step.Step.{Step}
use Rattle.standpoint.specs.Algebra.{Algebra}
use Rattle.standpoint.specs.Lists.{Tells, In}
use Rattle.standpoint.specs.Rules.{Rule, Tautology, arity_of}
use Rattle.standpoint.specs.Derivations.{Base}
use Rattle.standpoint.specs.Steps.{given, Agrees, by_acceptance, by_tautology, by_one, by_two, by_three}
use Rattle.standpoint.specs.Checking.{Bare, Rests, on_one, on_two, on_three, Follows}
use Rattle.standpoint.proofs.Arities.{has_arity}
use Rattle.standpoint.proofs.Lists.{tells_as}

-- no rule gives anything from premises where its arity is 0
no_rule : {individuals rule : ℕ} {p x : Statement} {premises : List Statement} → arity_of rule ≡ 0 → Rule individuals rule (p ∷ premises) x → ⊥
no_rule {individuals} {rule} z r = let e = (has_arity rule 0 (sym z)).premises individuals _ _ r in omega arith

module _ {G : Type 0} (a : Algebra G) (base : Base G) (steps : List (Step G)) (n : ℕ) (s : Step G) (b : Bool) where
  pub accepted_told : s.rule ≡ 0 → Tells b (Bare s × In base.accepted (given s)) → Tells b (Agrees a base steps n s)
  accepted_told z = tells_as b (λ h. by_acceptance z h.0.0 h.0.1 h.0.2 h.1) from
    where
      from : Agrees a base steps n s → Bare s × In base.accepted (given s)
      from (by_acceptance _ i j k m) = ((i, j, k), m)
      from (by_tautology r _ _ _ _ _) = absurd (let x : ⊥ = omega arith in x)
      from (by_one _ _ _ _ r _) = absurd (no_rule (ap arity_of z) r)
      from (by_two _ _ _ _ _ r _) = absurd (no_rule (ap arity_of z) r)
      from (by_three _ _ _ _ _ _ r _) = absurd (no_rule (ap arity_of z) r)

  pub tautology_told : s.rule ≡ 24 → Tells b (Bare s × Tautology base.sizes s.statement × (s.grade ≡ a.start)) → Tells b (Agrees a base steps n s)
  tautology_told z = tells_as b (λ h. by_tautology z h.0.0 h.0.1 h.0.2 h.1 h.2) from
    where
      from : Agrees a base steps n s → Bare s × Tautology base.sizes s.statement × (s.grade ≡ a.start)
      from (by_acceptance r _ _ _ _) = absurd (let x : ⊥ = omega arith in x)
      from (by_tautology _ i j k t e) = ((i, j, k), t, e)
      from (by_one _ _ _ _ r _) = absurd (no_rule (ap arity_of z) r)
      from (by_two _ _ _ _ _ r _) = absurd (no_rule (ap arity_of z) r)
      from (by_three _ _ _ _ _ _ r _) = absurd (no_rule (ap arity_of z) r)

  pub rule_told : (s.rule ≡ 0 → ⊥) → (s.rule ≡ 24 → ⊥) → Tells b (Follows a base.sizes.individuals steps n s) → Tells b (Agrees a base steps n s)
  rule_told not-0 not-24 = tells_as b to from
    where
      on : (ps : List Statement) (g : G) → Rests a steps n s ps g → s.grade ≡ g → Rule base.sizes.individuals s.rule ps s.statement → Agrees a base steps n s
      on _ _ (on_one p i j k) e r = by_one p i j k r e
      on _ _ (on_two p q i j k) e r = by_two p q i j k r e
      on _ _ (on_three p q t i j k) e r = by_three p q t i j k r e

      to : Follows a base.sizes.individuals steps n s → Agrees a base steps n s
      to f = on _ _ f.1 refl f.2

      rest : {ps : List Statement} {g : G} → Rests a steps n s ps g → s.grade ≡ g → Rests a steps n s ps s.grade
      rest {ps} r e = subst (Rests a steps n s ps) (sym e) r

      from : Agrees a base steps n s → Follows a base.sizes.individuals steps n s
      from (by_acceptance r _ _ _ _) = absurd (not-0 r)
      from (by_tautology r _ _ _ _ _) = absurd (not-24 r)
      from (by_one p i j k r e) = (_, rest (on_one p i j k) e, r)
      from (by_two p q i j k r e) = (_, rest (on_two p q i j k) e, r)
      from (by_three p q t i j k r e) = (_, rest (on_three p q t i j k) e, r)
