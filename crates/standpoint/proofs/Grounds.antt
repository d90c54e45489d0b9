-- The premises that a step names, and what follows from them.
use Rattle.std.proofs.Common.{◌≡◌, ℕ, Bool, List, sym, ◌∙◌, subst, arith}
use Rattle.standpoint.specs.declared.statement.Statement.{Statement}
use Rattle.standpoint.specs.declared.step.Step.{Step}
use Rattle.standpoint.specs.Algebra.{Algebra}
use Rattle.standpoint.specs.Lists.{Tells}
use Rattle.standpoint.specs.Rules.{Rule}
use Rattle.standpoint.specs.Steps.{Earlier}
use Rattle.standpoint.specs.Checking.{Rests, on_one, on_two, on_three, Follows}
use Rattle.standpoint.proofs.Lists.{tells_as}

module _ {G : Type 0} (a : Algebra G) (steps : List (Step G)) (n : ℕ) (s : Step G) where
  unnamed : (place : ℕ) (p : Step G) → Earlier steps n place p → place ≡ 0 → ⊥
  unnamed place p at e = let l = at.0 in omega arith

  earlier_same : (place : ℕ) (p q : Step G) → Earlier steps n place p → Earlier steps n place q → p ≡ q
  earlier_same place p q i j = sym (i.2.1 p) ∙ j.2.1 p

  pub no_first : ((p : Step G) → Earlier steps n s.first p → ⊥) → (premises : List Statement) (g : G) → Rests a steps n s premises g → ⊥
  no_first missing _ _ (on_one p i _ _) = missing p i
  no_first missing _ _ (on_two p q i _ _) = missing p i
  no_first missing _ _ (on_three p q r i _ _) = missing p i

  pub no_second : (s.second ≡ 0 → s.third ≡ 0 → ⊥) → ((q : Step G) → Earlier steps n s.second q → ⊥) →
      (premises : List Statement) (g : G) → Rests a steps n s premises g → ⊥
  no_second more missing _ _ (on_one p _ j k) = more j k
  no_second more missing _ _ (on_two p q _ j _) = missing q j
  no_second more missing _ _ (on_three p q r _ j _) = missing q j

  pub no_third : (s.third ≡ 0 → ⊥) → ((r : Step G) → Earlier steps n s.third r → ⊥) →
      (premises : List Statement) (g : G) → Rests a steps n s premises g → ⊥
  no_third more missing _ _ (on_one p _ _ k) = more k
  no_third more missing _ _ (on_two p q _ _ k) = more k
  no_third more missing _ _ (on_three p q r _ _ k) = missing r k

  -- a step rests on one list of premises, at one grade
  rests_same : {ps qs : List Statement} {g h : G} → Rests a steps n s ps g → Rests a steps n s qs h → (ps ≡ qs) × (g ≡ h)
  rests_same (on_one p i _ _) (on_one q j _ _) = let e = earlier_same s.first p q i j in (cc, cc)
  rests_same (on_two p1 p2 i1 i2 _) (on_two q1 q2 j1 j2 _) =
      let e1 = earlier_same s.first p1 q1 i1 j1 in
      let e2 = earlier_same s.second p2 q2 i2 j2 in
      (cc, cc)
  rests_same (on_three p1 p2 p3 i1 i2 i3) (on_three q1 q2 q3 j1 j2 j3) =
      let e1 = earlier_same s.first p1 q1 i1 j1 in
      let e2 = earlier_same s.second p2 q2 i2 j2 in
      let e3 = earlier_same s.third p3 q3 i3 j3 in
      (cc, cc)
  rests_same (on_one _ _ z _) (on_two _ q _ j _) = absurd (unnamed s.second q j z)
  rests_same (on_one _ _ z _) (on_three _ q _ _ j _) = absurd (unnamed s.second q j z)
  rests_same (on_two _ q _ j _) (on_one _ _ z _) = absurd (unnamed s.second q j z)
  rests_same (on_two _ _ _ _ z) (on_three _ _ q _ _ j) = absurd (unnamed s.third q j z)
  rests_same (on_three _ q _ _ j _) (on_one _ _ z _) = absurd (unnamed s.second q j z)
  rests_same (on_three _ _ q _ _ j) (on_two _ _ _ _ z) = absurd (unnamed s.third q j z)

  module _ (individuals : ℕ) {premises : List Statement} {g : G} (rests : Rests a steps n s premises g) where
    -- what a rule gives from the step's premises, it gives from these
    moved : (f : Follows a individuals steps n s) → Rule individuals s.rule premises s.statement
    moved f = subst (λ (ps : List Statement). Rule individuals s.rule ps s.statement) (rests_same f.1 rests).0 f.2

    pub unconcluded : ((x : Statement) → Rule individuals s.rule premises x → ⊥) → Follows a individuals steps n s → ⊥
    unconcluded no_rule f = no_rule s.statement (moved f)

    pub follows_told : (b : Bool) (x : Statement) → Rule individuals s.rule premises x × ((y : Statement) → Rule individuals s.rule premises y → y ≡ x) →
        Tells b ((x ≡ s.statement) × (g ≡ s.grade)) → Tells b (Follows a individuals steps n s)
    follows_told b x concluded =
        tells_as b
        (λ e. (premises, subst (Rests a steps n s premises) e.1 rests, subst (Rule individuals s.rule premises) e.0 concluded.0))
        (λ f. (sym (concluded.1 s.statement (moved f)), sym (rests_same f.1 rests).1))
