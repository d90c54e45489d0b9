-- What is derived fits the sizes, and is met by every structure that meets what is accepted.
use Rattle.std.proofs.Common.{ℕ, List, refl, arith}
use Rattle.standpoint.specs.declared.sizes.Sizes.{Sizes}
use Rattle.standpoint.specs.declared.statement.Statement.{Statement}
use Rattle.standpoint.specs.Sizes.{InRange}
use Rattle.standpoint.specs.Lists.{All, none, ◌&◌}
use Rattle.standpoint.specs.Algebra.{Algebra}
use Rattle.standpoint.specs.Statements.{Fits, contradiction}
use Rattle.standpoint.specs.Rules.{Rule, Tautology}
use Rattle.standpoint.specs.Rules.Tautology.{sharper_than_all, sharper_than_itself, within_itself, within_top, role_within_itself}
use Rattle.standpoint.specs.Structures.{Structure, Meets}
use Rattle.standpoint.specs.Derivations.{Base, Leaf, Derives}
use Rattle.standpoint.specs.Derivations.Leaf.{accepted, tautology}
use Rattle.standpoint.specs.Derivations.Derives.{leaf, one, two, three}
use Rattle.standpoint.specs.Verdicts.{MeetsAccepted}
use Rattle.standpoint.proofs.RuleFits.{rule_fits}
use Rattle.standpoint.proofs.Soundness.{rule_sound, tautology_sound, contradiction_unmet}

tautology_fits : {n : Sizes} {x : Statement} → InRange n → Tautology n x → Fits n x
tautology_fits range (sharper_than_all s) = (s, range.some_standpoint, refl, refl, refl)
tautology_fits range (sharper_than_itself s) = (s, s, refl, refl, refl)
tautology_fits range (within_itself c) = (range.some_standpoint, omega arith, range.some_standpoint, c, c)
tautology_fits range (within_top c) = (range.some_standpoint, omega arith, range.some_standpoint, c, omega arith)
tautology_fits range (role_within_itself r) = (range.some_standpoint, r, r, refl, refl)

module _ {G : Type 0} (a : Algebra G) (base : Base G) (range : InRange base.sizes) where
  pub leaf_fits : {x : Statement} {g : G} → Leaf a base x g → Fits base.sizes x
  leaf_fits (accepted m f) = f
  leaf_fits (tautology t) = tautology_fits range t

  fitting : {rule : ℕ} {premises : List Statement} {x : Statement} → Rule base.sizes.individuals rule premises x →
      All (Fits base.sizes) premises → Fits base.sizes x
  fitting = rule_fits base.sizes range.some_standpoint range.top_and_bottom

  pub derived_fits : {x : Statement} {g : G} → Derives a base x g → Fits base.sizes x
  derived_fits (leaf l) = leaf_fits l
  derived_fits (one r d) = fitting r (derived_fits d & none)
  derived_fits (two r d e) = fitting r (derived_fits d & derived_fits e & none)
  derived_fits (three r d e f) = fitting r (derived_fits d & derived_fits e & derived_fits f & none)

  module _ (M : Structure base.sizes) (met : MeetsAccepted base M) where
    leaf_met : {x : Statement} {g : G} → Leaf a base x g → Meets M x
    leaf_met (accepted m f) = met _ _ m f
    leaf_met (tautology t) = tautology_sound M t

    pub derived_met : {x : Statement} {g : G} → Derives a base x g → Meets M x
    derived_met (leaf l) = leaf_met l
    derived_met (one r d) = rule_sound M r (derived_fits d & none) (derived_met d & none)
    derived_met (two r d e) = rule_sound M r (derived_fits d & derived_fits e & none) (derived_met d & derived_met e & none)
    derived_met (three r d e f) =
        rule_sound M r (derived_fits d & derived_fits e & derived_fits f & none) (derived_met d & derived_met e & derived_met f & none)

    pub contradiction_underivable : {g : G} → Derives a base contradiction g → ⊥
    contradiction_underivable d = contradiction_unmet M (derived_met d)
