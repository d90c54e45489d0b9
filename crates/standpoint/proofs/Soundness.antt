-- Rules and tautologies keep what every structure meets, and so do derivations.
use Rattle.std.proofs.Common.{ℕ, ◌<◌, ◌≤◌, List, arith}
use Rattle.standpoint.specs.declared.sizes.Sizes.{Sizes}
use Rattle.standpoint.specs.declared.statement.Statement.{Statement}
use Rattle.standpoint.specs.Lists.{All, none, ◌&◌}
use Rattle.standpoint.specs.Statements.{Fits, nested_inclusion, contradiction}
use Rattle.standpoint.specs.Rules.{Tautology, Rule, in_standpoint}
use Rattle.standpoint.specs.Rules.Tautology.{sharper_than_all, sharper_than_itself, within_itself, within_top, role_within_itself}
use Rattle.standpoint.specs.Rules.Rule.{role_transitive, sharper_transitive, sharper_than_both, lowered, lowered_inside, inside_transitive, subsumed_nested, subsumed_possible, possible_widened, necessary_then_nested, necessary_then_possible, possible_then_nested, possible_then_possible, existential_widened, existential_chained, existential_met, conjunction_met, necessary_here, of_all_things, existential_empty, necessary_empty, possible_empty, individual_empty}
use Rattle.standpoint.specs.Structures.{Structure, In, Is, Meets}
use Rattle.standpoint.specs.Structures.Meets.{meets_sharper, meets_intersection_sharper, meets_nested_inclusion, meets_possible_inclusion, meets_existential_right, meets_existential_left, meets_conjunction_left, meets_role_inclusion, meets_role_chain}

module _ {n : Sizes} (M : Structure n) where
  -- what is anything anywhere is a thing, and so is top everywhere
  is_top : (s ρ π c δ : ℕ) → In M s ρ → Is M π c δ → Is M ρ 0 δ
  is_top s ρ π c δ i h = M.top_all ρ δ (M.standpoint_within s ρ i) (M.concept_within π c δ h)

  -- what is said in v of all things throughout t holds in t, since v is not empty
  everywhere : {v t b c : ℕ} → v < n.standpoints → Meets M (nested_inclusion v 0 t b c) → (π δ : ℕ) → In M t π → Is M π b δ → Is M π c δ
  everywhere {v} {b = b} f (meets_nested_inclusion p) π δ i h =
      let w = M.some_in_standpoint v f in p w.0 w.1 δ (is_top v w.0 π b δ w.1 h) π i h

  -- each c of t is d throughout u
  throughout : {t c u d : ℕ} → Meets M (nested_inclusion t c u 0 d) → (π δ : ℕ) → In M t π → Is M π c δ → (ρ : ℕ) → In M u ρ → Is M ρ d δ
  throughout {c = c} {u} (meets_nested_inclusion p) π δ i h ρ j = p π i δ h ρ j (is_top u ρ π c δ j h)

  -- what holds in a standpoint holds in a sharper one
  lowered_met : {x : Statement} {s : ℕ} → 3 ≤ x.shape → Meets M x → ((π : ℕ) → In M s π → In M x.first π) → Meets M (in_standpoint s x)
  lowered_met l (meets_sharper p) q = absurd (omega arith)
  lowered_met l (meets_intersection_sharper p) q = absurd (omega arith)
  lowered_met l (meets_nested_inclusion p) q = meets_nested_inclusion (λ π i. p π (q π i))
  lowered_met l (meets_possible_inclusion p) q = meets_possible_inclusion (λ π i. p π (q π i))
  lowered_met l (meets_existential_right p) q = meets_existential_right (λ π i. p π (q π i))
  lowered_met l (meets_existential_left p) q = meets_existential_left (λ π i. p π (q π i))
  lowered_met l (meets_conjunction_left p) q = meets_conjunction_left (λ π i. p π (q π i))
  lowered_met l (meets_role_inclusion p) q = meets_role_inclusion (λ π i. p π (q π i))
  lowered_met l (meets_role_chain p) q = meets_role_chain (λ π i. p π (q π i))

  -- a structure that meets the premises meets the conclusion
  pub rule_sound : {rule : ℕ} {premises : List Statement} {x : Statement} → Rule n.individuals rule premises x → All (Fits n) premises → All (Meets M) premises → Meets M x
  rule_sound role_transitive f (meets_role_inclusion p & meets_role_inclusion q & none) =
      meets_role_inclusion (λ π i δ ε h. q π i δ ε (p π i δ ε h))
  rule_sound sharper_transitive f (meets_sharper p & meets_sharper q & none) =
      meets_sharper (λ π i. q π (p π i))
  rule_sound sharper_than_both f (meets_sharper p & meets_sharper q & meets_intersection_sharper r & none) =
      meets_sharper (λ π i. r π (p π i) (q π i))
  rule_sound (lowered low high) f (p & meets_sharper q & none) = lowered_met low p q
  rule_sound lowered_inside f (meets_nested_inclusion p & meets_sharper q & none) =
      meets_nested_inclusion (λ π i δ b ρ j. p π i δ b ρ (q ρ j))
  rule_sound inside_transitive f (meets_nested_inclusion p & meets_nested_inclusion q & none) =
      meets_nested_inclusion (λ π i δ b ρ j h. q π i δ b ρ j (p π i δ b ρ j h))
  rule_sound subsumed_nested (f & _) (p & meets_nested_inclusion q & none) =
      meets_nested_inclusion (λ π i δ b. q π i δ (everywhere f.0 p π δ i b))
  rule_sound subsumed_possible (f & _) (p & meets_possible_inclusion q & none) =
      meets_possible_inclusion (λ π i δ b. q π i δ (everywhere f.0 p π δ i b))
  rule_sound possible_widened f (meets_possible_inclusion p & meets_nested_inclusion q & none) =
      meets_possible_inclusion (λ π i δ b. let w = p π i δ b in (w.0, w.1, q π i δ b w.0 w.1 w.2))
  rule_sound necessary_then_nested (f & _) (p & meets_nested_inclusion q & none) =
      meets_nested_inclusion (λ π i δ b. let w = M.some_in_standpoint _ f.2 in q w.0 w.1 δ (throughout p π δ i b w.0 w.1))
  rule_sound necessary_then_possible (f & _) (p & meets_possible_inclusion q & none) =
      meets_possible_inclusion (λ π i δ b. let w = M.some_in_standpoint _ f.2 in q w.0 w.1 δ (throughout p π δ i b w.0 w.1))
  rule_sound possible_then_nested f (meets_possible_inclusion p & meets_nested_inclusion q & none) =
      meets_nested_inclusion (λ π i δ b. let w = p π i δ b in q w.0 w.1 δ w.2)
  rule_sound possible_then_possible f (meets_possible_inclusion p & meets_possible_inclusion q & none) =
      meets_possible_inclusion (λ π i δ b. let w = p π i δ b in q w.0 w.1 δ w.2)
  rule_sound existential_widened (_ & f & _) (meets_existential_right p & q & meets_role_inclusion r & none) =
      meets_existential_right (λ π i δ c. let w = p π i δ c in (w.0, r π i δ w.0 w.1, everywhere f.0 q π w.0 i w.2))
  rule_sound existential_chained f (meets_existential_right p & meets_existential_right q & meets_role_chain r & none) =
      meets_existential_right (λ π i δ c. let w = p π i δ c in let z = q π i w.0 w.2 in (z.0, r π i δ w.0 z.0 w.1 z.1, z.2))
  rule_sound existential_met f (meets_existential_right p & meets_existential_left q & none) =
      meets_nested_inclusion (λ _ _ δ _ ρ j c. let w = p ρ j δ c in q ρ j δ w.0 w.1 w.2)
  rule_sound conjunction_met f (meets_nested_inclusion p & meets_nested_inclusion q & meets_conjunction_left r & none) =
      meets_nested_inclusion (λ π i δ b ρ j c. r ρ j δ (p π i δ b ρ j c) (q π i δ b ρ j c))
  rule_sound necessary_here f (p & none) =
      meets_nested_inclusion (λ _ _ δ _ ρ j c. throughout p ρ δ j c ρ j)
  rule_sound of_all_things (f & _) (p & none) =
      meets_nested_inclusion (λ _ _ δ _ ρ j c. everywhere f.0 p ρ δ j c)
  rule_sound existential_empty f (meets_existential_right p & none) =
      meets_nested_inclusion (λ _ _ δ _ ρ j c. let w = p ρ j δ c in absurd (M.bottom_none ρ w.0 w.2))
  rule_sound necessary_empty (f & _) (p & none) =
      meets_nested_inclusion (λ _ _ δ _ ρ j c. let w = M.some_in_standpoint _ f.2 in absurd (M.bottom_none w.0 δ (throughout p ρ δ j c w.0 w.1)))
  rule_sound possible_empty f (meets_possible_inclusion p & none) =
      meets_nested_inclusion (λ _ _ δ _ ρ j c. let w = p ρ j δ c in absurd (M.bottom_none w.0 δ w.2))
  rule_sound (individual_empty {a = a} individual) (f & _) (p & none) =
      let δ = M.individual_thing a individual in
      let π = M.some_in_standpoint _ f.0 in
      let ρ = M.some_in_standpoint _ f.2 in
      let is = (δ.1 π.0 (M.standpoint_within _ π.0 π.1)).0 in
      absurd (M.bottom_none ρ.0 δ.0 (throughout p π.0 δ.0 π.1 is ρ.0 ρ.1))

  pub tautology_sound : {x : Statement} → Tautology n x → Meets M x
  tautology_sound (sharper_than_all {s} _) = meets_sharper (λ π i. M.standpoint_of_all π (M.standpoint_within s π i))
  tautology_sound (sharper_than_itself _) = meets_sharper (λ π i. i)
  tautology_sound (within_itself _) = meets_nested_inclusion (λ _ _ δ _ ρ j c. c)
  tautology_sound (within_top {c} _) = meets_nested_inclusion (λ _ _ δ _ ρ j h. is_top 0 ρ ρ c δ j h)
  tautology_sound (role_within_itself _) = meets_role_inclusion (λ π i δ ε h. h)

  -- no structure meets the contradiction
  pub contradiction_unmet : Meets M contradiction → ⊥
  contradiction_unmet (meets_nested_inclusion p) =
      let δ = M.some_thing in
      let π = M.some_precisification in
      let all = M.standpoint_of_all π.0 π.1 in
      let top = M.top_all π.0 δ.0 π.1 δ.1 in
      M.bottom_none π.0 δ.0 (p π.0 all δ.0 top π.0 all top)
