-- The tautologies and the 23 rules of the calculus.
use Rattle.std.specs.Prelude.{◌≡◌, ℕ, ◌<◌, ◌≤◌, cond, ◌||◌, List, [], ◌∷◌, length, Some, None, Option, ◌==◌, nat_le}
use Rattle.standpoint.specs.declared.statement.Statement.{Statement}
use Rattle.standpoint.specs.declared.sizes.Sizes.{Sizes}
use Rattle.standpoint.specs.declared.premises.Premises.{Premises}
use Rattle.standpoint.specs.declared.premises.Premises.TheVariants.{One, Two, Three}
use Rattle.standpoint.specs.Lists.{All}
use Rattle.standpoint.specs.Sizes.{InRange}
use Rattle.standpoint.specs.Statements.{Fits, Individual, statement, sharper, intersection_sharper, nested_inclusion, possible_inclusion, existential_right, existential_left, conjunction_left, role_inclusion, role_chain, contradiction}

-- what holds whatever is accepted
pub data Tautology (n : Sizes) : Statement → Type 0 where
  sharper_than_all : {s : ℕ} → s < n.standpoints → Tautology n (sharper s 0)
  sharper_than_itself : {s : ℕ} → s < n.standpoints → Tautology n (sharper s s)
  within_itself : {c : ℕ} → c < n.concepts → Tautology n (nested_inclusion 0 0 0 c c)
  within_top : {c : ℕ} → c < n.concepts → Tautology n (nested_inclusion 0 0 0 c 0)
  role_within_itself : {r : ℕ} → r < n.roles → Tautology n (role_inclusion 0 r r)

-- the same statement with s as its first number
abbrev pub in_standpoint : ℕ → Statement → Statement
in_standpoint s x = statement x.shape s x.second x.third x.fourth x.fifth

-- Rule individuals number premises conclusion: the rule of that number gives the conclusion from the premises, which stand in joining order
pub data Rule (individuals : ℕ) : ℕ → List Statement → Statement → Type 0 where
  role_transitive : {s r1 r2 r3 : ℕ} →
      Rule individuals 1 (role_inclusion s r1 r2 ∷ role_inclusion s r2 r3 ∷ []) (role_inclusion s r1 r3)
  sharper_transitive : {s t u : ℕ} →
      Rule individuals 2 (sharper s t ∷ sharper t u ∷ []) (sharper s u)
  sharper_than_both : {s s1 s2 u : ℕ} →
      Rule individuals 3 (sharper s s1 ∷ sharper s s2 ∷ intersection_sharper s1 s2 u ∷ []) (sharper s u)
  lowered : {x : Statement} {s : ℕ} → 3 ≤ x.shape → x.shape ≤ 9 →
      Rule individuals 4 (x ∷ sharper s x.first ∷ []) (in_standpoint s x)
  lowered_inside : {t c u s d e : ℕ} →
      Rule individuals 5 (nested_inclusion t c u d e ∷ sharper s u ∷ []) (nested_inclusion t c s d e)
  inside_transitive : {t b s c d e : ℕ} →
      Rule individuals 6 (nested_inclusion t b s c d ∷ nested_inclusion t b s d e ∷ []) (nested_inclusion t b s c e)
  subsumed_nested : {v t b c s d e : ℕ} →
      Rule individuals 7 (nested_inclusion v 0 t b c ∷ nested_inclusion t c s d e ∷ []) (nested_inclusion t b s d e)
  subsumed_possible : {v t c d s e : ℕ} →
      Rule individuals 8 (nested_inclusion v 0 t c d ∷ possible_inclusion t d s e ∷ []) (possible_inclusion t c s e)
  possible_widened : {t c s d e : ℕ} →
      Rule individuals 9 (possible_inclusion t c s d ∷ nested_inclusion t c s d e ∷ []) (possible_inclusion t c s e)
  necessary_then_nested : {t c u d s e f : ℕ} →
      Rule individuals 10 (nested_inclusion t c u 0 d ∷ nested_inclusion u d s e f ∷ []) (nested_inclusion t c s e f)
  necessary_then_possible : {t c u d s e : ℕ} →
      Rule individuals 11 (nested_inclusion t c u 0 d ∷ possible_inclusion u d s e ∷ []) (possible_inclusion t c s e)
  possible_then_nested : {t c u d s e f : ℕ} →
      Rule individuals 12 (possible_inclusion t c u d ∷ nested_inclusion u d s e f ∷ []) (nested_inclusion t c s e f)
  possible_then_possible : {t c u d s e : ℕ} →
      Rule individuals 13 (possible_inclusion t c u d ∷ possible_inclusion u d s e ∷ []) (possible_inclusion t c s e)
  existential_widened : {s c r1 r2 d v e : ℕ} →
      Rule individuals 14 (existential_right s c r1 d ∷ nested_inclusion v 0 s d e ∷ role_inclusion s r1 r2 ∷ []) (existential_right s c r2 e)
  existential_chained : {s c r1 r2 r3 d e : ℕ} →
      Rule individuals 15 (existential_right s c r1 d ∷ existential_right s d r2 e ∷ role_chain s r1 r2 r3 ∷ []) (existential_right s c r3 e)
  existential_met : {s c r d f : ℕ} →
      Rule individuals 16 (existential_right s c r d ∷ existential_left s r d f ∷ []) (nested_inclusion 0 0 s c f)
  conjunction_met : {t b s c c1 c2 d : ℕ} →
      Rule individuals 17 (nested_inclusion t b s c c1 ∷ nested_inclusion t b s c c2 ∷ conjunction_left s c1 c2 d ∷ []) (nested_inclusion t b s c d)
  necessary_here : {s c d : ℕ} →
      Rule individuals 18 (nested_inclusion s c s 0 d ∷ []) (nested_inclusion 0 0 s c d)
  of_all_things : {v s c d : ℕ} →
      Rule individuals 19 (nested_inclusion v 0 s c d ∷ []) (nested_inclusion 0 0 s c d)
  existential_empty : {s c r : ℕ} →
      Rule individuals 20 (existential_right s c r 1 ∷ []) (nested_inclusion 0 0 s c 1)
  necessary_empty : {t c v : ℕ} →
      Rule individuals 21 (nested_inclusion t c v 0 1 ∷ []) (nested_inclusion 0 0 t c 1)
  possible_empty : {s c v : ℕ} →
      Rule individuals 22 (possible_inclusion s c v 1 ∷ []) (nested_inclusion 0 0 s c 1)
  individual_empty : {v a u : ℕ} → Individual individuals a →
      Rule individuals 23 (nested_inclusion v a u 0 1 ∷ []) contradiction

-- the premises in joining order
abbrev pub listed : Premises → List Statement
listed (One p) = p ∷ []
listed (Two p q) = p ∷ q ∷ []
listed (Three p q r) = p ∷ q ∷ r ∷ []

-- the one conclusion of the rule from these premises, or that there is none
abbrev pub Concluded : ℕ → ℕ → List Statement → Option Statement → Type 0
Concluded individuals rule premises None = (x : Statement) → Rule individuals rule premises x → ⊥
Concluded individuals rule premises (Some x) = Rule individuals rule premises x × ((y : Statement) → Rule individuals rule premises y → y ≡ x)

-- how many premises the rule of a number has, 0 if there is no such rule
abbrev pub arity_of : ℕ → ℕ
arity_of rule =
    cond (rule == 0) 0
    (cond (rule == 3 || (rule == 14 || (rule == 15 || rule == 17))) 3
    (cond (nat_le rule 17) 2
    (cond (nat_le rule 23) 1
    0)))

-- whatever the rule gives has so many premises
pub record HasArity (rule count : ℕ) : Type 0 where
  pub value : count ≡ arity_of rule
  pub premises : (individuals : ℕ) (premises : List Statement) (x : Statement) → Rule individuals rule premises x → length premises ≡ count

-- a conclusion fits all sizes that its premises fit
abbrev pub FitsAs : ℕ → List Statement → Option Statement → Type 0
FitsAs individuals premises None = Unit {0}
FitsAs individuals premises (Some x) = (n : Sizes) → n.individuals ≡ individuals → InRange n → All (Fits n) premises → Fits n x
