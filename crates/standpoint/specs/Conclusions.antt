-- The rules as functions of their premises: what each gives, or none. They are those of Rule, put so that they can be computed.
use Rattle.std.specs.Prelude.{ℕ, ◌+◌, Bool, true, false, cond, ◌&&◌, Some, None, Option, ◌==◌, nat_le, nat_lt}
use Rattle.standpoint.specs.declared.statement.Statement.{Statement}
use Rattle.standpoint.specs.declared.premises.Premises.{Premises}
use Rattle.standpoint.specs.declared.premises.Premises.TheVariants.{One, Two, Three}
use Rattle.standpoint.specs.Statements.{sharper, intersection_sharper, nested_inclusion, possible_inclusion, existential_right, existential_left, conjunction_left, role_inclusion, role_chain, contradiction, same}
use Rattle.standpoint.specs.Rules.{in_standpoint}

-- the conclusion, where a test holds
abbrev pub given : Bool → Statement → Option Statement
given true x = Some x
given false x = None

-- the numbers of a statement, by names
abbrev pub numbers : {X : Type 0} → Statement → (ℕ → ℕ → ℕ → ℕ → ℕ → X) → X
numbers x f = f x.first x.second x.third x.fourth x.fifth

-- Each rule asks whether its premises are what it wants, with their own numbers.
abbrev pub role_transitive : Statement → Statement → Option Statement
role_transitive p q =
    numbers p (λ s r1 r2 _ _. numbers q (λ _ _ r3 _ _.
    given (same p (role_inclusion s r1 r2) && same q (role_inclusion s r2 r3)) (role_inclusion s r1 r3)))

abbrev pub sharper_transitive : Statement → Statement → Option Statement
sharper_transitive p q =
    numbers p (λ s t _ _ _. numbers q (λ _ u _ _ _.
    given (same p (sharper s t) && same q (sharper t u)) (sharper s u)))

abbrev pub sharper_than_both : Statement → Statement → Statement → Option Statement
sharper_than_both p q r =
    numbers p (λ s s1 _ _ _. numbers q (λ _ s2 _ _ _. numbers r (λ _ _ u _ _.
    given (same p (sharper s s1) && (same q (sharper s s2) && same r (intersection_sharper s1 s2 u))) (sharper s u))))

abbrev pub lowered : Statement → Statement → Option Statement
lowered x q =
    numbers q (λ s _ _ _ _.
    given (nat_le 3 x.shape && (nat_le x.shape 9 && same q (sharper s x.first))) (in_standpoint s x))

abbrev pub lowered_inside : Statement → Statement → Option Statement
lowered_inside p q =
    numbers p (λ t c u d e. numbers q (λ s _ _ _ _.
    given (same p (nested_inclusion t c u d e) && same q (sharper s u)) (nested_inclusion t c s d e)))

abbrev pub inside_transitive : Statement → Statement → Option Statement
inside_transitive p q =
    numbers p (λ t b s c d. numbers q (λ _ _ _ _ e.
    given (same p (nested_inclusion t b s c d) && same q (nested_inclusion t b s d e)) (nested_inclusion t b s c e)))

abbrev pub subsumed_nested : Statement → Statement → Option Statement
subsumed_nested p q =
    numbers p (λ v _ t b c. numbers q (λ _ _ s d e.
    given (same p (nested_inclusion v 0 t b c) && same q (nested_inclusion t c s d e)) (nested_inclusion t b s d e)))

abbrev pub subsumed_possible : Statement → Statement → Option Statement
subsumed_possible p q =
    numbers p (λ v _ t c d. numbers q (λ _ _ s e _.
    given (same p (nested_inclusion v 0 t c d) && same q (possible_inclusion t d s e)) (possible_inclusion t c s e)))

abbrev pub possible_widened : Statement → Statement → Option Statement
possible_widened p q =
    numbers p (λ t c s d _. numbers q (λ _ _ _ _ e.
    given (same p (possible_inclusion t c s d) && same q (nested_inclusion t c s d e)) (possible_inclusion t c s e)))

abbrev pub necessary_then_nested : Statement → Statement → Option Statement
necessary_then_nested p q =
    numbers p (λ t c u _ d. numbers q (λ _ _ s e f.
    given (same p (nested_inclusion t c u 0 d) && same q (nested_inclusion u d s e f)) (nested_inclusion t c s e f)))

abbrev pub necessary_then_possible : Statement → Statement → Option Statement
necessary_then_possible p q =
    numbers p (λ t c u _ d. numbers q (λ _ _ s e _.
    given (same p (nested_inclusion t c u 0 d) && same q (possible_inclusion u d s e)) (possible_inclusion t c s e)))

abbrev pub possible_then_nested : Statement → Statement → Option Statement
possible_then_nested p q =
    numbers p (λ t c u d _. numbers q (λ _ _ s e f.
    given (same p (possible_inclusion t c u d) && same q (nested_inclusion u d s e f)) (nested_inclusion t c s e f)))

abbrev pub possible_then_possible : Statement → Statement → Option Statement
possible_then_possible p q =
    numbers p (λ t c u d _. numbers q (λ _ _ s e _.
    given (same p (possible_inclusion t c u d) && same q (possible_inclusion u d s e)) (possible_inclusion t c s e)))

abbrev pub existential_widened : Statement → Statement → Statement → Option Statement
existential_widened p q r =
    numbers p (λ s c r1 d _. numbers q (λ v _ _ _ e. numbers r (λ _ _ r2 _ _.
    given (same p (existential_right s c r1 d) && (same q (nested_inclusion v 0 s d e) && same r (role_inclusion s r1 r2))) (existential_right s c r2 e))))

abbrev pub existential_chained : Statement → Statement → Statement → Option Statement
existential_chained p q r =
    numbers p (λ s c r1 d _. numbers q (λ _ _ r2 e _. numbers r (λ _ _ _ r3 _.
    given (same p (existential_right s c r1 d) && (same q (existential_right s d r2 e) && same r (role_chain s r1 r2 r3))) (existential_right s c r3 e))))

abbrev pub existential_met : Statement → Statement → Option Statement
existential_met p q =
    numbers p (λ s c r d _. numbers q (λ _ _ _ f _.
    given (same p (existential_right s c r d) && same q (existential_left s r d f)) (nested_inclusion 0 0 s c f)))

abbrev pub conjunction_met : Statement → Statement → Statement → Option Statement
conjunction_met p q r =
    numbers p (λ t b s c c1. numbers q (λ _ _ _ _ c2. numbers r (λ _ _ _ d _.
    given (same p (nested_inclusion t b s c c1) && (same q (nested_inclusion t b s c c2) && same r (conjunction_left s c1 c2 d))) (nested_inclusion t b s c d))))

abbrev pub necessary_here : Statement → Option Statement
necessary_here p =
    numbers p (λ s c _ _ d.
    given (same p (nested_inclusion s c s 0 d)) (nested_inclusion 0 0 s c d))

abbrev pub of_all_things : Statement → Option Statement
of_all_things p =
    numbers p (λ v _ s c d.
    given (same p (nested_inclusion v 0 s c d)) (nested_inclusion 0 0 s c d))

abbrev pub existential_empty : Statement → Option Statement
existential_empty p =
    numbers p (λ s c r _ _.
    given (same p (existential_right s c r 1)) (nested_inclusion 0 0 s c 1))

abbrev pub necessary_empty : Statement → Option Statement
necessary_empty p =
    numbers p (λ t c v _ _.
    given (same p (nested_inclusion t c v 0 1)) (nested_inclusion 0 0 t c 1))

abbrev pub possible_empty : Statement → Option Statement
possible_empty p =
    numbers p (λ s c v _ _.
    given (same p (possible_inclusion s c v 1)) (nested_inclusion 0 0 s c 1))

abbrev pub individual_empty : ℕ → Statement → Option Statement
individual_empty individuals p =
    numbers p (λ v a u _ _.
    given (same p (nested_inclusion v a u 0 1) && (nat_le 2 a && nat_lt a (individuals + 2))) contradiction)

abbrev pub from_one : ℕ → ℕ → Statement → Option Statement
from_one individuals rule p =
    cond (rule == 18) (necessary_here p)
    (cond (rule == 19) (of_all_things p)
    (cond (rule == 20) (existential_empty p)
    (cond (rule == 21) (necessary_empty p)
    (cond (rule == 22) (possible_empty p)
    (cond (rule == 23) (individual_empty individuals p)
    None)))))

abbrev pub from_two : ℕ → Statement → Statement → Option Statement
from_two rule p q =
    cond (rule == 1) (role_transitive p q)
    (cond (rule == 2) (sharper_transitive p q)
    (cond (rule == 4) (lowered p q)
    (cond (rule == 5) (lowered_inside p q)
    (cond (rule == 6) (inside_transitive p q)
    (cond (rule == 7) (subsumed_nested p q)
    (cond (rule == 8) (subsumed_possible p q)
    (cond (rule == 9) (possible_widened p q)
    (cond (rule == 10) (necessary_then_nested p q)
    (cond (rule == 11) (necessary_then_possible p q)
    (cond (rule == 12) (possible_then_nested p q)
    (cond (rule == 13) (possible_then_possible p q)
    (cond (rule == 16) (existential_met p q)
    None))))))))))))

abbrev pub from_three : ℕ → Statement → Statement → Statement → Option Statement
from_three rule p q r =
    cond (rule == 3) (sharper_than_both p q r)
    (cond (rule == 14) (existential_widened p q r)
    (cond (rule == 15) (existential_chained p q r)
    (cond (rule == 17) (conjunction_met p q r)
    None)))

-- the conclusion of a rule from its premises
abbrev pub conclusion : ℕ → ℕ → Premises → Option Statement
conclusion individuals rule (One p) = from_one individuals rule p
conclusion individuals rule (Two p q) = from_two rule p q
conclusion individuals rule (Three p q r) = from_three rule p q r
