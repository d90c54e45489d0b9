-- The functions of the rules are what the rules say.
use Rattle.std.proofs.Common.{◌≡◌, ℕ, ◌+◌, Bool, true, false, cond, ◌&&◌, eqb, ltb, leb, List, [], ◌∷◌, Some, None, Option, sym, refl, subst, arith, ltb-true, lt-ltb, le-leb, leb-true}
use Rattle.standpoint.specs.declared.statement.Statement.{Statement}
use Rattle.standpoint.specs.declared.premises.Premises.{Premises}
use Rattle.standpoint.specs.declared.premises.Premises.TheVariants.{One, Two, Three}
use Rattle.standpoint.specs.Statements.{same, sharper, nested_inclusion, contradiction, Individual}
use Rattle.standpoint.specs.Rules.{Rule, Concluded, listed, in_standpoint}
use Rattle.standpoint.specs.Rules.Rule.{role_transitive, sharper_transitive, sharper_than_both, lowered, lowered_inside, inside_transitive, subsumed_nested, subsumed_possible, possible_widened, necessary_then_nested, necessary_then_possible, possible_then_nested, possible_then_possible, existential_widened, existential_chained, existential_met, conjunction_met, necessary_here, of_all_things, existential_empty, necessary_empty, possible_empty, individual_empty}
use Rattle.standpoint.specs.Conclusions.{given, from_one, from_two, from_three, conclusion}
use Rattle.standpoint.proofs.Testing.{same_true, same_refl, and_true, at_number}

none_some : {y : Statement} → None ≡ Some y → ⊥
none_some h = let z : ◌≡◌ {A = ℕ} 0 1 = cc in omega arith

given_some : (b : Bool) (x y : Statement) → given b x ≡ Some y → (b ≡ true) × (x ≡ y)
given_some true x y h = (refl, cc)
given_some false x y h = absurd (grind arith)

-- a rule's answer, from its test: the premises are what the rule asks for
module _ {i n : ℕ} (x y : Statement) where
  tested : {premises asked : List Statement} (b : Bool) → given b x ≡ Some y → (b ≡ true → (premises ≡ asked) × Rule i n asked x) → Rule i n premises y
  tested {premises} {asked} b h holds =
      let g = given_some b x y h in
      let k = holds g.0 in
      subst (λ z. Rule i n z y) (sym k.0) (subst (λ z. Rule i n asked z) g.1 k.1)

  one_tested : (p a : Statement) → given (same p a) x ≡ Some y → Rule i n (a ∷ []) x → Rule i n (p ∷ []) y
  one_tested p a h rule = tested _ h (λ t. let e = same_true p a t in (cc, rule))

  two_tested : (p q a b : Statement) → given (same p a && same q b) x ≡ Some y → Rule i n (a ∷ b ∷ []) x → Rule i n (p ∷ q ∷ []) y
  two_tested p q a b h rule =
      tested _ h (λ t. let both = and_true _ _ t in let e = same_true p a both.0 in let f = same_true q b both.1 in (cc, rule))

  three_tested : (p q r a b c : Statement) → given (same p a && (same q b && same r c)) x ≡ Some y → Rule i n (a ∷ b ∷ c ∷ []) x →
      Rule i n (p ∷ q ∷ r ∷ []) y
  three_tested p q r a b c h rule =
      tested _ h (λ t. let both = and_true _ _ t in let rest = and_true _ _ both.1 in
      let e = same_true p a both.0 in let f = same_true q b rest.0 in let g = same_true r c rest.1 in (cc, rule))

lowered_tested : {i : ℕ} (x q y : Statement) → given (leb 3 x.shape && (leb x.shape 9 && same q (sharper q.first x.first))) (in_standpoint q.first x) ≡ Some y →
    Rule i 4 (x ∷ q ∷ []) y
lowered_tested x q y h =
    tested (in_standpoint q.first x) y _ h (λ t. let both = and_true _ _ t in let rest = and_true _ _ both.1 in
    let e = same_true q (sharper q.first x.first) rest.1 in (cc, lowered {x = x} {s = q.first} (leb-true _ _ both.0) (leb-true _ _ rest.0)))

individual_tested : {i : ℕ} (p a y : Statement) (k : ℕ) → given (same p a && (leb 2 k && ltb k (i + 2))) contradiction ≡ Some y →
    (Individual i k → Rule i 23 (a ∷ []) contradiction) → Rule i 23 (p ∷ []) y
individual_tested p a y k h rule =
    tested contradiction y _ h (λ t. let both = and_true _ _ t in let rest = and_true _ _ both.1 in
    let e = same_true p a both.0 in (cc, rule (leb-true _ _ rest.0, ltb-true _ _ rest.1)))

-- one rule after the other
at_rule : {i : ℕ} {premises : List Statement} (rule n : ℕ) (here rest : Option Statement) (y : Statement) → cond (eqb rule n) here rest ≡ Some y →
    (here ≡ Some y → Rule i n premises y) → (rest ≡ Some y → Rule i rule premises y) → Rule i rule premises y
at_rule {i} {premises} rule n here rest y = at_number (λ m. Rule i m premises y) rule n here rest (Some y)

one_sound : {i : ℕ} (rule : ℕ) (p y : Statement) → from_one i rule p ≡ Some y → Rule i rule (p ∷ []) y
one_sound rule p y k =
    at_rule rule 18 _ _ y k (λ h. one_tested _ y p _ h necessary_here) (λ k.
    at_rule rule 19 _ _ y k (λ h. one_tested _ y p _ h of_all_things) (λ k.
    at_rule rule 20 _ _ y k (λ h. one_tested _ y p _ h existential_empty) (λ k.
    at_rule rule 21 _ _ y k (λ h. one_tested _ y p _ h necessary_empty) (λ k.
    at_rule rule 22 _ _ y k (λ h. one_tested _ y p _ h possible_empty) (λ k.
    at_rule rule 23 _ _ y k (λ h. individual_tested p _ y _ h individual_empty) (λ k.
    absurd (none_some k)))))))

two_sound : {i : ℕ} (rule : ℕ) (p q y : Statement) → from_two rule p q ≡ Some y → Rule i rule (p ∷ q ∷ []) y
two_sound rule p q y k =
    at_rule rule 1 _ _ y k (λ h. two_tested _ y p q _ _ h role_transitive) (λ k.
    at_rule rule 2 _ _ y k (λ h. two_tested _ y p q _ _ h sharper_transitive) (λ k.
    at_rule rule 4 _ _ y k (λ h. lowered_tested p q y h) (λ k.
    at_rule rule 5 _ _ y k (λ h. two_tested _ y p q _ _ h lowered_inside) (λ k.
    at_rule rule 6 _ _ y k (λ h. two_tested _ y p q _ _ h inside_transitive) (λ k.
    at_rule rule 7 _ _ y k (λ h. two_tested _ y p q _ _ h subsumed_nested) (λ k.
    at_rule rule 8 _ _ y k (λ h. two_tested _ y p q _ _ h subsumed_possible) (λ k.
    at_rule rule 9 _ _ y k (λ h. two_tested _ y p q _ _ h possible_widened) (λ k.
    at_rule rule 10 _ _ y k (λ h. two_tested _ y p q _ _ h necessary_then_nested) (λ k.
    at_rule rule 11 _ _ y k (λ h. two_tested _ y p q _ _ h necessary_then_possible) (λ k.
    at_rule rule 12 _ _ y k (λ h. two_tested _ y p q _ _ h possible_then_nested) (λ k.
    at_rule rule 13 _ _ y k (λ h. two_tested _ y p q _ _ h possible_then_possible) (λ k.
    at_rule rule 16 _ _ y k (λ h. two_tested _ y p q _ _ h existential_met) (λ k.
    absurd (none_some k))))))))))))))

three_sound : {i : ℕ} (rule : ℕ) (p q r y : Statement) → from_three rule p q r ≡ Some y → Rule i rule (p ∷ q ∷ r ∷ []) y
three_sound rule p q r y k =
    at_rule rule 3 _ _ y k (λ h. three_tested _ y p q r _ _ _ h sharper_than_both) (λ k.
    at_rule rule 14 _ _ y k (λ h. three_tested _ y p q r _ _ _ h existential_widened) (λ k.
    at_rule rule 15 _ _ y k (λ h. three_tested _ y p q r _ _ _ h existential_chained) (λ k.
    at_rule rule 17 _ _ y k (λ h. three_tested _ y p q r _ _ _ h conjunction_met) (λ k.
    absurd (none_some k)))))

-- a rule's own premises pass its test
one_passes : (a x : Statement) → given (same a a) x ≡ Some x
one_passes a x = rw (same_refl a)

two_pass : (a b x : Statement) → given (same a a && same b b) x ≡ Some x
two_pass a b x = rw (same_refl a, same_refl b)

three_pass : (a b c x : Statement) → given (same a a && (same b b && same c c)) x ≡ Some x
three_pass a b c x = rw (same_refl a, same_refl b, same_refl c)

one_complete : {i rule : ℕ} {p y : Statement} → Rule i rule (p ∷ []) y → from_one i rule p ≡ Some y
one_complete necessary_here = one_passes _ _
one_complete of_all_things = one_passes _ _
one_complete existential_empty = one_passes _ _
one_complete necessary_empty = one_passes _ _
one_complete possible_empty = one_passes _ _
one_complete (individual_empty {v} {a} {u} k) = rw (same_refl (nested_inclusion v a u 0 1), le-leb _ _ k.0, lt-ltb _ _ k.1)

two_complete : {i rule : ℕ} {p q y : Statement} → Rule i rule (p ∷ q ∷ []) y → from_two rule p q ≡ Some y
two_complete role_transitive = two_pass _ _ _
two_complete sharper_transitive = two_pass _ _ _
two_complete (lowered {x} {s} low high) = rw (le-leb _ _ low, le-leb _ _ high, same_refl (sharper s x.first))
two_complete lowered_inside = two_pass _ _ _
two_complete inside_transitive = two_pass _ _ _
two_complete subsumed_nested = two_pass _ _ _
two_complete subsumed_possible = two_pass _ _ _
two_complete possible_widened = two_pass _ _ _
two_complete necessary_then_nested = two_pass _ _ _
two_complete necessary_then_possible = two_pass _ _ _
two_complete possible_then_nested = two_pass _ _ _
two_complete possible_then_possible = two_pass _ _ _
two_complete existential_met = two_pass _ _ _

three_complete : {i rule : ℕ} {p q r y : Statement} → Rule i rule (p ∷ q ∷ r ∷ []) y → from_three rule p q r ≡ Some y
three_complete sharper_than_both = three_pass _ _ _ _
three_complete existential_widened = three_pass _ _ _ _
three_complete existential_chained = three_pass _ _ _ _
three_complete conjunction_met = three_pass _ _ _ _

exact : {i rule : ℕ} {premises : List Statement} (r : Option Statement) → ((y : Statement) → r ≡ Some y → Rule i rule premises y) →
    ((y : Statement) → Rule i rule premises y → r ≡ Some y) → Concluded i rule premises r
exact None sound complete = λ y h. none_some (complete y h)
exact (Some x) sound complete = (sound x refl, λ y h. let e = complete y h in cc)

-- the computed conclusion is that of the rule
computed : (individuals rule : ℕ) (premises : Premises) → Concluded individuals rule (listed premises) (conclusion individuals rule premises)
computed i rule (One p) = exact _ (one_sound rule p) (λ y. one_complete)
computed i rule (Two p q) = exact _ (two_sound rule p q) (λ y. two_complete)
computed i rule (Three p q r) = exact _ (three_sound rule p q r) (λ y. three_complete)

pub concluded : (individuals rule : ℕ) (premises : Premises) (r : Option Statement) → r ≡ conclusion individuals rule premises →
    Concluded individuals rule (listed premises) r
concluded i rule premises r e = subst (Concluded i rule (listed premises)) (sym e) (computed i rule premises)
