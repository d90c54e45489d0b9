-- A run that can be computed: what is settled, and each known statement that is not, at its present grade.
use Rattle.std.specs.Prelude.{ℕ, zero, suc, ◌+◌, Bool, false, cond, not, ◌&&◌, ◌||◌, List, [], ◌∷◌, ◌++◌, map, length, Some, None, filter, Option, ◌==◌, nat_eq, nat_lt}
use Rattle.std.specs.List.{range_with_len}
use Rattle.standpoint.specs.declared.sizes.Sizes.{Sizes}
use Rattle.standpoint.specs.declared.statement.Statement.{Statement}
use Rattle.standpoint.specs.declared.statement.Sort.{Sort}
use Rattle.standpoint.specs.declared.statement.Sort.TheVariants.{Standpoint, Concept, Role, Unused}
use Rattle.standpoint.specs.declared.statement.Sorts.{Sorts}
use Rattle.standpoint.specs.declared.premises.Premises.TheVariants.{One, Two, Three}
use Rattle.standpoint.specs.Algebra.{Algebra}
use Rattle.standpoint.specs.Statements.{same, sorts_of}
use Rattle.standpoint.specs.Rules.{arity_of}
use Rattle.standpoint.specs.Conclusions.{conclusion}
use Rattle.standpoint.specs.Tautologies.{tautologies}
use Rattle.standpoint.specs.Derivations.{Base}
use Rattle.runs.specs.declared.Stand.{Stand}
use Rattle.runs.specs.declared.Stand.TheVariants.{Open, Ended, Full}
use Rattle.runs.specs.Runs.{Settled}

-- one place of the order of statements, and the whole order, as tests
unfoldable pub smaller_or : ℕ → ℕ → Bool → Bool
smaller_or m n rest = nat_lt m n || (m == n && rest)

abbrev pub before : Statement → Statement → Bool
before x y =
    smaller_or x.shape y.shape (smaller_or x.first y.first (smaller_or x.second y.second
    (smaller_or x.third y.third (smaller_or x.fourth y.fourth (nat_lt x.fifth y.fifth)))))

-- whether a number is below the size of its sort, and whether a statement fits the sizes
abbrev pub within : Sizes → Sort → ℕ → Bool
within n Standpoint k = nat_lt k n.standpoints
within n Concept k = nat_lt k n.concepts
within n Role k = nat_lt k n.roles
within n Unused k = k == 0

abbrev pub sorted : Sizes → Option Sorts → Statement → Bool
sorted n None x = false
sorted n (Some p) x =
    within n p.first x.first && (within n p.second x.second && (within n p.third x.third
    && (within n p.fourth x.fourth && within n p.fifth x.fifth)))

abbrev pub fits : Sizes → Statement → Bool
fits n x = sorted n (sorts_of x.shape) x

-- what f gives for each of a list
unfoldable pub each : {X Y : Type 0} → List X → (X → List Y) → List Y
each [] f = []
each (x ∷ xs) f = f x ++ each xs f

-- the rules with so many premises
abbrev pub rules_of : ℕ → List ℕ
rules_of count = filter (λ rule. nat_eq (arity_of rule) count) (range_with_len 1 23)

-- the shape of the third premise of a rule that has three
abbrev pub third_shape : ℕ → ℕ
third_shape rule = cond (rule == 3) 2 (cond (rule == 14) 8 (cond (rule == 15) 9 7))

module _ {G : Type 0} where
  -- a conclusion, if there is one, at a grade
  abbrev pub graded : G → Option Statement → Settled G
  graded g None = []
  graded g (Some x) = (x, g) ∷ []

  -- whether x is settled
  abbrev pub is_settled : Settled G → Statement → Bool
  is_settled [] x = false
  is_settled (p ∷ ps) x = same p.0 x || is_settled ps x

  -- what waits besides x
  abbrev pub without : Statement → Settled G → Settled G
  without x ps = filter (λ p. not (same p.0 x)) ps

  -- whether what is settled and what waits outnumber the rows
  abbrev pub full : ℕ → Settled G → Settled G → Bool
  full rows settled waiting = nat_lt rows (length settled + length waiting)

  -- how the run stands
  abbrev pub stand : ℕ → Settled G → Settled G → Stand
  stand rows settled [] = cond (full rows settled []) Full Ended
  stand rows settled (o ∷ os) = cond (full rows settled (o ∷ os)) Full Open

module _ {G : Type 0} (a : Algebra G) where
  -- the leaves: what is accepted and fits, and the tautologies
  abbrev pub leaves : Base G → Settled G
  leaves base = filter (λ o. fits base.sizes o.0) base.accepted ++ map (λ x. (x, a.start)) (tautologies base.sizes)

  -- what the rules with one, two and three premises give from premises of given lists
  abbrev pub by_one : ℕ → Settled G → Settled G
  by_one individuals ps = each (rules_of 1) (λ rule. each ps (λ p. graded p.1 (conclusion individuals rule (One p.0))))

  abbrev pub by_two : ℕ → Settled G → Settled G → Settled G
  by_two individuals ps qs =
      each (rules_of 2) (λ rule. each ps (λ p. each qs (λ q.
      graded (a.join p.1 q.1) (conclusion individuals rule (Two p.0 q.0)))))

  abbrev pub by_three : ℕ → Settled G → Settled G → Settled G → Settled G
  by_three individuals ps qs rs =
      each (rules_of 3) (λ rule. each (filter (λ r. nat_eq r.0.shape (third_shape rule)) rs) (λ r. each ps (λ p. each qs (λ q.
      graded (a.join (a.join p.1 q.1) r.1) (conclusion individuals rule (Three p.0 q.0 r.0))))))

  -- every step that has the new one among its premises
  abbrev pub steps_with : ℕ → Statement × G → Settled G → Settled G
  steps_with individuals new settled =
      let only = new ∷ [] in
      let all = settled ++ only in
      by_one individuals only
      ++ (by_two individuals only all ++ (by_two individuals settled only
      ++ (by_three individuals only all all ++ (by_three individuals settled only all ++ by_three individuals settled settled only))))

  -- an offer is taken in: its statement is new, or keeps the better grade
  abbrev pub take_in : Statement × G → Settled G → Settled G
  take_in o [] = o ∷ []
  take_in o (p ∷ ps) = cond (same p.0 o.0) (cond (a.no_worse p.1 o.1) p o ∷ ps) (p ∷ take_in o ps)

  -- all offers for unsettled statements are taken in
  abbrev pub gather : Settled G → Settled G → Settled G → Settled G
  gather settled [] waiting = waiting
  gather settled (o ∷ os) waiting = gather settled os (cond (is_settled settled o.0) waiting (take_in o waiting))

  -- o goes before p: it is better, or as good and its statement stands before
  abbrev pub goes_before : Statement × G → Statement × G → Bool
  goes_before o p = a.no_worse o.1 p.1 && (not (a.no_worse p.1 o.1) || before o.0 p.0)

  -- the one that goes before all others
  abbrev pub first_of : Statement × G → Settled G → Statement × G
  first_of o [] = o
  first_of o (p ∷ ps) = first_of (cond (goes_before p o) p o) ps

  -- settling so many times, unless the run stands ended or full before: what is settled in turn, and how the run then stands
  abbrev pub settle : ℕ → ℕ → ℕ → Settled G → Settled G → Settled G × Stand
  settle individuals rows zero settled waiting = ([], stand rows settled waiting)
  settle individuals rows (suc n) settled [] = ([], stand rows settled [])
  settle individuals rows (suc n) settled (o ∷ os) =
      let new = first_of o os in
      let now = settled ++ new ∷ [] in
      let rest = settle individuals rows n now (gather now (steps_with individuals new settled) (without new.0 (o ∷ os))) in
      cond (full rows settled (o ∷ os)) ([], Full) (new ∷ rest.0, rest.1)

  -- the run from its beginning
  abbrev pub model : Base G → ℕ → ℕ → Settled G × Stand
  model base rows n = settle base.sizes.individuals rows n [] (gather [] (leaves base) [])
