-- Statements by the names of their shapes, what their numbers name, and their order.
use Rattle.std.specs.Prelude.{◌≡◌, ℕ, ◌+◌, ◌<◌, ◌≤◌, Bool, cond, ◌&&◌, ◌⊎◌, Some, None, Option, ◌==◌, ◌≢◌}
use Rattle.standpoint.specs.declared.sizes.Sizes.{Sizes}
use Rattle.standpoint.specs.declared.statement.Statement.{Statement}
use Rattle.standpoint.specs.declared.statement.Sort.{Sort}
use Rattle.standpoint.specs.declared.statement.Sort.TheVariants.{Standpoint, Concept, Role, Unused}
use Rattle.standpoint.specs.declared.statement.Sorts.{Sorts}

abbrev pub statement : ℕ → ℕ → ℕ → ℕ → ℕ → ℕ → Statement
statement shape a b c d e = record { shape = shape; first = a; second = b; third = c; fourth = d; fifth = e }

-- s is sharper than or equal to u
abbrev pub sharper : ℕ → ℕ → Statement
sharper s u = statement 1 s u 0 0 0

-- what belongs to both s1 and s2 belongs to u
abbrev pub intersection_sharper : ℕ → ℕ → ℕ → Statement
intersection_sharper s1 s2 u = statement 2 s1 s2 u 0 0

-- in t, each b is, throughout s, d wherever it is c
abbrev pub nested_inclusion : ℕ → ℕ → ℕ → ℕ → ℕ → Statement
nested_inclusion t b s c d = statement 3 t b s c d

-- in t, each c is d somewhere in s
abbrev pub possible_inclusion : ℕ → ℕ → ℕ → ℕ → Statement
possible_inclusion t c s d = statement 4 t c s d 0

-- in s, each c has an r to some d
abbrev pub existential_right : ℕ → ℕ → ℕ → ℕ → Statement
existential_right s c r d = statement 5 s c r d 0

-- in s, what has an r to some c is d
abbrev pub existential_left : ℕ → ℕ → ℕ → ℕ → Statement
existential_left s r c d = statement 6 s r c d 0

-- in s, what is c1 and c2 is d
abbrev pub conjunction_left : ℕ → ℕ → ℕ → ℕ → Statement
conjunction_left s c1 c2 d = statement 7 s c1 c2 d 0

-- in s, r1 lies within r2
abbrev pub role_inclusion : ℕ → ℕ → ℕ → Statement
role_inclusion s r1 r2 = statement 8 s r1 r2 0 0

-- in s, r1 followed by r2 lies within r3
abbrev pub role_chain : ℕ → ℕ → ℕ → ℕ → Statement
role_chain s r1 r2 r3 = statement 9 s r1 r2 r3 0

-- everything is nothing, everywhere
abbrev pub contradiction : Statement
contradiction = nested_inclusion 0 0 0 0 1

abbrev pub sorts : Sort → Sort → Sort → Sort → Sort → Sorts
sorts a b c d e = record { first = a; second = b; third = c; fourth = d; fifth = e }

-- what the five numbers of each shape name
abbrev pub sorts_of : ℕ → Option Sorts
sorts_of shape =
    cond (shape == 1) (Some (sorts Standpoint Standpoint Unused Unused Unused))
    (cond (shape == 2) (Some (sorts Standpoint Standpoint Standpoint Unused Unused))
    (cond (shape == 3) (Some (sorts Standpoint Concept Standpoint Concept Concept))
    (cond (shape == 4) (Some (sorts Standpoint Concept Standpoint Concept Unused))
    (cond (shape == 5) (Some (sorts Standpoint Concept Role Concept Unused))
    (cond (shape == 6) (Some (sorts Standpoint Role Concept Concept Unused))
    (cond (shape == 7) (Some (sorts Standpoint Concept Concept Concept Unused))
    (cond (shape == 8) (Some (sorts Standpoint Role Role Unused Unused))
    (cond (shape == 9) (Some (sorts Standpoint Role Role Role Unused))
    None))))))))

-- a number is below the size of its sort, and 0 where it has no use
abbrev pub Within : Sizes → Sort → ℕ → Type 0
Within n Standpoint k = k < n.standpoints
Within n Concept k = k < n.concepts
Within n Role k = k < n.roles
Within n Unused k = k ≡ 0

abbrev pub Sorted : Sizes → Option Sorts → Statement → Type 0
Sorted n None x = ⊥
Sorted n (Some p) x =
    Within n p.first x.first × Within n p.second x.second × Within n p.third x.third
    × Within n p.fourth x.fourth × Within n p.fifth x.fifth

-- a statement has a shape, and each of its numbers is within its sort
abbrev pub Fits : Sizes → Statement → Type 0
Fits n x = Sorted n (sorts_of x.shape) x

-- the concept a is one of so many individuals
abbrev pub Individual : ℕ → ℕ → Type 0
Individual individuals a = (2 ≤ a) × (a < individuals + 2)

-- a number of this sort is an individual: only concepts are
abbrev pub NamesIndividual : ℕ → Sort → ℕ → Type 0
NamesIndividual individuals Standpoint k = ⊥
NamesIndividual individuals Concept k = Individual individuals k
NamesIndividual individuals Role k = ⊥
NamesIndividual individuals Unused k = ⊥

abbrev pub MisplacedIn : ℕ → Option Sorts → Statement → Type 0
MisplacedIn individuals None x = ⊥
MisplacedIn individuals (Some p) x =
    NamesIndividual individuals p.first x.first ⊎ (((x.shape ≢ 3) × NamesIndividual individuals p.second x.second)
    ⊎ (NamesIndividual individuals p.third x.third ⊎ (NamesIndividual individuals p.fourth x.fourth
    ⊎ NamesIndividual individuals p.fifth x.fifth)))

-- a number other than the second of a nested inclusion is an individual
abbrev pub Misplaced : ℕ → Statement → Type 0
Misplaced individuals x = MisplacedIn individuals (sorts_of x.shape) x

-- whether two statements are the same
unfoldable pub same : Statement → Statement → Bool
same x y =
    (x.shape == y.shape) && (x.first == y.first && (x.second == y.second && (x.third == y.third
    && (x.fourth == y.fourth && x.fifth == y.fifth))))

-- one place of a lexicographic order: smaller here, or the same here and smaller in the rest
abbrev pub SmallerOr : ℕ → ℕ → Type 0 → Type 0
SmallerOr m n rest = (m < n) ⊎ ((m ≡ n) × rest)

-- x stands before y: by shape, then by their numbers in turn
abbrev pub Before : Statement → Statement → Type 0
Before x y =
    SmallerOr x.shape y.shape (SmallerOr x.first y.first (SmallerOr x.second y.second
    (SmallerOr x.third y.third (SmallerOr x.fourth y.fourth (x.fifth < y.fifth)))))
