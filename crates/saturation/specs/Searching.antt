-- What a search offers.
use Rattle.std.specs.Prelude.{◌≡◌, ◌==◌, cond, ℕ, ◌<◌, ◌≤◌, Bool, true, false, List, [], ◌∷◌, ◌++◌, length, Some, slice_index_or}
use Rattle.standpoint.specs.declared.statement.Statement.{Statement}
use Rattle.standpoint.specs.Lists.{In}
use Rattle.standpoint.specs.Algebra.{Algebra}
use Rattle.standpoint.specs.Rules.{arity_of}
use Rattle.standpoint.specs.Derivations.{Base}
use Rattle.saturation.specs.declared.places.Position.{Position}
use Rattle.saturation.specs.declared.places.Position.TheVariants.{First, Second, Third}
use Rattle.saturation.specs.Tables.{State, row_at, statement_at, turn_at, OpenAt, Absent, has_room}
use Rattle.saturation.specs.declared.lane.Lane.{Lane}
use Rattle.saturation.specs.Lanes.{Within}
use Rattle.saturation.specs.Memory.{Offered}
use Rattle.saturation.specs.Places.{Step, kept_of}
use Rattle.saturation.specs.Offering.{Apart, Ranked, Grown, RowsRight}

-- the k-th settled statement with its grade, as the rows have it
abbrev pub Premise : {G : Type 0} → State G → ℕ → Statement × G → Type 0
Premise {G} s k p = (statement_at s (turn_at s k) ≡ p.0) × ((d : G) → slice_index_or s.grades (turn_at s k) d ≡ p.1)

-- what the rows hold at settling places; d stands past the end of the grades
abbrev pub premises_in : {G : Type 0} → State G → G → List ℕ → List (Statement × G)
premises_in s d [] = []
premises_in s d (k ∷ ks) = (statement_at s (turn_at s k), slice_index_or s.grades (turn_at s k) d) ∷ premises_in s d ks

-- each of the places is settled
abbrev pub SettledPlaces : ℕ → List ℕ → Type 0
SettledPlaces settled [] = Unit {0}
SettledPlaces settled (k ∷ ks) = (k < settled) × SettledPlaces settled ks

-- the rows hold this list as settled, in settling order
pub record Lists {G : Type 0} (s : State G) (settled : List (Statement × G)) : Type 0 where
  pub long : length settled ≡ s.settled
  pub holds : (k : ℕ) → k < s.settled → (d : Statement × G) → Premise s k (slice_index_or settled k d)
  pub marked : (k : ℕ) → k < s.settled → (row_at s (turn_at s k)).place ≡ Some k
  pub back : (i : ℕ) → i < s.len → (OpenAt s i → ⊥) → (k : ℕ) × (k < s.settled) × (turn_at s k ≡ i)

-- each of these follows by a rule, the last one first, and was offered with that step, and had a row; nothing else led from s to t
pub data OfferedEach {G : Type 0} (a : Algebra G) (individuals : ℕ) (settled : List (Statement × G)) (s : State G) :
    List (Statement × G) → State G → Type 0 where
  none : OfferedEach a individuals settled s [] s
  one_more : {os : List (Statement × G)} {t u : State G} (o : Statement × G) (rule : ℕ) (places : List ℕ) → OfferedEach a individuals settled s os t →
      Step a individuals settled rule places o → Offered a t u o.0 o.1 (kept_of rule places) true → OfferedEach a individuals settled s (o ∷ os) u

-- from s to t some list was offered: nothing that is not of May, and everything of Sure unless a row was missing (r)
pub record Enumerated {G : Type 0} (a : Algebra G) (individuals : ℕ) (settled : List (Statement × G)) (s t : State G)
    (Sure May : Statement × G → Type 0) (r : Bool) : Type 0 where
  pub os : List (Statement × G)
  pub each : OfferedEach a individuals settled s os t
  pub ranked : r ≡ true → (offered : List (Statement × G)) → Ranked a s offered → Ranked a t (os ++ offered)
  pub sound : (o : Statement × G) → In os o → May o
  pub complete : r ≡ true → (o : Statement × G) → Sure o → In os o

-- something of May has no row
pub record Stuck {G : Type 0} (t : State G) (May : Statement × G → Type 0) : Type 0 where
  pub o : Statement × G
  pub may : May o
  pub absent : Absent t o.0

-- each row that is new is of May
abbrev pub NewFrom : {G : Type 0} → State G → State G → (Statement × G → Type 0) → Type 0
NewFrom {G} s t May = (k : ℕ) → s.len ≤ k → k < t.len → (g : G) × May (statement_at t k, g)

-- all of Sure was offered and nothing that is not of May, or no row is free, and something of May found none
pub record Went {G : Type 0} (a : Algebra G) (individuals : ℕ) (s t : State G) (Sure May : List (Statement × G) → Statement × G → Type 0) (r : Bool) : Type 0 where
  pub grown : Grown s t
  pub apart : Apart s → Apart t
  pub new : (settled : List (Statement × G)) → Lists s settled → NewFrom s t (May settled)
  pub all : (settled : List (Statement × G)) → Lists s settled → Enumerated a individuals settled s t (Sure settled) (May settled) r
  pub full : r ≡ false → has_room t ≡ false
  pub stuck : r ≡ false → (settled : List (Statement × G)) → Lists s settled → Stuck t (May settled)
  pub keeps : (base : Base G) → base.sizes.individuals ≡ individuals → (settled : List (Statement × G)) → Lists s settled → RowsRight a base settled s → RowsRight a base settled t

-- the one at k is settled, and on a lane
abbrev pub OnLane : {G : Type 0} → Lane → List (Statement × G) → ℕ → Type 0
OnLane {G} lane settled k = (k < length settled) × ((d : Statement × G) → Within lane k (slice_index_or settled k d).0)

-- two, n at this position
abbrev pub paired : {X : Type 0} → Position → X → X → List X
paired First n i = n ∷ i ∷ []
paired Second n i = i ∷ n ∷ []
paired Third n i = i ∷ n ∷ []

-- three, n at this position: i is its partner by the rule, and j the last
abbrev pub arranged : {X : Type 0} → ℕ → Position → X → X → X → List X
arranged rule First n i j = n ∷ j ∷ i ∷ []
arranged rule Second n i j = cond (rule == 14) (i ∷ n ∷ j ∷ []) (j ∷ n ∷ i ∷ [])
arranged rule Third n i j = i ∷ j ∷ n ∷ []

-- as many as the rule has premises, j the last
abbrev pub seated : ℕ → Position → ℕ → ℕ → ℕ → List ℕ
seated rule position n i j = cond (arity_of rule == 1) (n ∷ []) (cond (arity_of rule == 2) (paired position n j) (arranged rule position n i j))
