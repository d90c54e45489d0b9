-- The rules by their numbers.
use Rattle.std.specs.Prelude.{◌≡◌, ℕ, ◌<◌, ◌⊎◌, Ok, Err, Result}
use Rattle.standpoint.specs.declared.rules.named.Rule.{Rule}
use Rattle.standpoint.specs.declared.rules.named.Rule.TheVariants.{RoleTransitive, SharperTransitive, SharperThanBoth, Lowered, LoweredInside, InsideTransitive, SubsumedNested, SubsumedPossible, PossibleWidened, NecessaryThenNested, NecessaryThenPossible, PossibleThenNested, PossibleThenPossible, ExistentialWidened, ExistentialChained, ExistentialMet, ConjunctionMet, NecessaryHere, OfAllThings, ExistentialEmpty, NecessaryEmpty, PossibleEmpty, IndividualEmpty}
use Rattle.standpoint.specs.declared.rules.named.UnknownRule.{UnknownRule}

abbrev pub number_of_rule : Rule → ℕ
number_of_rule RoleTransitive = 1
number_of_rule SharperTransitive = 2
number_of_rule SharperThanBoth = 3
number_of_rule Lowered = 4
number_of_rule LoweredInside = 5
number_of_rule InsideTransitive = 6
number_of_rule SubsumedNested = 7
number_of_rule SubsumedPossible = 8
number_of_rule PossibleWidened = 9
number_of_rule NecessaryThenNested = 10
number_of_rule NecessaryThenPossible = 11
number_of_rule PossibleThenNested = 12
number_of_rule PossibleThenPossible = 13
number_of_rule ExistentialWidened = 14
number_of_rule ExistentialChained = 15
number_of_rule ExistentialMet = 16
number_of_rule ConjunctionMet = 17
number_of_rule NecessaryHere = 18
number_of_rule OfAllThings = 19
number_of_rule ExistentialEmpty = 20
number_of_rule NecessaryEmpty = 21
number_of_rule PossibleEmpty = 22
number_of_rule IndividualEmpty = 23

-- the rule of a number, or that none has it: they are counted from 1 to 23
abbrev pub Named : ℕ → Result Rule UnknownRule → Type 0
Named number (Ok rule) = number_of_rule rule ≡ number
Named number (Err unknown) = (unknown.0 ≡ number) × ((number ≡ 0) ⊎ (23 < number))
