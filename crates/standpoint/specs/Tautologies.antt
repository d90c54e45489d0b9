-- The tautologies, as a list and as a test.
use Rattle.std.specs.Prelude.{◌≡◌, ℕ, ◌+◌, ◌-◌, ◌*◌, Bool, ◌&&◌, ◌||◌, List, ◌++◌, map, length, nat_lt}
use Rattle.std.specs.List.{range_with_len}
use Rattle.standpoint.specs.declared.sizes.Sizes.{Sizes}
use Rattle.standpoint.specs.declared.statement.Statement.{Statement}
use Rattle.standpoint.specs.Lists.{In, Distinct}
use Rattle.standpoint.specs.Sizes.{InRange}
use Rattle.standpoint.specs.Statements.{sharper, nested_inclusion, role_inclusion, same}
use Rattle.standpoint.specs.Rules.{Tautology}

-- all tautologies; what is sharper than itself or within itself begins at 1, since 0 is covered before
abbrev pub tautologies : Sizes → List Statement
tautologies n =
    map (λ s. sharper s 0) (range_with_len 0 n.standpoints)
    ++ (map (λ s. sharper s s) (range_with_len 1 (n.standpoints - 1))
    ++ (map (λ c. nested_inclusion 0 0 0 c c) (range_with_len 0 n.concepts)
    ++ (map (λ c. nested_inclusion 0 0 0 c 0) (range_with_len 1 (n.concepts - 1))
    ++ map (λ r. role_inclusion 0 r r) (range_with_len 0 n.roles))))

-- the list has each tautology once, and nothing else
pub record ListsTautologies (n : Sizes) (count : ℕ) : Type 0 where
  pub long : length (tautologies n) ≡ count
  pub counted : InRange n → count + 2 ≡ 2 * n.standpoints + 2 * n.concepts + n.roles
  pub distinct : Distinct (tautologies n)
  pub sound : (x : Statement) → In (tautologies n) x → Tautology n x
  pub complete : (x : Statement) → Tautology n x → In (tautologies n) x

-- whether a statement is a tautology on standpoints, on concepts or on roles
abbrev pub on_standpoints : Sizes → Statement → Bool
on_standpoints n x = nat_lt x.first n.standpoints && (same x (sharper x.first 0) || same x (sharper x.first x.first))

abbrev pub on_concepts : Sizes → Statement → Bool
on_concepts n x =
    nat_lt x.fourth n.concepts && (same x (nested_inclusion 0 0 0 x.fourth x.fourth) || same x (nested_inclusion 0 0 0 x.fourth 0))

abbrev pub on_roles : Sizes → Statement → Bool
on_roles n x = nat_lt x.second n.roles && same x (role_inclusion 0 x.second x.second)
