-- The ranges of the sizes.
use Rattle.std.specs.Prelude.{◌+◌, ◌≤◌}
use Rattle.standpoint.specs.declared.sizes.Sizes.{Sizes}

-- 1 to 16 standpoints, 2 to 64 concepts, at most 16 roles, at most 16 individuals and no more than there are concepts beside top and bottom
pub record InRange (n : Sizes) : Type 0 where
  pub some_standpoint : 1 ≤ n.standpoints
  pub standpoints : n.standpoints ≤ 16
  pub top_and_bottom : 2 ≤ n.concepts
  pub concepts : n.concepts ≤ 64
  pub roles : n.roles ≤ 16
  pub individuals : n.individuals ≤ 16
  pub individuals_are_concepts : n.individuals + 2 ≤ n.concepts
