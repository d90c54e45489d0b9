-- Sizes in their ranges.
use Rattle.std.proofs.Common.{ℕ, ◌+◌, ◌≤◌}
use Rattle.standpoint.specs.Sizes.{InRange}
use Rattle.worked.specs.Lists.{sizes}

pub ranged : (standpoints concepts roles individuals : ℕ) → 1 ≤ standpoints → standpoints ≤ 16 → 2 ≤ concepts → concepts ≤ 64 → roles ≤ 16 → individuals ≤ 16 → individuals + 2 ≤ concepts →
    InRange (sizes standpoints concepts roles individuals)
ranged standpoints concepts roles individuals some few names most related known within = record {
  some_standpoint = some;
  standpoints = few;
  top_and_bottom = names;
  concepts = most;
  roles = related;
  individuals = known;
  individuals_are_concepts = within;
}
