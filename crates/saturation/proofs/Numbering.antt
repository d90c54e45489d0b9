-- All rules in the order of their numbers, and all positions.
use Rattle.std.proofs.Common.{◌≡◌, ℕ, ◌+◌, ◌<◌, map, get_or, sym, refl, ap, ◌∙◌, arith}
use Rattle.std.specs.List.{range_with_len}
use Rattle.std.proofs.lemmas.List.{get_or-map}
use Rattle.std.proofs.lemmas.List.FromFn.{get_or-range_with_len}
use Rattle.standpoint.specs.declared.rules.named.Rule.{Rule}
use Rattle.standpoint.specs.declared.rules.named.Rule.TheVariants.{RoleTransitive}
use Rattle.standpoint.specs.declared.rules.named.TheConstants.Rule.{ALL}
use Rattle.standpoint.specs.RuleNumbers.{number_of_rule}
use Rattle.saturation.specs.declared.places.Position.{Position}
use Rattle.saturation.specs.declared.places.Position.TheVariants.{First}
use Rattle.saturation.specs.declared.places.TheConstants.Position as positions

abbrev pub nth_rule : ℕ → Rule
nth_rule k = get_or ALL k RoleTransitive

pub nth_number : (k : ℕ) → k < 23 → number_of_rule (nth_rule k) ≡ k + 1
nth_number k below =
    let listed : map number_of_rule ALL ≡ range_with_len 1 23 = refl in
    let at = sym (get_or-map number_of_rule ALL k RoleTransitive 0 below) ∙ (ap (λ ns. get_or ns k 0) listed ∙ get_or-range_with_len 1 23 k 0 below) in
    omega (arith, at)

abbrev pub nth_position : ℕ → Position
nth_position k = get_or positions.ALL k First
