use Rattle.standpoint.specs.RuleNumbers.{number_of_rule}
use Rattle.standpoint.proofs.Conclusions.{concluded}
use Rattle.standpoint.proofs.RuleFits.{fits_as}
use Rattle.standpoint.proofs.rules.named.Rule.conclude.Goals as goal

pub returns : goal.returns
returns c =
    let told = concluded c.args.individuals (number_of_rule c.args.self) c.args.premises c.apply.result c.apply.ensures in
    record { conclusion = told; fits = fits_as c.args.individuals (number_of_rule c.args.self) _ c.apply.result told }
