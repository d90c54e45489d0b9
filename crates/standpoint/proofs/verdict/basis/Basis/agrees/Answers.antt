use Rattle.std.proofs.Common.{arith}
use Rattle.standpoint.proofs.Agreement.{accepted_told, tautology_told, rule_told}
use Rattle.standpoint.proofs.verdict.basis.Basis.agrees.Goals as goal

pub returns-in-0 : goal.returns-in-0
returns-in-0 g c = accepted_told _ _ _ _ _ _ c.in-0.is c.by_acceptance.ensures

pub returns-in-24 : goal.returns-in-24
returns-in-24 g c = tautology_told _ _ _ _ _ _ c.in-24.is c.by_tautology.ensures

pub returns-in_default : goal.returns-in_default
returns-in_default g c = rule_told _ _ _ _ _ _ (λ e. omega arith) (λ e. omega arith) c.follows.ensures
