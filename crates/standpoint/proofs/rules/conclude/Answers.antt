use Rattle.std.proofs.Common.{◌≡◌, None, sym, ◌∙◌}
use Rattle.std.specs.Result.{result_ok}
use Rattle.standpoint.proofs.Arities.{no_rule, not_named}
use Rattle.standpoint.proofs.rules.conclude.Goals as goal

pub returns-in_err-rule : goal.returns-in_err-rule
returns-in_err-rule c =
    let none : result_ok c.try_from.result ≡ None = sym c.ok.ensures.value ∙ c.in_err-rule.was in
    rw c.from_residual.ensures (no_rule (not_named c.try_from.result c.try_from.ensures none))
