use Rattle.std.proofs.Common.{◌≡◌, ◌≤◌, Err, sym, ap, ◌∙◌, rules, arith}
use Rattle.std.proofs.lemmas.Result.{err_from_is_err_and}
use Rattle.standpoint.specs.declared.refusal.Refusal.TheVariants.{NoGrade}
use Rattle.standpoint.specs.Grades.{odds_grade}
use Rattle.blockfile.specs.Codes.{or_no_grade}
use Rattle.blockfile.specs.Coded.{bounded_some, bounded_none}
use Rattle.blockfile.proofs.stored.OddsStoredKind.decode.Goals as goal

pub returns-in_err-value : goal.returns-in_err-value
returns-in_err-value c =
    let over : 256 ≤ c.args.code = search rules in
    let p = err_from_is_err_and c.from_residual.result c.from_residual.ensures.1 in
    let told : c.from_residual.result ≡ Err NoGrade = p.1 ∙ ap Err (p.2 ∙ search rules) in
    told ∙ sym (ap or_no_grade (bounded_none 255 odds_grade c.args.code (λ h. omega arith)))

pub returns : goal.returns
returns c =
    let is : c.in_ok-value.value ≡ c.args.code = search rules in
    rw (← is) (sym (ap or_no_grade (bounded_some 255 odds_grade c.in_ok-value.value _)))
