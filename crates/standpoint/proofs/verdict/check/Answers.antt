use Rattle.standpoint.proofs.OneAnswer.{one_answer}
use Rattle.standpoint.proofs.Trees.{list_derives, derived_listed, list_met, contradiction_excludes, nothing_contradicts}
use Rattle.standpoint.proofs.verdict.check.Goals as goal

pub returns : goal.returns
returns g c = record {
  answer = c.judge.ensures;
  determined = one_answer _;
  derives = list_derives _;
  listed = derived_listed _;
  met = list_met _;
  excludes = contradiction_excludes _;
  consistent = nothing_contradicts _;
}
