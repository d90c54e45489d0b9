use Rattle.std.proofs.Common.{Err, refl, ap, ◌∙◌, rules}
use Rattle.std.proofs.lemmas.Result.{err_from_is_err_and}
use Rattle.reasoner.proofs.Holding.{held}
use Rattle.explanation.proofs.Answering.{refuses_unfound, explains, rows_as_before, unlisted}
use Rattle.explanation.proofs.Meaning.{means}
use Rattle.explanation.proofs.explaining.explain.Goals as goal

pub returns-in_err-t : goal.returns-in_err-t
returns-in_err-t g c =
    let p = err_from_is_err_and c.from_residual.result c.from_residual.ensures.1 in
    let answer = refuses_unfound c.args.reasoner.now c.args.statement _ _ c.from_residual.result c.in_err-t.field-0.0 (p.1 ∙ ap Err p.2) (search rules) c.in_err-t.ensures in
    record { memory = (refl, refl); unchanged = (refl, refl); answer = answer; meaning = λ a laws b l h. means a laws b l c.args.reasoner.now (held h) c.args.statement _ _ c.from_residual.result answer }

pub invariant_of-reasoner-2-clause-unlisted : goal.invariant_of-reasoner-2-clause-unlisted
invariant_of-reasoner-2-clause-unlisted g c =
    unlisted c.args.reasoner.now c.write_needed-written.new.reasoner c.clear.new.reasoner c.in_ok-t.ensures.0.begun c.write_needed-written.ensures.state c.clear.ensures.state c.clear.ensures.clean

pub returns : goal.returns
returns g c =
    let a = c.args.reasoner.now in
    let found = c.in_ok-t.ensures in
    let two = c.write_needed-written.ensures in
    let three = c.clear.ensures in
    let answer = explains a c.args.statement c.in_ok-t.t _ _ c.write_needed-written.result found.0 found.1 two.answer in
    record {
      memory = (three.same.0 ∙ two.same.0, three.same.1 ∙ two.same.1);
      unchanged = (rows_as_before a c.write_needed-written.new.reasoner c.clear.new.reasoner found.0.begun two.state three.state three.clean, refl);
      answer = answer;
      meaning = λ al laws b l h. means al laws b l a (held h) c.args.statement _ _ c.write_needed-written.result answer;
    }
