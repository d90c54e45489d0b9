use Rattle.std.proofs.Common.{ℕ, ap, subst, rules}
use Rattle.saturation.specs.Phases.{is_begun}
use Rattle.saturation.specs.Tables.{capacity}
use Rattle.replay.specs.Replays.{NothingIsExact}
use Rattle.replay.proofs.Promises.{grades_are_best, graded_contradiction_excludes, nothing_is_exact}
use Rattle.replay.proofs.Explanations.{explanations_are_one}
use Rattle.replay.proofs.Performed.{behind_kept}
use Rattle.replay.proofs.Beyond.{performed_beyond, memory_beyond}
use Rattle.replay.proofs.replaying.replay.Goals as goal

pub returns : goal.returns
returns g c =
    let a = g.K.Kind.algebra c.args.kind.now in
    let laws = g.met.K.Kind.lawful c.args.kind.now in
    let calls = c.args.calls.now in
    let outcomes = c.perform_all.new.outcomes in
    let new = c.make-reasoner.result in
    let steps = c.args.steps.now in
    let asleep = ap is_begun c.make-reasoner.ensures.phase in
    let done = c.perform_all.ensures.done in
    record {
      count = c.perform_all.ensures.count;
      later = c.perform_all.ensures.later;
      memory = memory_beyond new c.perform_all.new.reasoner c.args.rows.now _ c.args.grades.now _ c.make-reasoner.ensures.state (search rules) (search rules) (performed_beyond a calls done);
      performed = record {
        new = new;
        empty = c.make-reasoner.ensures.state;
        not_begun = asleep;
        last = c.perform_all.new.reasoner;
        performed = done;
        rows_are = search rules;
        grades_are = search rules;
      };
      best = grades_are_best a laws calls outcomes new steps asleep done;
      explained = explanations_are_one a laws calls outcomes new steps asleep done;
      behind = behind_kept a calls new steps done;
      nothing = subst (λ (rows : ℕ). NothingIsExact a calls outcomes c.perform_all.result rows) (ap capacity c.make-reasoner.ensures.state) (nothing_is_exact a laws calls outcomes new steps asleep done);
      excludes = graded_contradiction_excludes a laws calls outcomes new steps asleep done;
    }
