use Rattle.std.proofs.Common.{◌≡◌, ℕ, ◌+◌, ◌<◌, ◌≤◌, length, drop, refl, ◌∙◌, subst, arith, length-drop, rules}
use Rattle.std.proofs.lemmas.List.{get_or_default}
use Rattle.replay.specs.declared.call.Call.TheVariants.{Settle}
use Rattle.replay.specs.Performing.{Performed, none}
use Rattle.replay.proofs.Performed.{leaves_behind, next_performed}
use Rattle.replay.proofs.replaying.perform_all.Goals as goal

pub loop-i-init : goal.loop-i-init
loop-i-init g c = ((refl, refl), refl, omega arith, refl, none)

pub overflow_add-written : goal.overflow_add-written
overflow_add-written g c =
    let w = c.loop-i.written in
    let steps = c.loop-i.steps in
    let left = length-drop w steps in
    let right = length-drop w c.perform_behind-outcome.new.steps in
    let long = c.perform_behind-outcome.auto.steps in
    let made = leaves_behind (g.K.Kind.algebra c.args.kind.now) c.index-calls-i.result c.perform_behind-outcome.result c.loop-i.reasoner c.perform_behind-outcome.new.reasoner (drop w steps) (drop w c.perform_behind-outcome.new.steps) (omega arith) c.perform_behind-outcome.ensures.done in
    let few = made.0 in
    let within = c.loop-i.invariant.2 in
    let count = c.steps_of-written.ensures in
    let sum : w + c.steps_of-written.result ≤ length steps = omega arith in
    search rules

pub loop-i-preserved : goal.loop-i-preserved
loop-i-preserved g c =
    let inv = c.loop-i.invariant in
    let made = c.perform_behind-outcome.ensures in
    let calls = c.args.calls.now in
    let i = c.loop-i.i in
    let below : i < length calls = omega arith in
    let room : i < length c.loop-i.outcomes = omega arith in
    let call = c.index-calls-i.is ∙ get_or_default calls i _ (Settle 0) below in
    let turn = next_performed (g.K.Kind.algebra c.args.kind.now) calls c.args.reasoner.now c.args.steps.now c.loop-i.outcomes i c.perform_behind-outcome.result room
    c.args.outcomes.now c.put.new.places c.loop-i.reasoner c.perform_behind-outcome.new.reasoner c.loop-i.steps c.perform_behind-outcome.new.steps c.index-calls-i.result
    c.loop-i.written c.steps_of-written.result c.put.ensures c.steps_of-written.ensures call inv.1 inv.2 c.perform_behind-outcome.auto.steps inv.3 inv.4 made.long made.kept made.done in
    ((made.memory.0 ∙ inv.0.0, made.memory.1 ∙ inv.0.1), turn.0, turn.1, turn.2, turn.3)

pub returns : goal.returns
returns g c =
    let inv = c.loop-i.invariant in
    let all : c.loop-i.i ≡ c.min-count.result = omega arith in
    record {
      memory = inv.0;
      count = c.min-count.ensures;
      later = subst (λ (n : ℕ). drop n c.loop-i.outcomes ≡ drop n c.args.outcomes.now) all inv.3;
      done = subst (λ (n : ℕ). Performed (g.K.Kind.algebra c.args.kind.now) c.args.calls.now c.loop-i.outcomes c.args.reasoner.now c.args.steps.now n c.loop-i.reasoner c.loop-i.steps) all inv.4;
    }
