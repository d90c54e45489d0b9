use borrow.Rule.Slice.PartMut.{take_put}
use Rattle.replay.proofs.Parts.{performed_behind}
use Rattle.replay.proofs.replaying.perform_behind.Goals as goal

pub returns : goal.returns
returns g c =
    let steps = c.args.steps.now in
    record {
      memory = c.perform.ensures.memory;
      long = c.perform.ensures.long;
      kept = take_put c.args.written _ steps c.perform.new.room c.requires;
      done = performed_behind (g.K.Kind.algebra c.args.kind.now) c.args.call c.perform.result c.args.reasoner.now c.perform.new.reasoner steps c.perform.new.room c.args.written c.requires c.perform.auto.room c.perform.ensures.done;
    }
