use Rattle.replay.proofs.Parts.{explained_within}
use Rattle.replay.proofs.replaying.explain_within.Goals as goal

pub returns : goal.returns
returns g c = record {
  memory = c.explain.ensures.memory;
  unchanged = c.explain.ensures.unchanged;
  answer = explained_within c.args.statement c.args.most c.min-places.result c.args.reasoner.now c.args.room.now c.explain.new.buffer c.explain.result c.min-places.ensures c.explain.auto.buffer c.explain.ensures.answer c.explain.ensures.meaning;
}
