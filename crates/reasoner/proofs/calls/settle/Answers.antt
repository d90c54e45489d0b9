use Rattle.reasoner.proofs.Sealing.{settles_as_table, settles_long}
use Rattle.reasoner.proofs.calls.settle.Goals as goal

pub returns-clause-answer : goal.returns-clause-answer
returns-clause-answer g c = settles_as_table (g.K.Kind.algebra c.args.kind.now) c.args.n c.args.reasoner.now c.settle.new.self c.settle.result c.settle.ensures.answer

pub returns-clause-long : goal.returns-clause-long
returns-clause-long g c = settles_long (g.K.Kind.algebra c.args.kind.now) c.args.n c.args.reasoner.now c.settle.new.self c.settle.result c.settle.ensures.answer
