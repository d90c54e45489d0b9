use Rattle.std.proofs.Common.{◌≡◌, Ok, IsErrAnd, MatchResult, rules}
use Rattle.blockfile.specs.declared.fault.RecordFault.{RecordFault}
use Rattle.blockfile.specs.declared.fault.RecordFault.TheVariants.{Add}
use Rattle.blockfile.proofs.Accepting.{record_loaded}
use Rattle.blockfile.proofs.loading.load_record.Goals as goal

pub returns-clause-answer : goal.returns-clause-answer
returns-clause-answer g c =
    let al = g.K.Kind.algebra c.args.kind.now in
    let at = c.args.at in
    let loaded = record_loaded g.K.StoredKind.decoded at.block.file.now al at.block.number at.place c.code.result c.decode.result c.in-Ok.grade c.statement.result c.args.reasoner.now c.add.new.reasoner in
    let cases : MatchResult c.add.result (λ u. c.map_err.result ≡ Ok u) (λ why. IsErrAnd c.map_err.result (λ (f : RecordFault). f ≡ Add at.block.number at.place why)) = search rules in
    loaded c.code.ensures c.decode.ensures c.in-Ok.is c.statement.ensures c.add.result c.map_err.result cases c.add.ensures.answer
