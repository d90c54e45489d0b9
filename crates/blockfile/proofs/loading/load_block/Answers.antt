use Rattle.std.proofs.Common.{◌≡◌, ◌<◌, [], refl, ◌∙◌, arith}
use Rattle.blockfile.specs.Layout.{count_in}
use Rattle.blockfile.specs.Loads.{reads_none, none}
use Rattle.blockfile.proofs.Accepting.{over_then, added_more, added_block, block_stopped}
use Rattle.blockfile.proofs.loading.load_block.Goals as goal

pub loop-place-init : goal.loop-place-init
loop-place-init g c = ((refl, refl), refl, omega arith, ([], reads_none, none))

pub loop-place-preserved : goal.loop-place-preserved
loop-place-preserved g c =
    let b = c.args.block.number in
    let old = c.args.reasoner.now in
    let s = c.loop-place.reasoner in
    let t = c.load_record.new.reasoner in
    let inv = c.loop-place.invariant in
    let here : c.loop-place.place < count_in c.args.block.file.now b = let a = c.loop-place-test.true in let b = c.from-count.ensures in let d = c.count.ensures in omega arith in (
      over_then old s t inv.0 c.load_record.ensures.memory,
      c.load_record.ensures.long ∙ inv.1,
      omega arith,
      added_more g.K.StoredKind.decoded c.args.block.file.now (g.K.Kind.algebra c.args.kind.now) b b c.loop-place.place old s t here c.in_ok-load_record.ensures.answer inv.3,
    )

pub returns-in_err-load_record-clause-answer : goal.returns-in_err-load_record-clause-answer
returns-in_err-load_record-clause-answer g c =
    let b = c.args.block.number in
    let file = c.args.block.file.now in
    let inv = c.loop-place.invariant in
    let here : c.loop-place.place < count_in file b = let a = c.loop-place-test.true in let b = c.from-count.ensures in let d = c.count.ensures in omega arith in
    block_stopped g.K.StoredKind.decoded file (g.K.Kind.algebra c.args.kind.now) b c.loop-place.place c.args.reasoner.now c.loop-place.reasoner c.load_record.new.reasoner
    c.in_err-load_record.field-0.0 here inv.3 c.in_err-load_record.ensures.answer c.from_residual.result c.from_residual.ensures.1

pub returns-clause-answer : goal.returns-clause-answer
returns-clause-answer g c =
    let b = c.args.block.number in
    let file = c.args.block.file.now in
    let inv = c.loop-place.invariant in
    let all : c.loop-place.place ≡ count_in file b = let a = c.loop-place-test.false in let b = c.from-count.ensures in let d = c.count.ensures in let e = inv.2 in omega arith in
    added_block g.K.StoredKind.decoded file (g.K.Kind.algebra c.args.kind.now) b b c.loop-place.place c.args.reasoner.now c.loop-place.reasoner all inv.3
