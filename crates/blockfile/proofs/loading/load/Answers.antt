use Rattle.std.proofs.Common.{◌≡◌, ℕ, ◌+◌, ◌∙◌, Ok, [], refl, subst, arith, rules}
use Rattle.standpoint.specs.declared.sizes.Sizes.{Sizes}
use Rattle.reasoner.specs.Calls.{Begun}
use Rattle.blockfile.specs.Layout.{sizes_in}
use Rattle.blockfile.specs.Loads.{AddedBefore, reads_none, none}
use Rattle.blockfile.proofs.Accepting.{over_then, few_records, before_then, file_stopped, accepts_all, stopped_accepts}
use Rattle.blockfile.proofs.Leaving.{loaded_leaves}
use Rattle.blockfile.proofs.loading.load.Goals as goal

pub loop-number-init : goal.loop-number-init
loop-number-init g c =
    let al = g.K.Kind.algebra c.args.kind.now in
    let s = c.args.reasoner.now in
    let u = c.begin.new.reasoner in
    let most = c.in_ok-blocks.ensures.0.some in
    let performed : c.begin.result ≡ Ok tt = search rules in
    let sized : Begun al (sizes_in c.args.file.now) s u c.begin.result = subst (λ (n : Sizes). Begun al n s u c.begin.result) c.sizes-sizes.ensures c.begin.ensures.answer in
    let begun : Begun al (sizes_in c.args.file.now) s u (Ok tt) = subst (Begun al (sizes_in c.args.file.now) s u) performed sized in
    ((refl, refl), refl, omega arith, most, begun, ([], reads_none, none))

pub load_block-requires : goal.load_block-requires
load_block-requires g c =
    few_records g.K.StoredKind.KIND_BYTE c.args.file.now c.loop-number.number c.loop-number.invariant.2 (c.in_ok-blocks.ensures.1 c.loop-number.number c.loop-number-test.true)

pub loop-number-preserved : goal.loop-number-preserved
loop-number-preserved g c =
    let inv = c.loop-number.invariant in
    let first = c.begin.new.reasoner in
    let s = c.loop-number.reasoner in
    let t = c.load_block.new.reasoner in
    let b = c.loop-number.number in
    let more = before_then g.K.StoredKind.decoded c.args.file.now (g.K.Kind.algebra c.args.kind.now) 1 b (b + 1) 0 first s t inv.5 c.in_ok-load_block.ensures.answer in
    (over_then first s t inv.0 c.load_block.ensures.memory, c.load_block.ensures.long ∙ inv.1, omega arith, omega arith, inv.4, more)

pub returns-in_err-load_block-clause-answer : goal.returns-in_err-load_block-clause-answer
returns-in_err-load_block-clause-answer g c =
    let inv = c.loop-number.invariant in
    file_stopped g.K.StoredKind.decoded c.args.file.now (g.K.Kind.algebra c.args.kind.now) g.K.StoredKind.KIND_BYTE c.in_ok-blocks.blocks c.loop-number.number c.args.reasoner.now c.begin.new.reasoner c.loop-number.reasoner c.load_block.new.reasoner
    c.in_err-load_block.field-0.0 c.in_ok-blocks.ensures c.loop-number-test.true inv.4 inv.5 c.in_err-load_block.ensures.answer c.from_residual-in_err-load_block.result c.from_residual-in_err-load_block.ensures.1

pub returns-in_err-load_block-clause-stopped : goal.returns-in_err-load_block-clause-stopped
returns-in_err-load_block-clause-stopped g c =
    stopped_accepts g.K.StoredKind.decoded c.args.file.now (g.K.Kind.algebra c.args.kind.now) g.K.StoredKind.KIND_BYTE c.args.reasoner.now c.load_block.new.reasoner c.from_residual-in_err-load_block.result (returns-in_err-load_block-clause-answer g c)

pub returns-clause-answer : goal.returns-clause-answer
returns-clause-answer g c =
    let inv = c.loop-number.invariant in
    let last : c.loop-number.number ≡ c.in_ok-blocks.blocks = omega arith in
    let all = subst (λ (n : ℕ). AddedBefore g.K.StoredKind.decoded c.args.file.now (g.K.Kind.algebra c.args.kind.now) 1 n 0 c.begin.new.reasoner c.loop-number.reasoner) last inv.5 in
    (c.in_ok-blocks.blocks, c.in_ok-blocks.ensures, (c.begin.new.reasoner, inv.4, all))

pub returns-clause-all : goal.returns-clause-all
returns-clause-all g c =
    accepts_all g.K.StoredKind.decoded c.args.file.now (g.K.Kind.algebra c.args.kind.now) g.K.StoredKind.KIND_BYTE c.args.reasoner.now c.loop-number.reasoner (Ok tt) (returns-clause-answer g c)

pub returns-in_err-load_block-clause-leaves : goal.returns-in_err-load_block-clause-leaves
returns-in_err-load_block-clause-leaves g c =
    loaded_leaves g.K.StoredKind.decoded c.args.file.now (g.K.Kind.algebra c.args.kind.now) g.K.StoredKind.KIND_BYTE c.args.reasoner.now c.load_block.new.reasoner c.from_residual-in_err-load_block.result (returns-in_err-load_block-clause-answer g c)

pub returns-clause-leaves : goal.returns-clause-leaves
returns-clause-leaves g c = loaded_leaves g.K.StoredKind.decoded c.args.file.now (g.K.Kind.algebra c.args.kind.now) g.K.StoredKind.KIND_BYTE c.args.reasoner.now c.loop-number.reasoner (Ok tt) (returns-clause-answer g c)
