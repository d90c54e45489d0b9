use Rattle.std.proofs.Common.{refl, rules, tests, arith}
use Rattle.std.proofs.lemmas.Iterator.{cases_from_all, YieldsList-from_range}
use Rattle.blockfile.specs.Layout.{Tail}
use Rattle.blockfile.proofs.Chunks.{tails_tell}
use Rattle.blockfile.proofs.layout.are_tails_zero.Goals as goal

pub returns : goal.returns
returns c =
    let block = c.args.block.now in
    let n = c.args.count in
    let r = cases_from_all _ _ _ (Tail block) (λ r. Tail block r → ⊥) c.all.ensures.ran (YieldsList-from_range 0 n n refl (omega arith)) (λ x q k. search (rules, tests)) (λ x q k. search (rules, tests)) in
    tails_tell block n c.all.result r
