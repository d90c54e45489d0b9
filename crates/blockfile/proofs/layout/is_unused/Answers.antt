use Rattle.std.proofs.Common.{◌≡◌, ◌-◌, ◌↔◌, IsTrue, take, drop, rules}
use Rattle.std.specs.List.{All}
use Rattle.blockfile.specs.Layout.{Zeros}
use Rattle.blockfile.proofs.Chunks.{tells, zeros}
use Rattle.blockfile.proofs.layout.is_unused.Goals as goal

pub returns : goal.returns
returns c =
    let block = c.args.block.now in
    let from = c.args.from in
    let all : IsTrue c.all.result ↔ All (λ x. x ≡ 0) (take (508 - from) (drop from block)) = search rules in
    let z = zeros block from 508 (search rules) in
    tells c.all.result (Zeros block from 508) (λ t. z.0 (all.0 t), λ t. all.1 (z.1 t))
