use Rattle.std.proofs.Common.{◌≡◌, ◌/◌, ◌<◌, [], length, get_or, arith}
use Rattle.std.specs.Simd.{first_chunks}
use Rattle.blockfile.specs.Layout.{block_of}
use Rattle.blockfile.proofs.Chunks.{chunk_at}
use Rattle.blockfile.proofs.blocks.Block.bytes.Goals as goal

pub returns : goal.returns
returns c =
    let file = c.args.self.now.file.now in
    let b = c.args.self.now.number in
    let there : b < length file / 512 = omega arith in
    let e : get_or (first_chunks 512 (length file / 512) file) b [] ≡ block_of file b = chunk_at 512 (length file / 512) b file [] there in
    rw (c.as_chunks.ensures.front, c.from.ensures) e
