use Rattle.std.proofs.Common.{◌≡◌, ◌*◌, ◌/◌, ◌<◌, [], length, get_or, drop, take, ◌∙◌, rules}
use Rattle.std.specs.Simd.{first_chunks}
use Rattle.blockfile.specs.Layout.{record_of}
use Rattle.blockfile.proofs.Chunks.{chunk_at, in_block}
use Rattle.blockfile.proofs.blocks.Record.bytes.Goals as goal

pub returns : goal.returns
returns c =
    let file = c.args.self.now.block.file.now in
    let b = c.args.self.now.block.number in
    let r = c.args.self.now.place in
    let bytes = take 504 (drop 8 c.bytes.result.now) in
    let there : r < length bytes / 12 = search rules in
    let e : get_or (first_chunks 12 (length bytes / 12) bytes) r [] ≡ take 12 (drop (12 * r) bytes) = chunk_at 12 (length bytes / 12) r bytes [] there in
    let f : take 12 (drop (12 * r) bytes) ≡ record_of file b r = rw c.bytes.ensures (in_block file b r (search rules)) in
    rw (c.as_chunks.ensures.front, c.from.ensures) (e ∙ f)
