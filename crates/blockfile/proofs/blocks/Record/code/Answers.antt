use Rattle.std.proofs.Common.{◌≡◌, ◌∙◌}
use Rattle.blockfile.specs.Layout.{big4}
use Rattle.blockfile.proofs.Chunks.{code_is}
use Rattle.blockfile.proofs.blocks.Record.code.Goals as goal

pub returns : goal.returns
returns c =
    let at = c.args.self.now in
    let read : c.from_be_bytes.result ≡ big4 c.bytes.result.now 6 = c.from_be_bytes.ensures in
    read ∙ rw c.bytes.ensures (code_is at.block.file.now at.block.number at.place)
