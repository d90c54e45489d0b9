use Rattle.std.proofs.Common.{lit≤}
use Rattle.worked.proofs.lists.detour_calls.Goals as goal

pub returns : goal.returns
returns c =
    let begun = c.begin.ensures in
    let first = c.sharpening.ensures (lit≤ tt) in
    let second = c.sharpening-2.ensures (lit≤ tt) in
    let third = c.sharpening-3.ensures (lit≤ tt) in
    let asked = c.sharper.ensures in
    cc
