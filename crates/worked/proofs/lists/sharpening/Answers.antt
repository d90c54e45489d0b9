use Rattle.worked.proofs.lists.sharpening.Goals as goal

pub returns : goal.returns
returns c h = let statement = c.sharper.ensures in let grade = c.tally.ensures.grade h in cc
