use Rattle.standpoint.proofs.Grounds.{unconcluded, follows_told}
use Rattle.standpoint.proofs.verdict.grounds.follows.Goals as goal

pub returns-in_default-conclude : goal.returns-in_default-conclude
returns-in_default-conclude g c = unconcluded _ _ _ _ _ c.in-Some.ensures c.in_default-conclude.ensures

pub returns : goal.returns
returns g c =
    follows_told _ _ _ _ _ c.in-Some.ensures _ c.in-Some-conclude.conclusion c.in-Some-conclude.ensures
    c.same.ensures
