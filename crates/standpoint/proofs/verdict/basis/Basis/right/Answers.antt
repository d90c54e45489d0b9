use Rattle.standpoint.proofs.Lists.{tells_as}
use Rattle.standpoint.proofs.verdict.basis.Basis.right.Goals as goal

pub returns-then-fits : goal.returns-then-fits
returns-then-fits g c =
    tells_as c.agrees.result (λ h. record { fits = c.if-fits.ensures; agrees = h }) (λ r. r.agrees) c.agrees.ensures
