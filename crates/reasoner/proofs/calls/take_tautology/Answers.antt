use Rattle.std.proofs.Common.{is_ok, subst}
use Rattle.saturation.specs.Tables.{view}
use Rattle.saturation.specs.Rows.{kept}
use Rattle.saturation.specs.Offering.{Taken, Keeps}
use Rattle.reasoner.proofs.Fillings.{filled_more}
use Rattle.reasoner.proofs.calls.take_tautology.Goals as goal

pub returns-clause-taken : goal.returns-clause-taken
returns-clause-taken g c =
    let al = g.K.Kind.algebra c.args.kind.now in
    let s = view c.args.reasoner.now in
    let t = view c.offer.new.self in
    let x = c.args.x in
    let is = c.start-start.ensures in
    let taken = subst (λ (v : g.row.K-Grade.Denot). Taken al s t x v (is_ok c.offer.result)) is c.offer.ensures.state in
    let keeps = subst (λ (v : g.row.K-Grade.Denot). Keeps al s t x v (kept 24 0 0 0)) is c.offer.ensures.keeps in
    λ n k at room f. filled_more al n s k f t x (is_ok c.offer.result) at room taken keeps
