use Rattle.std.proofs.Common.{◌+◌, refl, ap, ◌∙◌, subst, inl, inr, arith}
use Rattle.saturation.specs.declared.row.Kept.{Kept}
use Rattle.saturation.specs.Phases.{is_begun}
use Rattle.saturation.specs.Tables.{view}
use Rattle.explanation.specs.Needed.{Names}
use Rattle.explanation.specs.Marks.{AddsMarks}
use Rattle.explanation.proofs.Marking.{place_within, adds_named}
use Rattle.explanation.proofs.marks.mark_premises.Goals as goal

pub mark_place-requires : goal.mark_place-requires
mark_place-requires g c =
    (place_within (view c.args.reasoner.now) c.args.k c.kept_step-kept.result.first c.args.reasoner.now.settled c.kept_step-kept.result c.kept_step-kept.ensures c.requires.2 c.requires.0 (inl refl), c.requires.1)

pub mark_place-requires-2 : goal.mark_place-requires-2
mark_place-requires-2 g c =
    let h = place_within (view c.args.reasoner.now) c.args.k c.kept_step-kept.result.second c.args.reasoner.now.settled c.kept_step-kept.result c.kept_step-kept.ensures c.requires.2 c.requires.0 (inr (inl refl)) in
    let one = c.mark_place.ensures in
    let e = one.state.but_marks.settled in
    (omega arith, ap is_begun one.same.2 ∙ c.requires.1)

pub mark_place-requires-3 : goal.mark_place-requires-3
mark_place-requires-3 g c =
    let h = place_within (view c.args.reasoner.now) c.args.k c.kept_step-kept.result.third c.args.reasoner.now.settled c.kept_step-kept.result c.kept_step-kept.ensures c.requires.2 c.requires.0 (inr (inr refl)) in
    let one = c.mark_place.ensures in
    let two = c.mark_place-2.ensures in
    let e = one.state.but_marks.settled in
    let f = two.state.but_marks.settled in
    (omega arith, ap is_begun (two.same.2 ∙ one.same.2) ∙ c.requires.1)

pub returns-clause-state : goal.returns-clause-state
returns-clause-state g c =
    let s = view c.args.reasoner.now in
    let v = view c.mark_place-3.new.reasoner in
    let named = adds_named s (view c.mark_place.new.reasoner) (view c.mark_place-2.new.reasoner) v c.kept_step-kept.result c.mark_place.ensures.state c.mark_place-2.ensures.state c.mark_place-3.ensures.state in
    subst (λ (kept : Kept). AddsMarks s v (λ j. Names kept (j + 1))) c.kept_step-kept.ensures named
