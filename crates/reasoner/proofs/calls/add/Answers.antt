use Rattle.std.proofs.Common.{Err, refl, sym, ap, ◌∙◌, subst, inl, inr, arith}
use Rattle.std.proofs.lemmas.Result.{err_from_is_err_and}
use Rattle.standpoint.specs.declared.sizes.Sizes.{Sizes}
use Rattle.standpoint.specs.declared.refusal.Refusal.TheVariants.{RowsTaken}
use Rattle.standpoint.specs.Statements.{Fits}
use Rattle.saturation.specs.Phases.{sizes_of}
use Rattle.saturation.specs.Tables.{view}
use Rattle.saturation.specs.Offering.{Taken}
use Rattle.reasoner.specs.Calls.{Adds, before_begin, after_settle, misfit, individual, no_row}
use Rattle.saturation.specs.Rows.{kept}
use Rattle.saturation.specs.Memory.{Offered}
use Rattle.reasoner.proofs.Adding.{accepted_more, taken_all, adds_row}
use Rattle.reasoner.proofs.calls.add.Goals as goal

pub returns-in_err-sizes-clause-answer : goal.returns-in_err-sizes-clause-answer
returns-in_err-sizes-clause-answer g c =
    let p = err_from_is_err_and c.from_residual.result c.from_residual.ensures.1 in
    rw (p.1, p.2) (elim c.in_err-sizes.ensures [
      | inl idle ↦ rw idle.0 ((refl, refl), before_begin idle.1, λ b h e. absurd (grind arith))
      | inr sealed ↦ rw sealed.0 ((refl, refl), after_settle sealed.1, λ b h e. absurd (grind arith))
    ])

pub returns-then-not-fits-clause-answer : goal.returns-then-not-fits-clause-answer
returns-then-not-fits-clause-answer g c = ((refl, refl), misfit c.in_ok-sizes.ensures c.if-not-fits.ensures, λ b h e. absurd (grind arith))

pub returns-then-misplaced-clause-answer : goal.returns-then-misplaced-clause-answer
returns-then-misplaced-clause-answer g c =
    ((refl, refl), individual c.in_ok-sizes.ensures c.if-not-fits.ensures c.if-misplaced.ensures, λ b h e. absurd (grind arith))

pub returns-clause-answer : goal.returns-clause-answer
returns-clause-answer g c =
    let al = g.K.Kind.algebra c.args.kind.now in
    let s = c.args.reasoner.now in
    let x = c.args.statement in (
      (c.in_ok-sizes.sizes, c.in_ok-sizes.ensures, c.if-not-fits.ensures, c.if-misplaced.ensures),
      λ b h.
          let taken = subst (Taken al (view s) (view c.offer.new.self) x c.args.grade) c.if-is_err.ensures.negation c.offer.ensures.state in
          let fits = subst (λ (n : Sizes). Fits n x) (sym (ap sizes_of c.in_ok-sizes.ensures) ∙ ap sizes_of h.0) c.if-not-fits.ensures in
          (c.offer.ensures.same.2 ∙ h.0, h.1, accepted_more al b x c.args.grade (view s) (view c.offer.new.self) h.2 (s.settled_fit, s.turns) fits taken c.offer.ensures.keeps),
      adds_row al x c.args.grade s c.offer.new.self c.offer.ensures.same.2 (subst (Offered al (view s) (view c.offer.new.self) x c.args.grade (kept 0 0 0 0)) c.if-is_err.ensures.negation c.offer.ensures.rows) c.offer.ensures.state.grown,
    )

pub returns-then-is_err-clause-answer : goal.returns-then-is_err-clause-answer
returns-then-is_err-clause-answer g c =
    let al = g.K.Kind.algebra c.args.kind.now in
    let s = c.args.reasoner.now in
    let none = c.offer.ensures.state.refused c.if-is_err.ensures.negation in
    let refused : Adds al c.args.statement c.args.grade s c.offer.new.self (Err RowsTaken) = (
      (none.0, c.offer.ensures.same.2),
      no_row c.in_ok-sizes.ensures c.if-not-fits.ensures c.if-misplaced.ensures none.1 none.2,
      λ b h e. taken_all al b c.args.statement c.args.grade (view s) h.2 s.grades_fit none.1 none.2,
    ) in
    refused
