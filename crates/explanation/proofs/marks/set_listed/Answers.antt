use Rattle.std.proofs.Common.{refl, slice_set, arith, length-set}
use borrow.Author.Tests.{both_ways}
use Rattle.saturation.specs.Phases.{is_begun}
use Rattle.saturation.specs.Tables.{view, capacity, row_at}
use Rattle.saturation.proofs.RowFacts.{facts_of, facts_with, set_facts}
use Rattle.saturation.proofs.Siding.{same_chains}
use Rattle.explanation.specs.Marks.{relisted}
use Rattle.explanation.proofs.Clearing.{settled_rows}
use Rattle.explanation.proofs.marks.set_listed.Goals as goal

pub invariant_of-reasoner : goal.invariant_of-reasoner
invariant_of-reasoner g c =
    let t = c.args.reasoner.now in
    let k = c.args.k in
    let begun = is_begun t.phase in
    let r = relisted (row_at (view t) k) c.args.place in
    let fits = settled_rows t in
    let within = c.requires.0 in
    let f = facts_with t (slice_set t.rows.now k r) t.grades.now t.settled t.len begun (length-set t.rows.now k r) refl
    (set_facts (capacity (view t)) t.rows.now t.settled t.len begun (facts_of t) k r (omega arith) refl refl refl refl (same_chains _ _ refl refl refl refl refl) (λ on. absurd (both_ways _ c.requires.1 on)) (λ h. t.winners k h)) in
    record { rows_fit = simp length-set t.rows_fit; grades_fit = t.grades_fit; few = t.few; settled_fit = t.settled_fit; turns = f.turns; in_place = f.in_place; unlisted = f.unlisted; winners = f.winners; index = f.index; sides = f.sides }
