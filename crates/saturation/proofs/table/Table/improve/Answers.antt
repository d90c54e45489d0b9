use Rattle.std.proofs.Common.{refl, slice_set, arith, length-set}
use Rattle.saturation.specs.Phases.{is_begun}
use Rattle.saturation.specs.Tables.{view, capacity, row_at, rekept}
use Rattle.saturation.proofs.RowFacts.{facts_of, facts_with, set_facts}
use Rattle.saturation.proofs.Siding.{same_chains}
use Rattle.saturation.proofs.table.Table.improve.Goals as goal

pub invariant_of-self : goal.invariant_of-self
invariant_of-self g c =
    let t = c.args.self.now in
    let i = c.args.i in
    let begun = is_begun t.phase in
    let r = rekept (row_at (view t) i) c.args.kept in
    let fits = t.rows_fit in
    let f = facts_with t (slice_set t.rows.now i r) t.grades.now t.settled t.len begun (length-set t.rows.now i r) refl
    (set_facts (capacity (view t)) t.rows.now t.settled t.len begun (facts_of t) i r (omega arith) refl refl refl refl (same_chains _ _ refl refl refl refl refl) (λ on. refl) (λ h. t.winners i h)) in
    record { rows_fit = simp length-set t.rows_fit; grades_fit = t.grades_fit; few = t.few; settled_fit = t.settled_fit; turns = f.turns; in_place = f.in_place; unlisted = f.unlisted; winners = f.winners; index = f.index; sides = f.sides }
