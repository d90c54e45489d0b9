use Rattle.std.proofs.Common.{refl, slice_set, arith, length-set}
use Rattle.saturation.specs.Phases.{is_begun}
use Rattle.saturation.specs.Tables.{view, capacity, row_at}
use Rattle.saturation.specs.Tournament.{won_by}
use Rattle.saturation.proofs.RowFacts.{facts_of, facts_with, set_facts}
use Rattle.saturation.proofs.Siding.{same_chains}
use Rattle.saturation.proofs.table.Table.set_winner.Goals as goal

pub invariant_of-self : goal.invariant_of-self
invariant_of-self g c =
    let t = c.args.self.now in
    let k = c.args.k in
    let begun = is_begun t.phase in
    let r = won_by (row_at (view t) k) c.args.w in
    let fits = t.rows_fit in
    let low = c.requires.0 in
    let f = facts_with t (slice_set t.rows.now k r) t.grades.now t.settled t.len begun (length-set t.rows.now k r) refl
    (set_facts (capacity (view t)) t.rows.now t.settled t.len begun (facts_of t) k r (omega arith) refl refl refl refl (same_chains _ _ refl refl refl refl refl) (λ on. refl) (λ h. c.requires.1)) in
    record { rows_fit = simp length-set t.rows_fit; grades_fit = t.grades_fit; few = t.few; settled_fit = t.settled_fit; turns = f.turns; in_place = f.in_place; unlisted = f.unlisted; winners = f.winners; index = f.index; sides = f.sides }
