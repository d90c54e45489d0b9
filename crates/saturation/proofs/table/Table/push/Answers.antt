use Rattle.std.proofs.Common.{◌≡◌, ◌+◌, ◌<◌, List, refl, slice_set, sym, subst, arith, length, length-set}
use Rattle.saturation.specs.declared.row.Row.{Row}
use Rattle.saturation.specs.Phases.{is_begun}
use Rattle.saturation.specs.Tables.{view, capacity, taken}
use Rattle.saturation.proofs.Indexing.{entered_long}
use Rattle.saturation.proofs.RowFacts.{RowFacts, facts_of, facts_with, entered_facts}
use Rattle.saturation.proofs.Siding.{same_chains}
use Rattle.saturation.proofs.table.Table.push.Goals as goal

pub invariant_of-self-2 : goal.invariant_of-self-2
invariant_of-self-2 g c =
    let t = c.args.self.now in
    let begun = is_begun t.phase in
    let used = capacity (view t) in
    let x = taken t.rows.now t.len c.args.statement c.args.kept c.last_in.result in
    let room : t.len < used = let r = c.if-at-capacity.false in let e = c.capacity.ensures in omega arith in
    let low = t.settled_fit in
    let b = c.bucket-bucket.result in
    let is = c.bucket-bucket.ensures.value in
    let old = facts_of t in
    let f = subst (λ (rows : List Row). RowFacts used rows t.settled (t.len + 1) begun) (sym c.enter.ensures)
    (entered_facts used t.rows.now t.settled t.len begun old x b is room low c.requires refl refl refl refl c.last_in.ensures refl (same_chains _ _ refl refl refl refl refl)) in
    let long = subst (λ (rows : List Row). length rows ≡ length t.rows.now) (sym c.enter.ensures) (entered_long used t.rows.now t.len x b is room old.there) in
    let whole = facts_with t c.enter.new.rows (slice_set t.grades.now t.len c.args.grade) t.settled (t.len + 1) begun long (length-set t.grades.now t.len c.args.grade) f in
    record { rows_fit = omega arith; grades_fit = simp length-set (omega arith); few = omega arith; settled_fit = omega arith; turns = f.turns; in_place = f.in_place; unlisted = f.unlisted; winners = f.winners; index = whole.index; sides = whole.sides }
