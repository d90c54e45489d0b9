use Rattle.std.proofs.Common.{map, sym, ◌∙◌, arith}
use Rattle.std.proofs.lemmas.List.{ext_get_or, get_or-map, length-map}
use Rattle.saturation.specs.declared.row.Row.{Row}
use Rattle.saturation.specs.Rows.{no_row}
use Rattle.explanation.specs.Marks.{relisted}
use Rattle.explanation.proofs.marks.unmark.Goals as goal

pub returns : goal.returns
returns c =
    let rows = c.args.rows.now in
    let long = c.loop-row.auto.row-items in
    let all = c.loop-row-test.false in
    ext_get_or no_row c.loop-row.row-items (map (λ (r : Row). relisted r 0) rows) (long ∙ sym (length-map rows (λ (r : Row). relisted r 0)))
    (λ k h. c.loop-row.invariant.0 k (omega arith) ∙ sym (get_or-map (λ (r : Row). relisted r 0) rows k no_row no_row (omega arith)))
