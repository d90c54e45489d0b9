use Rattle.std.proofs.Common.{◌∙◌, ◌+◌, arith, rules}
use Rattle.std.proofs.lemmas.Result.{err_from_is_err_and}
use Rattle.saturation.specs.Tables.{view}
use Rattle.explanation.proofs.ButMarks.{but_marks_trans}
use Rattle.explanation.proofs.Marking.{marks_numbered, marks_placed}
use Rattle.explanation.proofs.Answering.{refuses_later, refuses_short, writes_all}
use Rattle.explanation.proofs.explaining.write_needed.Goals as goal

pub returns-in_err-mark_needed-clause-answer : goal.returns-in_err-mark_needed-clause-answer
returns-in_err-mark_needed-clause-answer g c =
    let p = err_from_is_err_and c.from_residual.result c.from_residual.ensures.1 in
    let late = c.in_err-mark_needed.ensures.state in
    refuses_later (view c.args.reasoner.now) c.args.t _ _ c.from_residual.result p.0 p.1 (p.2 ∙ late.0) (search rules) late.2

pub returns-then-number_marked-buffer-clause-answer : goal.returns-then-number_marked-buffer-clause-answer
returns-then-number_marked-buffer-clause-answer g c =
    let a = c.args.reasoner.now in
    let v = view c.number_marked.new.reasoner in
    let p = marks_numbered (view a) (view c.mark_needed.new.reasoner) v c.args.t (c.args.t + 1) c.in_ok-mark_needed.ensures.state c.number_marked.ensures.state in
    let e = c.number_marked.ensures.count in
    let lt = c.if-number_marked-buffer.true in
    refuses_short a c.args.t c.requires.0 v p _ _ (search rules) (omega arith)

pub write_marked-requires : goal.write_marked-requires
write_marked-requires g c =
    let p = c.in_ok-mark_needed.ensures.state in
    let q = c.number_marked.ensures.state in
    let e = c.number_marked.ensures.count in
    let le = c.if-number_marked-buffer.false in
    let one = p.but_marks.settled in
    let two = q.but_marks.settled in
    let h = c.requires.0 in
    (omega arith, omega arith, marks_placed (view c.args.reasoner.now) (view c.mark_needed.new.reasoner) (view c.number_marked.new.reasoner) c.args.t p q)

pub returns-clause-answer : goal.returns-clause-answer
returns-clause-answer g c =
    let a = view c.args.reasoner.now in
    let v = view c.number_marked.new.reasoner in
    let p = marks_numbered a (view c.mark_needed.new.reasoner) v c.args.t (c.args.t + 1) c.in_ok-mark_needed.ensures.state c.number_marked.ensures.state in
    let e = c.number_marked.ensures.count in
    let f = c.write_marked.ensures.count in
    let le = c.if-number_marked-buffer.false in
    writes_all c.args.reasoner.now c.args.t c.requires.0 v p _ _ c.write_marked.result f (omega arith) c.write_marked.ensures.steps

pub returns-then-number_marked-buffer-clause-state : goal.returns-then-number_marked-buffer-clause-state
returns-then-number_marked-buffer-clause-state g c =
    but_marks_trans (view c.args.reasoner.now) (view c.mark_needed.new.reasoner) (view c.number_marked.new.reasoner) c.in_ok-mark_needed.ensures.state.but_marks c.number_marked.ensures.state.but_marks

pub returns-clause-state : goal.returns-clause-state
returns-clause-state g c =
    but_marks_trans (view c.args.reasoner.now) (view c.mark_needed.new.reasoner) (view c.number_marked.new.reasoner) c.in_ok-mark_needed.ensures.state.but_marks c.number_marked.ensures.state.but_marks
