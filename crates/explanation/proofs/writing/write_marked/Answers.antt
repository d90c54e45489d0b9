use Rattle.std.proofs.Common.{◌≡◌, ℕ, ◌+◌, ◌<◌, List, length, sym, subst, arith, rules}
use Rattle.standpoint.specs.declared.step.Step.{Step}
use Rattle.saturation.specs.Tables.{view}
use Rattle.explanation.specs.Marks.{mark_at}
use Rattle.explanation.proofs.Written.{Writing, place_left, writing_skip, writing_more}
use Rattle.explanation.proofs.writing.write_marked.Goals as goal
use Rattle.explanation.proofs.writing.write_marked.Goals.{then-marked, else-marked}

pub renumbered-requires : goal.renumbered-requires
renumbered-requires g c =
    let h = c.requires.0 in
    let lt = c.loop-k-test.true in
    (omega arith, c.requires.2 c.loop-k.k (omega arith) (sym c.if-marked.ensures))

pub put-requires : goal.put-requires
put-requires g c = place_left (view c.args.reasoner.now) (mark_at (view c.args.reasoner.now)) c.args.buffer.now c.loop-k.k c.loop-k.count c.loop-k.buffer c.loop-k.invariant c.args.t c.requires.1 c.loop-k-test.true c.if-marked.ensures

pub loop-k-preserved : goal.loop-k-preserved
loop-k-preserved g c =
    let s = view c.args.reasoner.now in
    let old = c.args.buffer.now in
    let k = c.loop-k.k in
    let more : ℕ → List (Step _) → Type 0 = Writing s (mark_at s) old (k + 1) in
    let to : (n n' : ℕ) (b b' : List (Step _)) → n' ≡ n → b' ≡ b → more n b → more n' b' = λ n n' b b' e f w. subst (λ (i : ℕ). more i b') (sym e) (subst (more n) (sym f) w) in
    elim c.if-marked.branch [
      | then-marked w ↦
          to _ _ _ _ w.count-is w.buffer-is (writing_more s (mark_at s) old k c.loop-k.count c.loop-k.buffer c.loop-k.invariant c.args.t c.requires.1 c.loop-k-test.true w.if-marked.ensures w.put.new.buffer w.renumbered.result w.put.ensures w.renumbered.ensures)
      | else-marked w ↦ to _ _ _ _ w.count-is w.buffer-is (writing_skip s (mark_at s) old k c.loop-k.count c.loop-k.buffer c.loop-k.invariant w.if-marked.ensures)
    ]

pub overflow_add-count : goal.overflow_add-count
overflow_add-count g c =
    let h : c.loop-k.count < length c.loop-k.buffer = place_left (view c.args.reasoner.now) (mark_at (view c.args.reasoner.now)) c.args.buffer.now c.loop-k.k c.loop-k.count c.loop-k.buffer c.loop-k.invariant c.args.t c.requires.1 c.loop-k-test.true c.if-marked.ensures in
    search rules
