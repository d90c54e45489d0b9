use Rattle.std.proofs.Common.{◌≡◌, ℕ, ◌+◌, sym, refl, ap, ◌∙◌, subst, arith}
use Rattle.saturation.specs.declared.table.Table.{Table}
use Rattle.saturation.specs.Phases.{is_begun}
use Rattle.saturation.specs.Tables.{view, Same}
use Rattle.saturation.proofs.Sameness.{same_then}
use Rattle.explanation.proofs.Clearing.{settled_rows}
use Rattle.explanation.proofs.Numbering.{Numbering, numbering_none, numbering_skip, numbering_more, count_few, numbers_marks, numbers_count}
use Rattle.explanation.proofs.marks.number_marked.Goals as goal
use Rattle.explanation.proofs.marks.number_marked.Goals.{then-marked, else-marked}

pub loop-k-init : goal.loop-k-init
loop-k-init g c = ((refl, refl, refl), numbering_none (view c.args.reasoner.now))

pub marked-requires : goal.marked-requires
marked-requires g c =
    let is = c.loop-k.invariant.1.1.but_marks.settled in
    let h = c.requires.0 in
    let lt = c.loop-k-test.true in
    omega arith

pub overflow_add-count : goal.overflow_add-count
overflow_add-count g c =
    let few = count_few c.args.reasoner.now c.loop-k.reasoner c.args.t c.loop-k.k c.loop-k.count c.loop-k.invariant.1 c.loop-k-test.true c.requires.0 in
    omega arith

pub overflow_cast-count : goal.overflow_cast-count
overflow_cast-count g c =
    let few = count_few c.args.reasoner.now c.loop-k.reasoner c.args.t c.loop-k.k c.loop-k.count c.loop-k.invariant.1 c.loop-k-test.true c.requires.0 in
    omega arith

pub set_listed-requires : goal.set_listed-requires
set_listed-requires g c =
    let is = c.loop-k.invariant.1.1.but_marks.settled in
    let h = c.requires.0 in
    let lt = c.loop-k-test.true in
    (omega arith, ap is_begun c.loop-k.invariant.0.2 ∙ c.requires.1)

pub loop-k-preserved : goal.loop-k-preserved
loop-k-preserved g c =
    let a = c.args.reasoner.now in
    let k = c.loop-k.k in
    let u = c.loop-k.reasoner in
    let inv = c.loop-k.invariant in
    let is = inv.1.1.but_marks.settled in
    let h = c.requires.0 in
    let lt = c.loop-k-test.true in
    let Kept : Table _ → ℕ → Type 0 = λ v n. Same a v × Numbering (view a) (view v) (k + 1) n in
    let to : (v w : Table _) (n m : ℕ) → w ≡ v → m ≡ n → Kept v n → Kept w m = λ v w n m e f x. subst (λ (i : ℕ). Kept w i) (sym f) (subst (λ (r : Table _). Kept r n) (sym e) x) in
    elim c.if-marked.branch [
      | then-marked w ↦
          to _ _ _ _ w.reasoner-is w.count-is (same_then inv.0 w.set_listed.ensures.same, numbering_more (view a) (view u) k c.loop-k.count inv.1 (view w.set_listed.new.reasoner) (omega arith) (settled_rows u) w.if-marked.ensures w.set_listed.ensures.state)
      | else-marked w ↦ to _ _ _ _ w.reasoner-is w.count-is (inv.0, numbering_skip (view a) (view u) k c.loop-k.count inv.1 w.if-marked.ensures)
    ]

pub returns-clause-same : goal.returns-clause-same
returns-clause-same g c = c.loop-k.invariant.0

pub returns-clause-count : goal.returns-clause-count
returns-clause-count g c =
    let last : c.loop-k.k ≡ c.args.t + 1 = let end = c.loop-k-test.false in omega arith in
    let a = view c.args.reasoner.now in
    let u = view c.loop-k.reasoner in
    numbers_count a u (c.args.t + 1) c.loop-k.count (subst (λ (n : ℕ). Numbering a u n c.loop-k.count) last c.loop-k.invariant.1)

pub returns-clause-state : goal.returns-clause-state
returns-clause-state g c =
    let last : c.loop-k.k ≡ c.args.t + 1 = let end = c.loop-k-test.false in omega arith in
    let a = view c.args.reasoner.now in
    let u = view c.loop-k.reasoner in
    numbers_marks a u (c.args.t + 1) (subst (λ (n : ℕ). Numbering a u n c.loop-k.count) last c.loop-k.invariant.1).1
