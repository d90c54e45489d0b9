use Rattle.std.proofs.Common.{◌≡◌, ℕ, ◌<◌, Some, sym, ap, subst, ◌∙◌, arith}
use Rattle.saturation.specs.declared.row.Chain.{Chain}
use Rattle.saturation.specs.Chains.{heads_in, links_in}
use Rattle.saturation.specs.Tables.{view, capacity}
use Rattle.saturation.specs.Sides.{side_bucket, chain_of}
use Rattle.saturation.proofs.Chaining.{head_last, head_none}
use Rattle.saturation.proofs.table.Table.last_on.Goals as goal
use Rattle.saturation.proofs.table.Table.last_on.Goals.{else-at-self-via-then-at-self+else-side_bucket-bucket, else-at-self-via-else-at-self}

pub returns-then-side_bucket-bucket : goal.returns-then-side_bucket-bucket
returns-then-side_bucket-bucket g c =
    let t = c.args.self.now in
    let chain = chain_of c.args.side in
    let f = side_bucket c.args.side (capacity (view t)) t.rows.now in
    let head : c.chain-head.result.head ≡ heads_in chain t.rows.now c.args.bucket = ap (λ (v : Chain). v.head) c.chain-head.ensures in
    ap Some head
    ∙ sym (head_last f (heads_in chain t.rows.now) (links_in chain t.rows.now) t.settled (t.sides c.args.side) c.args.bucket
    (subst (λ (k : ℕ). k < t.settled) head c.if-at-self.true) (ap f (sym head) ∙ sym c.side_bucket.ensures ∙ c.if-side_bucket-bucket.true))

pub returns-else-at-self : goal.returns-else-at-self
returns-else-at-self g c =
    let t = c.args.self.now in
    let chain = chain_of c.args.side in
    let f = side_bucket c.args.side (capacity (view t)) t.rows.now in
    let head : c.chain-head.result.head ≡ heads_in chain t.rows.now c.args.bucket = ap (λ (v : Chain). v.head) c.chain-head.ensures in
    let none = head_none f (heads_in chain t.rows.now) (links_in chain t.rows.now) t.settled (t.sides c.args.side) c.args.bucket in
    elim c.else-at-self.branch [
      | else-at-self-via-then-at-self+else-side_bucket-bucket w ↦ sym (none (λ below here. w.if-side_bucket-bucket.false (w.side_bucket.ensures ∙ ap f head ∙ here)))
      | else-at-self-via-else-at-self w ↦ sym (none (λ below here. let off = w.if-at-self.false in omega (arith, head)))
    ]
