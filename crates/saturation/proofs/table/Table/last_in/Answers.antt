use Rattle.std.proofs.Common.{sym, ◌∙◌, arith}
use Rattle.saturation.specs.Chains.{heads_in, links_in}
use Rattle.saturation.specs.Tables.{view, capacity}
use Rattle.saturation.specs.Buckets.{bucket_at}
use Rattle.saturation.proofs.Chaining.{head_last, head_none}
use Rattle.saturation.proofs.Indexing.{index_of}
use Rattle.saturation.proofs.table.Table.last_in.Goals as goal
use Rattle.saturation.proofs.table.Table.last_in.Goals.{else-at-self-via-then-at-self+else-bucket, else-at-self-via-else-at-self}

pub returns-then-bucket : goal.returns-then-bucket
returns-then-bucket g c =
    let t = c.args.self.now in
    let rows = t.rows.now in
    sym (head_last (bucket_at (capacity (view t)) rows) (heads_in index_of rows) (links_in index_of rows) t.len t.index c.args.bucket c.if-at-self.true (sym c.bucket.ensures.value ∙ c.if-bucket.true))

pub returns-else-at-self : goal.returns-else-at-self
returns-else-at-self g c =
    let t = c.args.self.now in
    let rows = t.rows.now in
    let none = head_none (bucket_at (capacity (view t)) rows) (heads_in index_of rows) (links_in index_of rows) t.len t.index c.args.bucket in
    elim c.else-at-self.branch [
      | else-at-self-via-then-at-self+else-bucket w ↦ sym (none (λ below here. w.if-bucket.false (w.bucket.ensures.value ∙ here)))
      | else-at-self-via-else-at-self w ↦ sym (none (λ below here. let off = w.if-at-self.false in omega arith))
    ]
