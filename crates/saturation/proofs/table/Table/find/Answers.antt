use Rattle.std.proofs.Common.{◌≢◌, ◌∙◌, ap, rules, tests}
use Rattle.saturation.specs.Chains.{last_in}
use Rattle.saturation.specs.Tables.{view, capacity}
use Rattle.saturation.specs.Buckets.{bucket_at, bucket_of}
use Rattle.saturation.proofs.Chaining.{link_falls}
use Rattle.saturation.proofs.Indexing.{walk_start, walk_link, walk_next, statement_in}
use Rattle.saturation.proofs.table.Table.find.Goals as goal

pub loop-at-init : goal.loop-at-init
loop-at-init g c =
    let t = c.args.self.now in
    walk_start (capacity (view t)) t.rows.now t.len c.args.statement c.last_in-at.result (c.last_in-at.ensures ∙ ap (λ b. last_in (bucket_at (capacity (view t)) t.rows.now) b t.len) c.bucket.ensures.value)

pub loop-at-smaller : goal.loop-at-smaller
loop-at-smaller g c =
    let t = c.args.self.now in
    let link = walk_link (capacity (view t)) t.rows.now t.len c.args.statement t.index c.loop-at.at c.in-Some.k c.in-Some.is c.loop-at.invariant in
    link_falls (bucket_at (capacity (view t)) t.rows.now) (bucket_of (capacity (view t)) c.args.statement) c.loop-at.at c.in-Some.k _ c.in-Some.is link

pub loop-at-preserved : goal.loop-at-preserved
loop-at-preserved g c =
    let t = c.args.self.now in
    let other : statement_in t.rows.now c.in-Some.k ≢ c.args.statement = search (rules, tests) in
    walk_next (capacity (view t)) t.rows.now t.len c.args.statement t.index c.loop-at.at c.in-Some.k c.in-Some.is c.loop-at.invariant other
