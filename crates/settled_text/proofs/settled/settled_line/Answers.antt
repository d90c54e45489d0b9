use Rattle.std.proofs.Common.{◌≡◌, Ok, refl, arith, rules}
use Rattle.settled_text.proofs.Listed.{begun_else, line_inner, line_last, line_past, line_printed, written_within}
use Rattle.settled_text.proofs.settled.settled_line.Goals as goal

pub returns-in-Some : goal.returns-in-Some
returns-in-Some g c =
    let coded = g.K.StoredKind.coded in
    let t = c.args.reasoner.now in
    let k = c.args.k in
    let read = c.in-Some.ensures in
    let code_is : c.encode.result ≡ coded c.in-Some.grade = search rules in
    let line = line_inner coded t k (c.in-Some.statement, c.in-Some.grade) c.encode.result read.0 read.1 code_is in
    let both = line_printed coded t k (begun_else t.phase c.in_default.not-Idle) _ line c.args.buffer.now _ c.statement_line.result c.statement_line.ensures in
    record { rows = both.0; run = both.1; within = written_within _ c.args.buffer.now _ c.statement_line.result c.statement_line.ensures }

pub returns-then-k-reasoner : goal.returns-then-k-reasoner
returns-then-k-reasoner g c =
    let coded = g.K.StoredKind.coded in
    let t = c.args.reasoner.now in
    let k = c.args.k in
    let line = line_last coded t k c.stand.result c.if-k-reasoner.true c.stand.ensures in
    let both = line_printed coded t k (begun_else t.phase c.in_default.not-Idle) _ line c.args.buffer.now _ c.stand_line.result c.stand_line.ensures in
    record { rows = both.0; run = both.1; within = written_within _ c.args.buffer.now _ c.stand_line.result c.stand_line.ensures }

pub returns : goal.returns
returns g c =
    let coded = g.K.StoredKind.coded in
    let t = c.args.reasoner.now in
    let k = c.args.k in
    let before = c.args.buffer.now in
    let past = c.in_default-settled_at.ensures in
    let both = line_printed coded t k (begun_else t.phase c.in_default.not-Idle) _ (line_past coded t k (omega arith)) before before (Ok 0) (refl, omega arith, refl) in
    record { rows = both.0; run = both.1; within = omega arith }
