use Rattle.std.proofs.Common.{◌≡◌, false, is_ok, refl, sym, ap, subst}
use Rattle.std.proofs.lemmas.Result.{err_from_is_err_and}
use Rattle.saturation.specs.Tables.{view}
use Rattle.saturation.specs.Memory.{Offered}
use Rattle.saturation.specs.Memory.Offered.{as_good, no_row}
use Rattle.saturation.proofs.RowFacts.{fits_of}
use Rattle.saturation.proofs.Offers.{taken_pushed, taken_improved, keeps_pushed, keeps_improved, offered_pushed, offered_improved, taken_left, keeps_same}
use Rattle.saturation.proofs.table.Table.offer.Goals as goal

pub returns-in_err-push-clause-keeps : goal.returns-in_err-push-clause-keeps
returns-in_err-push-clause-keeps g c = keeps_same (g.K.Kind.algebra c.args.kind.now) (view c.args.self.now) (view c.push.new.self) _ _ _ c.in_err-push.ensures.state

pub returns-in_default-clause-state : goal.returns-in_default-clause-state
returns-in_default-clause-state g c =
    let k = c.args.kind.now in
    let pushed = c.in_ok-push.ensures in
    taken_pushed (g.K.Kind.algebra k) (view c.args.self.now) (view c.push.new.self) (view c.rematch.new.self) _ c.args.grade (sym pushed.room) pushed.state c.rematch.ensures.state (g.met.K.Kind.lawful k) refl c.in_default.ensures c.rematch.ensures.played

pub returns-in_default-clause-keeps : goal.returns-in_default-clause-keeps
returns-in_default-clause-keeps g c =
    let k = c.args.kind.now in
    let pushed = c.in_ok-push.ensures in
    keeps_pushed (g.K.Kind.algebra k) (view c.args.self.now) (view c.push.new.self) (view c.rematch.new.self) _ c.args.grade (sym pushed.room) pushed.state c.rematch.ensures.state

pub returns-then-outdone-clause-state : goal.returns-then-outdone-clause-state
returns-then-outdone-clause-state g c =
    let k = c.args.kind.now in
    let t = c.args.self.now in
    let again = c.rematch-then-outdone in
    let found = c.in-Some.ensures in
    taken_improved (g.K.Kind.algebra k) (view t) (view c.improve.new.self) (view again.new.self) _ _ c.args.grade _ c.improve.ensures.state again.ensures.state found.0 (fits_of t) found.1 (g.met.K.Kind.lawful k) c.if-outdone.ensures again.ensures.played

pub returns-then-outdone-clause-keeps : goal.returns-then-outdone-clause-keeps
returns-then-outdone-clause-keeps g c =
    let k = c.args.kind.now in
    let t = c.args.self.now in
    let again = c.rematch-then-outdone in
    let found = c.in-Some.ensures in
    keeps_improved (g.K.Kind.algebra k) (view t) (view c.improve.new.self) (view again.new.self) _ _ c.args.grade _ c.improve.ensures.state again.ensures.state found.0 (fits_of t) found.1

pub returns-else-outdone-clause-state : goal.returns-else-outdone-clause-state
returns-else-outdone-clause-state g c =
    let found = c.in-Some.ensures in
    taken_left (g.K.Kind.algebra c.args.kind.now) (view c.args.self.now) c.args.statement c.args.grade c.in-Some.i found.0 found.1 c.if-outdone.ensures

pub returns-in_default-clause-rows : goal.returns-in_default-clause-rows
returns-in_default-clause-rows g c =
    let pushed = c.in_ok-push.ensures in
    offered_pushed (g.K.Kind.algebra c.args.kind.now) (view c.args.self.now) (view c.push.new.self) (view c.rematch.new.self) _ c.args.grade (sym pushed.room) pushed.state c.rematch.ensures.state c.args.kept refl c.in_default.ensures

pub returns-then-outdone-clause-rows : goal.returns-then-outdone-clause-rows
returns-then-outdone-clause-rows g c =
    let t = c.args.self.now in
    let again = c.rematch-then-outdone in
    let found = c.in-Some.ensures in
    offered_improved (g.K.Kind.algebra c.args.kind.now) (view t) (view c.improve.new.self) (view again.new.self) _ _ c.args.grade _ c.improve.ensures.state again.ensures.state found.0 (fits_of t) found.1 c.if-outdone.ensures

pub returns-else-outdone-clause-rows : goal.returns-else-outdone-clause-rows
returns-else-outdone-clause-rows g c =
    let found = c.in-Some.ensures in
    as_good c.in-Some.i found.0 found.1 c.if-outdone.ensures refl

pub returns-in_err-push-clause-rows : goal.returns-in_err-push-clause-rows
returns-in_err-push-clause-rows g c =
    let al = g.K.Kind.algebra c.args.kind.now in
    let s = view c.args.self.now in
    let pushed = c.in_err-push.ensures in
    let out : is_ok c.from_residual.result ≡ false = ap is_ok (err_from_is_err_and c.from_residual.result c.from_residual.ensures.1).1 in
    subst (Offered al s (view c.push.new.self) c.args.statement c.args.grade c.args.kept) (sym out) (no_row c.in_default.ensures (sym pushed.room) pushed.state)
