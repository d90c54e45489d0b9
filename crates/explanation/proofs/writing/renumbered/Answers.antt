use Rattle.std.proofs.Common.{refl, ◌∙◌, inl, inr, arith}
use Rattle.std.proofs.lemmas.List.{get_or_default}
use Rattle.saturation.specs.Tables.{view, turn_at}
use Rattle.explanation.specs.Needed.{kept_at}
use Rattle.explanation.proofs.Marking.{place_within, place_ranks}
use Rattle.explanation.proofs.writing.renumbered.Goals as goal

pub place_in_list-requires : goal.place_in_list-requires
place_in_list-requires g c = place_within (view c.args.reasoner.now) c.args.k _ c.args.reasoner.now.settled (kept_at (view c.args.reasoner.now) c.args.k) refl (λ j r. (c.requires.1 j r).0) c.requires.0 (inl refl)

pub place_in_list-requires-2 : goal.place_in_list-requires-2
place_in_list-requires-2 g c = place_within (view c.args.reasoner.now) c.args.k _ c.args.reasoner.now.settled (kept_at (view c.args.reasoner.now) c.args.k) refl (λ j r. (c.requires.1 j r).0) c.requires.0 (inr (inl refl))

pub place_in_list-requires-3 : goal.place_in_list-requires-3
place_in_list-requires-3 g c = place_within (view c.args.reasoner.now) c.args.k _ c.args.reasoner.now.settled (kept_at (view c.args.reasoner.now) c.args.k) refl (λ j r. (c.requires.1 j r).0) c.requires.0 (inr (inr refl))

pub returns : goal.returns
returns g c =
    let t = c.args.reasoner.now in
    let s = view t in
    let placed = place_ranks s c.args.k in
    let turn = t.turns c.args.k c.requires.0 in
    let fit = t.grades_fit in
    record {
      rule = refl;
      first = c.place_in_list.ensures ∙ placed _ c.requires.1 (inl refl);
      second = c.place_in_list-2.ensures ∙ placed _ c.requires.1 (inr (inl refl));
      third = c.place_in_list-3.ensures ∙ placed _ c.requires.1 (inr (inr refl));
      gives = (refl, λ d. get_or_default t.grades.now (turn_at s c.args.k) d c.index-reasoner-at.result (omega arith));
    }
