-- One statement more is accepted.
use Rattle.std.proofs.Common.{◌≡◌, ◌≤◌, true, false, List, [], ◌∷◌, length, refl, subst, inl, inr, ⊎_elim, arith}
use Rattle.std.proofs.lemmas.Bool.Decides.{nat_tests}
use Rattle.standpoint.specs.declared.statement.Statement.{Statement}
use Rattle.standpoint.specs.Lists.{In}
use Rattle.standpoint.specs.Statements.{Fits}
use Rattle.standpoint.specs.Algebra.{Algebra}
use Rattle.standpoint.specs.Derivations.{Base}
use Rattle.standpoint.specs.Derivations.Leaf.{accepted, tautology}
use Rattle.runs.specs.Runs.{Offers, Known}
use Rattle.runs.specs.Runs.Run.{fresh}
use Rattle.runs.specs.Runs.Offers.{leaf, one, two, three}
use Rattle.runs.proofs.Distinct.{apart_distinct}
use Rattle.saturation.specs.declared.row.Kept.{Kept}
use Rattle.saturation.specs.Rows.{kept}
use Rattle.saturation.specs.declared.table.Table.{Table}
use Rattle.saturation.specs.Tables.{State, view, capacity, has_room, Absent}
use Rattle.saturation.specs.Memory.{Offered}
use Rattle.saturation.specs.Places.{KeptRight, kept_accepted, kept_tautology, kept_step}
use Rattle.saturation.specs.Offering.{Grown, Taken, Keeps}
use Rattle.saturation.specs.Saturation.{Holds}
use Rattle.saturation.proofs.Lists.{Fit, lists_grown}
use Rattle.saturation.proofs.Going.{row_known, held, length_held, in_held, apart_held}
use Rattle.reasoner.specs.Models.{accepting}
use Rattle.saturation.proofs.Leaving.{grown_keeps}
use Rattle.reasoner.specs.Calls.{AllRowsTaken, AddsRow}

module _ {G : Type 0} (al : Algebra G) (b : Base G) (x : Statement) (g : G) where
  wider : (y : Statement) (h : G) → Offers al b [] y h → Offers al (accepting b x g) [] y h
  wider y h (leaf (accepted m fits)) = leaf (accepted (inr m) fits)
  wider y _ (leaf (tautology t)) = leaf (tautology t)
  wider y h (one r m) = absurd m
  wider y _ (two r m o) = absurd m
  wider y _ (three r m o q) = absurd m

  narrower : (off : List (Statement × G)) → ((y : Statement) (h : G) → Offers al b [] y h → In off (y, h)) → (y : Statement) (h : G) → Offers al (accepting b x g) [] y h → In ((x, g) ∷ off) (y, h)
  narrower off all y h (leaf (accepted (inl e) fits)) = inl e
  narrower off all y h (leaf (accepted (inr m) fits)) = inr (all y h (leaf (accepted m fits)))
  narrower off all y _ (leaf (tautology t)) = inr (all y al.start (leaf (tautology t)))
  narrower off all y h (one r m) = absurd m
  narrower off all y _ (two r m o) = absurd m
  narrower off all y _ (three r m o q) = absurd m

  wider_right : (o : Statement × G) (step : Kept) → KeptRight al b [] o step → KeptRight al (accepting b x g) [] o step
  wider_right o step (kept_accepted e m) = kept_accepted e (inr m)
  wider_right o step (kept_tautology e t s) = kept_tautology e t s
  wider_right o step (kept_step rule places e a) = kept_step rule places e a

  module _ (s t : State G) (h : Holds al b [] s) where
    pub accepted_more : Fit s → Fits b.sizes x → Taken al s t x g true → Keeps al s t x g (kept 0 0 0 0) → Holds al (accepting b x g) [] t
    accepted_more fit fits taken keeps = record {
      run = fresh;
      lists = lists_grown s t [] fit taken.grown h.lists;
      offered = (x, g) ∷ h.offered;
      rows = taken.ranked refl h.offered h.rows;
      sound = λ o. ⊎_elim
          (λ e. subst (λ (p : Statement × G). Offers al (accepting b x g) [] p.0 p.1) e (leaf (accepted (inl refl) fits)))
          (λ m. wider o.0 o.1 (h.sound o m));
      complete = narrower h.offered h.complete;
      right = keeps (accepting b x g) [] (kept_accepted refl (inl refl)) (λ i lt un d. wider_right _ _ (h.right i lt un d));
      explained = λ k lt. absurd (omega arith);
    }

  -- a statement that finds no row is new, and all rows are taken
  pub taken_all : (s : State G) → Holds al b [] s → s.len ≤ length s.grades → has_room s ≡ false → Absent s x → (Known al b [] x → ⊥) × AllRowsTaken al b (capacity s)
  taken_all s h grades_fit none absent = (
    λ known. let p = h.rows.best.every x known.0 (h.complete x known.0 known.1) in absent p.0 p.1 p.2,
    (
      held s s.len,
      apart_distinct (held s s.len) (apart_held s s.len (omega arith) h.rows.best.apart),
      λ y m. let p = in_held s s.len y m in subst (Known al b []) p.2 (row_known al b [] s h grades_fit p.0 p.1),
      let long = length_held s s.len in let full : capacity s ≤ s.len = grind (arith, nat_tests) in omega arith,
    ),
  )

-- what a performed add makes of any reasoner
pub adds_row : {G : Type 0} (al : Algebra G) (x : Statement) (g : G) (s t : Table G) → t.phase ≡ s.phase → Offered al (view s) (view t) x g (kept 0 0 0 0) true → Grown (view s) (view t) → AddsRow al x g s t
adds_row al x g s t phase row grown = record { phase = phase; row = row; leaves = grown.leaves; kept_settled = grown_keeps s.settled_fit s.turns s.in_place.places grown }
