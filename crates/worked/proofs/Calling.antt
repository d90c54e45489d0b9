-- What a call comes to, where the reasoner's past is known.
use Rattle.std.proofs.Common.{◌≡◌, ℕ, ◌+◌, ◌<◌, ◌≤◌, false, List, [], ◌++◌, map, length, Ok, Err, sym, refl, ap, ◌∙◌, subst, ⊎_elim, arith, length-append}
use Rattle.std.proofs.lemmas.List.{length-map}
use borrow.Author.Tests.{both_ways}
use Rattle.standpoint.specs.declared.refusal.Refusal.{Refusal}
use Rattle.standpoint.specs.declared.refusal.Refusal.TheVariants.{NotBegun, TooFewRows, RowsTaken}
use Rattle.standpoint.specs.declared.sizes.Sizes.{Sizes}
use Rattle.standpoint.specs.declared.statement.Statement.{Statement}
use Rattle.standpoint.specs.declared.step.Step.{Step}
use Rattle.standpoint.specs.Lists.{In}
use Rattle.standpoint.specs.Sizes.{InRange}
use Rattle.standpoint.specs.Statements.{Fits, Misplaced}
use Rattle.standpoint.specs.Tautologies.{tautologies}
use Rattle.standpoint.specs.Algebra.{Algebra, Laws}
use Rattle.standpoint.specs.Derivations.{Base}
use Rattle.standpoint.specs.Derivations.Leaf.{accepted, tautology}
use Rattle.standpoint.proofs.Listing.{in_left, in_right}
use Rattle.standpoint.proofs.TautologyList.{tautologies_listed}
use Rattle.runs.specs.declared.Stand.{Stand}
use Rattle.runs.specs.Runs as runs
use Rattle.runs.specs.Runs.{Offers, Known, Settling, Stands}
use Rattle.runs.specs.Runs.Offers.{leaf, one, two, three}
use Rattle.runs.proofs.Lists.{in_map}
use Rattle.runs.proofs.Distinct.{distinct_apart, no_longer}
use Rattle.saturation.specs.declared.table.Table.{Table}
use Rattle.saturation.specs.Phases.{is_begun, is_sealed, sizes_of}
use Rattle.saturation.specs.Tables.{view, capacity}
use Rattle.reasoner.specs.declared.asking.Answer.{Answer}
use Rattle.reasoner.specs.Models.{based, empty_base, accepting, StandsFor, Holding}
use Rattle.reasoner.specs.Calls.{AddRefused, before_begin, after_settle, misfit, individual, no_row, AllRowsTaken, model_after}
use Rattle.reasoner.specs.Asking as asking
use Rattle.reasoner.specs.Asking.{AskRefused, Says}
use Rattle.reasoner.proofs.Holding.{held, refused_misfit}
use Rattle.replay.specs.declared.call.Call.TheVariants.{Begin, Add, Settle, Ask}
use Rattle.replay.specs.declared.call.Done.TheVariants.{Began, Added, Settled, Said}
use Rattle.replay.specs.Pasts.{Outcome}
use Rattle.replay.specs.Performing.{Performs}

module _ {G : Type 0} (a : Algebra G) where
  -- how many statements are accepted at least, and how many leaves there are at most
  abbrev pub leaf_count : Base G → ℕ
  leaf_count b = length (tautologies b.sizes) + length b.accepted

  abbrev leaf_list : Base G → List Statement
  leaf_list b = tautologies b.sizes ++ map (λ (o : Statement × G). o.0) b.accepted

  leaf_in : (b : Base G) (x : Statement) → Known a b [] x → In (leaf_list b) x
  leaf_in b x (g, leaf (accepted m fits)) = in_right (tautologies b.sizes) _ x (in_map (λ (o : Statement × G). o.0) b.accepted (x, g) m)
  leaf_in b x (_, leaf (tautology t)) = in_left (tautologies b.sizes) _ x ((tautologies_listed b.sizes _ refl).complete x t)
  leaf_in b x (_, one r m) = absurd m
  leaf_in b x (_, two r m n) = absurd m
  leaf_in b x (_, three r m n k) = absurd m

  -- with a row for each leaf and one more, not all rows are taken
  rows_left : (b : Base G) (rows : ℕ) → leaf_count b < rows → AllRowsTaken a b rows → ⊥
  rows_left b rows room (xs, distinct, known, many) =
      let few = no_longer xs (leaf_list b) (distinct_apart xs distinct) (λ x m. leaf_in b x (known x m)) in
      let long = length-append (tautologies b.sizes) (map (λ (o : Statement × G). o.0) b.accepted) in
      let mapped = length-map b.accepted (λ (o : Statement × G). o.0) in
      omega arith

  module _ (s : Table G) (b : Base G) (stands : StandsFor a (based b) s) where
    refused_not : (x : Statement) (g : G) (e : Refusal) → Fits b.sizes x → (Misplaced b.sizes.individuals x → ⊥) → leaf_count b < capacity (view s) →
        AddRefused s x e → (e ≡ RowsTaken → AllRowsTaken a b (capacity (view s))) → ⊥
    refused_not x g _ fits right room (before_begin f) all = both_ways _ f (ap is_begun stands.0)
    refused_not x g _ fits right room (after_settle f) all = both_ways _ (ap is_sealed stands.0) f
    refused_not x g _ fits right room (misfit {n} p unfit) all = unfit (subst (λ (m : Sizes). Fits m x) (sym (ap sizes_of stands.0) ∙ ap sizes_of p) fits)
    refused_not x g _ fits right room (individual {n} p fit wrong) all =
        right (subst (λ (m : Sizes). Misplaced m.individuals x) (sym (ap sizes_of p) ∙ ap sizes_of stands.0) wrong)
    refused_not x g _ fits right room (no_row p fit placed none absent) all = rows_left b (capacity (view s)) room (all refl)

  only_begun : (s : Table G) (x : Statement) (e : Refusal) → is_begun s.phase ≡ false → AskRefused s x e → e ≡ NotBegun
  only_begun s x _ asleep (asking.before_begin f) = refl
  only_begun s x _ asleep (asking.misfit f unfit) = absurd (both_ways _ asleep f)

  module _ (s t : Table G) (o : Outcome G) (old new : List (Step G)) where
    pub begun : (n : Sizes) → InRange n → length (tautologies n) ≤ capacity (view s) → Performs a (Begin n) o s t old new →
        (o ≡ Ok Began) × StandsFor a (based (empty_base n)) t
    begun n range room (same, (Ok _, is, made)) = (is, made.2)
    begun n range room (same, (Err e, is, made)) = absurd (⊎_elim (λ w. w.1 range) (λ w. let few = w.2 in omega arith) made.1)

    pub too_few : (n : Sizes) → InRange n → capacity (view s) < length (tautologies n) → Performs a (Begin n) o s t old new →
        (o ≡ Err TooFewRows) × (t.phase ≡ s.phase)
    too_few n range few (same, (Ok _, is, made)) = let room = made.1 in absurd (omega arith)
    too_few n range few (same, (Err e, is, made)) =
        (is ∙ ap (λ (r : Refusal). Err r) (⊎_elim (λ w. absurd (w.1 range)) (λ w. w.0) made.1), made.0.1)

    pub added : (b : Base G) → StandsFor a (based b) s → (x : Statement) (g : G) → Fits b.sizes x → (Misplaced b.sizes.individuals x → ⊥) → leaf_count b < capacity (view s) →
        Performs a (Add x g) o s t old new → (o ≡ Ok Added) × StandsFor a (based (accepting b x g)) t
    added b stands x g fits right room (same, (Ok _, is, made)) = (is, made.1 b stands)
    added b stands x g fits right room (same, (Err e, is, made)) = absurd (refused_not s b stands x g e fits right room made.1 (λ taken. (made.2 b stands taken).1))

    -- what is settled in turn is counted, and how the run then stands is known
    pub settled : (b : Base G) → StandsFor a (based b) s → (n count : ℕ) (how : Stand) →
        ((later : runs.Settled G) (stand : Stand) → Settling a b (capacity (view s)) n [] later → Stands a b (capacity (view s)) later stand → (length later ≡ count) × (stand ≡ how)) →
        Performs a (Settle n) o s t old new →
        (o ≡ Ok (Settled count how)) × ((later : runs.Settled G) × Settling a b (capacity (view s)) n [] later × Stands a b (capacity (view s)) later how × StandsFor a (model_after b later how) t)
    settled b stands n count how comes (same, (Ok r, is, made)) =
        let w = made.1 b stands in
        let c = comes w.0 r.1 w.1.1.0 w.1.1.1.0 in (
          is ∙ ap (λ (m : ℕ). Ok (Settled m r.1)) (sym w.1.0 ∙ c.0) ∙ ap (λ (k : Stand). Ok (Settled count k)) c.1,
          (w.0, w.1.1.0, subst (λ (k : Stand). Stands a b (capacity (view s)) w.0 k) c.1 w.1.1.1.0, subst (λ (k : Stand). StandsFor a (model_after b w.0 k) t) c.1 w.1.1.1.1),
        )
    settled b stands n count how comes (same, (Err e, is, made)) = absurd (both_ways _ made.2 (ap is_begun stands.0))

    pub settle_refused : (n : ℕ) → is_begun s.phase ≡ false → Performs a (Settle n) o s t old new → (o ≡ Err NotBegun) × (t.phase ≡ s.phase)
    settle_refused n asleep (same, (Ok r, is, made)) = absurd (both_ways _ asleep made.0)
    settle_refused n asleep (same, (Err e, is, made)) = (is ∙ ap (λ (r : Refusal). Err r) made.1, made.0.1)

    pub ask_refused : (x : Statement) → is_begun s.phase ≡ false → Performs a (Ask x) o s t old new → o ≡ Err NotBegun
    ask_refused x asleep (same, unchanged, (Ok said, is, told)) = absurd (both_ways _ asleep told.0.begun)
    ask_refused x asleep (same, unchanged, (Err e, is, refused)) = is ∙ ap (λ (r : Refusal). Err r) (only_begun s x e asleep refused)

    -- only one answer says what holds
    pub asked : Laws a → (b : Base G) (l : runs.Settled G) → Holding a b s l → (x : Statement) → Fits b.sizes x → (said : Answer G) →
        ((other : Answer G) → Says a b l (capacity (view s)) x other → other ≡ said) → Performs a (Ask x) o s t old new → o ≡ Ok (Said said)
    asked laws b l holding x fits said only (same, unchanged, (Ok other, is, told)) = is ∙ ap (λ (r : Answer G). Ok (Said r)) (only other (told.1 a laws b l holding))
    asked laws b l holding x fits said only (same, unchanged, (Err e, is, refused)) = absurd ((refused_misfit (held holding) x refused).1 fits)
