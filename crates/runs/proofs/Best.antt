-- A run settles each statement at the best grade of its derivations.
use Rattle.std.proofs.Common.{◌⊎◌, [], ◌∷◌, ◌++◌, sym, ap, subst, inl, inr}
use Rattle.standpoint.specs.declared.statement.Statement.{Statement}
use Rattle.standpoint.specs.Lists.{In}
use Rattle.standpoint.specs.Algebra.{Algebra, Laws, NoWorse}
use Rattle.standpoint.specs.Derivations.{Base, Derives}
use Rattle.standpoint.proofs.Listing.{in_left}
use Rattle.runs.specs.Runs.{Settled, Unsettled, Offers, Run}
use Rattle.runs.specs.Runs.Run.{fresh, settles}
use Rattle.runs.specs.Laws.{SettledIsBest, NoneIsExact}
use Rattle.runs.proofs.Grades.{no_worse_itself, no_worse_same, joins, above_first, above_second}
use Rattle.runs.proofs.Offers.{new_or_old, settled_or, settled_derives, derived_settled, settled_once}

module _ {G : Type 0} (a : Algebra G) (laws : Laws a) (base : Base G) where
  -- a settled grade is no worse than the new one's, or was settled before
  new_grade : (settled : Settled G) (o : Statement × G) (p : Statement) (h : G) → In (settled ++ o ∷ []) (p, h) → NoWorse a o.1 h ⊎ In settled (p, h)
  new_grade settled o p h m = elim (new_or_old settled o (p, h) m) [
    | inl e ↦ inl (no_worse_same a laws o.1 h (ap (λ (v : Statement × G). v.1) e))
    | inr old ↦ inr old
  ]

  -- an offer over one settled statement more is an old offer, or no better than the new statement's grade
  old_or_no_better : (settled : Settled G) (o : Statement × G) {y : Statement} {h : G} → Offers a base (settled ++ o ∷ []) y h →
      Offers a base settled y h ⊎ NoWorse a o.1 h
  old_or_no_better settled o (Offers.leaf l) = inl (Offers.leaf l)
  old_or_no_better settled o (Offers.one r p) = elim (new_grade settled o _ _ p) [ inl w ↦ inr w | inr p' ↦ inl (Offers.one r p') ]
  old_or_no_better settled o (Offers.two {g} {h} r p q) = elim (new_grade settled o _ _ p) [
    | inl w ↦ inr (laws.trans _ g _ w (laws.left g h))
    | inr p' ↦ elim (new_grade settled o _ _ q) [
      | inl w ↦ inr (laws.trans _ h _ w (laws.right g h))
      | inr q' ↦ inl (Offers.two r p' q')
    ]
  ]
  old_or_no_better settled o (Offers.three {g} {h} {i} r p q s) = elim (new_grade settled o _ _ p) [
    | inl w ↦ inr (laws.trans _ g _ w (above_first a laws g h i))
    | inr p' ↦ elim (new_grade settled o _ _ q) [
      | inl w ↦ inr (laws.trans _ h _ w (above_second a laws g h i))
      | inr q' ↦ elim (new_grade settled o _ _ s) [
        | inl w ↦ inr (laws.trans _ i _ w (laws.right (a.join g h) i))
        | inr s' ↦ inl (Offers.three r p' q' s')
      ]
    ]
  ]

  -- what a run keeps: a settled grade is no worse than any offer for its statement, and than any offer for an unsettled one
  pub record Kept (settled : Settled G) : Type 0 where
    pub best : (x : Statement) (g h : G) → In settled (x, g) → Offers a base settled x h → NoWorse a g h
    pub no_better_left : (x y : Statement) (g h : G) → In settled (x, g) → Offers a base settled y h → Unsettled settled y → NoWorse a g h

  pub kept : {settled : Settled G} → Run a base settled → Kept settled
  kept fresh = record { best = λ x g h m. elim m [ ]; no_better_left = λ x y g h m. elim m [ ] }
  kept (settles {settled} {x} {g} run next) = grown (kept run)
    where
      -- grades only get worse
      before : Kept settled → (z : Statement) (m : G) → In (settled ++ (x, g) ∷ []) (z, m) → NoWorse a m g
      before K z m at = elim (new_or_old settled (x, g) (z, m) at) [
        | inl e ↦ no_worse_same a laws m g (sym (ap (λ (v : Statement × G). v.1) e))
        | inr old ↦ K.no_better_left z x m g old next.offered next.unsettled
      ]

      grown : Kept settled → Kept (settled ++ (x, g) ∷ [])
      grown K = record {
        best = λ z m h at offer. elim (old_or_no_better settled (x, g) offer) [
          | inr w ↦ laws.trans m g h (before K z m at) w
          | inl offer' ↦ elim (new_or_old settled (x, g) (z, m) at) [
            | inl e ↦
                laws.trans m g h (before K z m at)
                (next.best x h (subst (λ (v : Statement × G). Offers a base settled v.0 h) (sym e) offer') next.unsettled)
            | inr old ↦ K.best z m h old offer'
          ]
        ];
        no_better_left = λ z y m h at offer un. elim (old_or_no_better settled (x, g) offer) [
          | inr w ↦ laws.trans m g h (before K z m at) w
          | inl offer' ↦ laws.trans m g h (before K z m at) (next.best y h offer' (λ w old. un w (in_left settled ((x, g) ∷ []) (y, w) old)))
        ];
      }

  -- a derivation's conclusion is settled at a grade no worse, or every settled grade is no worse than the derivation's
  abbrev Beaten : Settled G → Statement → G → Type 0
  Beaten settled x d = ((g : G) × In settled (x, g) × NoWorse a g d) ⊎ ((y : Statement) (g : G) → In settled (y, g) → NoWorse a g d)

  module _ {settled : Settled G} (run : Run a base settled) where
    by_offer : (x : Statement) (g d : G) → Offers a base settled x g → NoWorse a g d → Beaten settled x d
    by_offer x g d offer w = elim (settled_or settled x) [
      | inl m ↦ inl (m.0, m.1, laws.trans m.0 g d ((kept run).best x m.0 g m.1 offer) w)
      | inr un ↦ inr (λ y m at. laws.trans m g d ((kept run).no_better_left y x m g at offer un) w)
    ]

    beaten : {x : Statement} {d : G} → Derives a base x d → Beaten settled x d
    beaten {x} {d} (Derives.leaf l) = by_offer x d d (Offers.leaf l) (no_worse_itself a laws d)
    beaten {x} {d} (Derives.one r p) = elim (beaten p) [ inl m ↦ by_offer x m.0 d (Offers.one r m.1) m.2 | inr all ↦ inr all ]
    beaten {x} (Derives.two {g} {h} r p q) = elim (beaten p) [
      | inr all ↦ inr (λ y m at. laws.trans m g _ (all y m at) (laws.left g h))
      | inl m ↦ elim (beaten q) [
        | inr all ↦ inr (λ y n at. laws.trans n h _ (all y n at) (laws.right g h))
        | inl n ↦ by_offer x _ _ (Offers.two r m.1 n.1) (joins a laws m.0 g n.0 h m.2 n.2)
      ]
    ]
    beaten {x} (Derives.three {g} {h} {i} r p q s) = elim (beaten p) [
      | inr all ↦ inr (λ y m at. laws.trans m g _ (all y m at) (above_first a laws g h i))
      | inl l ↦ elim (beaten q) [
        | inr all ↦ inr (λ y m at. laws.trans m h _ (all y m at) (above_second a laws g h i))
        | inl m ↦ elim (beaten s) [
          | inr all ↦ inr (λ y n at. laws.trans n i _ (all y n at) (laws.right (a.join g h) i))
          | inl n ↦
              by_offer x _ _ (Offers.three r l.1 m.1 n.1)
              (joins a laws _ _ _ _ (joins a laws l.0 g m.0 h l.2 m.2) n.2)
        ]
      ]
    ]

pub settled_is_best : {G : Type 0} (a : Algebra G) → Laws a → SettledIsBest a
settled_is_best a laws base settled run x g m = (
  settled_derives a base run x g m,
  λ d tree. elim (beaten a laws base run tree) [
    | inl n ↦ subst (λ z. NoWorse a z d) (settled_once a base run x n.0 g n.1 m) n.2
    | inr all ↦ all x g m
  ],
)

pub none_is_exact : {G : Type 0} (a : Algebra G) → NoneIsExact a
none_is_exact a base settled run all x =
    ((λ un d tree. let m = derived_settled a base all tree in un m.0 m.1), (λ underived g m. underived g (settled_derives a base run x g m)))
