-- What the rows hold does not rest on winners.
use Rattle.std.proofs.Common.{◌≡◌, ℕ, ◌<◌, ◌≤◌, true, List, get_or, sym, ap, ◌∙◌, subst, arith}
use Rattle.standpoint.specs.declared.statement.Statement.{Statement}
use Rattle.standpoint.specs.Lists.{In}
use Rattle.standpoint.specs.Algebra.{Algebra}
use Rattle.standpoint.specs.Derivations.{Base}
use Rattle.saturation.specs.declared.row.Kept.{Kept}
use Rattle.saturation.specs.declared.row.Row.{Row}
use Rattle.saturation.specs.Tables.{State, capacity, row_at, statement_at}
use Rattle.saturation.specs.Places.{KeptRight}
use Rattle.saturation.specs.Tournament.{ButWinners}
use Rattle.saturation.specs.Offering.{Apart, BestOf, Grown, RowsRight}
use Rattle.saturation.proofs.Leaving.{but_leaves}
use Rattle.saturation.proofs.Rematching.{but_statement, but_place, but_grade}

pub same_right : {G : Type 0} (al : Algebra G) (base : Base G) (l : List (Statement × G)) (x y : Statement) (g h : G) (j k : Kept) → x ≡ y → g ≡ h → j ≡ k → KeptRight al base l (x, g) j → KeptRight al base l (y, h) k
same_right {G} al base l x y g h j k e f i r =
    subst (λ (v : Statement). KeptRight al base l (v, h) k) e (subst (λ (v : G). KeptRight al base l (x, v) k) f (subst (λ (v : Kept). KeptRight al base l (x, g) v) i r))

module _ {G : Type 0} {s t : State G} (but : ButWinners s t) where
  but_kept : (k : ℕ) → (row_at t k).kept ≡ (row_at s k).kept
  but_kept k = ap (λ (r : Row). r.kept) (but.rows k)

  back : (k : ℕ) → k < t.len → k < s.len
  back k h = let e = but.len in omega arith

  pub but_grown : s.len ≤ capacity s → Grown s t
  but_grown fits =
      let e = but.len in
      record {
        more = omega arith;
        settled = but.settled;
        statements = λ k h. but_statement but k;
        places = λ k h. but_place but k;
        turns = λ k h. ap (λ (r : Row). r.turn) (but.rows k);
        fresh = λ k low h. absurd (let z : ⊥ = omega arith in z);
        kept = λ k h closed. (but_kept k, but_grade but k);
        leaves = but_leaves fits but;
      }

  pub but_apart : Apart s → Apart t
  but_apart apart i j hi hj e = apart i j (back i hi) (back j hj) (sym (but_statement but i) ∙ e ∙ but_statement but j)

  pub but_best : (a : Algebra G) (offered : List (Statement × G)) → BestOf a s offered → BestOf a t offered
  but_best a offered b =
      let e = but.len in
      record {
        apart = but_apart b.apart;
        every = λ x g m. let p = b.every x g m in let h = p.1 in (p.0, omega arith, but_statement but p.0 ∙ p.2);
        from = λ i h un d.
            subst (λ x. In offered (x, get_or t.grades i d)) (sym (but_statement but i))
            (subst (λ g. In offered (statement_at s i, g)) (sym (but_grade but i d)) (b.from i (back i h) (sym (but_place but i) ∙ un) d));
        best = λ i h un g m d.
            subst (λ v. a.no_worse v g ≡ true) (sym (but_grade but i d))
            (b.best i (back i h) (sym (but_place but i) ∙ un) g (subst (λ x. In offered (x, g)) (but_statement but i) m) d);
      }

  pub but_right : (a : Algebra G) (base : Base G) (settled : List (Statement × G)) → RowsRight a base settled s → RowsRight a base settled t
  but_right a base settled right i h un d =
      same_right a base settled _ _ _ _ _ _ (sym (but_statement but i)) (sym (but_grade but i d)) (sym (but_kept i)) (right i (back i h) (sym (but_place but i) ∙ un) d)
