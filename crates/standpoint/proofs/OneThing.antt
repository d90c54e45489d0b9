-- There is a structure for all sizes.
use Rattle.std.proofs.Common.{◌≡◌, ℕ, ◌≤◌, Bool, true, false, not, ◌&&◌, T, eqb, arith, eqb→eq}
use Rattle.standpoint.specs.declared.sizes.Sizes.{Sizes}
use Rattle.standpoint.specs.Claims.Claim.{told}
use Rattle.standpoint.specs.Structures.{Structure}

-- one thing, one precisification; every concept but bottom has the thing
pub one_thing : (n : Sizes) → Structure n
one_thing n = record {
  thing = λ δ. told (eqb δ 0);
  precisification = λ π. told (eqb π 0);
  standpoint = λ s π. told (eqb π 0);
  concept = λ π c δ. told (eqb δ 0 && not (eqb c 1));
  role = λ π r δ ε. told false;
  some_thing = (0, tt);
  some_precisification = (0, tt);
  some_in_standpoint = λ s _. (0, tt);
  standpoint_within = λ s π h. h;
  standpoint_of_all = λ π h. h;
  concept_within = λ π c δ h. left (eqb δ 0) (not (eqb c 1)) h;
  role_within = λ π r δ ε h. elim h [ ];
  top_all = λ π δ _ h. both (eqb δ 0) h;
  bottom_none = λ π δ h. neither (eqb δ 0) h;
  individual_thing = λ a i. (0, λ π _. (other a i.0, λ ε h. eqb→eq ε 0 (left (eqb ε 0) (not (eqb a 1)) h)));
}
  where
    left : (a b : Bool) → T (a && b) → T a
    left true b h = tt
    left false b h = h

    both : (a : Bool) → T a → T (a && true)
    both true h = tt
    both false h = h

    neither : (a : Bool) → T (a && false) → ⊥
    neither true h = h
    neither false h = h

    other : (a : ℕ) → 2 ≤ a → T (not (eqb a 1))
    other a l = go (eqb a 1) (eqb→eq a 1)
      where
        go : (b : Bool) → (T b → a ≡ 1) → T (not b)
        go true f = let e = f tt in omega arith
        go false f = tt
