-- What stands in lists that are made of others.
use Rattle.std.proofs.Common.{◌≡◌, ℕ, zero, suc, ◌+◌, ◌<◌, ◌≤◌, Bool, true, false, cond, ◌⊎◌, List, [], ◌∷◌, map, filter, sym, refl, ap, subst, inl, inr, arith}
use native.Mathlib.Decide.{ℕ_discrete}
use Rattle.std.specs.List.{range_with_len}
use Rattle.standpoint.specs.Lists.{In}
use Rattle.standpoint.proofs.Listing.{in_left, in_right, in_either}
use Rattle.runs.specs.Model.{each}

pub in_counting : (from count k : ℕ) → from ≤ k → k < from + count → In (range_with_len from count) k
in_counting from zero k low high = absurd (omega arith)
in_counting from (suc count) k low high = elim (ℕ_discrete from k) [
  | yes e ↦ inl e
  | no d ↦ inr (in_counting (from + 1) count k (omega (arith, d)) (omega arith))
]

module _ {X Y : Type 0} (f : X → Y) where
  pub of_map : (xs : List X) (y : Y) → In (map f xs) y → (x : X) × In xs x × (f x ≡ y)
  of_map [] y m = elim m [ ]
  of_map (x ∷ xs) y (inl e) = (x, inl refl, e)
  of_map (x ∷ xs) y (inr m) = let w = of_map xs y m in (w.0, inr w.1, w.2)

  pub in_map : (xs : List X) (x : X) → In xs x → In (map f xs) (f x)
  in_map [] x m = elim m [ ]
  in_map (y ∷ xs) x (inl e) = inl (ap f e)
  in_map (y ∷ xs) x (inr m) = inr (in_map xs x m)

module _ {X Y : Type 0} (f : X → List Y) where
  pub of_each : (xs : List X) (y : Y) → In (each xs f) y → (x : X) × In xs x × In (f x) y
  unfolding each
  of_each [] y m = elim m [ ]
  of_each (x ∷ xs) y m = elim (in_either (f x) (each xs f) y m) [
    | inl here ↦ (x, inl refl, here)
    | inr later ↦ let w = of_each xs y later in (w.0, inr w.1, w.2)
  ]

  pub in_each : (xs : List X) (x : X) (y : Y) → In xs x → In (f x) y → In (each xs f) y
  unfolding each
  in_each [] x y m n = elim m [ ]
  in_each (z ∷ xs) x y (inl e) n = in_left (f z) (each xs f) y (subst (λ v. In (f v) y) (sym e) n)
  in_each (z ∷ xs) x y (inr m) n = in_right (f z) (each xs f) y (in_each xs x y m n)

-- an element that is kept where a test holds
module _ {X : Type 0} where
  of_keep : (b : Bool) (y : X) (ys : List X) (x : X) → In (cond b (y ∷ ys) ys) x → ((b ≡ true) × (y ≡ x)) ⊎ In ys x
  of_keep true y ys x (inl e) = inl (refl, e)
  of_keep true y ys x (inr m) = inr m
  of_keep false y ys x m = inr m

  keep_head : (b : Bool) (y : X) (ys : List X) → b ≡ true → In (cond b (y ∷ ys) ys) y
  keep_head true y ys e = inl refl
  keep_head false y ys e = absurd (grind arith)

  keep_tail : (b : Bool) (y : X) (ys : List X) (x : X) → In ys x → In (cond b (y ∷ ys) ys) x
  keep_tail true y ys x m = inr m
  keep_tail false y ys x m = m

module _ {X : Type 0} (test : X → Bool) where
  pub of_kept : (xs : List X) (x : X) → In (filter test xs) x → In xs x × (test x ≡ true)
  of_kept [] x m = elim m [ ]
  of_kept (y ∷ ys) x m = elim (of_keep (test y) y (filter test ys) x m) [
    | inl here ↦ (inl here.1, subst (λ v. test v ≡ true) here.1 here.0)
    | inr later ↦ let w = of_kept ys x later in (inr w.0, w.1)
  ]

  pub in_kept : (xs : List X) (x : X) → In xs x → test x ≡ true → In (filter test xs) x
  in_kept [] x m t = elim m [ ]
  in_kept (y ∷ ys) x (inl e) t =
      subst (In (filter test (y ∷ ys))) e (keep_head (test y) y (filter test ys) (subst (λ v. test v ≡ true) (sym e) t))
  in_kept (y ∷ ys) x (inr m) t = keep_tail (test y) y (filter test ys) x (in_kept ys x m t)
