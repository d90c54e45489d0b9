-- Lists in which nothing stands twice.
use Rattle.std.proofs.Common.{◌≡◌, ℕ, zero, suc, ◌≤◌, Bool, true, false, cond, List, [], ◌∷◌, ◌++◌, map, length, Some, filter, sym, refl, ap, ◌∙◌, subst, inl, inr, arith}
use Rattle.std.specs.List.{slice_get}
use Rattle.standpoint.specs.Lists.{In, Distinct}
use Rattle.standpoint.proofs.Listing.{in_either}
use Rattle.runs.proofs.Lists.{of_map, in_map, of_kept}

-- none stands again further on
abbrev pub Apart : {X : Type 0} → List X → Type 0
Apart [] = Unit {0}
Apart (x ∷ xs) = (In xs x → ⊥) × Apart xs

module _ {X : Type 0} where
  pub in_nth : (xs : List X) (k : ℕ) (x : X) → slice_get xs k ≡ Some x → In xs x
  in_nth [] k x e = absurd (grind arith)
  in_nth (y ∷ xs) zero x e = inl cc
  in_nth (y ∷ xs) (suc k) x e = inr (in_nth xs k x e)

  pub nth_in : (xs : List X) (x : X) → In xs x → (k : ℕ) × (slice_get xs k ≡ Some x)
  nth_in [] x m = elim m [ ]
  nth_in (y ∷ xs) x (inl e) = (0, ap Some e)
  nth_in (y ∷ xs) x (inr m) = let w = nth_in xs x m in (suc w.0, w.1)

  pub apart_distinct : (xs : List X) → Apart xs → Distinct xs
  apart_distinct [] apart j k x e f = absurd (grind arith)
  apart_distinct (y ∷ xs) apart zero zero x e f = refl
  apart_distinct (y ∷ xs) apart zero (suc k) x e f = let here : y ≡ x = cc in absurd (apart.0 (subst (In xs) (sym here) (in_nth xs k x f)))
  apart_distinct (y ∷ xs) apart (suc j) zero x e f = let here : y ≡ x = cc in absurd (apart.0 (subst (In xs) (sym here) (in_nth xs j x e)))
  apart_distinct (y ∷ xs) apart (suc j) (suc k) x e f = ap suc (apart_distinct xs apart.1 j k x e f)

  pub distinct_apart : (xs : List X) → Distinct xs → Apart xs
  distinct_apart [] distinct = tt
  distinct_apart (x ∷ xs) distinct = (
    (λ m. let w = nth_in xs x m in omega (arith, distinct 0 (suc w.0) x refl w.1)),
    distinct_apart xs (λ j k y e f. omega (arith, distinct (suc j) (suc k) y e f)),
  )

  pub apart_append : (xs ys : List X) → Apart xs → Apart ys → ((x : X) → In xs x → In ys x → ⊥) → Apart (xs ++ ys)
  apart_append [] ys xs-apart ys-apart none = ys-apart
  apart_append (x ∷ xs) ys xs-apart ys-apart none = (
    (λ m. elim (in_either xs ys x m) [ inl later ↦ xs-apart.0 later | inr there ↦ none x (inl refl) there ]),
    apart_append xs ys xs-apart.1 ys-apart (λ y m. none y (inr m)),
  )

  -- one more at the end
  pub apart_push : (xs : List X) (o : X) → Apart xs → (In xs o → ⊥) → Apart (xs ++ o ∷ [])
  apart_push xs o apart new =
      apart_append xs (o ∷ []) apart ((λ m. m), tt) (λ x m n. elim n [ inl e ↦ new (subst (In xs) (sym e) m) | inr z ↦ elim z [ ] ])

-- what is kept of a list whose images are apart
module _ {X Y : Type 0} (f : X → Y) (test : X → Bool) where
  kept_image : (xs : List X) (y : Y) → In (map f (filter test xs)) y → In (map f xs) y
  kept_image xs y m =
      let w = of_map f (filter test xs) y m in subst (In (map f xs)) w.2 (in_map f xs w.0 (of_kept test xs w.0 w.1).0)

  pub apart_kept : (xs : List X) → Apart (map f xs) → Apart (map f (filter test xs))
  apart_kept [] apart = tt
  apart_kept (x ∷ xs) apart = go (test x) (λ m. apart.0 (kept_image xs (f x) m)) (apart_kept xs apart.1)
    where
      go : (b : Bool) → (In (map f (filter test xs)) (f x) → ⊥) → Apart (map f (filter test xs)) →
          Apart (map f (cond b (x ∷ filter test xs) (filter test xs)))
      go true new rest = (new, rest)
      go false new rest = rest

-- a list without one of its members
module _ {X : Type 0} (x : X) where
  left : (ys : List X) → In ys x → List X
  left [] m = []
  left (y ∷ ys) (inl e) = ys
  left (y ∷ ys) (inr m) = y ∷ left ys m

  left_length : (ys : List X) (m : In ys x) → length ys ≡ suc (length (left ys m))
  unfolding left
  left_length [] m = elim m [ ]
  left_length (y ∷ ys) (inl e) = refl
  left_length (y ∷ ys) (inr m) = ap suc (left_length ys m)

  in_rest : (ys : List X) (m : In ys x) (z : X) → (x ≡ z → ⊥) → In ys z → In (left ys m) z
  unfolding left
  in_rest [] m z differs n = elim m [ ]
  in_rest (y ∷ ys) (inl e) z differs (inl f) = absurd (differs (sym e ∙ f))
  in_rest (y ∷ ys) (inl e) z differs (inr n) = n
  in_rest (y ∷ ys) (inr m) z differs (inl f) = inl f
  in_rest (y ∷ ys) (inr m) z differs (inr n) = inr (in_rest ys m z differs n)

-- a list whose members stand apart in another is no longer than it
pub no_longer : {X : Type 0} (xs ys : List X) → Apart xs → ((x : X) → In xs x → In ys x) → length xs ≤ length ys
no_longer [] ys apart within = omega arith
no_longer (x ∷ xs) ys apart within =
    let m = within x (inl refl) in
    let rest = no_longer xs (left x ys m) apart.1 (λ z n. in_rest x ys m z (λ e. apart.0 (subst (In xs) (sym e) n)) (within z (inr n))) in
    omega (arith, left_length x ys m)
