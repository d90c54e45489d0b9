-- Lists that are put together, and lists of what a function gives for each number of a stretch.
use Rattle.std.proofs.Common.{◌≡◌, ℕ, zero, suc, ◌+◌, ◌-◌, ◌<◌, ◌≤◌, Bool, true, false, cond, ltb, ◌⊎◌, List, [], ◌∷◌, ◌++◌, map, Some, None, Option, sym, refl, ap, ◌∙◌, subst, inl, inr, arith, ltb-false, ltb-true}
use native.Mathlib.Decide.{ℕ_discrete}
use Rattle.std.proofs.lemmas.List.{append-nil}
use Rattle.std.proofs.lemmas.Bool.Decides.{nat_tests}
use Rattle.std.specs.List.{slice_get, range_with_len}
use Rattle.standpoint.specs.Lists.{In, Distinct}

module _ {X : Type 0} where
  pub in_left : (xs ys : List X) (x : X) → In xs x → In (xs ++ ys) x
  in_left [] ys x m = elim m [ ]
  in_left (z ∷ xs) ys x (inl e) = inl e
  in_left (z ∷ xs) ys x (inr m) = inr (in_left xs ys x m)

  pub in_right : (xs ys : List X) (x : X) → In ys x → In (xs ++ ys) x
  in_right [] ys x m = m
  in_right (z ∷ xs) ys x m = inr (in_right xs ys x m)

  pub in_either : (xs ys : List X) (x : X) → In (xs ++ ys) x → In xs x ⊎ In ys x
  in_either [] ys x m = inr m
  in_either (z ∷ xs) ys x (inl e) = inl (inl e)
  in_either (z ∷ xs) ys x (inr m) = elim (in_either xs ys x m) [ inl l ↦ inl (inr l) | inr r ↦ inr r ]

  -- a number of the stretch gives a member, and each member comes from one
  pub in_stretch : (f : ℕ → X) (a n k : ℕ) → a ≤ k → k < a + n → In (map f (range_with_len a n)) (f k)
  in_stretch f a zero k low high = absurd (omega arith)
  in_stretch f a (suc n) k low high = elim (ℕ_discrete a k) [
    | yes e ↦ inl (ap f e)
    | no d ↦ inr (in_stretch f (a + 1) n k (omega (arith, d)) (omega arith))
  ]

  pub of_stretch : (f : ℕ → X) (a n : ℕ) (x : X) → In (map f (range_with_len a n)) x → (k : ℕ) × (a ≤ k) × (k < a + n) × (f k ≡ x)
  of_stretch f a zero x m = elim m [ ]
  of_stretch f a (suc n) x (inl e) = (a, omega arith, omega arith, e)
  of_stretch f a (suc n) x (inr m) = let w = of_stretch f (a + 1) n x m in (w.0, omega (arith, w.1), omega (arith, w.2), w.3)

  -- the place k of a stretch with more behind it
  pub nth_part : (f : ℕ → X) (a n : ℕ) (ys : List X) (k : ℕ) → slice_get (map f (range_with_len a n) ++ ys) k ≡ cond (ltb k n) (Some (f (a + k))) (slice_get ys (k - n))
  nth_part f a zero ys k =
      let past : ltb k 0 ≡ false = grind (arith, nat_tests) in
      let same : k - 0 ≡ k = omega arith in
      rw (past, same)
  nth_part f a (suc n) ys zero =
      let within : ltb 0 (suc n) ≡ true = grind (arith, nat_tests) in
      let same : a + 0 ≡ a = omega arith in
      rw (within, same)
  nth_part f a (suc n) ys (suc k) =
      let one : ltb (suc k) (suc n) ≡ ltb k n = grind (arith, nat_tests) in
      let two : a + suc k ≡ a + 1 + k = omega arith in
      let three : suc k - suc n ≡ k - n = omega arith in
      rw (one, two, three) (nth_part f (a + 1) n ys k)

  pub nth_stretch : (f : ℕ → X) (a n k : ℕ) → slice_get (map f (range_with_len a n)) k ≡ cond (ltb k n) (Some (f (a + k))) None
  nth_stretch f a n k = subst (λ (zs : List X). slice_get zs k ≡ cond (ltb k n) (Some (f (a + k))) None) (append-nil (map f (range_with_len a n))) (nth_part f a n [] k)

  -- a place for each thing, which tells where it stands, b places on
  abbrev pub Placed : (X → ℕ) → ℕ → List X → Type 0
  Placed place b xs = (k : ℕ) (x : X) → slice_get xs k ≡ Some x → place x ≡ b + k

  pub placed_distinct : (place : X → ℕ) (xs : List X) → Placed place 0 xs → Distinct xs
  placed_distinct place xs placed j k x e f = omega (arith, placed j x e, placed k x f)

  chosen : (b : Bool) (v x : X) (rest : Option X) (P : Type 0) → cond b (Some v) rest ≡ Some x → (b ≡ true → v ≡ x → P) → (b ≡ false → rest ≡ Some x → P) → P
  chosen true v x rest P h here there = here refl (cc)
  chosen false v x rest P h here there = there refl h

  pub placed_part : (place : X → ℕ) (b : ℕ) (f : ℕ → X) (a n : ℕ) (ys : List X) → ((k : ℕ) → k < n → place (f (a + k)) ≡ b + k) → Placed place (b + n) ys →
      Placed place b (map f (range_with_len a n) ++ ys)
  placed_part place b f a n ys here there k x h =
      chosen (ltb k n) (f (a + k)) x (slice_get ys (k - n)) (place x ≡ b + k) (sym (nth_part f a n ys k) ∙ h)
      (λ t e. ap place (sym e) ∙ here k (ltb-true k n t))
      (λ t e. omega (arith, there (k - n) x e, ltb-false k n t))

  pub placed_stretch : (place : X → ℕ) (b : ℕ) (f : ℕ → X) (a n : ℕ) → ((k : ℕ) → k < n → place (f (a + k)) ≡ b + k) → Placed place b (map f (range_with_len a n))
  placed_stretch place b f a n here = subst (Placed place b) (append-nil (map f (range_with_len a n))) (placed_part place b f a n [] here (λ k x h. absurd (grind arith)))
