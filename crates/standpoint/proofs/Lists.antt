-- Answers carried from one question to another, and scans of a list.
use Rattle.std.proofs.Common.{◌≡◌, ℕ, zero, suc, ◌+◌, ◌-◌, ◌<◌, ◌≤◌, Bool, true, false, List, [], ◌∷◌, length, get_or, None, Some, Option, sym, refl, ap, ◌∙◌, subst, inl, inr, ⊎_elim, arith, below_more}
use Rattle.std.specs.List.{slice_get}
use Rattle.std.proofs.lemmas.Option.{slice_get-get_or}
use Rattle.standpoint.specs.Lists.{Tells, In, StandsAt}

pub tells_as : {P Q : Type 0} (b : Bool) → (P → Q) → (Q → P) → Tells b P → Tells b Q
tells_as true to from t = to t
tells_as false to from t = λ q. t (from q)

pub in_stands : {X : Type 0} (xs : List X) (x : X) → In xs x → (k : ℕ) × StandsAt xs k x
in_stands [] x m = absurd m
in_stands (y ∷ ys) x m =
    ⊎_elim
    (λ e. (0, (omega arith, λ d. e)))
    (λ r. let p = in_stands ys x r in let h = p.1.0 in (suc p.0, (omega arith, p.1.1)))
    m

pub in_getD : {X : Type 0} (xs : List X) (k : ℕ) (d : X) → k < length xs → In xs (get_or xs k d)
in_getD [] k d h = absurd (let z : ⊥ = omega arith in z)
in_getD (x ∷ xs) zero d h = inl refl
in_getD (x ∷ xs) (suc k) d h = inr (in_getD xs k d (omega arith))

-- a scan for o: what was read at i is o by its parts, or not, or the list is at its end
module _ {X Y : Type 0} (xs : List (X × Y)) (i : ℕ) (o d : X × Y) where
  pub scan_found : i < length xs → d ≡ get_or xs i d → (d.0 ≡ o.0) × (d.1 ≡ o.1) → In xs o
  scan_found l read same =
      let is : ◌≡◌ {A = X × Y} (d.0, d.1) (o.0, o.1) = cc in
      subst (In xs) (sym read ∙ is) (in_getD xs i d l)

  pub scan_more : d ≡ get_or xs i d → ((d.0 ≡ o.0) × (d.1 ≡ o.1) → ⊥) → ((k : ℕ) → k < i → StandsAt xs k o → ⊥) →
      (k : ℕ) → k < i + 1 → StandsAt xs k o → ⊥
  scan_more read differs below =
      below_more (λ k. StandsAt xs k o → ⊥) i below
      (λ at. let e = read ∙ at.1 d in differs (ap (λ (v : X × Y). v.0) e, ap (λ (v : X × Y). v.1) e))

pub scan_ended : {X : Type 0} (xs : List X) (i : ℕ) (o : X) → length xs ≤ i → ((k : ℕ) → k < i → StandsAt xs k o → ⊥) → In xs o → ⊥
scan_ended xs i o ended below m = let at = in_stands xs o m in let l = at.1.0 in below at.0 (omega arith) at.1

pub no_last : {X : Type 0} (xs : List X) → slice_get xs (length xs - 1) ≡ None → xs ≡ []
no_last [] e = refl
no_last (x ∷ xs) e =
    let ys = x ∷ xs in
    let read = slice_get-get_or ys (length ys - 1) x (omega arith) in
    absurd (let z : ⊥ = let f : ◌≡◌ {A = Option _} (Some (get_or ys (length ys - 1) x)) None = sym read ∙ e in cc in z)
