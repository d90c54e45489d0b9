-- How many of the first places are chosen.
use Rattle.std.proofs.Common.{◌≡◌, ℕ, zero, suc, ◌+◌, ◌<◌, ◌≤◌, Bool, true, false, cond, sym, refl, ap, ◌∙◌, subst, ⊎_elim, arith}
use Rattle.saturation.proofs.Offers.{last_or, below_or}
use Rattle.explanation.specs.Needed.{rank}

module _ (m : ℕ → Bool) where
  -- one place counts for one or none
  abbrev one_if : Bool → ℕ
  one_if b = cond b 1 0

  at_most_one : (b : Bool) → one_if b ≤ 1
  at_most_one true = omega arith
  at_most_one false = omega arith

  rank_next : (k : ℕ) → rank m (k + 1) ≡ rank m k + one_if (m k)
  rank_next k = let e : k + 1 ≡ suc k = omega arith in ap (rank m) e

  pub rank_taken : (k : ℕ) → m k ≡ true → rank m (k + 1) ≡ rank m k + 1
  rank_taken k e = rank_next k ∙ ap (λ (b : Bool). rank m k + one_if b) e

  pub rank_left : (k : ℕ) → m k ≡ false → rank m (k + 1) ≡ rank m k
  rank_left k e = rank_next k ∙ ap (λ (b : Bool). rank m k + one_if b) e ∙ (let z : rank m k + 0 ≡ rank m k = omega arith in z)

  pub rank_most : (k : ℕ) → rank m k ≤ k
  rank_most zero = omega arith
  rank_most (suc k) = let r = rank_most k in let o = at_most_one (m k) in omega arith

  rank_up : (a b : ℕ) → a ≤ b → rank m a ≤ rank m b
  rank_up a zero h = let e : a ≡ 0 = omega arith in subst (λ (n : ℕ). rank m n ≤ rank m 0) (sym e) (let z : rank m 0 ≤ rank m 0 = omega arith in z)
  rank_up a (suc b) h =
      ⊎_elim
      (λ lt. let r = rank_up a b (omega arith) in let z : rank m a ≤ rank m b + one_if (m b) = omega arith in z)
      (λ e. subst (λ (n : ℕ). rank m n ≤ rank m (suc b)) (sym e) (let z : rank m (suc b) ≤ rank m (suc b) = omega arith in z))
      (last_or a (suc b) (omega arith))

  pub rank_below : (a b : ℕ) → a < b → m a ≡ true → rank m a < rank m b
  rank_below a b h e = let t = rank_taken a e in let u = rank_up (a + 1) b (omega arith) in omega arith

  -- the chosen one that has this rank
  pub unrank : (b n : ℕ) → n < rank m b → (k : ℕ) × (k < b) × (m k ≡ true) × (rank m k ≡ n)
  unrank zero n h = absurd (omega arith)
  unrank (suc b) n h =
      ⊎_elim
      (λ lt. let r = unrank b n lt in let q = r.1 in (r.0, omega arith, r.2, r.3))
      (λ ge. here (m b) refl ge)
      (below_or n (rank m b))
    where
      here : (x : Bool) → m b ≡ x → rank m b ≤ n → (k : ℕ) × (k < suc b) × (m k ≡ true) × (rank m k ≡ n)
      here true e ge = let f : one_if (m b) ≡ one_if true = ap one_if e in (b, omega arith, e, omega arith)
      here false e ge = let f : one_if (m b) ≡ one_if false = ap one_if e in absurd (omega arith)

-- choices that agree below a place have as many there
pub rank_same : (m q : ℕ → Bool) (n : ℕ) → ((k : ℕ) → k < n → m k ≡ q k) → rank m n ≡ rank q n
rank_same m q zero agree = refl
rank_same m q (suc n) agree =
    let rest = rank_same m q n (λ k h. agree k (omega arith)) in
    ap (λ (i : ℕ). i + cond (m n) 1 0) rest ∙ ap (λ (b : Bool). rank q n + cond b 1 0) (agree n (omega arith))
