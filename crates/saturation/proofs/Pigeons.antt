-- Different numbers below a bound are no more than the bound.
use Rattle.std.proofs.Common.{◌≡◌, ℕ, zero, suc, ◌<◌, ◌≤◌, cond, eqb, sym, ◌∙◌, ⊎_elim, arith}
use Rattle.std.proofs.lemmas.Bool.Decides.{nat_tests}
use Rattle.saturation.proofs.Offers.{equal_or}

-- as many different numbers below m as there are, at most m
pub pigeon : (m n : ℕ) (f : ℕ → ℕ) → ((k : ℕ) → k < n → f k < m) → ((j k : ℕ) → j < n → k < n → f j ≡ f k → j ≡ k) → n ≤ m
pigeon zero zero f b i = omega arith
pigeon zero (suc n) f b i = let h = b 0 (omega arith) in absurd (let z : ⊥ = omega arith in z)
pigeon (suc m) zero f b i = omega arith
pigeon (suc m) (suc n) f b i =
    let g : ℕ → ℕ = λ k. cond (eqb (f k) m) (f n) (f k) in
    let high : (k : ℕ) → f k ≡ m → g k ≡ f n = λ k e. grind (arith, nat_tests) in
    let low : (k : ℕ) → (f k ≡ m → ⊥) → g k ≡ f k = λ k e. grind (arith, nat_tests) in
    let last : (k : ℕ) → k < n → f k ≡ f n → ⊥ = λ k h e. let same = i k n (omega arith) (omega arith) e in omega arith in
    let within : (k : ℕ) → k < n → g k < m = λ k h.
    ⊎_elim
    (λ e. let is = high k e in let top = b n (omega arith) in let ne : f n ≡ m → ⊥ = λ x. last k h (e ∙ sym x) in omega arith)
    (λ ne. let is = low k ne in let top = b k (omega arith) in omega arith)
    (equal_or (f k) m) in
    let apart : (j k : ℕ) → j < n → k < n → g j ≡ g k → j ≡ k = λ j k hj hk e.
    ⊎_elim
    (λ ej. ⊎_elim
    (λ ek. i j k (omega arith) (omega arith) (ej ∙ sym ek))
    (λ nk. absurd (last k hk (sym (low k nk) ∙ sym e ∙ high j ej)))
    (equal_or (f k) m))
    (λ nj. ⊎_elim
    (λ ek. absurd (last j hj (sym (low j nj) ∙ e ∙ high k ek)))
    (λ nk. i j k (omega arith) (omega arith) (sym (low j nj) ∙ e ∙ low k nk))
    (equal_or (f k) m))
    (equal_or (f j) m) in
    let rest = pigeon m n g within apart in
    omega arith
