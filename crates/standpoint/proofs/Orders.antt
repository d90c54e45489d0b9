-- Statements are decidably equal, and their order is strict and total.
use Rattle.std.proofs.Common.{◌≡◌, ℕ, ◌<◌, ◌⊎◌, sym, ap, inl, inr, lt_of_not-le, arith}
use native.Mathlib.Decide.{ℕ_discrete, dec_lt}
use Rattle.standpoint.specs.declared.statement.Statement.{Statement}
use Rattle.standpoint.specs.Statements.{statement, SmallerOr, Before}

-- a statement is its numbers
pub same_numbers : (x y : Statement) → x.shape ≡ y.shape → x.first ≡ y.first → x.second ≡ y.second → x.third ≡ y.third → x.fourth ≡ y.fourth → x.fifth ≡ y.fifth → x ≡ y
same_numbers x y e0 e1 e2 e3 e4 e5 =
    let e : statement x.shape x.first x.second x.third x.fourth x.fifth ≡ statement y.shape y.first y.second y.third y.fourth y.fifth = cc in e

-- one number more: equal in it and in the rest, or not equal
also : (field : Statement → ℕ) (x y : Statement) → (field x ≡ field y → Dec (x ≡ y)) → Dec (x ≡ y)
also field x y rest = elim (ℕ_discrete (field x) (field y)) [ yes e ↦ rest e | no d ↦ no (λ q. d (ap field q)) ]

-- equal, or not
pub same? : (x y : Statement) → Dec (x ≡ y)
same? x y =
    also (λ z. z.shape) x y (λ e0. also (λ z. z.first) x y (λ e1. also (λ z. z.second) x y (λ e2. also (λ z. z.third) x y (λ e3.
    also (λ z. z.fourth) x y (λ e4. also (λ z. z.fifth) x y (λ e5. yes (same_numbers x y e0 e1 e2 e3 e4 e5)))))))

smaller_asymmetric : (m n : ℕ) (P Q : Type 0) → (P → Q → ⊥) → SmallerOr m n P → SmallerOr n m Q → ⊥
smaller_asymmetric m n P Q rest (inl p) (inl q) = omega arith
smaller_asymmetric m n P Q rest (inl p) (inr q) = omega arith
smaller_asymmetric m n P Q rest (inr p) (inl q) = omega arith
smaller_asymmetric m n P Q rest (inr p) (inr q) = rest p.1 q.1

pub before_asymmetric : (x y : Statement) → Before x y → Before y x → ⊥
before_asymmetric x y =
    smaller_asymmetric _ _ _ _ (smaller_asymmetric _ _ _ _ (smaller_asymmetric _ _ _ _ (smaller_asymmetric _ _ _ _
    (smaller_asymmetric _ _ _ _ (λ (p : x.fifth < y.fifth) (q : y.fifth < x.fifth). omega arith)))))

smaller_transitive : (l m n : ℕ) (P Q R : Type 0) → (P → Q → R) → SmallerOr l m P → SmallerOr m n Q → SmallerOr l n R
smaller_transitive l m n P Q R rest (inl p) (inl q) = inl (omega arith)
smaller_transitive l m n P Q R rest (inl p) (inr q) = inl (omega arith)
smaller_transitive l m n P Q R rest (inr p) (inl q) = inl (omega arith)
smaller_transitive l m n P Q R rest (inr p) (inr q) = inr (omega arith, rest p.1 q.1)

pub before_transitive : (x y z : Statement) → Before x y → Before y z → Before x z
before_transitive x y z =
    smaller_transitive _ _ _ _ _ _ (smaller_transitive _ _ _ _ _ _ (smaller_transitive _ _ _ _ _ _ (smaller_transitive _ _ _ _ _ _
    (smaller_transitive _ _ _ _ _ _ (λ (p : x.fifth < y.fifth) (q : y.fifth < z.fifth). omega arith)))))

smaller_total : (m n : ℕ) {P E Q : Type 0} → (m ≡ n → P ⊎ (E ⊎ Q)) → SmallerOr m n P ⊎ (E ⊎ SmallerOr n m Q)
smaller_total m n {P} {E} {Q} rest = go (dec_lt m n) (dec_lt n m)
  where
    same_here : m ≡ n → P ⊎ (E ⊎ Q) → SmallerOr m n P ⊎ (E ⊎ SmallerOr n m Q)
    same_here e (inl p) = inl (inr (e, p))
    same_here e (inr (inl q)) = inr (inl q)
    same_here e (inr (inr q)) = inr (inr (inr (sym e, q)))

    go : Dec (m < n) → Dec (n < m) → SmallerOr m n P ⊎ (E ⊎ SmallerOr n m Q)
    go (yes p) d = inl (inl p)
    go (no p) (yes q) = inr (inr (inl q))
    go (no p) (no q) = let e : m ≡ n = omega (arith, lt_of_not-le p, lt_of_not-le q) in same_here e (rest e)

-- of two statements one stands before the other, or they are the same
pub before_total : (x y : Statement) → Before x y ⊎ ((x ≡ y) ⊎ Before y x)
before_total x y =
    smaller_total _ _ (λ e0. smaller_total _ _ (λ e1. smaller_total _ _ (λ e2. smaller_total _ _ (λ e3. smaller_total _ _ (λ e4.
    last e0 e1 e2 e3 e4 (dec_lt x.fifth y.fifth) (dec_lt y.fifth x.fifth))))))
  where
    last : x.shape ≡ y.shape → x.first ≡ y.first → x.second ≡ y.second → x.third ≡ y.third → x.fourth ≡ y.fourth → Dec (x.fifth < y.fifth) → Dec (y.fifth < x.fifth) →
        (x.fifth < y.fifth) ⊎ ((x ≡ y) ⊎ (y.fifth < x.fifth))
    last e0 e1 e2 e3 e4 (yes p) d = inl p
    last e0 e1 e2 e3 e4 (no p) (yes q) = inr (inr q)
    last e0 e1 e2 e3 e4 (no p) (no q) = inr (inl (same_numbers x y e0 e1 e2 e3 e4 (omega (arith, lt_of_not-le p, lt_of_not-le q))))
