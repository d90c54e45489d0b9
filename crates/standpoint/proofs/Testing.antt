-- What tests say: that two statements are the same, and tests put together.
use Rattle.std.proofs.Common.{◌≡◌, ℕ, Bool, true, false, cond, ◌&&◌, ◌||◌, eqb, ◌⊎◌, sym, refl, subst, inl, inr, arith, eqb-true}
use Rattle.std.proofs.lemmas.Bool.Decides.{nat_tests}
use Rattle.standpoint.specs.declared.statement.Statement.{Statement}
use Rattle.standpoint.specs.Lists.{Tells}
use Rattle.standpoint.specs.Statements.{same}
use Rattle.standpoint.proofs.Orders.{same_numbers}

pub same_true : (x y : Statement) → same x y ≡ true → x ≡ y
unfolding same
same_true x y h =
    let e0 : x.shape ≡ y.shape = grind (arith, nat_tests) in
    let e1 : x.first ≡ y.first = grind (arith, nat_tests) in
    let e2 : x.second ≡ y.second = grind (arith, nat_tests) in
    let e3 : x.third ≡ y.third = grind (arith, nat_tests) in
    let e4 : x.fourth ≡ y.fourth = grind (arith, nat_tests) in
    let e5 : x.fifth ≡ y.fifth = grind (arith, nat_tests) in
    same_numbers x y e0 e1 e2 e3 e4 e5

pub same_refl : (x : Statement) → same x x ≡ true
unfolding same
same_refl x = grind (arith, nat_tests)

pub and_true : (a b : Bool) → (a && b) ≡ true → (a ≡ true) × (b ≡ true)
and_true true b h = (refl, h)
and_true false b h = absurd (grind arith)

pub or_true : (a b : Bool) → (a || b) ≡ true → (a ≡ true) ⊎ (b ≡ true)
or_true true b h = inl refl
or_true false b h = inr h

-- what a choice by number gives, here or further on
pub at_number : {X : Type 0} (P : ℕ → Type 0) (number n : ℕ) (here rest v : X) → cond (eqb number n) here rest ≡ v → (here ≡ v → P n) → (rest ≡ v → P number) → P number
at_number P number n here rest v h first others = go (eqb number n) (eqb-true number n) h
  where
    go : (b : Bool) → (b ≡ true → number ≡ n) → cond b here rest ≡ v → P number
    go true e k = subst P (sym (e refl)) (first k)
    go false e k = others k

-- a test that is exact tells
pub told : (P : Type 0) (b t : Bool) → b ≡ t → (t ≡ true → P) → (P → t ≡ true) → Tells b P
told P true t e sound complete = sound (sym e)
told P false t e sound complete = λ p. let f = complete p in absurd (grind arith)
