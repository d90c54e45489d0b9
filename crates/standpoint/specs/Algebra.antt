-- What a kind of grade is: a start grade, an order and a join that keep four laws.
use Rattle.std.specs.Prelude.{◌≡◌, Bool, true, ◌⊎◌}

-- the start grade, whether a grade is no worse than another, and the join of two grades
pub record Algebra (G : Type 0) : Type 0 where
  pub start : G
  pub no_worse : G → G → Bool
  pub join : G → G → G

-- x is no worse than y
abbrev pub NoWorse : {G : Type 0} → Algebra G → G → G → Type 0
NoWorse a x y = a.no_worse x y ≡ true

-- what every kind keeps, and all that may be assumed of one
pub record Laws {G : Type 0} (a : Algebra G) : Type 0 where
  -- the order is total and transitive
  pub total : (x y : G) → NoWorse a x y ⊎ NoWorse a y x
  pub trans : (x y z : G) → NoWorse a x y → NoWorse a y z → NoWorse a x z
  -- two grades each no worse than the other are equal
  pub same : (x y : G) → NoWorse a x y → NoWorse a y x → x ≡ y
  -- a join is no better than either part
  pub left : (x y : G) → NoWorse a x (a.join x y)
  pub right : (x y : G) → NoWorse a y (a.join x y)
  -- making one part no worse makes the join no worse
  pub mono_left : (x y z : G) → NoWorse a x y → NoWorse a (a.join x z) (a.join y z)
  pub mono_right : (x y z : G) → NoWorse a x y → NoWorse a (a.join z x) (a.join z y)
