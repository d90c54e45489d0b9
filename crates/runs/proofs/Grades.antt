-- What the laws of a kind give for grades and joins.
use Rattle.std.proofs.Common.{◌≡◌, subst, inl, inr}
use Rattle.standpoint.specs.Algebra.{Algebra, Laws, NoWorse}

module _ {G : Type 0} (a : Algebra G) (laws : Laws a) where
  pub no_worse_itself : (g : G) → NoWorse a g g
  no_worse_itself g = elim (laws.total g g) [ inl w ↦ w | inr w ↦ w ]

  pub no_worse_same : (g h : G) → g ≡ h → NoWorse a g h
  no_worse_same g h e = subst (NoWorse a g) e (no_worse_itself g)

  -- parts no worse make a join no worse
  pub joins : (g h i j : G) → NoWorse a g h → NoWorse a i j → NoWorse a (a.join g i) (a.join h j)
  joins g h i j v w = laws.trans _ _ _ (laws.mono_left g h i v) (laws.mono_right i j h w)

  -- a join of three is no better than its first part or its second
  pub above_first : (g h i : G) → NoWorse a g (a.join (a.join g h) i)
  above_first g h i = laws.trans _ _ _ (laws.left g h) (laws.left (a.join g h) i)

  pub above_second : (g h i : G) → NoWorse a h (a.join (a.join g h) i)
  above_second g h i = laws.trans _ _ _ (laws.right g h) (laws.left (a.join g h) i)
