-- Every kind at hand keeps the laws.
use Rattle.std.specs.Prelude.{◌≡◌, ℕ, ◌*◌, ◌≤◌}
use Rattle.std.proofs.Common.{ap, subst, mul-le-mul_left, mul-le-mul_right, arith, leb-true}
use Rattle.std.proofs.Math.Bridge.{le_prop}
use Rattle.std.proofs.lemmas.Bool.Decides.{nat_tests}
use Rattle.standpoint.specs.Algebra.{Algebra, Laws}
use Rattle.standpoint.specs.Grades.{tally, tally_grade, odds, odds_grade, surcharged}

-- what is made of a bounded number is the same for the same number
pub same_made : {X : Type 0} {m : ℕ} (make : (n : ℕ) → n ≤ m → X) {a b : ℕ} (h : a ≤ m) (k : b ≤ m) → a ≡ b → make a h ≡ make b k
same_made {m = m} make {a} h k e = subst (λ z. (l : z ≤ m) → make a h ≡ make z l) e (λ l. ap (make a) (le_prop h l)) k

pub tally_laws : Laws tally
tally_laws = record {
  total = λ x y. grind (arith, nat_tests);
  trans = λ x y z h k. grind (arith, nat_tests);
  same = λ x y h k. same_made tally_grade x.within y.within (grind (arith, nat_tests));
  left = λ x y. let h = x.within in grind (arith, nat_tests);
  right = λ x y. let h = y.within in grind (arith, nat_tests);
  mono_left = λ x y z h. grind (arith, nat_tests);
  mono_right = λ x y z h. grind (arith, nat_tests);
}

pub odds_laws : Laws odds
odds_laws = record {
  total = λ x y. grind (arith, nat_tests);
  trans = λ x y z h k. grind (arith, nat_tests);
  same = λ x y h k. same_made odds_grade x.within y.within (grind (arith, nat_tests));
  left = λ x y. let p : x.value * y.value ≤ x.value * 255 = mul-le-mul_left x.value y.within in grind (arith, nat_tests);
  right = λ x y. let p : x.value * y.value ≤ 255 * y.value = mul-le-mul_right y.value x.within in grind (arith, nat_tests);
  mono_left = λ x y z h. let p : y.value * z.value ≤ x.value * z.value = mul-le-mul_right z.value (leb-true _ _ h) in grind (arith, nat_tests);
  mono_right = λ x y z h. let p : z.value * y.value ≤ z.value * x.value = mul-le-mul_left z.value (leb-true _ _ h) in grind (arith, nat_tests);
}

pub surcharge_laws : {G : Type 0} (a : Algebra G) (extra : G) → Laws a → Laws (surcharged a extra)
surcharge_laws a extra l = record {
  total = l.total;
  trans = l.trans;
  same = l.same;
  left = λ x y. l.trans x (a.join x y) _ (l.left x y) (l.left (a.join x y) extra);
  right = λ x y. l.trans y (a.join x y) _ (l.right x y) (l.left (a.join x y) extra);
  mono_left = λ x y z h. l.mono_left _ _ extra (l.mono_left x y z h);
  mono_right = λ x y z h. l.mono_left _ _ extra (l.mono_right x y z h);
}
