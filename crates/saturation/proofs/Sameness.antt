-- Over the same memory, in the same phase: one call after another.
use Rattle.std.proofs.Common.{◌≡◌, ◌∙◌}

pub same_then : {A B C : Type 0} {a b c : A} {d e f : B} {g h i : C} →
    (b ≡ a) × (e ≡ d) × (h ≡ g) → (c ≡ b) × (f ≡ e) × (i ≡ h) → (c ≡ a) × (f ≡ d) × (i ≡ g)
same_then x y = (y.0 ∙ x.0, y.1 ∙ x.1, y.2 ∙ x.2)
