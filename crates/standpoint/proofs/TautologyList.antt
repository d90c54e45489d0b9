-- The list of tautologies has each once, and the test finds them.
use Rattle.std.proofs.Common.{◌≡◌, ℕ, ◌+◌, ◌-◌, ◌<◌, ◌≤◌, Bool, true, cond, ◌&&◌, ◌||◌, eqb, ltb, List, map, length, sym, refl, ◌∙◌, subst, inl, inr, arith, ltb-true, lt-ltb}
use native.Mathlib.Decide.{ℕ_discrete}
use Rattle.std.proofs.lemmas.List.FromFn.{length-map-range_with_len}
use Rattle.std.proofs.lemmas.List.{length-append}
use Rattle.std.proofs.lemmas.Bool.Decides.{nat_tests}
use Rattle.std.specs.List.{range_with_len}
use Rattle.standpoint.specs.declared.sizes.Sizes.{Sizes}
use Rattle.standpoint.specs.declared.statement.Statement.{Statement}
use Rattle.standpoint.specs.Lists.{Tells, In}
use Rattle.standpoint.specs.Statements.{sharper, nested_inclusion, role_inclusion, same}
use Rattle.standpoint.specs.Rules.{Tautology}
use Rattle.standpoint.specs.Rules.Tautology.{sharper_than_all, sharper_than_itself, within_itself, within_top, role_within_itself}
use Rattle.standpoint.specs.Tautologies.{tautologies, ListsTautologies, on_standpoints, on_concepts, on_roles}
use Rattle.standpoint.proofs.Testing.{same_true, same_refl, and_true, or_true, told}
use Rattle.standpoint.proofs.Listing.{in_left, in_right, in_either, in_stretch, of_stretch, Placed, placed_part, placed_stretch, placed_distinct}

module _ (n : Sizes) where
  abbrev all_sharper : List Statement
  all_sharper = map (λ s. sharper s 0) (range_with_len 0 n.standpoints)

  abbrev self_sharper : List Statement
  self_sharper = map (λ s. sharper s s) (range_with_len 1 (n.standpoints - 1))

  abbrev within_selves : List Statement
  within_selves = map (λ c. nested_inclusion 0 0 0 c c) (range_with_len 0 n.concepts)

  abbrev within_tops : List Statement
  within_tops = map (λ c. nested_inclusion 0 0 0 c 0) (range_with_len 1 (n.concepts - 1))

  listed_sound : (x : Statement) → In (tautologies n) x → Tautology n x
  listed_sound x m = elim (in_either all_sharper _ x m) [
    | inl k ↦ let w = of_stretch _ 0 n.standpoints x k in subst (Tautology n) w.3 (sharper_than_all (omega (arith, w.2)))
    | inr m ↦ elim (in_either self_sharper _ x m) [
      | inl k ↦ let w = of_stretch _ 1 (n.standpoints - 1) x k in subst (Tautology n) w.3 (sharper_than_itself (omega (arith, w.1, w.2)))
      | inr m ↦ elim (in_either within_selves _ x m) [
        | inl k ↦ let w = of_stretch _ 0 n.concepts x k in subst (Tautology n) w.3 (within_itself (omega (arith, w.2)))
        | inr m ↦ elim (in_either within_tops _ x m) [
          | inl k ↦ let w = of_stretch _ 1 (n.concepts - 1) x k in subst (Tautology n) w.3 (within_top (omega (arith, w.1, w.2)))
          | inr k ↦ let w = of_stretch _ 0 n.roles x k in subst (Tautology n) w.3 (role_within_itself (omega (arith, w.2)))
        ]
      ]
    ]
  ]

  -- what begins at 1 is at 0 something else
  zero_or : (P : ℕ → Type 0) (k : ℕ) → P 0 → (1 ≤ k → P k) → P k
  zero_or P k zero more = elim (ℕ_discrete 0 k) [ yes e ↦ subst P e zero | no d ↦ more (omega (arith, d)) ]

  in_all_sharper : (s : ℕ) → s < n.standpoints → In (tautologies n) (sharper s 0)
  in_all_sharper s h = in_left all_sharper _ _ (in_stretch (λ s. sharper s 0) 0 n.standpoints s (omega arith) (omega arith))

  in_within_selves : (c : ℕ) → c < n.concepts → In (tautologies n) (nested_inclusion 0 0 0 c c)
  in_within_selves c h =
      in_right all_sharper _ _ (in_right self_sharper _ _ (in_left within_selves _ _
      (in_stretch (λ c. nested_inclusion 0 0 0 c c) 0 n.concepts c (omega arith) (omega arith))))

  listed_complete : (x : Statement) → Tautology n x → In (tautologies n) x
  listed_complete x (sharper_than_all {s} h) = in_all_sharper s h
  listed_complete x (sharper_than_itself {s} h) =
      zero_or (λ s. In (tautologies n) (sharper s s)) s (in_all_sharper 0 (omega arith)) (λ k.
      in_right all_sharper _ _ (in_left self_sharper _ _ (in_stretch (λ s. sharper s s) 1 (n.standpoints - 1) s k (omega arith))))
  listed_complete x (within_itself {c} h) = in_within_selves c h
  listed_complete x (within_top {c} h) =
      zero_or (λ c. In (tautologies n) (nested_inclusion 0 0 0 c 0)) c (in_within_selves 0 (omega arith)) (λ k.
      in_right all_sharper _ _ (in_right self_sharper _ _ (in_right within_selves _ _ (in_left within_tops _ _
      (in_stretch (λ c. nested_inclusion 0 0 0 c 0) 1 (n.concepts - 1) c k (omega arith))))))
  listed_complete x (role_within_itself {r} h) =
      in_right all_sharper _ _ (in_right self_sharper _ _ (in_right within_selves _ _ (in_right within_tops _ _
      (in_stretch (λ r. role_inclusion 0 r r) 0 n.roles r (omega arith) (omega arith)))))

  -- where a tautology stands
  abbrev place : Statement → ℕ
  place x =
      cond (eqb x.shape 1) (cond (eqb x.second 0) x.first (n.standpoints + (x.first - 1)))
      (cond (eqb x.shape 3)
      (cond (eqb x.fifth x.fourth) (n.standpoints + (n.standpoints - 1) + x.fourth)
      (n.standpoints + (n.standpoints - 1) + n.concepts + (x.fourth - 1)))
      (n.standpoints + (n.standpoints - 1) + n.concepts + (n.concepts - 1) + x.second))

  placed : Placed place 0 (tautologies n)
  placed =
      placed_part place 0 (λ s. sharper s 0) 0 n.standpoints _ (λ k h. refl)
      (placed_part place _ (λ s. sharper s s) 1 (n.standpoints - 1) _ (λ k h. grind (arith, nat_tests))
      (placed_part place _ (λ c. nested_inclusion 0 0 0 c c) 0 n.concepts _ (λ k h. grind (arith, nat_tests))
      (placed_part place _ (λ c. nested_inclusion 0 0 0 c 0) 1 (n.concepts - 1) _ (λ k h. grind (arith, nat_tests))
      (placed_stretch place _ (λ r. role_inclusion 0 r r) 0 n.roles (λ k h. omega arith)))))

  listed_long : length (tautologies n) ≡ n.standpoints + (n.standpoints - 1) + n.concepts + (n.concepts - 1) + n.roles
  listed_long = simp (length-append, length-map-range_with_len) (omega arith)

  pub tautologies_listed : (count : ℕ) → count ≡ n.standpoints + (n.standpoints - 1) + n.concepts + (n.concepts - 1) + n.roles → ListsTautologies n count
  tautologies_listed count e = record {
    long = listed_long ∙ sym e;
    counted = λ h. omega (arith, h.some_standpoint, h.top_and_bottom);
    distinct = placed_distinct place (tautologies n) placed;
    sound = listed_sound;
    complete = listed_complete;
  }

  -- the parts of the test, in both directions
  either : (k m : ℕ) (x a b : Statement) → (ltb k m && (same x a || same x b)) ≡ true → (k < m → Tautology n a) → (k < m → Tautology n b) → Tautology n x
  either k m x a b h first second =
      let t = and_true (ltb k m) (same x a || same x b) h in
      let l = ltb-true k m t.0 in
      elim (or_true (same x a) (same x b) t.1) [
        | inl e ↦ subst (Tautology n) (sym (same_true x a e)) (first l)
        | inr e ↦ subst (Tautology n) (sym (same_true x b e)) (second l)
      ]

  on_roles_sound : (x : Statement) → on_roles n x ≡ true → Tautology n x
  on_roles_sound x h =
      let t = and_true (ltb x.second n.roles) (same x (role_inclusion 0 x.second x.second)) h in
      subst (Tautology n) (sym (same_true x _ t.1)) (role_within_itself (ltb-true _ _ t.0))

  test_sound : (x : Statement) → (on_standpoints n x || (on_concepts n x || on_roles n x)) ≡ true → Tautology n x
  test_sound x h = elim (or_true (on_standpoints n x) (on_concepts n x || on_roles n x) h) [
    | inl k ↦ either x.first n.standpoints x _ _ k sharper_than_all sharper_than_itself
    | inr h ↦ elim (or_true (on_concepts n x) (on_roles n x) h) [
      | inl k ↦ either x.fourth n.concepts x _ _ k within_itself within_top
      | inr k ↦ on_roles_sound x k
    ]
  ]

  test_complete : (x : Statement) → Tautology n x → (on_standpoints n x || (on_concepts n x || on_roles n x)) ≡ true
  test_complete x (sharper_than_all {s} h) =
      let within = lt-ltb s n.standpoints h in let here = same_refl (sharper s 0) in grind arith
  test_complete x (sharper_than_itself {s} h) =
      let within = lt-ltb s n.standpoints h in let here = same_refl (sharper s s) in grind arith
  test_complete x (within_itself {c} h) =
      let within = lt-ltb c n.concepts h in let here = same_refl (nested_inclusion 0 0 0 c c) in grind arith
  test_complete x (within_top {c} h) =
      let within = lt-ltb c n.concepts h in let here = same_refl (nested_inclusion 0 0 0 c 0) in grind arith
  test_complete x (role_within_itself {r} h) =
      let within = lt-ltb r n.roles h in let here = same_refl (role_inclusion 0 r r) in grind arith

  pub tautology_told : (x : Statement) (b : Bool) → b ≡ (on_standpoints n x || (on_concepts n x || on_roles n x)) → Tells b (Tautology n x)
  tautology_told x b e = told (Tautology n x) b _ e (test_sound x) (test_complete x)
