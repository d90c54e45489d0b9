-- Which rows are settled, and which is chosen.
use Rattle.std.proofs.Common.{◌≡◌, ℕ, ◌+◌, ◌<◌, ◌≤◌, Bool, true, false, cond, eqb, List, length, get_or, Some, sym, refl, ap, ◌∙◌, subst, inl, inr, ⊎_elim, arith}
use borrow.Author.Tests.{both_ways}
use Rattle.std.proofs.lemmas.List.{get_or_default}
use Rattle.std.proofs.lemmas.Bool.Decides.{nat_tests}
use Rattle.standpoint.specs.declared.statement.Statement.{Statement}
use Rattle.standpoint.specs.Lists.{In}
use Rattle.standpoint.specs.Algebra.{Algebra, Laws, NoWorse}
use Rattle.standpoint.specs.Statements.{Before}
use Rattle.standpoint.proofs.Orders.{before_total}
use Rattle.runs.specs.Runs.{Unsettled}
use Rattle.saturation.specs.Tables.{State, row_at, statement_at, turn_at, OpenAt}
use Rattle.saturation.specs.Offering.{BestOf}
use Rattle.saturation.specs.Searching.{Lists}
use Rattle.saturation.specs.Choosing.{Ahead, Chosen}
use Rattle.saturation.specs.Turns.{FirstOffered}
use Rattle.saturation.proofs.Offers.{last_or, none_or, not_both, same_some, in_same}
use Rattle.saturation.proofs.Lists.{Fit}
use Rattle.standpoint.proofs.Lists.{in_stands, in_getD}
use Rattle.saturation.proofs.Pigeons.{pigeon}

true_or : (b : Bool) → (b ≡ false → ⊥) → b ≡ true
true_or true h = refl
true_or false h = absurd (h refl)

other : {G : Type 0} (al : Algebra G) → Laws al → (g h : G) → al.no_worse g h ≡ false → NoWorse al h g
other al laws g h off = ⊎_elim (λ on. absurd (both_ways _ off on)) (λ e. e) (laws.total g h)

module _ {G : Type 0} (s : State G) (l : List (Statement × G)) (is : Lists s l) where
  -- an unsettled row's statement is not in the settled list
  pub open_unsettled : (al : Algebra G) (off : List (Statement × G)) → Fit s → BestOf al s off → (i : ℕ) → i < s.len → OpenAt s i → Unsettled l (statement_at s i)
  open_unsettled al off fit b i h un g m =
      let p = in_stands l (statement_at s i, g) m in
      let k = p.0 in
      let lg = is.long in
      let lt = p.1.0 in
      let kh : k < s.settled = omega arith in
      let there : statement_at s (turn_at s k) ≡ statement_at s i = (is.holds k kh (statement_at s i, g)).0 ∙ ap (λ (v : Statement × G). v.0) (p.1.1 (statement_at s i, g)) in
      let same : turn_at s k ≡ i = b.apart (turn_at s k) i (fit.1 k kh) h there in
      not_both _ k (is.marked k kh) (ap (λ (j : ℕ). (row_at s j).place) same ∙ un)

  -- a statement that is not in the list has its row unsettled
  pub unsettled_open : (i : ℕ) → i < s.len → Unsettled l (statement_at s i) → G → OpenAt s i
  unsettled_open i h un g =
      ⊎_elim
      (λ e. e)
      (λ ne.
      let b = is.back i h ne in
      let k = b.0 in
      let lg = is.long in
      let bh = b.1 in
      let d : Statement × G = (statement_at s i, g) in
      let stands = is.holds k b.1 d in
      let e : (get_or l k d).0 ≡ statement_at s i = sym stands.0 ∙ ap (statement_at s) b.2 in
      absurd (un (get_or l k d).1 (in_same l (get_or l k d).0 (statement_at s i) (get_or l k d).1 (get_or l k d).1 e refl (in_getD l k d (omega arith)))))
      (none_or (row_at s i).place)

  -- an unsettled row leaves room for one more turn
  pub open_room : Fit s → (i : ℕ) → i < s.len → OpenAt s i → s.settled < s.len
  open_room fit i h un =
      let n = s.settled in
      let f : ℕ → ℕ = λ k. cond (eqb k n) i (turn_at s k) in
      let top : (k : ℕ) → k ≡ n → f k ≡ i = λ k e. grind (arith, nat_tests) in
      let low : (k : ℕ) → (k ≡ n → ⊥) → f k ≡ turn_at s k = λ k e. grind (arith, nat_tests) in
      let never : (k : ℕ) → k < n → turn_at s k ≡ i → ⊥ = λ k kh e. not_both _ k (is.marked k kh) (ap (λ (j : ℕ). (row_at s j).place) e ∙ un) in
      let apart : (j k : ℕ) → j < n → k < n → turn_at s j ≡ turn_at s k → j ≡ k = λ j k hj hk e.
      same_some (sym (is.marked j hj) ∙ ap (λ (v : ℕ). (row_at s v).place) e ∙ is.marked k hk) in
      let fits : n + 1 ≤ s.len = pigeon s.len (n + 1) f
      (λ k kh. ⊎_elim
      (λ lt. let e = low k (λ x. omega arith) in let w = fit.1 k lt in omega arith)
      (λ eq. let e = top k eq in omega arith)
      (last_or k n kh))
      (λ j k hj hk e. ⊎_elim
      (λ lj. ⊎_elim
      (λ lk. apart j k lj lk (sym (low j (λ x. omega arith)) ∙ e ∙ low k (λ x. omega arith)))
      (λ ek. absurd (never j lj (sym (low j (λ x. omega arith)) ∙ e ∙ top k ek)))
      (last_or k n hk))
      (λ ej. ⊎_elim
      (λ lk. absurd (never k lk (sym (low k (λ x. omega arith)) ∙ sym e ∙ top j ej)))
      (λ ek. ej ∙ sym ek)
      (last_or k n hk))
      (last_or j n hj)) in
      omega arith

  -- what the choice of a row means
  pub next_chosen : (al : Algebra G) → Laws al → ((k : ℕ) → k < s.len → k < length s.grades) → (off : List (Statement × G)) → Fit s → BestOf al s off → (i : ℕ) (g : G) → Chosen al s s.len (Some i) → ((d : G) → get_or s.grades i d ≡ g) → FirstOffered al l off (statement_at s i, g)
  next_chosen al laws fits off fit b i g c grade =
      let x = statement_at s i in
      let row : (v : Statement × G) → In off v → Unsettled l v.0 → (k : ℕ) × (k < s.len) × (statement_at s k ≡ v.0) × OpenAt s k × ((d : G) → NoWorse al (get_or s.grades k d) v.1) = λ v m un.
      let p = b.every v.0 v.1 m in
      let o = unsettled_open p.0 p.1 (λ h n. un h (in_same l (statement_at s p.0) v.0 h h p.2 refl n)) v.1 in
      (p.0, p.1, p.2, o, b.best p.0 p.1 o v.1 (in_same off v.0 (statement_at s p.0) v.1 v.1 (sym p.2) refl m)) in
      let behind : (k : ℕ) → k < s.len → OpenAt s k → Ahead al (get_or s.grades k g) (statement_at s k) g x → ⊥ = λ k h o ahead.
      c.2 k h o (λ d.
      let e1 : get_or s.grades k g ≡ get_or s.grades k d = get_or_default s.grades k g d (fits k h) in
      let e2 : g ≡ get_or s.grades i d = sym (grade d) in
      subst (λ (w : G). Ahead al (get_or s.grades k d) (statement_at s k) w x) e2 (subst (λ (w : G). Ahead al w (statement_at s k) g x) e1 ahead)) in
      let better : (k : ℕ) → k < s.len → OpenAt s k → NoWorse al g (get_or s.grades k g) = λ k h o.
      true_or (al.no_worse g (get_or s.grades k g)) (λ off'. behind k h o (other al laws g (get_or s.grades k g) off', λ back. absurd (both_ways _ off' back))) in
      record {
        known = in_same off x x (get_or s.grades i g) g refl (grade g) (b.from i c.0 c.1 g);
        unsettled = open_unsettled al off fit b i c.0 c.1;
        best = λ v m un.
            let r = row v m un in
            let k = r.0 in
            laws.trans g (get_or s.grades k g) v.1 (better k r.1 r.3) (r.4 g);
        least = λ y m un.
            let r = row (y, g) m un in
            let k = r.0 in
            let no_worse : NoWorse al (get_or s.grades k g) g = r.4 g in
            ⊎_elim
            (λ before. inr (subst (Before x) r.2 before))
            (⊎_elim
            (λ same. inl (same ∙ r.2))
            (λ after. absurd (behind k r.1 r.3 (no_worse, λ _. after))))
            (before_total x (statement_at s k));
      }
