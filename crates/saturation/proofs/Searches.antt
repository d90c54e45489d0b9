-- Steps of a search, put together.
use Rattle.std.proofs.Common.{◌≡◌, ℕ, ◌+◌, ◌<◌, Bool, true, false, ◌⊎◌, List, [], ◌∷◌, ◌++◌, sym, refl, ap, ◌∙◌, subst, inl, inr, ⊎_elim, append_assoc, arith}
use borrow.Author.Tests.{both_ways}
use Rattle.standpoint.specs.declared.statement.Statement.{Statement}
use Rattle.standpoint.specs.Algebra.{Algebra}
use Rattle.standpoint.specs.Rules.{Rule}
use Rattle.saturation.specs.declared.row.Kept.{Kept}
use Rattle.saturation.specs.Tables.{State, statement_at, Absent, has_room}
use Rattle.saturation.specs.Places.{Step, StandAt, statements_of, grades_of, joined, kept_of, kept_step}
use Rattle.saturation.specs.Offering.{Ranked, Taken, Keeps}
use Rattle.saturation.specs.Memory.{Offered}
use Rattle.saturation.specs.Searching.{Lists, OfferedEach, Enumerated, Went}
use Rattle.saturation.specs.Searching.OfferedEach.{none, one_more}
use Rattle.saturation.proofs.Offers.{grown_refl, grown_trans, below_or, last_or}
use Rattle.saturation.proofs.Lists.{in_append_left, in_append_right, in_append_cases, Fit, lists_grown}
use Rattle.saturation.proofs.Stepping.{stand_same}

-- what is to be offered, for each settled list
abbrev pub Family : Type 0 → Type 1
Family G = List (Statement × G) → Statement × G → Type 0

-- the same of each index below m
abbrev pub Below : {G : Type 0} → (ℕ → Family G) → ℕ → Family G
Below F m l o = (j : ℕ) × (j < m) × F j l o

module _ {G : Type 0} (al : Algebra G) where
  module _ (n : ℕ) (l : List (Statement × G)) where
    each_then : {s t u : State G} {xs ys : List (Statement × G)} → OfferedEach al n l s xs t → OfferedEach al n l t ys u → OfferedEach al n l s (ys ++ xs) u
    each_then x none = x
    each_then x (one_more o rule places before step offered) = one_more o rule places (each_then x before) step offered

    enum_then : (s t u : State G) (A B May : Statement × G → Type 0) (a b : Bool) → a ≡ true → Enumerated al n l s t A May a → Enumerated al n l t u B May b → Enumerated al n l s u (λ o. A o ⊎ B o) May b
    enum_then s t u A B May a b on x y = record {
      os = y.os ++ x.os;
      each = each_then x.each y.each;
      ranked = λ e off r. subst (Ranked al u) (sym (append_assoc y.os x.os off)) (y.ranked e (x.os ++ off) (x.ranked on off r));
      sound = λ o m. ⊎_elim (y.sound o) (x.sound o) (in_append_cases y.os x.os o m);
      complete = λ e o. ⊎_elim (λ p. in_append_right y.os x.os o (x.complete on o p)) (λ p. in_append_left y.os x.os o (y.complete e o p));
    }

    enum_as : (s t : State G) (A B May May' : Statement × G → Type 0) (r : Bool) → ((o : Statement × G) → B o → A o) → ((o : Statement × G) → May o → May' o) → Enumerated al n l s t A May r → Enumerated al n l s t B May' r
    enum_as s t A B May May' r f m e = record {
      os = e.os;
      each = e.each;
      ranked = e.ranked;
      sound = λ o i. m o (e.sound o i);
      complete = λ on o b. e.complete on o (f o b);
    }

    enum_false : (s t : State G) (A B May : Statement × G → Type 0) (r : Bool) → Enumerated al n l s t A May r → Enumerated al n l s t B May false
    enum_false s t A B May r e = record {
      os = e.os;
      each = e.each;
      ranked = λ on. absurd (both_ways false refl on);
      sound = e.sound;
      complete = λ on. absurd (both_ways false refl on);
    }

    enum_none : (s : State G) (A May : Statement × G → Type 0) (r : Bool) → ((o : Statement × G) → A o → ⊥) → Enumerated al n l s s A May r
    enum_none s A May r never = record { os = []; each = none; ranked = λ _ off b. b; sound = λ o i. absurd i; complete = λ _ o a. never o a }

    enum_one : (s t : State G) (o : Statement × G) (A May : Statement × G → Type 0) (rule : ℕ) (places : List ℕ) (r : Bool) → Step al n l rule places o →
        Offered al s t o.0 o.1 (kept_of rule places) r → Taken al s t o.0 o.1 r → ((v : Statement × G) → A v → o ≡ v) → May o → Enumerated al n l s t A May r
    enum_one s t o A May rule places true step offered taken only may = record {
      os = o ∷ [];
      each = one_more o rule places none step offered;
      ranked = λ e off b. taken.ranked e off b;
      sound = λ v. ⊎_elim (λ e. subst May e may) (λ i. absurd i);
      complete = λ _ v a. inl (only v a);
    }
    enum_one s t o A May rule places false step offered taken only may = record {
      os = [];
      each = subst (OfferedEach al n l s []) (sym (taken.refused refl).0) none;
      ranked = λ on. absurd (both_ways false refl on);
      sound = λ v i. absurd i;
      complete = λ on. absurd (both_ways false refl on);
    }

  module _ (n : ℕ) where
    pub went_none : (s : State G) (A May : Family G) → ((l : List (Statement × G)) → Lists s l → (o : Statement × G) → A l o → ⊥) → Went al n s s A May true
    went_none s A May never = record {
      grown = grown_refl s;
      apart = λ h. h;
      new = λ l is k low h. absurd (let z : ⊥ = omega arith in z);
      all = λ l is. enum_none n l s (A l) (May l) true (never l is);
      full = λ e. absurd (both_ways true e refl);
      stuck = λ e. absurd (both_ways true e refl);
      keeps = λ base e l is right. right;
    }

    pub went_then : (s t u : State G) (A B May : Family G) (a b : Bool) → Fit s → a ≡ true → Went al n s t A May a → Went al n t u B May b → Went al n s u (λ l o. A l o ⊎ B l o) May b
    went_then s t u A B May a b fit on x y =
        let up : (l : List (Statement × G)) → Lists s l → Lists t l = λ l is. lists_grown s t l fit x.grown is in
        record {
          grown = grown_trans x.grown y.grown;
          apart = λ h. y.apart (x.apart h);
          new = λ l is k low h.
              ⊎_elim
              (λ lt. let o = x.new l is k low lt in (o.0, subst (λ (z : Statement). May l (z, o.0)) (sym (y.grown.statements k lt)) o.1))
              (λ ge. y.new l (up l is) k ge h)
              (below_or k t.len);
          all = λ l is. enum_then n l s t u (A l) (B l) (May l) a b on (x.all l is) (y.all l (up l is));
          full = y.full;
          stuck = λ e l is. y.stuck e l (up l is);
          keeps = λ base e l is right. y.keeps base e l (up l is) (x.keeps base e l is right);
        }

    pub went_as : (s t : State G) (A B May May' : Family G) (r : Bool) → ((l : List (Statement × G)) → Lists s l → (o : Statement × G) → B l o → A l o) → ((l : List (Statement × G)) → Lists s l → (o : Statement × G) → May l o → May' l o) → Went al n s t A May r → Went al n s t B May' r
    went_as s t A B May May' r f m x = record {
      grown = x.grown;
      apart = x.apart;
      new = λ l is k low h. let o = x.new l is k low h in (o.0, m l is (statement_at t k, o.0) o.1);
      all = λ l is. enum_as n l s t (A l) (B l) (May l) (May' l) r (f l is) (m l is) (x.all l is);
      full = x.full;
      stuck = λ e l is.
          let k = x.stuck e l is in
          record { o = k.o; may = m l is k.o k.may; absent = k.absent };
      keeps = x.keeps;
    }

    -- what was refused may have been anything that is to be offered
    pub went_false : (s t : State G) (A B May : Family G) (r : Bool) → r ≡ false → Went al n s t A May r → Went al n s t B May false
    went_false s t A B May r off x = record {
      grown = x.grown;
      apart = x.apart;
      new = x.new;
      all = λ l is. enum_false n l s t (A l) (B l) (May l) r (x.all l is);
      full = λ _. x.full off;
      stuck = λ _. x.stuck off;
      keeps = x.keeps;
    }

    -- a refusal after what went before
    pub went_stopped : (s t u : State G) (A B May : Family G) (b : Bool) → Fit s → b ≡ false → Went al n s t A May true → Went al n t u B May b → Went al n s u May May false
    went_stopped s t u A B May b fit off x y = went_false s u (λ l o. A l o ⊎ B l o) May May b off (went_then s t u A B May true b fit refl x y)

    -- one index more
    pub went_more : (s t u : State G) (F : ℕ → Family G) (May : Family G) (m : ℕ) (r : Bool) → Fit s → Went al n s t (Below F m) May true → Went al n t u (F m) May r → Went al n s u (Below F (m + 1)) May r
    went_more s t u F May m r fit x y =
        went_as s u (λ l o. Below F m l o ⊎ F m l o) (Below F (m + 1)) May May r
        (λ l is o b. ⊎_elim (λ h. inl (b.0, h, b.2)) (λ e. inr (subst (λ (j : ℕ). F j l o) e b.2)) (last_or b.0 m b.1))
        (λ l is o may. may)
        (went_then s t u (Below F m) (F m) May true r fit refl x y)

    pub went_start : (s : State G) (F : ℕ → Family G) (May : Family G) → Went al n s s (Below F 0) May true
    went_start s F May = went_none s (Below F 0) May (λ l is o b. let h = b.1 in omega arith)

    -- one attempt: the rule over what stands at these places
    module _ (s : State G) (rule : ℕ) (places : List ℕ) (ps : List (Statement × G)) (stands : (l : List (Statement × G)) → Lists s l → StandAt l places ps) where
      pub attempt_none : ((x : Statement) → Rule n rule (statements_of ps) x → ⊥) → Went al n s s (λ l. Step al n l rule places) (λ l. Step al n l rule places) true
      attempt_none never = went_none s _ _ (λ l is o a.
          let e = stand_same l places a.premises ps a.stand (stands l is) in
          never o.0 (subst (λ (qs : List (Statement × G)). Rule n rule (statements_of qs) o.0) e a.gives))

      pub attempt_some : (t : State G) (y : Statement) (g : G) (b : Bool) (step : Kept) → step ≡ kept_of rule places → Keeps al s t y g step → Rule n rule (statements_of ps) y → ((z : Statement) → Rule n rule (statements_of ps) z → z ≡ y) → g ≡ joined al (grades_of ps) → Taken al s t y g b → Offered al s t y g step b → Went al n s t (λ l. Step al n l rule places) (λ l. Step al n l rule places) b
      attempt_some t y g b step is-step keeping gives only grade taken offered =
          let made : (l : List (Statement × G)) → Lists s l → Step al n l rule places (y, g) = λ l is. record { premises = ps; stand = stands l is; gives = gives; grade = grade } in
          record {
            grown = taken.grown;
            apart = taken.apart;
            new = λ l is k low h. (g, subst (λ (z : Statement). Step al n l rule places (z, g)) (sym (taken.only k low h)) (made l is));
            all = λ l is. enum_one n l s t (y, g) _ _ rule places b (made l is) (subst (λ (k : Kept). Offered al s t y g k b) is-step offered) taken (λ o a.
                let same = stand_same l places a.premises ps a.stand (stands l is) in
                let first : o.0 ≡ y = only o.0 (subst (λ (qs : List (Statement × G)). Rule n rule (statements_of qs) o.0) same a.gives) in
                let second : o.1 ≡ g = a.grade ∙ ap (λ (qs : List (Statement × G)). joined al (grades_of qs)) same ∙ sym grade in
                let pair : ◌≡◌ {A = Statement × G} (y, g) (o.0, o.1) = cc in
                pair) (made l is);
            full = λ e. let no_row = taken.refused e in subst (λ (z : State G). has_room z ≡ false) (sym no_row.0) no_row.1;
            stuck = λ e l is.
                let no_row = taken.refused e in
                record {
                  o = (y, g);
                  may = made l is;
                  absent = subst (λ (z : State G). Absent z y) (sym no_row.0) no_row.2;
                };
            keeps = λ base e l is right. keeping base l (kept_step rule places is-step (subst (λ (m : ℕ). Step al m l rule places (y, g)) (sym e) (made l is))) right;
          }
