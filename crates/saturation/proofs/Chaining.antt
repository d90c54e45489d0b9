-- Chains of places: what a head and a link tell, and one place more.
use Rattle.std.proofs.Common.{◌≡◌, ◌≢◌, ℕ, zero, suc, ◌+◌, ◌<◌, ◌≤◌, Bool, true, cond, ◌⊎◌, Some, None, Option, sym, refl, ap, ◌∙◌, subst, inl, inr, ⊎_elim, arith}
use Rattle.std.proofs.lemmas.Option.{cond_some, none-some}
use Rattle.std.proofs.lemmas.Bool.Decides.{eqb_tells, leb_tells}
use Rattle.saturation.specs.Chains.{last_in, Chained}

-- k is not yet reached by a walk back that stands at this place, or has ended
abbrev pub Passed : Option ℕ → ℕ → Type 0
Passed None k = Unit {0}
Passed (Some i) k = i < k

-- how far a walk back still has to go
abbrev pub walk_left : Option ℕ → ℕ
walk_left None = 0
walk_left (Some i) = i + 1

module _ (f : ℕ → ℕ) (b : ℕ) where
  pub last_here : (n : ℕ) → f n ≡ b → last_in f b (suc n) ≡ Some n
  last_here n here = ⊎_elim (λ t. ap (λ (v : Bool). cond v (Some n) (last_in f b n)) t.0) (λ e. absurd (e.1 here)) (eqb_tells (f n) b)

  pub last_before : (n : ℕ) → f n ≢ b → last_in f b (suc n) ≡ last_in f b n
  last_before n other = ⊎_elim (λ t. absurd (other t.1)) (λ e. ap (λ (v : Bool). cond v (Some n) (last_in f b n)) e.0) (eqb_tells (f n) b)

  pub last_is : (n i : ℕ) → last_in f b n ≡ Some i → (i < n) × (f i ≡ b)
  last_is zero i e = absurd (none-some i e)
  last_is (suc n) i e =
      ⊎_elim
      (λ t.
      let same : n ≡ i = (cond_some true n i (sym (last_here n t.1) ∙ e)).1 in
      (omega arith, ap f (sym same) ∙ t.1))
      (λ o. let p = last_is n i (sym (last_before n o.1) ∙ e) in let below = p.0 in (omega arith, p.1))
      (eqb_tells (f n) b)

  -- no place of the bucket lies past its last one
  pub none_past : (n : ℕ) (r : Option ℕ) → last_in f b n ≡ r → (k : ℕ) → k < n → f k ≡ b → Passed r k → ⊥
  none_past zero r e k h here past = let z : ⊥ = omega arith in z
  none_past (suc n) r e k h here past =
      ⊎_elim
      (λ t. let over : n < k = subst (λ (v : Option ℕ). Passed v k) (sym e ∙ last_here n t.1) past in omega arith)
      (λ o.
      let ne : k ≢ n = λ same. o.1 (ap f (sym same) ∙ here) in
      none_past n r (sym (last_before n o.1) ∙ e) k (omega arith) here past)
      (eqb_tells (f n) b)

  -- the link from a place leads further back
  pub link_falls : (at : Option ℕ) (k : ℕ) (r : Option ℕ) → at ≡ Some k → r ≡ last_in f b k → walk_left r < walk_left at
  link_falls None k r at e = absurd (none-some k at)
  link_falls (Some i) k None at e = omega arith
  link_falls (Some i) k (Some j) at e =
      let same : i ≡ k = (cond_some true i k at).1 in
      let p = last_is k j (sym e) in
      let below = p.0 in
      omega arith

  -- a walk stands at a place of the bucket among the first n, or has ended
  abbrev pub On : ℕ → Option ℕ → Type 0
  On n None = Unit {0}
  On n (Some i) = (i < n) × (f i ≡ b)

  pub on_last : (n m : ℕ) (at : Option ℕ) → n ≤ m → at ≡ last_in f b n → On m at
  on_last n m None low is = tt
  on_last n m (Some i) low is = let p = last_is n i (sym is) in let below = p.0 in (omega arith, p.1)

  -- what lies past the link from a place k of the bucket lies past k, or is k
  pub past_link : (k : ℕ) (r : Option ℕ) → r ≡ last_in f b k → (j : ℕ) → f j ≡ b → Passed r j → (k < j) ⊎ (j ≡ k)
  past_link k r is j here past =
      ⊎_elim
      (λ t. inr t.1)
      (λ o. ⊎_elim
      (λ t. absurd (none_past k r (sym is) j (lower o.1 t.1) here past))
      (λ g. let over = g.1 in let ne = o.1 in inl (omega arith))
      (leb_tells j k))
      (eqb_tells j k)
    where
      lower : j ≢ k → j ≤ k → j < k
      lower ne le = omega arith

module _ (f heads : ℕ → ℕ) (links : ℕ → Option ℕ) (n : ℕ) (chained : Chained f heads links n) (b : ℕ) where
  -- a head that names a place of its bucket is the last one, and any other says that there is none
  pub head_last : heads b < n → f (heads b) ≡ b → last_in f b n ≡ Some (heads b)
  head_last below here = at (last_in f b n) refl
    where
      at : (r : Option ℕ) → last_in f b n ≡ r → last_in f b n ≡ Some (heads b)
      at None e = absurd (none_past f b n None e (heads b) below here tt)
      at (Some i) e = e ∙ ap Some (sym (chained.last b i e))

  pub head_none : (heads b < n → f (heads b) ≡ b → ⊥) → last_in f b n ≡ None
  head_none not = at (last_in f b n) refl
    where
      at : (r : Option ℕ) → last_in f b n ≡ r → last_in f b n ≡ None
      at None e = e
      at (Some i) e =
          let p = last_is f b n i e in
          let same = chained.last b i e in
          absurd (not (subst (λ (k : ℕ). k < n) (sym same) p.0) (ap f same ∙ p.1))

pub last_same : (f g : ℕ → ℕ) (b n : ℕ) → ((k : ℕ) → k < n → g k ≡ f k) → last_in g b n ≡ last_in f b n
last_same f g b zero same = refl
last_same f g b (suc n) same =
    let here = same n (omega arith) in
    let rest = last_same f g b n (λ k h. same k (omega arith)) in
    ⊎_elim
    (λ t. last_here g b n t.1 ∙ sym (last_here f b n (sym here ∙ t.1)))
    (λ o. last_before g b n o.1 ∙ rest ∙ sym (last_before f b n (λ e. o.1 (here ∙ e))))
    (eqb_tells (g n) b)

-- the same buckets of the first n places
module _ (f g heads heads' : ℕ → ℕ) (links links' : ℕ → Option ℕ) (n : ℕ) (same : (k : ℕ) → k < n → g k ≡ f k) (back : (k : ℕ) → k < n → links' k ≡ links k) (old : Chained f heads links n) where
  last_still : (b k : ℕ) → k ≤ n → last_in g b k ≡ last_in f b k
  last_still b k h = last_same f g b k (λ j l. same j (omega arith))

  back_still : (k : ℕ) → k < n → links' k ≡ last_in g (g k) k
  back_still k h = back k h ∙ old.back k h ∙ ap (λ (b : ℕ). last_in f b k) (sym (same k h)) ∙ sym (last_still (g k) k (omega arith))

  pub chained_same : ((b : ℕ) → heads' b ≡ heads b) → Chained g heads' links' n
  chained_same head = record {
    last = λ b i e. head b ∙ old.last b i (sym (last_still b n (omega arith)) ∙ e);
    back = back_still;
  }

  -- and place n is the last in bucket b
  pub chained_next : (b : ℕ) → g n ≡ b → heads' b ≡ n → ((c : ℕ) → c ≢ b → heads' c ≡ heads c) → links' n ≡ last_in f b n → Chained g heads' links' (n + 1)
  chained_next b is head others link =
      let next : n + 1 ≡ suc n = omega arith in
      record {
        last = λ c i e.
            ⊎_elim
            (λ t.
            let last : last_in g c (n + 1) ≡ Some n = ap (last_in g c) next ∙ last_here g c n (is ∙ sym t.1) in
            ap heads' t.1 ∙ head ∙ (cond_some true n i (sym last ∙ e)).1)
            (λ o.
            let last : last_in g c (n + 1) ≡ last_in f c n = ap (last_in g c) next ∙ last_before g c n (λ here. o.1 (sym here ∙ is)) ∙ last_still c n (omega arith) in
            others c o.1 ∙ old.last c i (sym last ∙ e))
            (eqb_tells c b);
        back = λ k h.
            ⊎_elim
            (λ t. subst (λ (j : ℕ). links' j ≡ last_in g (g j) j) (sym t.1) (link ∙ sym (last_still b n (omega arith)) ∙ ap (λ (c : ℕ). last_in g c n) (sym is)))
            (λ o. let ne = o.1 in back_still k (omega arith))
            (eqb_tells k n);
      }
