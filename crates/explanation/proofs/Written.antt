-- What is written so far.
use Rattle.std.proofs.Common.{◌≡◌, ℕ, ◌+◌, ◌<◌, ◌≤◌, Bool, true, false, List, length, get_or, set, sym, ap, ◌∙◌, subst, ⊎_elim, arith, length-set}
use borrow.Author.Tests.{both_ways}
use Rattle.std.proofs.lemmas.List.{get_or-set_same, get_or-set_other}
use Rattle.standpoint.specs.declared.step.Step.{Step}
use Rattle.saturation.specs.Tables.{State}
use Rattle.saturation.proofs.Offers.{last_or}
use Rattle.explanation.specs.Needed.{rank, Renumbers, ChosenWritten}
use Rattle.explanation.proofs.Ranks.{rank_taken, rank_left, rank_below}

module _ {G : Type 0} (s : State G) (m : ℕ → Bool) (old : List (Step G)) where
  write_skip : (k : ℕ) (b : List (Step G)) → m k ≡ false → ChosenWritten s m k old b → ChosenWritten s m (k + 1) old b
  write_skip k b e w =
      let r = rank_left m k e in
      record {
        long = w.long;
        each = λ j lt t d. ⊎_elim (λ before. w.each j before t d) (λ i. absurd (both_ways (m j) (subst (λ (n : ℕ). m n ≡ false) (sym i) e) t)) (last_or j k lt);
        rest = λ i h d. w.rest i (omega arith) d;
      }

  write_more : (k : ℕ) (b : List (Step G)) (v : Step G) → m k ≡ true → rank m k < length old → Renumbers s m k v → ChosenWritten s m k old b → ChosenWritten s m (k + 1) old (set b (rank m k) v)
  write_more k b v e room right w =
      let r = rank_taken m k e in
      let lg = w.long in
      record {
        long = length-set b (rank m k) v ∙ w.long;
        each = λ j lt t d. ⊎_elim
            (λ before.
            let lo = rank_below m j k before t in
            subst (Renumbers s m j) (sym (get_or-set_other b (rank m k) (rank m j) v d (λ x. omega arith))) (w.each j before t d))
            (λ i.
            subst (λ (q : ℕ). Renumbers s m q (get_or (set b (rank m k) v) (rank m q) d)) (sym i)
            (subst (Renumbers s m k) (sym (get_or-set_same b (rank m k) v d (omega arith))) right))
            (last_or j k lt);
        rest = λ i h d. get_or-set_other b (rank m k) i v d (λ x. omega arith) ∙ w.rest i (omega arith) d;
      }

  -- what the writing loop keeps
  abbrev pub Writing : ℕ → ℕ → List (Step G) → Type 0
  Writing k n b = (n ≡ rank m k) × ChosenWritten s m k old b

  module _ (k n : ℕ) (b : List (Step G)) (loop : Writing k n b) where
    pub writing_skip : false ≡ m k → Writing (k + 1) n b
    writing_skip e = (loop.0 ∙ sym (rank_left m k (sym e)), write_skip k b (sym e) loop.1)

    module _ (t : ℕ) (room : rank m (t + 1) ≤ length old) (within : k < t + 1) (e : true ≡ m k) where
      pub place_left : n < length b
      place_left = let low = rank_below m k (t + 1) within (sym e) in let is = loop.0 in let lg = loop.1.long in omega arith

      pub writing_more : (c : List (Step G)) (v : Step G) → c ≡ set b n v → Renumbers s m k v → Writing (k + 1) (n + 1) c
      writing_more c v is right =
          let low = rank_below m k (t + 1) within (sym e) in (
            ap (λ (j : ℕ). j + 1) loop.0 ∙ sym (rank_taken m k (sym e)),
            subst (ChosenWritten s m (k + 1) old) (ap (λ (j : ℕ). set b j v) (sym loop.0) ∙ sym is) (write_more k b v (sym e) (omega arith) right loop.1),
          )
