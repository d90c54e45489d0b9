-- What was settled is kept from call to call.
use Rattle.std.proofs.Common.{ℕ, ◌<◌, ◌≤◌, get_or, sym, ap, ◌∙◌, arith}
use Rattle.saturation.specs.Tables.{State, row_at, statement_at}
use Rattle.saturation.specs.Memory.{KeepsSettled}

module _ {G : Type 0} where
  -- where no more are settled, what was settled before is what is settled now
  pub keeps_back : (s t : State G) → KeepsSettled s t → t.settled ≤ s.settled → KeepsSettled t s
  keeps_back s t a same =
      let up = a.more in
      let still : (k : ℕ) → k < t.settled → k < s.settled = λ k h. omega arith in
      record {
        more = omega arith;
        turns = λ k h. sym (a.turns k (still k h));
        statements = λ k h. ap (statement_at s) (a.turns k (still k h)) ∙ sym (a.statements k (still k h)) ∙ ap (statement_at t) (sym (a.turns k (still k h)));
        places = λ k h. ap (λ (j : ℕ). (row_at s j).place) (a.turns k (still k h)) ∙ sym (a.places k (still k h)) ∙ ap (λ (j : ℕ). (row_at t j).place) (sym (a.turns k (still k h)));
        kept = λ k h. ap (λ (j : ℕ). (row_at s j).kept) (a.turns k (still k h)) ∙ sym (a.kept k (still k h)) ∙ ap (λ (j : ℕ). (row_at t j).kept) (sym (a.turns k (still k h)));
        grades = λ k h d. ap (λ (j : ℕ). get_or s.grades j d) (a.turns k (still k h)) ∙ sym (a.grades k (still k h) d) ∙ ap (λ (j : ℕ). get_or t.grades j d) (sym (a.turns k (still k h)));
      }
