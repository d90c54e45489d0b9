-- The answer of the check is determined.
use Rattle.std.proofs.Common.{◌≡◌, ℕ, ◌-◌, ◌<◌, List, [], length, Ok, Err, sym, refl, ap, ◌∙◌, ⊎_elim, arith}
use Rattle.std.proofs.lemmas.Bool.Decides.{leb_tells}
use Rattle.standpoint.specs.declared.refusal.Refusal.{Refusal}
use Rattle.standpoint.specs.declared.refusal.Refusal.TheVariants.{WrongStep}
use Rattle.standpoint.specs.declared.statement.Statement.{Statement}
use Rattle.standpoint.specs.declared.step.Step.{Step}
use Rattle.standpoint.specs.Algebra.{Algebra}
use Rattle.standpoint.specs.Derivations.{Base}
use Rattle.standpoint.specs.Steps.{given}
use Rattle.standpoint.specs.Verdicts.{Last, Passes, FirstWrong, Refused, out_of_range, no_steps, wrong_step, OneAnswer}

module _ {G : Type 0} (a : Algebra G) (base : Base G) (steps : List (Step G)) where
  last_grade : {x y : Statement} {g h : G} → Last steps x g → Last steps y h → g ≡ h
  last_grade l m =
      let same = sym (l.at_end.1 l.step) ∙ m.at_end.1 l.step in
      ap (λ (o : Statement × G). o.1) (sym l.gives ∙ ap given same ∙ m.gives)

  not_later : {m n : ℕ} → FirstWrong a base steps m → FirstWrong a base steps n → m < n → ⊥
  not_later {m} {n} v w l = let i = v.counted in v.wrong (w.right_before (m - 1) (omega arith))

  first_wrong_same : {m n : ℕ} → FirstWrong a base steps m → FirstWrong a base steps n → m ≡ n
  first_wrong_same {m} {n} v w =
      let i : m < n → ⊥ = not_later v w in
      let j : n < m → ⊥ = not_later w v in
      ⊎_elim (λ p. ⊎_elim (λ q. let l = p.1 in let k = q.1 in omega arith) (λ q. absurd (i q.1)) (leb_tells n m)) (λ p. absurd (j p.1)) (leb_tells m n)

  some_steps : {x : Statement} {g : G} → Passes a base steps x g → steps ≡ [] → ⊥
  some_steps p e = let l = p.last.at_end.0 in let z : length steps ≡ 0 = ap length e in omega arith

  wrong_among : {place : ℕ} → FirstWrong a base steps place → steps ≡ [] → ⊥
  wrong_among w e = let l = w.counted in let m = w.within in let z : length steps ≡ 0 = ap length e in omega arith

  none_wrong : {place : ℕ} {x : Statement} {g : G} → Passes a base steps x g → FirstWrong a base steps place → ⊥
  none_wrong {place} p w = let l = w.counted in let m = w.within in w.wrong (p.right (place - 1) (omega arith))

  not_refused : {x : Statement} {g : G} {why : Refusal} → Passes a base steps x g → Refused a base steps why → ⊥
  not_refused p (out_of_range f) = f p.in_range
  not_refused p (no_steps _ e) = some_steps p e
  not_refused p (wrong_step _ w) = none_wrong p w

  one_reason : {why other : Refusal} → Refused a base steps why → Refused a base steps other → why ≡ other
  one_reason (out_of_range f) (out_of_range _) = refl
  one_reason (out_of_range f) (no_steps r _) = absurd (f r)
  one_reason (out_of_range f) (wrong_step r _) = absurd (f r)
  one_reason (no_steps r _) (out_of_range f) = absurd (f r)
  one_reason (no_steps _ _) (no_steps _ _) = refl
  one_reason (no_steps _ e) (wrong_step _ w) = absurd (wrong_among w e)
  one_reason (wrong_step r _) (out_of_range f) = absurd (f r)
  one_reason (wrong_step _ w) (no_steps _ e) = absurd (wrong_among w e)
  one_reason (wrong_step _ v) (wrong_step _ w) = ap WrongStep (first_wrong_same v w)

pub one_answer : {G : Type 0} (a : Algebra G) → OneAnswer a
one_answer a base steps (Ok g) (Ok h) p q = ap Ok (last_grade a base steps p.1.last q.1.last)
one_answer a base steps (Ok g) (Err why) p r = absurd (not_refused a base steps p.1 r)
one_answer a base steps (Err why) (Ok g) r p = absurd (not_refused a base steps p.1 r)
one_answer a base steps (Err why) (Err other) r s = ap Err (one_reason a base steps r s)
