-- A part of the room for steps, put back.
use Rattle.std.proofs.Common.{◌≡◌, ℕ, ◌-◌, ◌≤◌, min, List, [], ◌++◌, length, take, drop, Result, sym, ap, ◌∙◌, subst, append-nil, arith, length-drop, drop_of_length-le, length-take-le, take_all, take_at, drop_at}
use borrow.Rule.Slice.PartMut.{post_of, put_mid}
use Rattle.standpoint.specs.declared.refusal.Refusal.{Refusal}
use Rattle.standpoint.specs.declared.statement.Statement.{Statement}
use Rattle.standpoint.specs.declared.step.Step.{Step}
use Rattle.standpoint.specs.Algebra.{Algebra, Laws}
use Rattle.standpoint.specs.Derivations.{Base}
use Rattle.runs.specs.Runs.{Settled}
use Rattle.saturation.specs.declared.table.Table.{Table}
use Rattle.reasoner.specs.Models.{Holding}
use Rattle.explanation.specs.Explaining.{Explains, ExplainsAs}
use Rattle.replay.specs.declared.call.Call.{Call}
use Rattle.replay.specs.Pasts.{Outcome}
use Rattle.replay.specs.Performing.{ExplainsWithin, Performs}

module _ {X : Type 0} (k : ℕ) (xs ys : List X) (long : length ys ≡ length (take (k - 0) xs)) (within : k ≤ length xs) where
  whole : length ys ≡ k
  whole = let e : k - 0 ≤ length xs = omega arith in let f = length-take-le (k - 0) xs e in omega arith

  pub front_put : take k (ys ++ post_of 0 (k - 0) xs) ≡ ys
  front_put = take_at ys (post_of 0 (k - 0) xs) k whole

  pub back_put : drop k (ys ++ post_of 0 (k - 0) xs) ≡ drop k xs
  back_put = drop_at ys (post_of 0 (k - 0) xs) k whole ∙ (let e : k - 0 ≡ k = omega arith in ap (λ (n : ℕ). drop n xs) e)

-- all from a place on, put back
module _ {X : Type 0} (w : ℕ) (xs ys : List X) (long : length ys ≡ length (take (length xs - w) (drop w xs))) (within : w ≤ length xs) where
  pub rest_is : take (length xs - w) (drop w xs) ≡ drop w xs
  rest_is = take_all (length xs - w) (drop w xs) (let e = length-drop w xs in omega arith)

  pub rest_put : drop w (put_mid w (length xs - w) xs ys) ≡ ys
  rest_put =
      let none : post_of w (length xs - w) xs ≡ [] = drop_of_length-le (drop w xs) (let e = length-drop w xs in omega arith) in
      drop_at (take w xs) (ys ++ post_of w (length xs - w) xs) w (length-take-le w xs within) ∙ ap (λ (z : List X). ys ++ z) none ∙ append-nil ys

pub explained_within : {G : Type 0} (x : Statement) (most k : ℕ) (s : Table G) (old last : List (Step G)) (r : Result ℕ Refusal) →
    k ≡ min most (length old) → length last ≡ length (take (k - 0) old) → Explains s x (take (k - 0) old) last r →
    ((a : Algebra G) → Laws a → (b : Base G) (l : Settled G) → Holding a b s l → ExplainsAs a b l x (take (k - 0) old) last r) →
    ExplainsWithin x most s old (last ++ post_of 0 (k - 0) old) r
explained_within {G} x most k s old last r is long explains meaning =
    let whole : k - 0 ≡ k = omega arith in
    let within : k ≤ length old = omega arith in
    let front = front_put k old last long within in
    record {
      places = k;
      at_most = is;
      beyond = back_put k old last long within;
      explains = subst (λ (z : List (Step G)). Explains s x (take k old) z r) (sym front) (subst (λ (n : ℕ). Explains s x (take n old) last r) whole explains);
      meaning = λ a laws b l h.
          subst (λ (z : List (Step G)). ExplainsAs a b l x (take k old) z r) (sym front) (subst (λ (n : ℕ). ExplainsAs a b l x (take n old) last r) whole (meaning a laws b l h));
    }

pub performed_behind : {G : Type 0} (a : Algebra G) (call : Call G) (o : Outcome G) (s t : Table G) (old last : List (Step G)) (w : ℕ) → w ≤ length old →
    length last ≡ length (take (length old - w) (drop w old)) → Performs a call o s t (take (length old - w) (drop w old)) last →
    Performs a call o s t (drop w old) (drop w (put_mid w (length old - w) old last))
performed_behind {G} a call o s t old last w within long here =
    subst (λ (z : List (Step G)). Performs a call o s t (drop w old) z) (sym (rest_put w old last long within))
    (subst (λ (z : List (Step G)). Performs a call o s t z last) (rest_is w old last long within) here)
