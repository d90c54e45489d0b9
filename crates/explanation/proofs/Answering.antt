-- The parts of an explanation put together: the answer, and the reasoner as it was.
use Rattle.std.proofs.Common.{◌≡◌, ℕ, ◌+◌, ◌<◌, ◌≤◌, true, List, [], ◌∷◌, ◌++◌, length, take, drop, get_or, Some, None, Ok, Err, Option, Result, sym, refl, ap, ◌∙◌, subst, arith, length-drop}
use Rattle.std.proofs.lemmas.List.{ext_get_or, get_or-take, get_or-drop, length-take-le, take-append-drop}
use Rattle.std.specs.Option.{ok_or}
use Rattle.standpoint.specs.declared.refusal.Refusal.{Refusal}
use Rattle.standpoint.specs.declared.refusal.Refusal.TheVariants.{Unsettled, RestsOnLater, BufferTooShort}
use Rattle.standpoint.specs.declared.statement.Statement.{Statement}
use Rattle.standpoint.specs.declared.step.Step.{Step}
use Rattle.saturation.specs.declared.table.Table.{Table}
use Rattle.saturation.specs.Phases.{is_begun}
use Rattle.saturation.specs.Rows.{Unlisted}
use Rattle.saturation.specs.Tables.{State, view}
use Rattle.reasoner.specs.Asking.{Askable}
use Rattle.explanation.specs.Needed.{Unfounded, rank, ChosenWritten, Renumbers, ListOf, OneList}
use Rattle.explanation.specs.Marks.{mark_at, Clean, ButMarks, MarksDown}
use Rattle.explanation.specs.Explaining.{FirstSettled, SettledAs, Finds, NotFound, not_settled, Writes, rests_on_later, listed, Explains, not_found, found}
use Rattle.explanation.proofs.ButMarks.{but_marks_trans, clean_same, written_same}
use Rattle.explanation.proofs.Ranks.{rank_below}
use Rattle.explanation.proofs.Marking.{marks_chosen, marks_founded}
use Rattle.explanation.proofs.OneLists.{choices_rank, list_same}
use Rattle.explanation.proofs.Listing.{one_list}

-- lists that hold the same from a place on
same_behind : {X : Type 0} (n : ℕ) (xs ys : List X) → length xs ≡ length ys → ((i : ℕ) → n ≤ i → (d : X) → get_or xs i d ≡ get_or ys i d) → drop n xs ≡ drop n ys
same_behind n [] [] long same = refl
same_behind n [] (y ∷ ys) long same = absurd (omega arith)
same_behind n (x ∷ xs) ys long same =
    let left = length-drop n (x ∷ xs) in
    let right = length-drop n ys in
    ext_get_or x (drop n (x ∷ xs)) (drop n ys) (omega arith) (λ i h. get_or-drop n (x ∷ xs) i x ∙ same (n + i) (omega arith) x ∙ sym (get_or-drop n ys i x))

module _ {G : Type 0} where
  pub finds : (s : Table G) (x : Statement) (o : Option ℕ) (r : Result ℕ Refusal) → r ≡ ok_or o Unsettled → Askable s x → SettledAs (view s) x o → Finds s x r
  finds s x None r is asked at = subst (Finds s x) (sym is) (not_settled asked at)
  finds s x (Some t) r is asked at = subst (Finds s x) (sym is) (asked, at)

  pub refuses_later : (s : State G) (t : ℕ) (old new : List (Step G)) (r : Result ℕ Refusal) (e : Refusal) → r ≡ Err e → e ≡ RestsOnLater → new ≡ old → Unfounded s t → Writes s t old new r
  refuses_later s t old new r e is later same un = subst (Writes s t old new) (sym (is ∙ ap Err later)) (rests_on_later un same)

  pub refuses_unfound : (s : Table G) (x : Statement) (old new : List (Step G)) (r : Result ℕ Refusal) (e : Refusal) → r ≡ Err e → new ≡ old → NotFound s x e → Explains s x old new r
  refuses_unfound s x old new r e is same why = subst (Explains s x old new) (sym is) (not_found why same)

  pub explains : (s : Table G) (x : Statement) (t : ℕ) (old new : List (Step G)) (r : Result ℕ Refusal) → Askable s x → FirstSettled (view s) x t → Writes (view s) t old new r → Explains s x old new r
  explains s x t old new r asked at answer = found asked t at answer

  -- with all that is needed marked, the answer goes by the room in the buffer
  module _ (a : Table G) (t : ℕ) (within : t < a.settled) (u : State G) (p : MarksDown (view a) u t (t + 1)) where
    pub refuses_short : (old new : List (Step G)) → new ≡ old → length old < rank (mark_at u) (t + 1) → Writes (view a) t old new (Err BufferTooShort)
    refuses_short old new same short =
        let one = one_list a t within (marks_founded (view a) u t p) in
        let is = one.1.is in
        let long = is.long in
        let count = choices_rank (view a) t within is.chosen (mark_at u) is.chooses (marks_chosen (view a) u t p) (t + 1) (omega arith) in
        listed one.0 one.1 (refl, omega arith, same)

    pub writes_all : (old new : List (Step G)) (count : ℕ) → count ≡ rank (mark_at u) (t + 1) → count ≤ length old → ChosenWritten u (mark_at u) (t + 1) old new → Writes (view a) t old new (Ok count)
    writes_all old new count is room written =
        let s = view a in
        let m = mark_at u in
        let w = written_same s u p.but_marks m (t + 1) old new written in
        let long = w.long in
        let front = take count new in
        let few = length-take-le count new (omega arith) in
        let list : ListOf s t front = record {
          chosen = m;
          chooses = marks_chosen s u t p;
          founded = marks_founded s u t p;
          long = few ∙ is;
          each = λ k h e d.
              let low = rank_below m k (t + 1) (omega arith) e in
              subst (Renumbers s m k) (sym (get_or-take count new (rank m k) d (omega arith))) (w.each k (omega arith) e d);
        } in
        let one : OneList s t front = record { is = list; only = λ others o. list_same s t within others front o list } in
        let behind = same_behind count new old long (λ i h d. w.rest i (omega arith) d) in
        listed front one (sym few, omega arith, sym (take-append-drop count new) ∙ ap (λ (z : List (Step G)). front ++ z) behind ∙ ap (λ (n : ℕ). front ++ drop n old) (sym few))

  -- marked, then cleared
  module _ (a l u : Table G) (begun : is_begun a.phase ≡ true) (marked : ButMarks (view a) (view l)) (cleared : ButMarks (view l) (view u)) (clean : Clean (view u)) where
    pub rows_as_before : view u ≡ view a
    rows_as_before =
        let f = a.settled_fit in
        clean_same (view a) (view u) (but_marks_trans (view a) (view l) (view u) marked cleared) (λ k lt. a.unlisted begun k (omega arith)) clean

    pub unlisted : Unlisted u.rows.now u.len (is_begun a.phase)
    unlisted = subst (λ (s : State G). Unlisted s.rows s.len (is_begun a.phase)) (sym rows_as_before) a.unlisted
