-- Line k of the text of a settled list.
use Rattle.std.proofs.Common.{◌≡◌, ℕ, ◌<◌, ◌≤◌, true, List, [], ◌∷◌, ◌++◌, map, length, get_or, IfOk, Ok, Err, Result, sym, refl, ap, ◌∙◌, subst, arith}
use Rattle.std.specs.List.{range_with_len}
use Rattle.std.proofs.lemmas.List.{get_or_append_left, get_or-map, get_or_at, get_or_past, length-map, length_push}
use Rattle.std.proofs.lemmas.List.FromFn.{length-map-range_with_len, get_or-map-range_with_len}
use Rattle.standpoint.specs.declared.refusal.Refusal.{Refusal}
use Rattle.standpoint.specs.declared.statement.Statement.{Statement}
use Rattle.runs.specs.declared.Stand.{Stand}
use Rattle.saturation.specs.declared.phase.Phase.{Phase}
use Rattle.saturation.specs.declared.phase.Phase.TheVariants.{Idle, Taking, Running, Full}
use Rattle.saturation.specs.declared.table.Table.{Table}
use Rattle.saturation.specs.Phases.{is_begun}
use Rattle.saturation.specs.Tables.{State, view, statement_at, turn_at}
use Rattle.saturation.specs.Searching.{Premise, premises_in, Lists}
use Rattle.reasoner.proofs.Holding.{held}
use Rattle.saturation.specs.Saturation.{stand_of}
use Rattle.reasoner.proofs.Standing.{stands_so}
use Rattle.settled_text.specs.Text.{statement_text, stand_text, line_text, Written, Printed, RowsLine, RunLine}

-- a phase that is not idle is that of a run
pub begun_else : (p : Phase) → (p ≡ Idle → ⊥) → is_begun p ≡ true
begun_else Idle busy = absurd (busy refl)
begun_else (Taking n) busy = refl
begun_else (Running n) busy = refl
begun_else (Full n) busy = refl

both_same : {X Y : Type 0} (p q : X × Y) → p.0 ≡ q.0 → p.1 ≡ q.1 → p ≡ q
both_same {X} {Y} p q first second = let pair : ◌≡◌ {A = X × Y} (p.0, p.1) (q.0, q.1) = cc in pair

-- what is read at a settling place stands in the list, which is as long as there are such places
abbrev pub Reads : {G : Type 0} → State G → List (Statement × G) → Type 0
Reads {G} s l = (length l ≡ s.settled) × ((k : ℕ) (o : Statement × G) → k < s.settled → Premise s k o → get_or l k o ≡ o)

module _ {G : Type 0} (s : State G) where
  pub run_reads : (l : List (Statement × G)) → Lists s l → Reads s l
  run_reads l is = (is.long, λ k o h read. let q = is.holds k h o in both_same (get_or l k o) o (sym q.0 ∙ read.0) (sym (q.1 o.1) ∙ read.1 o.1))

  module _ (d : G) where
    abbrev held_at : ℕ → Statement × G
    held_at k = (statement_at s (turn_at s k), get_or s.grades (turn_at s k) d)

    premises_map : (ks : List ℕ) → premises_in s d ks ≡ map held_at ks
    premises_map [] = refl
    premises_map (k ∷ ks) = ap (λ (os : List (Statement × G)). held_at k ∷ os) (premises_map ks)

    pub rows_read : Reads s (premises_in s d (range_with_len 0 s.settled))
    rows_read =
        let read_at : (k : ℕ) (o : Statement × G) → k < s.settled → Premise s k o → get_or (map held_at (range_with_len 0 s.settled)) k o ≡ o =
        λ k o h read. get_or-map-range_with_len held_at 0 s.settled k k o h (omega arith) ∙ both_same (held_at k) o read.0 (read.1 d) in
        subst (Reads s) (sym (premises_map (range_with_len 0 s.settled))) (length-map-range_with_len held_at 0 s.settled, read_at)

module _ {G : Type 0} (coded : G → ℕ) (t : Table G) (k : ℕ) where
  -- these bytes are line k of every list that the rows read as
  abbrev pub LineIs : List ℕ → Type 0
  LineIs bytes = (l : List (Statement × G)) → Reads (view t) l → line_text coded l (stand_of t) k ≡ bytes

  abbrev line_of : Statement × G → List ℕ
  line_of o = statement_text o.0 (coded o.1)

  abbrev last_line : List (Statement × G) → List ℕ
  last_line l = stand_text (stand_of t) (length l)

  pub line_inner : (o : Statement × G) (code : ℕ) → k < t.settled → Premise (view t) k o → code ≡ coded o.1 → LineIs (statement_text o.0 code)
  line_inner o code h read e l is =
      let long = is.0 in
      let inside : k < length l = omega arith in
      let within : k < length (map line_of l) = omega (arith, length-map l line_of) in
      get_or_append_left (map line_of l) (last_line l ∷ []) [] k within ∙ get_or-map line_of l k o [] inside ∙ ap line_of (is.1 k o h read) ∙ ap (statement_text o.0) (sym e)

  pub line_last : (stand : Stand) → k ≡ t.settled → stand ≡ stand_of t → LineIs (stand_text stand k)
  line_last stand h e l is =
      let at : length l ≡ k = is.0 ∙ sym h in
      get_or_at (map line_of l) (last_line l) [] [] k (length-map l line_of ∙ at) ∙ ap (stand_text (stand_of t)) at ∙ ap (λ (w : Stand). stand_text w k) (sym e)

  pub line_past : t.settled < k → LineIs []
  line_past h l is =
      let long = is.0 in
      let whole : length (map line_of l ++ (last_line l ∷ [])) ≤ k = omega (arith, length_push (map line_of l) (last_line l), length-map l line_of) in
      get_or_past (map line_of l ++ (last_line l ∷ [])) k [] whole

  -- once begun, such bytes are the line of the rows and that of a run
  pub line_printed : is_begun t.phase ≡ true → (bytes : List ℕ) → LineIs bytes → (before after : List ℕ) (r : Result ℕ Refusal) → Written bytes before after r →
      RowsLine coded t k before after r × RunLine coded t k before after r
  line_printed begun bytes line before after r written =
      let printed : (l : List (Statement × G)) → Reads (view t) l → Printed (is_begun t.phase) (line_text coded l (stand_of t) k) before after r =
      λ l is. rw (begun, line l is) written in
      let run : RunLine coded t k before after r =
      λ a b l h. (stand_of t, stands_so a b t h, rw (line l (run_reads (view t) l (held h).lists)) written) in
      (λ d. printed _ (rows_read (view t) d), run)

-- what is written lies within the buffer
pub written_within : (bytes before later : List ℕ) (r : Result ℕ Refusal) → Written bytes before later r → IfOk r (λ n. n ≤ length before)
written_within bytes before later (Ok n) w = let e = w.0 in let h = w.1 in omega arith
written_within bytes before later (Err e) w = tt
