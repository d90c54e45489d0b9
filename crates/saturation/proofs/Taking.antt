-- One turn, put together.
use Rattle.std.proofs.Common.{◌≡◌, ℕ, ◌+◌, ◌<◌, ◌≤◌, Bool, List, [], ◌∷◌, ◌++◌, Some, sym, ◌∙◌, subst, arith}
use Rattle.standpoint.specs.declared.statement.Statement.{Statement}
use Rattle.standpoint.specs.Algebra.{Algebra, Laws}
use Rattle.saturation.specs.Tables.{State, capacity, statement_at, OpenAt, settled_row}
use Rattle.saturation.specs.Rows.{TurnsPlaced}
use Rattle.saturation.specs.Places.{Uses}
use Rattle.saturation.specs.Offering.{Ranked, Grown}
use Rattle.saturation.specs.Searching.{Lists, Enumerated, Stuck, Went}
use Rattle.saturation.specs.Choosing.{Picked, Chosen}
use Rattle.saturation.specs.Tournament.{Played, PlayedBut, ButWinners}
use Rattle.saturation.specs.Memory.{SettlesRows}
use Rattle.saturation.specs.declared.turn.Turn.{Turn}
use Rattle.saturation.specs.declared.turn.Turn.TheVariants.{Nothing, Settled, Overflowed}
use Rattle.saturation.specs.Turns.{TookTurn, Turned}
use Rattle.saturation.proofs.Lists.{Fit, lists_grown}
use Rattle.saturation.proofs.Leaving.{leaves_trans, leaves_capacity, keeps_trans, grown_keeps, settles_none}
use Rattle.saturation.proofs.Rematching.{touched_played}
use Rattle.saturation.proofs.Winners.{but_grown, but_apart, but_best, but_right}
use Rattle.saturation.proofs.Offers.{grown_trans}
use Rattle.saturation.proofs.Stepping.{value_at}
use Rattle.saturation.proofs.Opening.{next_chosen, open_room}
use Rattle.saturation.proofs.Settling.{settled_leaves_memory, settled_keeps, settled_lists, settled_best, settled_touched, settled_apart, settled_statements, settled_right, settled_explained, explained_grown}

-- row i is settled, the winners are found anew, and a search follows
module _ {G : Type 0} (al : Algebra G) (laws : Laws al) (v : ℕ) (s m n t : State G) (i : ℕ) (b : Bool) (fit : Fit s) (fit_m : Fit m)
    (placed : TurnsPlaced s.rows s.settled) (placed_m : TurnsPlaced m.rows m.settled) (fits : s.len ≤ capacity s) (room : s.settled < s.len)
    (picked : Picked s (Some i)) (first : Played al s → Chosen al s s.len (Some i)) (is : m ≡ settled_row s i)
    (but : ButWinners m n) (again : PlayedBut al m i → Played al n)
    (went : Went al v n t (λ l. Uses al v l s.settled) (λ l. Uses al v l s.settled) b) where
  within : i < s.len
  within = picked.0

  settled_fit : Fit (settled_row s i)
  settled_fit = subst Fit is fit_m

  from_settled : ButWinners (settled_row s i) n
  from_settled = subst (λ (z : State G). ButWinners z n) is but

  settled_placed : TurnsPlaced (settled_row s i).rows (s.settled + 1)
  settled_placed = subst (λ (z : State G). TurnsPlaced z.rows z.settled) is placed_m

  settled_grown : Grown (settled_row s i) n
  settled_grown = but_grown from_settled (let l = settled_leaves_memory s i within fits room in let e = leaves_capacity l in omega arith)

  grown : Grown (settled_row s i) t
  grown = grown_trans settled_grown went.grown

  ranked : (off : List (Statement × G)) → Ranked al s off → Ranked al n off
  ranked off r = record {
    best = but_best from_settled al off (settled_best s i within fits room al off r.best);
    played = again (subst (λ (z : State G). PlayedBut al z i) (sym is) (touched_played al s (settled_row s i) i (settled_touched s i within fits room) r.played));
  }

  pub took_turn : TookTurn al v s t b
  took_turn =
      let g = value_at s.grades i (omega arith) in
      let o : Statement × G = (statement_at s i, g.0) in
      let more = grown.more in
      let listed : (l : List (Statement × G)) → Lists s l → Lists (settled_row s i) (l ++ o ∷ []) = λ l old. settled_lists s i within fits room l g.0 picked.1 g.1 old in
      let relisted : (l : List (Statement × G)) → Lists s l → Lists n (l ++ o ∷ []) = λ l old. lists_grown (settled_row s i) n (l ++ o ∷ []) settled_fit settled_grown (listed l old) in
      record {
        o = o;
        row = i;
        chosen = n;
        picked = picked;
        winners = from_settled;
        rematched = ranked;
        long = grown.settled;
        more = more;
        leaves = leaves_trans more (settled_leaves_memory s i within fits room) grown.leaves;
        kept_settled = keeps_trans (settled_keeps s i within fits room placed picked.1) (grown_keeps settled_fit.0 settled_fit.1 settled_placed grown);
        next = λ l off old r. next_chosen s l old al laws (λ k h. omega arith) off fit r.best i g.0 (first r.played) g.1;
        lists = λ l old. lists_grown (settled_row s i) t (l ++ o ∷ []) settled_fit grown (listed l old);
        apart = λ h. went.apart (but_apart from_settled (settled_apart s i within fits room h));
        old = λ k h. grown.statements k h ∙ settled_statements s i within fits room k;
        new = λ l old k low h.
            let e = from_settled.len in
            let u = went.new (l ++ o ∷ []) (relisted l old) k (omega arith) h in
            (u.0, subst (λ (j : ℕ). Uses al v (l ++ o ∷ []) j (statement_at t k, u.0)) (sym old.long) u.1);
        all = λ l old. subst (λ (j : ℕ). Enumerated al v (l ++ o ∷ []) n t (Uses al v (l ++ o ∷ []) j) (Uses al v (l ++ o ∷ []) j) b) (sym old.long) (went.all (l ++ o ∷ []) (relisted l old));
        full = went.full;
        stuck = λ e l old. subst (λ (j : ℕ). Stuck t (Uses al v (l ++ o ∷ []) j)) (sym old.long) (went.stuck e (l ++ o ∷ []) (relisted l old));
        keeps = λ base e l old right explained.
            let right_n = but_right from_settled al base (l ++ o ∷ []) (settled_right s i within fits room al base l o right) in
            let explained_m = settled_explained s i within fits room al base l g.0 picked.1 g.1 old right explained in
            (went.keeps base e (l ++ o ∷ []) (relisted l old) right_n, explained_grown al (settled_row s i) t base (l ++ o ∷ []) settled_fit grown (listed l old) explained_m);
      }

-- as many turns as rows leave no row unsettled
pub turns_out : {G : Type 0} (s : State G) → Fit s → s.len ≤ s.settled → (l : List (Statement × G)) → Lists s l → (k : ℕ) → k < s.len → OpenAt s k → ⊥
turns_out s fit out l is k h free = let r = open_room s l is fit k h free in omega arith

-- how many statements a turn settles
abbrev pub settled_by : Turn → ℕ
settled_by Nothing = 0
settled_by Settled = 1
settled_by Overflowed = 1

-- what a turn leaves of rows
pub turned_rows : {G : Type 0} (al : Algebra G) (v : ℕ) (s t : State G) (r : Turn) → Turned al v s t r → SettlesRows s t (settled_by r)
turned_rows al v s t Nothing turn = subst (λ z. SettlesRows s z 0) (sym turn.0) (settles_none s)
turned_rows al v s t Settled turn = record { more = turn.more; leaves = turn.leaves; kept_settled = turn.kept_settled; counts = turn.long }
turned_rows al v s t Overflowed turn = record { more = turn.more; leaves = turn.leaves; kept_settled = turn.kept_settled; counts = turn.long }
