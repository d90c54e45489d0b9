-- How the run stands that a reasoner holds.
use Rattle.std.proofs.Common.{◌≡◌, ℕ, ◌<◌, ◌≤◌, true, false, ◌⊎◌, leb, ap, sym, subst, ⊎_elim, arith}
use Rattle.std.proofs.lemmas.Bool.Decides.{nat_tests}
use Rattle.standpoint.specs.Algebra.{Algebra}
use Rattle.standpoint.specs.Derivations.{Base}
use Rattle.runs.specs.declared.Stand.{Stand}
use Rattle.runs.specs.declared.Stand.TheVariants.{Open, Ended, Full}
use Rattle.runs.specs.Runs.{Settled, Stands}
use Rattle.saturation.specs.declared.table.Table.{Table}
use Rattle.saturation.specs.Phases.{stands_full}
use Rattle.saturation.specs.Tables.{view, capacity}
use Rattle.saturation.specs.Saturation.{Holds, stand_of}
use Rattle.saturation.proofs.Offers.{below_or}
use Rattle.saturation.proofs.Counting.{not_full, some_open, all_closed}
use Rattle.saturation.proofs.RowFacts.{fits_of}
use Rattle.reasoner.specs.declared.asking.Answer.TheVariants.{Nothing, Pending}
use Rattle.reasoner.specs.Asking.{LeftOver}
use Rattle.reasoner.specs.Models.{Holding, taking, going, standing}

-- how a run stands all of whose known statements have rows
module _ {G : Type 0} (a : Algebra G) (b : Base G) (t : Table G) {l : Settled G} (h : Holds a b l (view t)) where
  closed_ended : t.len ≤ t.settled → Stands a b (capacity (view t)) l Ended
  closed_ended out = (not_full a b _ (view t) h (fits_of t), all_closed a b _ (view t) h (t.settled_fit, t.turns) out)

  waiting_open : t.settled < t.len → Stands a b (capacity (view t)) l Open
  waiting_open room = (not_full a b _ (view t) h (fits_of t), some_open a b _ (view t) h (t.settled_fit, t.turns) t.grades_fit room)

module _ {G : Type 0} (a : Algebra G) (b : Base G) (t : Table G) where
  -- a phase that is not full leaves it to the rows
  rows_tell : {l : Settled G} → stands_full t.phase ≡ false → Holds a b l (view t) → Stands a b (capacity (view t)) l (stand_of t)
  rows_tell free h =
      ⊎_elim
      (λ room. let no : leb t.len t.settled ≡ false = grind (arith, nat_tests) in rw (free, no) (waiting_open a b t h room))
      (λ out. let yes : leb t.len t.settled ≡ true = grind (arith, nat_tests) in rw (free, yes) (closed_ended a b t h out))
      (below_or t.settled t.len)

  pub stands_so : {l : Settled G} → Holding a b t l → Stands a b (capacity (view t)) l (stand_of t)
  stands_so (taking (is, range, h)) = rows_tell (ap stands_full is) h
  stands_so (going (is, range, h)) = rows_tell (ap stands_full is) h
  stands_so (standing (is, range, h)) = rw (ap stands_full is) h.full

-- a run that stands open or full does not stand ended
not_ended_so : {G : Type 0} (a : Algebra G) (b : Base G) (rows : ℕ) (l : Settled G) (stand : Stand) → (stand ≡ Open) ⊎ (stand ≡ Full) → Stands a b rows l stand → Stands a b rows l Ended → ⊥
not_ended_so a b rows l Open which now ended = let w = now.1 in let m = ended.1 w.0 w.1.0 w.1.1 in w.2 m.0 m.1
not_ended_so a b rows l Full which now ended = ended.0 now
not_ended_so a b rows l Ended which now ended = absurd (⊎_elim (λ e. grind arith) (λ e. grind arith) which)

module _ {G : Type 0} (t : Table G) (r : Stand) (is : r ≡ stand_of t) where
  stands_as : (a : Algebra G) (b : Base G) {l : Settled G} → Holding a b t l → Stands a b (capacity (view t)) l r
  stands_as a b {l} h = subst (Stands a b (capacity (view t)) l) (sym is) (stands_so a b t h)

  pub is_ended : r ≡ Ended → LeftOver t Nothing
  is_ended e a b l h = subst (Stands a b (capacity (view t)) l) e (stands_as a b h)

  pub is_not_ended : (r ≡ Open) ⊎ (r ≡ Full) → LeftOver t Pending
  is_not_ended which a b l h = not_ended_so a b (capacity (view t)) l r which (stands_as a b h)
