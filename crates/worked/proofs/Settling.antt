-- A base settled to the end, and what is then said of a statement with a known best grade.
use Rattle.std.proofs.Common.{◌≡◌, ℕ, ◌≤◌, List, Ok, sym, ap, subst}
use Rattle.standpoint.specs.declared.statement.Statement.{Statement}
use Rattle.standpoint.specs.declared.step.Step.{Step}
use Rattle.standpoint.specs.Statements.{Fits}
use Rattle.standpoint.specs.Algebra.{Algebra, Laws}
use Rattle.standpoint.specs.Derivations.{Base}
use Rattle.runs.specs.declared.Stand.TheVariants.{Ended}
use Rattle.runs.specs.Runs as runs
use Rattle.runs.specs.Runs.{Stands}
use Rattle.runs.proofs.OneRun.{one_stand}
use Rattle.saturation.specs.declared.table.Table.{Table}
use Rattle.saturation.specs.Tables.{view, capacity}
use Rattle.reasoner.specs.declared.asking.Answer.{Answer}
use Rattle.reasoner.specs.declared.asking.Answer.TheVariants.{Graded, Nothing, Pending}
use Rattle.reasoner.specs.Models.{based, StandsFor, going}
use Rattle.reasoner.specs.Asking.{BestGrade, Says}
use Rattle.replay.specs.declared.call.Call.TheVariants.{Settle, Ask}
use Rattle.replay.specs.declared.call.Done.TheVariants.{Settled, Said}
use Rattle.replay.specs.Pasts.{Outcome}
use Rattle.replay.specs.Performing.{Performs}
use Rattle.worked.proofs.Calling.{settled, asked}
use Rattle.worked.proofs.Ending.{EndsAt}

module _ {G : Type 0} (a : Algebra G) (laws : Laws a) (b : Base G) (count : ℕ) (ends : EndsAt a b count) (x : Statement) (fits : Fits b.sizes x) (g : G) (best : BestGrade a b x g) where
  only_graded : (l : runs.Settled G) (rows : ℕ) → Stands a b rows l Ended → (said : Answer G) → Says a b l rows x said → said ≡ Graded g
  only_graded l rows ended (Graded h) says = ap (λ (z : G). Graded z) (laws.same h g (says.1.1 g best.0) (best.1 h says.1.0))
  only_graded l rows ended Nothing says = absurd (says.2 g best.0)
  only_graded l rows ended Pending says = absurd (says.1 ended)

  pub settled_and_asked : (s t u : Table G) (o p : Outcome G) (n : ℕ) (first second third fourth : List (Step G)) → StandsFor a (based b) s → count ≤ capacity (view s) → count ≤ n →
      capacity (view t) ≡ capacity (view s) → Performs a (Settle n) o s t first second → Performs a (Ask x) p t u third fourth →
      (o ≡ Ok (Settled count Ended)) × (p ≡ Ok (Said (Graded g)))
  settled_and_asked s t u o p n first second third fourth stands room often rows settle ask =
      let did = settled a s t o first second b stands n count Ended
      (λ later stand m st. let e = ends (capacity (view s)) n room often later m in (e.0, one_stand a b (capacity (view s)) later stand Ended st e.1)) settle in
      let w = did.1 in
      let stood : Stands a b (capacity (view t)) w.0 Ended = subst (λ (k : ℕ). Stands a b k w.0 Ended) (sym rows) w.2 in
      (did.0, asked a t u p third fourth laws b w.0 (going w.3) x fits (Graded g) (only_graded w.0 (capacity (view t)) stood) ask)
