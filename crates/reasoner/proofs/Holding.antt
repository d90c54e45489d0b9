-- What is known of a reasoner that holds a run.
use Rattle.std.proofs.Common.{◌≡◌, true, sym, refl, ap, subst}
use borrow.Author.Tests.{both_ways}
use Rattle.standpoint.specs.declared.refusal.Refusal.{Refusal}
use Rattle.standpoint.specs.declared.refusal.Refusal.TheVariants.{DoesNotFit}
use Rattle.standpoint.specs.declared.sizes.Sizes.{Sizes}
use Rattle.standpoint.specs.declared.statement.Statement.{Statement}
use Rattle.standpoint.specs.Sizes.{InRange}
use Rattle.standpoint.specs.Algebra.{Algebra}
use Rattle.standpoint.specs.Statements.{Fits}
use Rattle.standpoint.specs.Derivations.{Base}
use Rattle.runs.specs.declared.Stand.{Stand}
use Rattle.runs.specs.declared.Stand.TheVariants.{Open, Ended, Full}
use Rattle.runs.specs.Runs.{Settled, Run}
use Rattle.saturation.specs.declared.table.Table.{Table}
use Rattle.saturation.specs.Phases.{is_begun, sizes_of}
use Rattle.saturation.specs.Tables.{view}
use Rattle.saturation.specs.Offering.{Apart, Explained}
use Rattle.saturation.specs.Searching.{Lists}
use Rattle.reasoner.specs.Models.{StandsFor, Holding, taking, going, standing}
use Rattle.reasoner.specs.Calls.{model_after}
use Rattle.reasoner.specs.Asking.{AskRefused, before_begin, misfit}

pub record Held {G : Type 0} (a : Algebra G) (b : Base G) (t : Table G) (l : Settled G) : Type 0 where
  pub begun : is_begun t.phase ≡ true
  pub sizes : sizes_of t.phase ≡ b.sizes
  pub in_range : InRange b.sizes
  pub run : Run a b l
  pub lists : Lists (view t) l
  pub apart : Apart (view t)
  pub explained : Explained a b l (view t)

held_parts : {G : Type 0} {a : Algebra G} {b : Base G} {t : Table G} {l : Settled G} → is_begun t.phase ≡ true → sizes_of t.phase ≡ b.sizes → InRange b.sizes → Run a b l → Lists (view t) l → Apart (view t) → Explained a b l (view t) → Held a b t l
held_parts begun sizes range run lists apart explained = record {
  begun = begun;
  sizes = sizes;
  in_range = range;
  run = run;
  lists = lists;
  apart = apart;
  explained = explained;
}

pub held : {G : Type 0} {a : Algebra G} {b : Base G} {t : Table G} {l : Settled G} → Holding a b t l → Held a b t l
held (taking (is, range, h)) = held_parts (ap is_begun is) (ap sizes_of is) range h.run h.lists h.rows.best.apart h.explained
held (going (is, range, h)) = held_parts (ap is_begun is) (ap sizes_of is) range h.run h.lists h.rows.best.apart h.explained
held (standing (is, range, h)) = held_parts (ap is_begun is) (ap sizes_of is) range h.run h.lists h.apart h.explained

-- after a settle a run is held, however it stands
pub holding_after : {G : Type 0} (a : Algebra G) (b : Base G) (t : Table G) (l : Settled G) (stand : Stand) → StandsFor a (model_after b l stand) t → Holding a b t l
holding_after a b t l Open h = going h
holding_after a b t l Ended h = going h
holding_after a b t l Full h = standing h

-- of such a reasoner one may ask for all that fits
pub refused_misfit : {G : Type 0} {a : Algebra G} {b : Base G} {t : Table G} {l : Settled G} → Held a b t l → (x : Statement) {e : Refusal} → AskRefused t x e → (e ≡ DoesNotFit) × (Fits b.sizes x → ⊥)
refused_misfit h x (before_begin off) = absurd (both_ways _ off h.begun)
refused_misfit h x (misfit begun unfit) = (refl, λ f. unfit (subst (λ (n : Sizes). Fits n x) (sym h.sizes) f))
