-- Runs that end, on that many rows or more.
use Rattle.std.proofs.Common.{◌≡◌, ℕ, ◌≤◌, [], length, sym, refl, ap, ◌∙◌, subst, lit≤}
use Rattle.standpoint.specs.declared.kinds.grades.LetterGrade.TheVariants.{B, D}
use Rattle.standpoint.specs.Algebra.{Algebra, Laws}
use Rattle.standpoint.specs.Grades.{tally, tally_grade, odds, odds_grade, letter}
use Rattle.standpoint.specs.GradeLaws.{tally_laws, odds_laws}
use Rattle.standpoint.specs.Statements.{same}
use Rattle.standpoint.specs.Derivations.{Base}
use Rattle.runs.specs.declared.Stand.{Stand}
use Rattle.runs.specs.declared.Stand.TheVariants.{Ended}
use Rattle.runs.specs.Runs.{Settled, Stands, Settling}
use Rattle.runs.specs.Model.{smaller_or, each, model}
use Rattle.worked.specs.Bases.{clash, detour}
use Rattle.runs.proofs.OneRun.{one_settling, still_ended, ended_settling}
use Rattle.worked.proofs.LetterLaws.{letter_laws}
use Rattle.runs.proofs.Modelled.{model_settles}

-- settling so often or more, on so many rows or more, settles so many and ends
abbrev pub EndsAt : {G : Type 0} → Algebra G → Base G → ℕ → Type 0
EndsAt {G} a base count = (rows n : ℕ) → count ≤ rows → count ≤ n → (later : Settled G) → Settling a base rows n [] later →
    (length later ≡ count) × Stands a base rows later Ended

-- how many the computed run settles, and how it stands
abbrev summary : {G : Type 0} → Algebra G → Base G → ℕ → ℕ × Stand
summary a base rows = let m = model a base rows rows in (length m.0, m.1)

ends_at : {G : Type 0} (a : Algebra G) → Laws a → (base : Base G) (count : ℕ) → summary a base count ≡ (count, Ended) → EndsAt a base count
ends_at {G} a laws base count e rows n large often later s =
    let run = (model a base count count).0 in
    let computed = model_settles a laws base count count in
    let ended : Stands a base count run Ended = subst (Stands a base count run) (ap (λ (v : ℕ × Stand). v.1) e) computed.1 in
    let here : later ≡ run = one_settling a laws base rows n [] later run s (ended_settling a base large n often computed.0 ended) in
    (ap length here ∙ ap (λ (v : ℕ × Stand). v.0) e, subst (λ (z : Settled G). Stands a base rows z Ended) (sym here) (still_ended a base large ended))

pub tallies_end : EndsAt tally (clash (tally_grade 1 (lit≤ tt)) (tally_grade 1 (lit≤ tt))) 47
unfolding same smaller_or each
tallies_end = ends_at tally tally_laws (clash (tally_grade 1 (lit≤ tt)) (tally_grade 1 (lit≤ tt))) 47 refl

pub letters_end : EndsAt letter (clash B D) 47
unfolding same smaller_or each
letters_end = ends_at letter letter_laws (clash B D) 47 refl

pub odds_end : EndsAt odds (clash (odds_grade 200 (lit≤ tt)) (odds_grade 230 (lit≤ tt))) 47
unfolding same smaller_or each
odds_end = ends_at odds odds_laws (clash (odds_grade 200 (lit≤ tt)) (odds_grade 230 (lit≤ tt))) 47 refl

pub detour_ends : EndsAt tally detour 106
unfolding same smaller_or each
detour_ends = ends_at tally tally_laws detour 106 refl
