-- What the calls before a place in a list have come to.
use Rattle.std.specs.Prelude.{ℕ, zero, suc, ◌+◌, List, Ok, Err, Result, slice_index_or}
use Rattle.standpoint.specs.declared.refusal.Refusal.{Refusal}
use Rattle.standpoint.specs.Derivations.{Base}
use Rattle.saturation.specs.Phases.{no_sizes}
use Rattle.reasoner.specs.Models.{empty_base, accepting}
use Rattle.replay.specs.declared.call.Call.{Call}
use Rattle.replay.specs.declared.call.Call.TheVariants.{Begin, Add, Settle, Ask, Explain}
use Rattle.replay.specs.declared.call.Done.{Done}
use Rattle.replay.specs.declared.call.Done.TheVariants.{Began, Added, Settled, Said, Explained}

-- what a call came to: performed, or refused
abbrev pub Outcome : Type 0 → Type 0
Outcome G = Result (Done G) Refusal

-- how many begins were performed; and since the last of them, the sizes, what the performed adds accepted, newest first,
-- and how many statements were settled
pub record Past (G : Type 0) : Type 0 where
  pub begins : ℕ
  pub base : Base G
  pub settled : ℕ

abbrev pub past : {G : Type 0} → ℕ → Base G → ℕ → Past G
past begins base settled = record { begins = begins; base = base; settled = settled }

abbrev pub no_past : {G : Type 0} → Past G
no_past = past 0 (empty_base no_sizes) 0

-- how many statements a performed call settled
abbrev pub settled_by : {G : Type 0} → Done G → ℕ
settled_by Began = 0
settled_by Added = 0
settled_by (Settled count stand) = count
settled_by (Said said) = 0
settled_by (Explained count) = 0

-- how many steps a call wrote
abbrev pub steps_of : {G : Type 0} → Outcome G → ℕ
steps_of (Ok Began) = 0
steps_of (Ok Added) = 0
steps_of (Ok (Settled count stand)) = 0
steps_of (Ok (Said said)) = 0
steps_of (Ok (Explained count)) = count
steps_of (Err e) = 0

-- what a performed call makes of the past
abbrev pub since : {G : Type 0} → Past G → Call G → Done G → Past G
since p (Begin n) done = past (p.begins + 1) (empty_base n) 0
since p (Add x g) done = past p.begins (accepting p.base x g) p.settled
since p (Settle n) done = past p.begins p.base (p.settled + settled_by done)
since p (Ask x) done = p
since p (Explain x n) done = p

abbrev pub after : {G : Type 0} → Past G → Call G → Outcome G → Past G
after p call (Ok done) = since p call done
after p call (Err e) = p

-- the call and the outcome at a place; past the end of the lists anything may stand
abbrev pub call_at : {G : Type 0} → List (Call G) → ℕ → Call G
call_at calls i = slice_index_or calls i (Settle 0)

abbrev pub outcome_at : {G : Type 0} → List (Outcome G) → ℕ → Outcome G
outcome_at outcomes i = slice_index_or outcomes i (Ok Began)

-- what the calls before place i have come to
abbrev pub before : {G : Type 0} → List (Call G) → List (Outcome G) → ℕ → Past G
before calls outcomes zero = no_past
before calls outcomes (suc i) = after (before calls outcomes i) (call_at calls i) (outcome_at outcomes i)

-- how many steps they wrote
abbrev pub written : {G : Type 0} → List (Outcome G) → ℕ → ℕ
written outcomes zero = 0
written outcomes (suc i) = written outcomes i + steps_of (outcome_at outcomes i)
