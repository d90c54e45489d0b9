-- Claims about numbers, by which structures tell their sets.
use Rattle.std.specs.Prelude.{ℕ, Bool, T}

-- What can be claimed: the outcome of a test, two claims at once, one where another holds, one of some number, one of each.
pub data Claim : Type 0 where
  told : Bool → Claim
  both : Claim → Claim → Claim
  implies : Claim → Claim → Claim
  some : (ℕ → Claim) → Claim
  every : (ℕ → Claim) → Claim

-- what a claim says
abbrev pub Holds : Claim → Type 0
Holds (told b) = T b
Holds (both p q) = Holds p × Holds q
Holds (implies p q) = Holds p → Holds q
Holds (some f) = (k : ℕ) × Holds (f k)
Holds (every f) = (k : ℕ) → Holds (f k)
