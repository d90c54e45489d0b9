-- What is listed at settling places while steps are written out: each number but 0 is a mark, and then the marked step's place in the list.
use Rattle.std.specs.Prelude.{◌≡◌, ℕ, zero, suc, ◌+◌, ◌<◌, ◌≤◌, Bool, true, ◌⊎◌, length, nat_lt, Ok, Err, Result}
use Rattle.standpoint.specs.declared.refusal.Refusal.{Refusal}
use Rattle.standpoint.specs.declared.refusal.Refusal.TheVariants.{RestsOnLater}
use Rattle.saturation.specs.declared.row.Row.{Row}
use Rattle.saturation.specs.Tables.{State, row_at, with_row}
use Rattle.explanation.specs.Needed.{Rests, Needed, Unfounded, rank}

-- what is listed for the k-th settled statement
abbrev pub listed_at : {G : Type 0} → State G → ℕ → ℕ
listed_at s k = (row_at s k).listed

abbrev pub mark_at : {G : Type 0} → State G → ℕ → Bool
mark_at s k = nat_lt 0 (listed_at s k)

-- the same of a place that counts from 1; 0 is none
abbrev pub place_of : {G : Type 0} → State G → ℕ → ℕ
place_of s zero = 0
place_of s (suc k) = listed_at s k

abbrev pub relisted : Row → ℕ → Row
relisted r n = record r { listed = n }

abbrev pub with_listed : {G : Type 0} → State G → ℕ → ℕ → State G
with_listed s k n = with_row s k (relisted (row_at s k) n)

-- nothing is listed for a settled statement
abbrev pub Clean : {G : Type 0} → State G → Type 0
Clean s = (k : ℕ) → k < s.settled → listed_at s k ≡ 0

-- the same but for what is listed for settled statements
pub record ButMarks {G : Type 0} (s u : State G) : Type 0 where
  pub len : u.len ≡ s.len
  pub settled : u.settled ≡ s.settled
  pub grades : u.grades ≡ s.grades
  pub long : length u.rows ≡ length s.rows
  pub each : (k : ℕ) → row_at u k ≡ relisted (row_at s k) (listed_at u k)
  pub above : (k : ℕ) → s.settled ≤ k → row_at u k ≡ row_at s k

-- the places of P were marked, and no others
pub record AddsMarks {G : Type 0} (s u : State G) (P : ℕ → Type 0) : Type 0 where
  pub but_marks : ButMarks s u
  pub old : (j : ℕ) → mark_at s j ≡ true → mark_at u j ≡ true
  pub new : (j : ℕ) → P j → mark_at u j ≡ true
  pub only : (j : ℕ) → mark_at u j ≡ true → (mark_at s j ≡ true) ⊎ P j

-- all that is marked is needed for the t-th, and with each of the last i places its premises are marked
pub record MarksDown {G : Type 0} (s u : State G) (t i : ℕ) : Type 0 where
  pub but_marks : ButMarks s u
  pub own : mark_at u t ≡ true
  pub sound : (j : ℕ) → j < s.settled → mark_at u j ≡ true → Needed s t j × (j ≤ t)
  pub closed : (q : ℕ) → q ≤ t → t < q + i → mark_at u q ≡ true → (j : ℕ) → Rests s q j → (j < q) × (mark_at u j ≡ true)

-- all that the t-th settled statement rests on is marked, or some of it rests on a later one
abbrev pub MarksNeeded : {G : Type 0} → State G → State G → ℕ → Result (Unit {0}) Refusal → Type 0
MarksNeeded s u t (Ok _) = MarksDown s u t (t + 1)
MarksNeeded s u t (Err e) = (e ≡ RestsOnLater) × ButMarks s u × Unfounded s t

-- the marked ones of the first n have their places in the list; the marks are as they were
pub record NumbersMarks {G : Type 0} (s u : State G) (n : ℕ) : Type 0 where
  pub but_marks : ButMarks s u
  pub same : (k : ℕ) → mark_at u k ≡ mark_at s k
  pub placed : (k : ℕ) → k < n → mark_at u k ≡ true → listed_at u k ≡ rank (mark_at u) (k + 1)

-- the k-th kept step rests on earlier ones alone, and these have their places in the list
abbrev pub PremisesPlaced : {G : Type 0} → State G → ℕ → Type 0
PremisesPlaced s k = (j : ℕ) → Rests s k j → (j < k) × (listed_at s j ≡ rank (mark_at s) (j + 1))

-- so does each marked step up to the t-th
abbrev pub MarksPlaced : {G : Type 0} → State G → ℕ → Type 0
MarksPlaced s t = (k : ℕ) → k ≤ t → mark_at s k ≡ true → PremisesPlaced s k
