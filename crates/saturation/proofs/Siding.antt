-- The chains of the settled statements on each side: what keeps them, and one settled more.
use Rattle.std.proofs.Common.{◌≡◌, ◌≢◌, ℕ, ◌+◌, ◌<◌, ◌≤◌, List, length, get_or, Some, sym, refl, ap, ◌∙◌, arith, length-set}
use Rattle.standpoint.specs.declared.statement.Statement.{Statement}
use Rattle.saturation.specs.declared.row.Chain.{Chain}
use Rattle.saturation.specs.declared.row.Row.{Row}
use Rattle.saturation.specs.declared.side.Spot.{Spot}
use Rattle.saturation.specs.declared.side.Spots.{Spots}
use Rattle.saturation.specs.declared.side.Side.{Side}
use Rattle.saturation.specs.declared.side.Side.TheVariants.{Source, Target, Inner, Ending, Through}
use Rattle.saturation.specs.Rows.{no_row}
use Rattle.saturation.specs.Chains.{last_in, heads_in, links_in}
use Rattle.saturation.specs.Sides.{on, spots_of, SpotsWithin, node_of, chain_of, settled_at, side_bucket, Sided, spot_of, placed, turned, headed_on, head_set, turn_set, place_set, settled_rows}
use Rattle.saturation.specs.Buckets.{bucket_of, headed}
use Rattle.saturation.specs.Memory.{content}
use Rattle.saturation.proofs.Chaining.{chained_same, chained_next}
use Rattle.saturation.proofs.Indexing.{bucket_below}
use Rattle.saturation.proofs.Writing.{write_here, write_other, write_leaves}

-- rows with the same chains
pub same_chains : (r q : Row) → r.source ≡ q.source → r.target ≡ q.target → r.inner ≡ q.inner → r.ending ≡ q.ending → r.through ≡ q.through → (side : Side) → chain_of side r ≡ chain_of side q
same_chains r q a b c d e Source = a
same_chains r q a b c d e Target = b
same_chains r q a b c d e Inner = c
same_chains r q a b c d e Ending = d
same_chains r q a b c d e Through = e

-- the same statements settled at the same places
module _ (buckets : ℕ) (rows new : List Row) (n : ℕ) (same : (k : ℕ) → k < n → settled_at new k ≡ settled_at rows k) where
  side_same : (side : Side) (k : ℕ) → k < n → side_bucket side buckets new k ≡ side_bucket side buckets rows k
  side_same side k h = ap (λ (x : Statement). bucket_of buckets (node_of side x)) (same k h)

  pub sides_kept : ((side : Side) (k : ℕ) → chain_of side (get_or new k no_row) ≡ chain_of side (get_or rows k no_row)) → Sided buckets rows n → Sided buckets new n
  sides_kept chain sides side =
      chained_same (side_bucket side buckets rows) (side_bucket side buckets new) (heads_in (chain_of side) rows) (heads_in (chain_of side) new) (links_in (chain_of side) rows) (links_in (chain_of side) new) n
      (side_same side) (λ k h. ap (λ (c : Chain). c.link) (chain side k)) (sides side) (λ b. ap (λ (c : Chain). c.head) (chain side b))

-- a head that is set leaves the other columns
abbrev pub Apart : {X : Type 0} → (Row → X) → Type 0
Apart f = (s : Side) (r : Row) (j : ℕ) → f (headed_on s r j) ≡ f r

-- the head of one bucket is set
module _ (side : Side) (rows : List Row) (b k : ℕ) (within : b < length rows) where
  pub head_long : length (head_set side rows b k) ≡ length rows
  head_long = length-set rows b (headed_on side (get_or rows b no_row) k)

  pub head_leaves : {X : Type 0} (f : Row → X) → Apart f → (j : ℕ) → f (get_or (head_set side rows b k) j no_row) ≡ f (get_or rows j no_row)
  head_leaves f apart = write_leaves rows b (headed_on side (get_or rows b no_row) k) within f (apart side (get_or rows b no_row) k)

-- what a head that is set leaves of each side
link_apart : (t s : Side) (r : Row) (j : ℕ) → (chain_of t (headed_on s r j)).link ≡ (chain_of t r).link
link_apart Source Source r j = refl
link_apart Source Target r j = refl
link_apart Source Inner r j = refl
link_apart Source Ending r j = refl
link_apart Source Through r j = refl
link_apart Target Source r j = refl
link_apart Target Target r j = refl
link_apart Target Inner r j = refl
link_apart Target Ending r j = refl
link_apart Target Through r j = refl
link_apart Inner Source r j = refl
link_apart Inner Target r j = refl
link_apart Inner Inner r j = refl
link_apart Inner Ending r j = refl
link_apart Inner Through r j = refl
link_apart Ending Source r j = refl
link_apart Ending Target r j = refl
link_apart Ending Inner r j = refl
link_apart Ending Ending r j = refl
link_apart Ending Through r j = refl
link_apart Through Source r j = refl
link_apart Through Target r j = refl
link_apart Through Inner r j = refl
link_apart Through Ending r j = refl
link_apart Through Through r j = refl

pub turn_apart : Apart (λ r. r.turn)
turn_apart Source r j = refl
turn_apart Target r j = refl
turn_apart Inner r j = refl
turn_apart Ending r j = refl
turn_apart Through r j = refl

pub statement_apart : Apart (λ r. r.statement)
statement_apart Source r j = refl
statement_apart Target r j = refl
statement_apart Inner r j = refl
statement_apart Ending r j = refl
statement_apart Through r j = refl

pub place_apart : Apart (λ r. r.place)
place_apart Source r j = refl
place_apart Target r j = refl
place_apart Inner r j = refl
place_apart Ending r j = refl
place_apart Through r j = refl

pub listed_apart : Apart (λ r. r.listed)
listed_apart Source r j = refl
listed_apart Target r j = refl
listed_apart Inner r j = refl
listed_apart Ending r j = refl
listed_apart Through r j = refl

pub winner_apart : Apart (λ r. r.winner)
winner_apart Source r j = refl
winner_apart Target r j = refl
winner_apart Inner r j = refl
winner_apart Ending r j = refl
winner_apart Through r j = refl

pub index_apart : Apart (λ r. r.index)
index_apart Source r j = refl
index_apart Target r j = refl
index_apart Inner r j = refl
index_apart Ending r j = refl
index_apart Through r j = refl

pub kept_apart : Apart (λ r. r.kept)
kept_apart Source r j = refl
kept_apart Target r j = refl
kept_apart Inner r j = refl
kept_apart Ending r j = refl
kept_apart Through r j = refl

pub content_apart : Apart content
content_apart Source r j = refl
content_apart Target r j = refl
content_apart Inner r j = refl
content_apart Ending r j = refl
content_apart Through r j = refl

-- a row that is entered has its own index alone
pub sides_apart : (side : Side) (r : Row) (j : ℕ) → chain_of side (headed r j) ≡ chain_of side r
sides_apart Source r j = refl
sides_apart Target r j = refl
sides_apart Inner r j = refl
sides_apart Ending r j = refl
sides_apart Through r j = refl

pub spots_are : (buckets : ℕ) (rows : List Row) (n : ℕ) (x : Statement) (spots : Spots) → spots ≡ spots_of buckets rows n x → (side : Side) → on spots side ≡ spot_of side buckets rows n (node_of side x)
spots_are buckets rows n x spots is side = ap (λ (v : Spots). on v side) is ∙ each side
  where
    each : (side : Side) → on (spots_of buckets rows n x) side ≡ spot_of side buckets rows n (node_of side x)
    each Source = refl
    each Target = refl
    each Inner = refl
    each Ending = refl
    each Through = refl

pub spots_within : (buckets : ℕ) (rows : List Row) (n : ℕ) (x : Statement) → 0 < buckets → SpotsWithin (spots_of buckets rows n x) buckets
spots_within buckets rows n x some =
    let below : (side : Side) → bucket_of buckets (node_of side x) < buckets = λ side. bucket_below buckets (node_of side x) some in
    (below Source, below Target, below Inner, below Ending, below Through)

-- row i is settled n-th
module _ (rows : List Row) (n i : ℕ) (spots : Spots) (buckets : ℕ) (few : buckets ≤ length rows) (at_n : n < length rows) (at_i : i < length rows) (at_spot : SpotsWithin spots buckets) where
  abbrev named : List Row
  named = turn_set rows n i spots

  abbrev put : List Row
  put = place_set named i n

  abbrev one : List Row
  one = head_set Source put spots.source.bucket n

  abbrev two : List Row
  two = head_set Target one spots.target.bucket n

  abbrev three : List Row
  three = head_set Inner two spots.inner.bucket n

  abbrev four : List Row
  four = head_set Ending three spots.ending.bucket n

  abbrev new : List Row
  new = settled_rows rows n i spots

  long_named : length named ≡ length rows
  long_named = length-set rows n (turned (get_or rows n no_row) i spots)

  long_put : length put ≡ length rows
  long_put = length-set named i (placed (get_or named i no_row) n) ∙ long_named

  in_named : i < length named
  in_named = let e = long_named in omega arith

  in_put : spots.source.bucket < length put
  in_put = let e = long_put in let h = at_spot.0 in omega arith

  long_one : length one ≡ length rows
  long_one = head_long Source put spots.source.bucket n in_put ∙ long_put

  in_one : spots.target.bucket < length one
  in_one = let e = long_one in let h = at_spot.1 in omega arith

  long_two : length two ≡ length rows
  long_two = head_long Target one spots.target.bucket n in_one ∙ long_one

  in_two : spots.inner.bucket < length two
  in_two = let e = long_two in let h = at_spot.2 in omega arith

  long_three : length three ≡ length rows
  long_three = head_long Inner two spots.inner.bucket n in_two ∙ long_two

  in_three : spots.ending.bucket < length three
  in_three = let e = long_three in let h = at_spot.3 in omega arith

  long_four : length four ≡ length rows
  long_four = head_long Ending three spots.ending.bucket n in_three ∙ long_three

  in_four : spots.through.bucket < length four
  in_four = let e = long_four in let h = at_spot.4 in omega arith

  pub settled_long : length new ≡ length rows
  settled_long = head_long Through four spots.through.bucket n in_four ∙ long_four

  -- each column but the heads, as it was before these were set
  unheaded : {X : Type 0} (f : Row → X) → Apart f → (j : ℕ) → f (get_or new j no_row) ≡ f (get_or put j no_row)
  unheaded f apart j =
      head_leaves Through four spots.through.bucket n in_four f apart j
      ∙ head_leaves Ending three spots.ending.bucket n in_three f apart j
      ∙ head_leaves Inner two spots.inner.bucket n in_two f apart j ∙ head_leaves Target one spots.target.bucket n in_one f apart j ∙ head_leaves Source put spots.source.bucket n in_put f apart j

  -- each column but the heads and the place, as it was before row i had its place
  unplaced : {X : Type 0} (f : Row → X) → Apart f → ((r : Row) (p : ℕ) → f (placed r p) ≡ f r) → (j : ℕ) → f (get_or new j no_row) ≡ f (get_or named j no_row)
  unplaced f apart place j = unheaded f apart j ∙ write_leaves named i (placed (get_or named i no_row) n) in_named f (place (get_or named i no_row) n) j

  -- each column that settling leaves
  pub settled_leaves : {X : Type 0} (f : Row → X) → Apart f → ((r : Row) (p : ℕ) → f (placed r p) ≡ f r) →
      f (turned (get_or rows n no_row) i spots) ≡ f (get_or rows n no_row) → (j : ℕ) → f (get_or new j no_row) ≡ f (get_or rows j no_row)
  settled_leaves f apart place same j = unplaced f apart place j ∙ write_leaves rows n (turned (get_or rows n no_row) i spots) at_n f same j

  -- the columns of row n that it sets, and those of other rows
  pub settled_here : {X : Type 0} (f : Row → X) → Apart f → ((r : Row) (p : ℕ) → f (placed r p) ≡ f r) → f (get_or new n no_row) ≡ f (turned (get_or rows n no_row) i spots)
  settled_here f apart place = unplaced f apart place n ∙ ap f (write_here rows n (turned (get_or rows n no_row) i spots) at_n)

  pub settled_there : {X : Type 0} (f : Row → X) → Apart f → ((r : Row) (p : ℕ) → f (placed r p) ≡ f r) → (j : ℕ) → (j ≡ n → ⊥) → f (get_or new j no_row) ≡ f (get_or rows j no_row)
  settled_there f apart place j ne = unplaced f apart place j ∙ ap f (write_other rows n (turned (get_or rows n no_row) i spots) at_n j ne)

  -- rows in which nothing is settled, and that tell of no settled place
  pub settled_far : {X : Type 0} (f : Row → X) → Apart f → (j : ℕ) → (j ≡ i → ⊥) → (j ≡ n → ⊥) → f (get_or new j no_row) ≡ f (get_or rows j no_row)
  settled_far f apart j other ne =
      unheaded f apart j
      ∙ ap f (write_other named i (placed (get_or named i no_row) n) in_named j other)
      ∙ ap f (write_other rows n (turned (get_or rows n no_row) i spots) at_n j ne)

  -- rows that are no bucket either
  pub settled_beyond : (j : ℕ) → buckets ≤ j → i < buckets → n < buckets → get_or new j no_row ≡ get_or rows j no_row
  settled_beyond j h below_i below_n =
      let a = at_spot.0 in
      let b = at_spot.1 in
      let c = at_spot.2 in
      let d = at_spot.3 in
      let e = at_spot.4 in
      write_other four spots.through.bucket (headed_on Through (get_or four spots.through.bucket no_row) n) in_four j (λ z. omega arith)
      ∙ write_other three spots.ending.bucket (headed_on Ending (get_or three spots.ending.bucket no_row) n) in_three j (λ z. omega arith)
      ∙ write_other two spots.inner.bucket (headed_on Inner (get_or two spots.inner.bucket no_row) n) in_two j (λ z. omega arith)
      ∙ write_other one spots.target.bucket (headed_on Target (get_or one spots.target.bucket no_row) n) in_one j (λ z. omega arith)
      ∙ write_other put spots.source.bucket (headed_on Source (get_or put spots.source.bucket no_row) n) in_put j (λ z. omega arith)
      ∙ write_other named i (placed (get_or named i no_row) n) in_named j (λ z. omega arith)
      ∙ write_other rows n (turned (get_or rows n no_row) i spots) at_n j (λ z. omega arith)

  pub settled_statement : (j : ℕ) → (get_or new j no_row).statement ≡ (get_or rows j no_row).statement
  settled_statement = settled_leaves (λ (r : Row). r.statement) statement_apart (λ r p. refl) refl

  pub turn_old : (j : ℕ) → (j ≡ n → ⊥) → (get_or new j no_row).turn ≡ (get_or rows j no_row).turn
  turn_old = settled_there (λ (r : Row). r.turn) turn_apart (λ r p. refl)

  pub turn_new : (get_or new n no_row).turn ≡ i
  turn_new = settled_here (λ (r : Row). r.turn) turn_apart (λ r p. refl)

  pub place_old : (j : ℕ) → (j ≡ i → ⊥) → (get_or new j no_row).place ≡ (get_or rows j no_row).place
  place_old j ne =
      unheaded (λ (r : Row). r.place) place_apart j
      ∙ ap (λ (r : Row). r.place) (write_other named i (placed (get_or named i no_row) n) in_named j ne)
      ∙ write_leaves rows n (turned (get_or rows n no_row) i spots) at_n (λ (r : Row). r.place) refl j

  pub place_new : (get_or new i no_row).place ≡ Some n
  place_new = unheaded (λ (r : Row). r.place) place_apart i ∙ ap (λ (r : Row). r.place) (write_here named i (placed (get_or named i no_row) n) in_named)

  -- each write of a head leaves the columns of the other sides
  past_through : {X : Type 0} (f : Row → X) → ((r : Row) → f (headed_on Through r n) ≡ f r) → (j : ℕ) → f (get_or new j no_row) ≡ f (get_or four j no_row)
  past_through f apart = write_leaves four spots.through.bucket (headed_on Through (get_or four spots.through.bucket no_row) n) in_four f (apart (get_or four spots.through.bucket no_row))

  past_ending : {X : Type 0} (f : Row → X) → ((r : Row) → f (headed_on Ending r n) ≡ f r) → (j : ℕ) → f (get_or four j no_row) ≡ f (get_or three j no_row)
  past_ending f apart = write_leaves three spots.ending.bucket (headed_on Ending (get_or three spots.ending.bucket no_row) n) in_three f (apart (get_or three spots.ending.bucket no_row))

  past_inner : {X : Type 0} (f : Row → X) → ((r : Row) → f (headed_on Inner r n) ≡ f r) → (j : ℕ) → f (get_or three j no_row) ≡ f (get_or two j no_row)
  past_inner f apart = write_leaves two spots.inner.bucket (headed_on Inner (get_or two spots.inner.bucket no_row) n) in_two f (apart (get_or two spots.inner.bucket no_row))

  past_target : {X : Type 0} (f : Row → X) → ((r : Row) → f (headed_on Target r n) ≡ f r) → (j : ℕ) → f (get_or two j no_row) ≡ f (get_or one j no_row)
  past_target f apart = write_leaves one spots.target.bucket (headed_on Target (get_or one spots.target.bucket no_row) n) in_one f (apart (get_or one spots.target.bucket no_row))

  past_source : {X : Type 0} (f : Row → X) → ((r : Row) → f (headed_on Source r n) ≡ f r) → (j : ℕ) → f (get_or one j no_row) ≡ f (get_or put j no_row)
  past_source f apart = write_leaves put spots.source.bucket (headed_on Source (get_or put spots.source.bucket no_row) n) in_put f (apart (get_or put spots.source.bucket no_row))

  past_put : {X : Type 0} (f : Row → X) → ((r : Row) → f (placed r n) ≡ f r) → f (turned (get_or rows n no_row) i spots) ≡ f (get_or rows n no_row) → (j : ℕ) → f (get_or put j no_row) ≡ f (get_or rows j no_row)
  past_put f place same j = write_leaves named i (placed (get_or named i no_row) n) in_named f (place (get_or named i no_row)) j ∙ write_leaves rows n (turned (get_or rows n no_row) i spots) at_n f same j

  head_new : (side : Side) → heads_in (chain_of side) new (on spots side).bucket ≡ n
  head_new Source =
      past_through (λ r. r.source.head) (λ r. refl) spots.source.bucket
      ∙ past_ending (λ r. r.source.head) (λ r. refl) spots.source.bucket
      ∙ past_inner (λ r. r.source.head) (λ r. refl) spots.source.bucket
      ∙ past_target (λ r. r.source.head) (λ r. refl) spots.source.bucket
      ∙ ap (λ (r : Row). r.source.head) (write_here put spots.source.bucket (headed_on Source (get_or put spots.source.bucket no_row) n) in_put)
  head_new Target =
      past_through (λ r. r.target.head) (λ r. refl) spots.target.bucket
      ∙ past_ending (λ r. r.target.head) (λ r. refl) spots.target.bucket
      ∙ past_inner (λ r. r.target.head) (λ r. refl) spots.target.bucket
      ∙ ap (λ (r : Row). r.target.head) (write_here one spots.target.bucket (headed_on Target (get_or one spots.target.bucket no_row) n) in_one)
  head_new Inner =
      past_through (λ r. r.inner.head) (λ r. refl) spots.inner.bucket
      ∙ past_ending (λ r. r.inner.head) (λ r. refl) spots.inner.bucket
      ∙ ap (λ (r : Row). r.inner.head) (write_here two spots.inner.bucket (headed_on Inner (get_or two spots.inner.bucket no_row) n) in_two)
  head_new Ending =
      past_through (λ r. r.ending.head) (λ r. refl) spots.ending.bucket
      ∙ ap (λ (r : Row). r.ending.head) (write_here three spots.ending.bucket (headed_on Ending (get_or three spots.ending.bucket no_row) n) in_three)
  head_new Through =
      ap (λ (r : Row). r.through.head) (write_here four spots.through.bucket (headed_on Through (get_or four spots.through.bucket no_row) n) in_four)

  head_old : (side : Side) (c : ℕ) → c ≢ (on spots side).bucket → heads_in (chain_of side) new c ≡ heads_in (chain_of side) rows c
  head_old Source c ne =
      past_through (λ r. r.source.head) (λ r. refl) c
      ∙ past_ending (λ r. r.source.head) (λ r. refl) c
      ∙ past_inner (λ r. r.source.head) (λ r. refl) c
      ∙ past_target (λ r. r.source.head) (λ r. refl) c
      ∙ ap (λ (r : Row). r.source.head) (write_other put spots.source.bucket (headed_on Source (get_or put spots.source.bucket no_row) n) in_put c ne)
      ∙ past_put (λ r. r.source.head) (λ r. refl) refl c
  head_old Target c ne =
      past_through (λ r. r.target.head) (λ r. refl) c
      ∙ past_ending (λ r. r.target.head) (λ r. refl) c
      ∙ past_inner (λ r. r.target.head) (λ r. refl) c
      ∙ ap (λ (r : Row). r.target.head) (write_other one spots.target.bucket (headed_on Target (get_or one spots.target.bucket no_row) n) in_one c ne)
      ∙ past_source (λ r. r.target.head) (λ r. refl) c
      ∙ past_put (λ r. r.target.head) (λ r. refl) refl c
  head_old Inner c ne =
      past_through (λ r. r.inner.head) (λ r. refl) c
      ∙ past_ending (λ r. r.inner.head) (λ r. refl) c
      ∙ ap (λ (r : Row). r.inner.head) (write_other two spots.inner.bucket (headed_on Inner (get_or two spots.inner.bucket no_row) n) in_two c ne)
      ∙ past_target (λ r. r.inner.head) (λ r. refl) c
      ∙ past_source (λ r. r.inner.head) (λ r. refl) c
      ∙ past_put (λ r. r.inner.head) (λ r. refl) refl c
  head_old Ending c ne =
      past_through (λ r. r.ending.head) (λ r. refl) c
      ∙ ap (λ (r : Row). r.ending.head) (write_other three spots.ending.bucket (headed_on Ending (get_or three spots.ending.bucket no_row) n) in_three c ne)
      ∙ past_inner (λ r. r.ending.head) (λ r. refl) c
      ∙ past_target (λ r. r.ending.head) (λ r. refl) c
      ∙ past_source (λ r. r.ending.head) (λ r. refl) c
      ∙ past_put (λ r. r.ending.head) (λ r. refl) refl c
  head_old Through c ne =
      ap (λ (r : Row). r.through.head) (write_other four spots.through.bucket (headed_on Through (get_or four spots.through.bucket no_row) n) in_four c ne)
      ∙ past_ending (λ r. r.through.head) (λ r. refl) c
      ∙ past_inner (λ r. r.through.head) (λ r. refl) c
      ∙ past_target (λ r. r.through.head) (λ r. refl) c
      ∙ past_source (λ r. r.through.head) (λ r. refl) c
      ∙ past_put (λ r. r.through.head) (λ r. refl) refl c

  link_placed : (side : Side) (r : Row) (p : ℕ) → (chain_of side (placed r p)).link ≡ (chain_of side r).link
  link_placed Source r p = refl
  link_placed Target r p = refl
  link_placed Inner r p = refl
  link_placed Ending r p = refl
  link_placed Through r p = refl

  link_turned : (side : Side) (r : Row) → (chain_of side (turned r i spots)).link ≡ (on spots side).last
  link_turned Source r = refl
  link_turned Target r = refl
  link_turned Inner r = refl
  link_turned Ending r = refl
  link_turned Through r = refl

  module _ (at_spots : (side : Side) → on spots side ≡ spot_of side buckets rows n (node_of side (get_or rows i no_row).statement)) (sides : Sided buckets rows n) where
    same_settled : (k : ℕ) → k < n → settled_at new k ≡ settled_at rows k
    same_settled k h = ap (λ (j : ℕ). (get_or new j no_row).statement) (turn_old k (λ e. omega arith)) ∙ settled_statement (get_or rows k no_row).turn

    bucket_new : (side : Side) → side_bucket side buckets new n ≡ (on spots side).bucket
    bucket_new side =
        ap (λ (x : Statement). bucket_of buckets (node_of side x)) (ap (λ (j : ℕ). (get_or new j no_row).statement) turn_new ∙ settled_statement i)
        ∙ sym (ap (λ (v : Spot). v.bucket) (at_spots side))

    link_new : (side : Side) → links_in (chain_of side) new n ≡ last_in (side_bucket side buckets rows) (on spots side).bucket n
    link_new side =
        settled_here (λ (r : Row). (chain_of side r).link) (link_apart side) (link_placed side) ∙ link_turned side (get_or rows n no_row)
        ∙ ap (λ (v : Spot). v.last) (at_spots side) ∙ ap (λ (b : ℕ). last_in (side_bucket side buckets rows) b n) (sym (ap (λ (v : Spot). v.bucket) (at_spots side)))

    pub settled_sides : Sided buckets new (n + 1)
    settled_sides side =
        chained_next (side_bucket side buckets rows) (side_bucket side buckets new) (heads_in (chain_of side) rows) (heads_in (chain_of side) new) (links_in (chain_of side) rows) (links_in (chain_of side) new) n
        (side_same buckets rows new n same_settled side)
        (λ k h. settled_there (λ (r : Row). (chain_of side r).link) (link_apart side) (link_placed side) k (λ e. omega arith))
        (sides side) (on spots side).bucket (bucket_new side) (head_new side) (head_old side) (link_new side)
