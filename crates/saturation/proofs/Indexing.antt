-- The index of the taken rows: what keeps it, and what it finds.
use Rattle.std.proofs.Common.{◌≡◌, ◌≢◌, ℕ, ◌+◌, ◌*◌, ◌/◌, ◌%◌, ◌^◌, ◌<◌, ◌≤◌, List, length, get_or, Some, Option, sym, refl, ap, ◌∙◌, subst, ⊎_elim, arith, length-set}
use lib.ListN.{set}
use Rattle.std.proofs.lemmas.Nat.{mod_below}
use Rattle.std.proofs.Math.Nat.{mul-le-mul_right, mod-le}
use Rattle.saturation.specs.declared.buckets.TheConstants.{SPREAD}
use Rattle.standpoint.specs.declared.statement.Statement.{Statement}
use Rattle.saturation.specs.declared.row.Chain.{Chain}
use Rattle.saturation.specs.declared.row.Row.{Row}
use Rattle.saturation.specs.Rows.{no_row}
use Rattle.saturation.specs.Chains.{last_in, heads_in, links_in}
use Rattle.saturation.specs.Buckets.{triple, mixed, bucket_of, bucket_at, Indexed, headed, entered}
use Rattle.saturation.proofs.Chaining.{Passed, On, on_last, none_past, past_link, chained_same, chained_next}
use Rattle.saturation.proofs.Writing.{write_here, write_other, write_leaves}

abbrev pub statement_in : List Row → ℕ → Statement
statement_in rows k = (get_or rows k no_row).statement

abbrev pub index_of : Row → Chain
index_of r = r.index

pub bucket_below : (n : ℕ) (x : Statement) → 0 < n → bucket_of n x < n
unfolding bucket_of mixed
bucket_below n x some =
    let hash = mixed (mixed 0 (triple x.first x.second x.third)) (triple x.shape x.fourth x.fifth) in
    let half = hash / 2 ^ 32 in
    let below : hash < 2 ^ 64 = mod_below ((mixed 0 (triple x.first x.second x.third) + triple x.shape x.fourth x.fifth) % 2 ^ 64 * SPREAD) (2 ^ 64) (omega arith) in
    let high : half ≤ 4294967295 = omega arith in
    let part = mul-le-mul_right n high in
    let whole = mod-le (half * n) (2 ^ 64) in
    omega arith

-- rows with the same statements and the same chain
module _ (buckets : ℕ) (rows new : List Row) where
  bucket_same : (k : ℕ) → statement_in new k ≡ statement_in rows k → bucket_at buckets new k ≡ bucket_at buckets rows k
  bucket_same k same = ap (bucket_of buckets) same

  pub index_kept : (len : ℕ) → ((k : ℕ) → statement_in new k ≡ statement_in rows k) → ((k : ℕ) → (get_or new k no_row).index ≡ (get_or rows k no_row).index) → Indexed buckets rows len → Indexed buckets new len
  index_kept len same chain index =
      chained_same (bucket_at buckets rows) (bucket_at buckets new) (heads_in index_of rows) (heads_in index_of new) (links_in index_of rows) (links_in index_of new) len
      (λ k h. bucket_same k (same k)) (λ k h. ap (λ (c : Chain). c.link) (chain k)) index (λ b. ap (λ (c : Chain). c.head) (chain b))

-- row n is entered, with the head that stood there
module _ (buckets : ℕ) (rows : List Row) (n : ℕ) (x : Row) (b : ℕ) (is : b ≡ bucket_of buckets x.statement) (within : n < buckets) (few : buckets ≤ length rows) where
  within_rows : n < length rows
  within_rows = omega arith

  abbrev mid : List Row
  mid = set rows n x

  abbrev new : List Row
  new = entered rows n x b

  bucket_in : b < length mid
  bucket_in = let p = bucket_below buckets x.statement (omega arith) in let long = length-set rows n x in omega (arith, is)

  pub entered_long : length new ≡ length rows
  entered_long = length-set mid b (headed (get_or mid b no_row) n) ∙ length-set rows n x

  -- each column but the heads
  pub entered_old : {X : Type 0} (f : Row → X) → ((r : Row) (k : ℕ) → f (headed r k) ≡ f r) → (k : ℕ) → (k ≡ n → ⊥) → f (get_or new k no_row) ≡ f (get_or rows k no_row)
  entered_old f apart k ne = write_leaves mid b (headed (get_or mid b no_row) n) bucket_in f (apart (get_or mid b no_row) n) k ∙ ap f (write_other rows n x within_rows k ne)

  -- rows that are no bucket
  pub entered_beyond : (k : ℕ) → buckets ≤ k → get_or new k no_row ≡ get_or rows k no_row
  entered_beyond k h =
      let p = bucket_below buckets x.statement (omega arith) in
      write_other mid b (headed (get_or mid b no_row) n) bucket_in k (λ e. omega (arith, is)) ∙ write_other rows n x within_rows k (λ e. omega arith)

  pub entered_new : {X : Type 0} (f : Row → X) → ((r : Row) (k : ℕ) → f (headed r k) ≡ f r) → f (get_or new n no_row) ≡ f x
  entered_new f apart = write_leaves mid b (headed (get_or mid b no_row) n) bucket_in f (apart (get_or mid b no_row) n) n ∙ ap f (write_here rows n x within_rows)

  -- a column in which the row is as what stood there
  pub entered_same : {X : Type 0} (f : Row → X) → ((r : Row) (k : ℕ) → f (headed r k) ≡ f r) → f x ≡ f (get_or rows n no_row) → (k : ℕ) → f (get_or new k no_row) ≡ f (get_or rows k no_row)
  entered_same f apart same k = write_leaves mid b (headed (get_or mid b no_row) n) bucket_in f (apart (get_or mid b no_row) n) k ∙ write_leaves rows n x within_rows f same k

  bucket_new : bucket_at buckets new n ≡ b
  bucket_new = ap (bucket_of buckets) (entered_new (λ (r : Row). r.statement) (λ r k. refl)) ∙ sym is

  pub entered_index : x.index.head ≡ (get_or rows n no_row).index.head → x.index.link ≡ last_in (bucket_at buckets rows) b n → Indexed buckets rows n → Indexed buckets new (n + 1)
  entered_index head link index =
      chained_next (bucket_at buckets rows) (bucket_at buckets new) (heads_in index_of rows) (heads_in index_of new) (links_in index_of rows) (links_in index_of new) n
      (λ k h. bucket_same buckets rows new k (entered_old (λ (r : Row). r.statement) (λ r j. refl) k (λ e. omega arith)))
      (λ k h. entered_old (λ (r : Row). r.index.link) (λ r j. refl) k (λ e. omega arith))
      index b bucket_new
      (ap (λ (r : Row). r.index.head) (write_here mid b (headed (get_or mid b no_row) n) bucket_in))
      (λ c ne. ap (λ (r : Row). r.index.head) (write_other mid b (headed (get_or mid b no_row) n) bucket_in c ne) ∙ write_leaves rows n x within_rows (λ (r : Row). r.index.head) head c)
      (entered_new (λ (r : Row). r.index.link) (λ r j. refl) ∙ link)

module _ (buckets : ℕ) (rows : List Row) (len : ℕ) (x : Statement) where
  abbrev own : ℕ
  own = bucket_of buckets x

  -- a walk along the bucket of x, all places of which so far hold other statements
  abbrev pub Walked : Option ℕ → Type 0
  Walked at = On (bucket_at buckets rows) own len at × ((k : ℕ) → k < len → Passed at k → statement_in rows k ≢ x)

  bucket_is : (k : ℕ) → statement_in rows k ≡ x → bucket_at buckets rows k ≡ own
  bucket_is k same = ap (bucket_of buckets) same

  pub walk_start : (at : Option ℕ) → at ≡ last_in (bucket_at buckets rows) own len → Walked at
  walk_start at is = (
    on_last (bucket_at buckets rows) own len len at (omega arith) is,
    λ k h past same. none_past (bucket_at buckets rows) own len at (sym is) k h (bucket_is k same) past,
  )

  -- the walk goes on from row i, which holds another statement
  module _ (index : Indexed buckets rows len) (at : Option ℕ) (i : ℕ) (is : at ≡ Some i) (walked : Walked at) where
    here : (i < len) × (bucket_at buckets rows i ≡ own)
    here = subst (On (bucket_at buckets rows) own len) is walked.0

    pub walk_link : (get_or rows i no_row).index.link ≡ last_in (bucket_at buckets rows) own i
    walk_link = index.back i here.0 ∙ ap (λ (b : ℕ). last_in (bucket_at buckets rows) b i) here.1

    pub walk_next : statement_in rows i ≢ x → Walked (get_or rows i no_row).index.link
    walk_next other =
        let below = here.0 in (
          on_last (bucket_at buckets rows) own i len _ (omega arith) walk_link,
          λ k h past same.
              ⊎_elim
              (λ over. walked.1 k h (subst (λ (r : Option ℕ). Passed r k) (sym is) over) same)
              (λ e. other (ap (statement_in rows) (sym e) ∙ same))
              (past_link (bucket_at buckets rows) own i (get_or rows i no_row).index.link walk_link k (bucket_is k same) past),
        )
