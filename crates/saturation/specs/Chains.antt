-- Chains of places: each bucket names its last place, and each place the one before it in its bucket.
use Rattle.std.specs.Prelude.{◌≡◌, ◌==◌, ℕ, zero, suc, ◌<◌, cond, List, None, Some, Option, slice_index_or}
use Rattle.saturation.specs.declared.row.Chain.{Chain}
use Rattle.saturation.specs.declared.row.Row.{Row}
use Rattle.saturation.specs.Rows.{no_row}

-- of the first n places the last in bucket b, where f tells the bucket of each place
abbrev pub last_in : (ℕ → ℕ) → ℕ → ℕ → Option ℕ
last_in f b zero = None
last_in f b (suc n) = cond (f n == b) (Some n) (last_in f b n)

-- where a bucket has one of the first n places, its head is the last one; and each of them is linked to the last before it in its bucket
pub record Chained (f heads : ℕ → ℕ) (links : ℕ → Option ℕ) (n : ℕ) : Type 0 where
  pub last : (b i : ℕ) → last_in f b n ≡ Some i → heads b ≡ i
  pub back : (k : ℕ) → k < n → links k ≡ last_in f (f k) k

abbrev pub heads_in : (Row → Chain) → List Row → ℕ → ℕ
heads_in chain rows b = (chain (slice_index_or rows b no_row)).head

abbrev pub links_in : (Row → Chain) → List Row → ℕ → Option ℕ
links_in chain rows k = (chain (slice_index_or rows k no_row)).link

-- the same, with heads and links in the columns of a chain
abbrev pub RowsChained : (Row → Chain) → (ℕ → ℕ) → List Row → ℕ → Type 0
RowsChained chain f rows n = Chained f (heads_in chain rows) (links_in chain rows) n
