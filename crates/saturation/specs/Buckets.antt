-- Buckets of rows: where a statement is looked for.
use Rattle.std.specs.Prelude.{ℕ, ◌+◌, ◌*◌, ◌/◌, ◌%◌, ◌^◌, List, slice_index_or, slice_set}
use Rattle.standpoint.specs.declared.statement.Statement.{Statement}
use Rattle.saturation.specs.declared.buckets.TheConstants.{SPREAD}
use Rattle.saturation.specs.declared.row.Row.{Row}
use Rattle.saturation.specs.Rows.{chain, no_row}
use Rattle.saturation.specs.Chains.{RowsChained}

-- three numbers in one
abbrev pub triple : ℕ → ℕ → ℕ → ℕ
triple a b c = (a * 2 ^ 16 + b) * 2 ^ 16 + c

-- one number more is mixed in
unfoldable pub mixed : ℕ → ℕ → ℕ
mixed hash number = (hash + number) % 2 ^ 64 * SPREAD % 2 ^ 64

-- the bucket of a statement among so many: the high half as a fraction of 2^32, of their number
unfoldable pub bucket_of : ℕ → Statement → ℕ
bucket_of buckets x = mixed (mixed 0 (triple x.first x.second x.third)) (triple x.shape x.fourth x.fifth) / 2 ^ 32 * buckets % 2 ^ 64 / 2 ^ 32

-- the bucket of a row's statement, among so many
abbrev pub bucket_at : ℕ → List Row → ℕ → ℕ
bucket_at buckets rows k = bucket_of buckets (slice_index_or rows k no_row).statement

-- the taken rows are in chains, by statement
abbrev pub Indexed : ℕ → List Row → ℕ → Type 0
Indexed buckets rows len = RowsChained (λ r. r.index) (bucket_at buckets rows) rows len

abbrev pub headed : Row → ℕ → Row
headed r k = record r { index = chain k r.index.link }

-- row n is written, and is from then on the last in bucket b
abbrev pub entered : List Row → ℕ → Row → ℕ → List Row
entered rows n x b = slice_set (slice_set rows n x) b (headed (slice_index_or (slice_set rows n x) b no_row) n)
