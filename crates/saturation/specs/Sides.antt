-- Settled statements in chains by some of their numbers, those that a rule knows of the premises it looks for.
use Rattle.std.specs.Prelude.{ℕ, ◌<◌, ◌==◌, ◌||◌, cond, List, Some, slice_index_or, slice_set}
use Rattle.standpoint.specs.declared.statement.Statement.{Statement}
use Rattle.saturation.specs.declared.row.Chain.{Chain}
use Rattle.saturation.specs.declared.row.Row.{Row}
use Rattle.saturation.specs.declared.side.Spot.{Spot}
use Rattle.saturation.specs.declared.side.Spots.{Spots}
use Rattle.saturation.specs.declared.side.Side.{Side}
use Rattle.saturation.specs.declared.side.Side.TheVariants.{Source, Target, Inner, Ending, Through}
use Rattle.saturation.specs.Rows.{chain, no_row}
use Rattle.saturation.specs.Chains.{last_in, RowsChained}
use Rattle.saturation.specs.Buckets.{bucket_of}

-- where a statement starts; a node is a statement with some numbers put to 0
abbrev pub source_of : Statement → Statement
source_of x =
    cond (x.shape == 1 || x.shape == 2) (record x { second = 0; third = 0; fourth = 0; fifth = 0 })
    (cond (x.shape == 5 || x.shape == 6) (record x { fourth = 0; fifth = 0 })
    (record x { third = 0; fourth = 0; fifth = 0 }))

-- where it ends
abbrev pub target_of : Statement → Statement
target_of x =
    cond (x.shape == 1 || x.shape == 2) (record x { first = 0; third = 0; fourth = 0; fifth = 0 })
    (cond (x.shape == 3) (record x { first = 0; second = 0; fourth = 0 })
    (cond (x.shape == 4) (record x { first = 0; second = 0; fifth = 0 })
    (cond (x.shape == 5) (record x { second = 0; third = 0; fifth = 0 })
    (record x { second = 0; fourth = 0; fifth = 0 }))))

-- where the inclusion inside a nested one starts, and within what; an existential's role
abbrev pub inner_of : Statement → Statement
inner_of x =
    cond (x.shape == 3) (record x { first = 0; fifth = 0 })
    (cond (x.shape == 5) (record x { second = 0; fourth = 0; fifth = 0 })
    x)

-- where the inclusion inside a nested one ends, and within what; an existential's role and where it ends
abbrev pub ending_of : Statement → Statement
ending_of x =
    cond (x.shape == 3) (record x { first = 0; fourth = 0 })
    (cond (x.shape == 5) (record x { second = 0; fifth = 0 })
    x)

-- the inclusion inside a nested one
abbrev pub through_of : Statement → Statement
through_of x = cond (x.shape == 3) (record x { first = 0; second = 0 }) x

abbrev pub node_of : Side → Statement → Statement
node_of Source x = source_of x
node_of Target x = target_of x
node_of Inner x = inner_of x
node_of Ending x = ending_of x
node_of Through x = through_of x

-- the columns of a side's chains
abbrev pub chain_of : Side → Row → Chain
chain_of Source r = r.source
chain_of Target r = r.target
chain_of Inner r = r.inner
chain_of Ending r = r.ending
chain_of Through r = r.through

-- the statement settled k-th
abbrev pub settled_at : List Row → ℕ → Statement
settled_at rows k = (slice_index_or rows (slice_index_or rows k no_row).turn no_row).statement

-- the bucket of the statement settled k-th on a side, among so many
abbrev pub side_bucket : Side → ℕ → List Row → ℕ → ℕ
side_bucket side buckets rows k = bucket_of buckets (node_of side (settled_at rows k))

-- the settled statements are in chains on each side
abbrev pub Sided : ℕ → List Row → ℕ → Type 0
Sided buckets rows settled = (side : Side) → RowsChained (chain_of side) (side_bucket side buckets rows) rows settled

-- where statements with a node on a side are found among the settled ones
abbrev pub spot_of : Side → ℕ → List Row → ℕ → Statement → Spot
spot_of side buckets rows settled node = record { bucket = bucket_of buckets node; last = last_in (side_bucket side buckets rows) (bucket_of buckets node) settled }

-- where a statement goes on each side
abbrev pub spots_of : ℕ → List Row → ℕ → Statement → Spots
spots_of buckets rows settled x = record {
  source = spot_of Source buckets rows settled (source_of x);
  target = spot_of Target buckets rows settled (target_of x);
  inner = spot_of Inner buckets rows settled (inner_of x);
  ending = spot_of Ending buckets rows settled (ending_of x);
  through = spot_of Through buckets rows settled (through_of x);
}

abbrev pub on : Spots → Side → Spot
on spots Source = spots.source
on spots Target = spots.target
on spots Inner = spots.inner
on spots Ending = spots.ending
on spots Through = spots.through

-- each spot is one of so many buckets
abbrev pub SpotsWithin : Spots → ℕ → Type 0
SpotsWithin spots buckets =
    (spots.source.bucket < buckets) × (spots.target.bucket < buckets) × (spots.inner.bucket < buckets)
    × (spots.ending.bucket < buckets) × (spots.through.bucket < buckets)

abbrev pub placed : Row → ℕ → Row
placed r p = record r { place = Some p }

-- the row settled next is i, linked on each side
abbrev pub turned : Row → ℕ → Spots → Row
turned r i spots = record r {
  turn = i;
  source = chain r.source.head spots.source.last;
  target = chain r.target.head spots.target.last;
  inner = chain r.inner.head spots.inner.last;
  ending = chain r.ending.head spots.ending.last;
  through = chain r.through.head spots.through.last;
}

abbrev pub headed_on : Side → Row → ℕ → Row
headed_on Source r k = record r { source = chain k r.source.link }
headed_on Target r k = record r { target = chain k r.target.link }
headed_on Inner r k = record r { inner = chain k r.inner.link }
headed_on Ending r k = record r { ending = chain k r.ending.link }
headed_on Through r k = record r { through = chain k r.through.link }

-- place k is from then on the last in bucket b of a side
abbrev pub head_set : Side → List Row → ℕ → ℕ → List Row
head_set side rows b k = slice_set rows b (headed_on side (slice_index_or rows b no_row) k)

abbrev pub turn_set : List Row → ℕ → ℕ → Spots → List Row
turn_set rows k i spots = slice_set rows k (turned (slice_index_or rows k no_row) i spots)

abbrev pub place_set : List Row → ℕ → ℕ → List Row
place_set rows i k = slice_set rows i (placed (slice_index_or rows i no_row) k)

-- place k is from then on the last on each side
abbrev pub heads_set : List Row → Spots → ℕ → List Row
heads_set rows spots k =
    head_set Through (head_set Ending (head_set Inner (head_set Target (head_set Source rows spots.source.bucket k) spots.target.bucket k) spots.inner.bucket k) spots.ending.bucket k) spots.through.bucket k

-- row i is settled k-th
abbrev pub settled_rows : List Row → ℕ → ℕ → Spots → List Row
settled_rows rows k i spots = heads_set (place_set (turn_set rows k i spots) i k) spots k
