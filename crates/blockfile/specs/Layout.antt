-- What a sound block file is.
use Rattle.std.specs.Prelude.{◌≡◌, ℕ, zero, suc, ◌+◌, ◌*◌, ◌<◌, ◌≤◌, List, [], ◌∷◌, length, take, drop, codes, slice_index, slice_index_or}
use Rattle.standpoint.specs.declared.sizes.Sizes.{Sizes}
use Rattle.standpoint.specs.declared.statement.Statement.{Statement}
use Rattle.standpoint.specs.Sizes.{InRange}

-- block b of a file, 512 bytes
abbrev pub block_of : List ℕ → ℕ → List ℕ
block_of file b = take 512 (drop (512 * b) file)

-- numbers of two and of four bytes, the highest first
abbrev pub big2 : List ℕ → ℕ → ℕ
big2 xs i = slice_index xs i * 256 + slice_index xs (i + 1)

abbrev pub big4 : List ℕ → ℕ → ℕ
big4 xs i = slice_index xs i * 16777216 + slice_index xs (i + 1) * 65536 + slice_index xs (i + 2) * 256 + slice_index xs (i + 3)

-- each byte times its place, the first place being n
abbrev pub weighted : ℕ → List ℕ → ℕ
weighted n [] = 0
weighted n (x ∷ xs) = x * n + weighted (n + 1) xs

-- the last four bytes hold the sum of all others, each times its place counted from 1
abbrev pub Summed : List ℕ → Type 0
Summed block = weighted 1 (take 508 block) ≡ big4 block 508

-- every byte from i on and before j is 0
abbrev pub Zeros : List ℕ → ℕ → ℕ → Type 0
Zeros xs i j = (k : ℕ) → i ≤ k → k < j → slice_index xs k ≡ 0

-- the header of a block: its mark, its kind byte and its number
pub record Headed (letter number : ℕ) (block : List ℕ) : Type 0 where
  pub mark : take 4 block ≡ codes "SPLV"
  pub kind_byte : slice_index_or block 4 0 ≡ letter
  pub numbered : big2 block 6 ≡ number

-- block 0 has no record, and nothing after the four sizes
pub record FirstFilled (block : List ℕ) : Type 0 where
  pub count : slice_index_or block 5 0 ≡ 0
  pub unused : Zeros block 12 508

-- the last two bytes of record r are 0
abbrev pub Tail : List ℕ → ℕ → Type 0
Tail block r = (slice_index block (18 + 12 * r) ≡ 0) × (slice_index block (19 + 12 * r) ≡ 0)

-- so are those of each of the first n records
abbrev pub Tails : List ℕ → ℕ → Type 0
Tails block n = (r : ℕ) → r < n → Tail block r

-- another block has at most 41 records, whose last two bytes are unused, and nothing after them
pub record LaterFilled (block : List ℕ) : Type 0 where
  pub count : slice_index_or block 5 0 ≤ 41
  pub tails : Tails block (slice_index block 5)
  pub unused : Zeros block (8 + 12 * slice_index block 5) 508

abbrev pub BlockFilled : ℕ → List ℕ → Type 0
BlockFilled zero block = FirstFilled block
BlockFilled (suc n) block = LaterFilled block

-- all but the sum is as it has to be in the block of this number
abbrev pub LaidOut : ℕ → ℕ → List ℕ → Type 0
LaidOut letter number block = Headed letter number block × BlockFilled number block

abbrev pub SoundBlock : ℕ → ℕ → List ℕ → Type 0
SoundBlock letter number block = Summed block × LaidOut letter number block

-- the first n blocks are sound
abbrev pub SoundBelow : ℕ → List ℕ → ℕ → Type 0
SoundBelow letter file n = (k : ℕ) → k < n → SoundBlock letter k (block_of file k)

-- a file is 1 to 128 whole blocks
pub record Whole (file : List ℕ) (blocks : ℕ) : Type 0 where
  pub long : length file ≡ 512 * blocks
  pub some : 1 ≤ blocks
  pub few : blocks ≤ 128

-- the file is not whole
abbrev pub NotWhole : List ℕ → Type 0
NotWhole file = (n : ℕ) → Whole file n → ⊥

-- how many records block b says that it has
abbrev pub count_in : List ℕ → ℕ → ℕ
count_in file b = slice_index file (512 * b + 5)

-- the 12 bytes of record r of block b
abbrev pub record_of : List ℕ → ℕ → ℕ → List ℕ
record_of file b r = take 12 (drop (512 * b + 8 + 12 * r) file)

-- the code of record r of block b
abbrev pub code_of : List ℕ → ℕ → ℕ → ℕ
code_of file b r = big4 file (512 * b + 14 + 12 * r)

-- the statement of record r of block b: its shape and five numbers of a byte each
abbrev pub statement_in : List ℕ → ℕ → ℕ → Statement
statement_in file b r = record {
  shape = slice_index file (512 * b + 8 + 12 * r);
  first = slice_index file (512 * b + 9 + 12 * r);
  second = slice_index file (512 * b + 10 + 12 * r);
  third = slice_index file (512 * b + 11 + 12 * r);
  fourth = slice_index file (512 * b + 12 + 12 * r);
  fifth = slice_index file (512 * b + 13 + 12 * r);
}

-- the sizes that block 0 states
abbrev pub sizes_in : List ℕ → Sizes
sizes_in file = record { standpoints = slice_index file 8; concepts = slice_index file 9; roles = slice_index file 10; individuals = slice_index file 11 }

-- whole blocks, each of them sound, and sizes within their ranges
pub record Sound (letter : ℕ) (file : List ℕ) : Type 0 where
  pub blocks : ℕ
  pub whole : Whole file blocks
  pub each : SoundBelow letter file blocks
  pub sizes : InRange (sizes_in file)
