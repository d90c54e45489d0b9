-- What a load makes of a reasoner, and where it stops.
use Rattle.std.specs.Prelude.{◌≡◌, ℕ, ◌+◌, ◌<◌, List, [], ◌∷◌, Some, None, Ok, Err, Option, Result}
use Rattle.standpoint.specs.declared.refusal.Refusal.{Refusal}
use Rattle.standpoint.specs.declared.statement.Statement.{Statement}
use Rattle.standpoint.specs.Algebra.{Algebra}
use Rattle.saturation.specs.declared.table.Table.{Table}
use Rattle.reasoner.specs.Models.{based, StandsFor}
use Rattle.reasoner.specs.Calls.{Unchanged, Begun, Adds}
use Rattle.blockfile.specs.declared.fault.RecordFault.{RecordFault}
use Rattle.blockfile.specs.declared.fault.RecordFault.TheVariants.{Code, Add}
use Rattle.blockfile.specs.declared.fault.BlockFault.{BlockFault}
use Rattle.blockfile.specs.declared.fault.BlockFault.TheVariants.{Sum, Layout, Begin, InRecord}
use Rattle.blockfile.specs.declared.fault.LoadFault.{LoadFault}
use Rattle.blockfile.specs.declared.fault.LoadFault.TheVariants.{Length, InBlock}
use Rattle.blockfile.specs.Layout.{count_in, code_of, statement_in, sizes_in, Whole}
use Rattle.blockfile.specs.Faults.{BlocksChecked}

-- where a record stops a load
abbrev pub block_at : RecordFault → ℕ
block_at (Code block place) = block
block_at (Add block place why) = block

abbrev pub place_at : RecordFault → ℕ
place_at (Code block place) = place
place_at (Add block place why) = place

-- each of these, the last one first, was accepted by one add, which led from s to this reasoner
pub data Added {G : Type 0} (a : Algebra G) (s : Table G) : List (Statement × G) → Table G → Type 0 where
  none : Added a s [] s
  one_more : {rs : List (Statement × G)} {t u : Table G} {x : Statement} {g : G} → Added a s rs t → Adds a x g t u (Ok tt) → Added a s ((x, g) ∷ rs) u

module _ {G : Type 0} (decoded : ℕ → Option G) (file : List ℕ) where
  -- the records from block first on and before record p of block b, the last one first, each with the grade of its code
  pub data Reads (first : ℕ) : ℕ → ℕ → List (Statement × G) → Type 0 where
    reads_none : Reads first first 0 []
    reads_record : {b p : ℕ} {rs : List (Statement × G)} {g : G} → Reads first b p rs → p < count_in file b → decoded (code_of file b p) ≡ Some g →
        Reads first b (p + 1) ((statement_in file b p, g) ∷ rs)
    reads_block : {b : ℕ} {rs : List (Statement × G)} → Reads first b (count_in file b) rs → Reads first (b + 1) 0 rs

  module _ (a : Algebra G) where
    -- these records were added in order, which led from s to t
    abbrev pub AddedBefore : ℕ → ℕ → ℕ → Table G → Table G → Type 0
    AddedBefore first b p s t = (rs : List (Statement × G)) × Reads first b p rs × Added a s rs t

    -- what add makes of record p of block b
    pub record RecordAdded (b p : ℕ) (s t : Table G) (r : Result (Unit {0}) Refusal) : Type 0 where
      pub grade : G
      pub read : decoded (code_of file b p) ≡ Some grade
      pub adds : Adds a (statement_in file b p) grade s t r

    -- a record that stops a load: its code is no grade, or add refuses it
    abbrev pub RecordRefused : Table G → Table G → RecordFault → Type 0
    RecordRefused s t (Code b p) = (decoded (code_of file b p) ≡ None) × Unchanged s t
    RecordRefused s t (Add b p why) = RecordAdded b p s t (Err why)

    -- one record: added, or refused
    abbrev pub RecordLoaded : ℕ → ℕ → Table G → Table G → Result (Unit {0}) RecordFault → Type 0
    RecordLoaded b p s t (Ok _) = RecordAdded b p s t (Ok tt)
    RecordLoaded b p s t (Err f) = (block_at f ≡ b) × (place_at f ≡ p) × RecordRefused s t f

    -- all records before this one were added, and it is refused
    pub record StoppedAt (first : ℕ) (s t : Table G) (f : RecordFault) : Type 0 where
      pub there : place_at f < count_in file (block_at f)
      pub reached : Table G
      pub before : AddedBefore first (block_at f) (place_at f) s reached
      pub refused : RecordRefused reached t f

    -- one block: all of its records were added in order, or one of them stops the load
    abbrev pub BlockLoaded : ℕ → Table G → Table G → Result (Unit {0}) BlockFault → Type 0
    BlockLoaded b s t (Ok _) = AddedBefore b (b + 1) 0 s t
    BlockLoaded b s t (Err fault) = (f : RecordFault) × (fault ≡ InRecord f) × (block_at f ≡ b) × StoppedAt b s t f

    -- the whole file: every block is checked, then the reasoner begins with the sizes of block 0, then the records of the others are added in order
    abbrev pub Loaded : ℕ → Table G → Table G → Result (Unit {0}) LoadFault → Type 0
    Loaded letter s t (Ok _) =
        (n : ℕ) × BlocksChecked letter file (Ok n) × ((u : Table G) × Begun a (sizes_in file) s u (Ok tt) × AddedBefore 1 n 0 u t)
    Loaded letter s t (Err Length) = Unchanged s t × BlocksChecked letter file (Err Length)
    Loaded letter s t (Err (InBlock (Sum block))) = Unchanged s t × BlocksChecked letter file (Err (InBlock (Sum block)))
    Loaded letter s t (Err (InBlock (Layout block))) = Unchanged s t × BlocksChecked letter file (Err (InBlock (Layout block)))
    Loaded letter s t (Err (InBlock (Begin why))) = ((n : ℕ) × BlocksChecked letter file (Ok n)) × Begun a (sizes_in file) s t (Err why)
    Loaded letter s t (Err (InBlock (InRecord f))) =
        (n : ℕ) × BlocksChecked letter file (Ok n) × (block_at f < n) × ((u : Table G) × Begun a (sizes_in file) s u (Ok tt) × StoppedAt 1 u t f)

    -- the reasoner stands for the sizes of block 0 and the records before record p of block b, and nothing else
    abbrev pub AcceptsBefore : ℕ → ℕ → Table G → Type 0
    AcceptsBefore b p t = (rs : List (Statement × G)) × Reads 1 b p rs × StandsFor a (based (record { sizes = sizes_in file; accepted = rs })) t

    -- so it does for all records of the file
    abbrev pub AcceptsAll : Table G → Type 0
    AcceptsAll t = (n : ℕ) × Whole file n × AcceptsBefore n 0 t
