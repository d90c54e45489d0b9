-- The steps of a load.
use Rattle.std.proofs.Common.{◌≡◌, ℕ, zero, suc, ◌+◌, ◌*◌, ◌<◌, ◌≤◌, List, [], ◌∷◌, ◌++◌, get_or, drop, Some, None, Ok, Err, OnOk, IsErrAnd, MatchResult, Option, Result, sym, refl, ap, ◌∙◌, subst, arith}
use Rattle.std.proofs.lemmas.List.{get_or-take, get_or-drop}
use Rattle.standpoint.specs.declared.refusal.Refusal.{Refusal}
use Rattle.standpoint.specs.declared.sizes.Sizes.{Sizes}
use Rattle.standpoint.specs.declared.statement.Statement.{Statement}
use Rattle.standpoint.specs.Algebra.{Algebra}
use Rattle.standpoint.specs.Derivations.{Base}
use Rattle.saturation.specs.declared.table.Table.{Table}
use Rattle.saturation.specs.Tables.{State, OverSame}
use Rattle.saturation.specs.Saturation.{Holds}
use Rattle.reasoner.specs.Models.{based, empty_base, accepting, StandsFor}
use Rattle.reasoner.specs.Calls.{Unchanged, Begun, Adds}
use Rattle.blockfile.specs.declared.fault.RecordFault.{RecordFault}
use Rattle.blockfile.specs.declared.fault.RecordFault.TheVariants.{Code, Add}
use Rattle.blockfile.specs.declared.fault.BlockFault.{BlockFault}
use Rattle.blockfile.specs.declared.fault.BlockFault.TheVariants.{InRecord}
use Rattle.blockfile.specs.declared.fault.LoadFault.{LoadFault}
use Rattle.blockfile.specs.declared.fault.LoadFault.TheVariants.{InBlock}
use Rattle.blockfile.specs.Codes.{or_no_grade}
use Rattle.blockfile.specs.Layout.{block_of, count_in, code_of, statement_in, sizes_in, SoundBlock}
use Rattle.blockfile.specs.Faults.{BlocksChecked}
use Rattle.blockfile.specs.Loads.{block_at, place_at, Added, none, one_more, Reads, reads_none, reads_record, reads_block, AddedBefore, RecordAdded, RecordRefused, RecordLoaded, StoppedAt, BlockLoaded, Loaded, AcceptsBefore, AcceptsAll}

pub over_then : {G : Type 0} (s t u : Table G) → OverSame s t → OverSame t u → OverSame s u
over_then s t u x y = (y.0 ∙ x.0, y.1 ∙ x.1)

-- a block beyond the first has at most 41 records
pub few_records : (letter : ℕ) (file : List ℕ) (b : ℕ) → 1 ≤ b → SoundBlock letter b (block_of file b) → count_in file b ≤ 41
few_records letter file zero h sound = absurd (omega arith)
few_records letter file (suc b) h sound =
    let rest = drop (512 * suc b) file in
    let e : get_or (block_of file (suc b)) 5 0 ≡ count_in file (suc b) = get_or-take 512 rest 5 0 (omega arith) ∙ get_or-drop (512 * suc b) file 5 0 in
    subst (λ n. n ≤ 41) e sound.1.1.count

module _ {G : Type 0} where
  -- a code that is decoded is that of a grade
  decoded_ok : (o : Option G) (r : Result G Refusal) (g : G) → r ≡ or_no_grade o → r ≡ Ok g → o ≡ Some g
  decoded_ok None r g e k = let z : Ok g ≡ Err _ = sym k ∙ e in grind arith
  decoded_ok (Some h) r g e k = let z : Ok g ≡ Ok h = sym k ∙ e in grind arith

  module _ (al : Algebra G) where
    -- what the calls promise of a base
    begun_stands : (n : Sizes) (s t : Table G) → Begun al n s t (Ok tt) → StandsFor al (based (empty_base n)) t
    begun_stands n s t h = h.2

    adds_stands : (b : Base G) (x : Statement) (g : G) (s t : Table G) → Adds al x g s t (Ok tt) → StandsFor al (based b) s → StandsFor al (based (accepting b x g)) t
    adds_stands b x g s t h = h.1 b

    refused_unchanged : (x : Statement) (g : G) (s t : Table G) (e : Refusal) → Adds al x g s t (Err e) → Unchanged s t
    refused_unchanged x g s t e h = h.0

    unchanged_stands : (b : Base G) (s t : Table G) → Unchanged s t → StandsFor al (based b) s → StandsFor al (based b) t
    unchanged_stands b s t same (is, range, h) = (same.1 ∙ is, range, subst (λ (v : State G). Holds al b [] v) (sym same.0) h)

    -- what was added to sizes alone is what is accepted
    added_stands : (n : Sizes) (s : Table G) → StandsFor al (based (empty_base n)) s → {rs : List (Statement × G)} {t : Table G} → Added al s rs t →
        StandsFor al (based (record { sizes = n; accepted = rs })) t
    added_stands n s start none = start
    added_stands n s start (one_more {rs} {t} {u} {x} {g} before now) = adds_stands (record { sizes = n; accepted = rs }) x g t u now (added_stands n s start before)

    added_then : {s t : Table G} {rs : List (Statement × G)} → Added al s rs t → {qs : List (Statement × G)} {u : Table G} → Added al t qs u → Added al s (qs ++ rs) u
    added_then before none = before
    added_then before (one_more more now) = one_more (added_then before more) now

  module _ (decoded : ℕ → Option G) (file : List ℕ) where
    reads_then : {first b c p : ℕ} {rs qs : List (Statement × G)} → Reads decoded file first b 0 rs → Reads decoded file b c p qs → Reads decoded file first c p (qs ++ rs)
    reads_then before reads_none = before
    reads_then before (reads_record more lt read) = reads_record (reads_then before more) lt read
    reads_then before (reads_block more) = reads_block (reads_then before more)

    module _ (al : Algebra G) where
      -- what add makes of the record whose code n, grade g and statement x are read
      module _ (b p n : ℕ) (r : Result G Refusal) (g : G) (x : Statement) (s t : Table G)
          (code : n ≡ code_of file b p) (read : r ≡ or_no_grade (decoded n)) (right : r ≡ Ok g) (is : x ≡ statement_in file b p) where
        record_added : (k : Result (Unit {0}) Refusal) → Adds al x g s t k → RecordAdded decoded file al b p s t k
        record_added k h = record {
          grade = g;
          read = decoded_ok (decoded (code_of file b p)) r g (read ∙ ap (λ m. or_no_grade (decoded m)) code) right;
          adds = subst (λ (y : Statement). Adds al y g s t k) is h;
        }

        -- what the load of a record answers where add answers k
        pub record_loaded : (k : Result (Unit {0}) Refusal) (q : Result (Unit {0}) RecordFault) → MatchResult k (λ u. q ≡ Ok u) (λ why. IsErrAnd q (λ f. f ≡ Add b p why)) →
            Adds al x g s t k → RecordLoaded decoded file al b p s t q
        record_loaded (Ok tt) q e h = rw e (record_added (Ok tt) h)
        record_loaded (Err why) (Ok u) e h = absurd e
        record_loaded (Err why) (Err f) e h = rw e (refl, refl, record_added (Err why) h)

      -- one record more is added
      pub added_more : (first b p : ℕ) (s t u : Table G) → p < count_in file b → RecordAdded decoded file al b p t u (Ok tt) → AddedBefore decoded file al first b p s t → AddedBefore decoded file al first b (p + 1) s u
      added_more first b p s t u lt h before = ((statement_in file b p, h.grade) ∷ before.0, reads_record before.1 lt h.read, one_more before.2 h.adds)

      -- the records of a block are those before the next one
      pub added_block : (first b p : ℕ) (s t : Table G) → p ≡ count_in file b → AddedBefore decoded file al first b p s t → AddedBefore decoded file al first (b + 1) 0 s t
      added_block first b p s t e h = (h.0, reads_block (subst (λ n. Reads decoded file first b n h.0) e h.1), h.2)

      -- a record that is refused stops the load of its block
      pub block_stopped : (b p : ℕ) (s t u : Table G) (f : RecordFault) → p < count_in file b → AddedBefore decoded file al b b p s t → RecordLoaded decoded file al b p t u (Err f) →
          (q : Result (Unit {0}) BlockFault) → IsErrAnd q (λ fault. fault ≡ InRecord f) → BlockLoaded decoded file al b s u q
      block_stopped b p s t u f lt before h (Ok tt) e = absurd e
      block_stopped b p s t u f lt before h (Err fault) e =
          let stop : StoppedAt decoded file al b s u f = record { there = rw (h.0, h.1) lt; reached = t; before = rw (h.0, h.1) before; refused = h.2 } in
          (f, e, h.0, stop)

      -- those of a block behind those before it
      pub before_then : (first b c p : ℕ) (s t u : Table G) → AddedBefore decoded file al first b 0 s t → AddedBefore decoded file al b c p t u → AddedBefore decoded file al first c p s u
      before_then first b c p s t u h k = (k.0 ++ h.0, reads_then h.1 k.1, added_then al h.2 k.2)

      -- a block that stops stops the load of its file
      pub file_stopped : (letter n b : ℕ) (s u t v : Table G) (fault : BlockFault) → BlocksChecked letter file (Ok n) → b < n → Begun al (sizes_in file) s u (Ok tt) →
          AddedBefore decoded file al 1 b 0 u t → BlockLoaded decoded file al b t v (Err fault) → (q : Result (Unit {0}) LoadFault) → IsErrAnd q (λ e. e ≡ InBlock fault) →
          Loaded decoded file al letter s v q
      file_stopped letter n b s u t v fault checked lt begun before (f, is, at, stop) (Ok tt) e = absurd e
      file_stopped letter n b s u t v fault checked lt begun before (f, is, at, stop) (Err e') e =
          let whole : StoppedAt decoded file al 1 u v f = record {
            there = stop.there;
            reached = stop.reached;
            before = before_then 1 b (block_at f) (place_at f) u t stop.reached before stop.before;
            refused = stop.refused;
          } in
          let loaded : Loaded decoded file al letter s v (Err (InBlock (InRecord f))) = (n, checked, rw at lt, (u, begun, whole)) in
          subst (λ (l : LoadFault). Loaded decoded file al letter s v (Err l)) (sym (e ∙ ap InBlock is)) loaded

      pub refused_leaves : (f : RecordFault) (s t : Table G) → RecordRefused decoded file al s t f → Unchanged s t
      refused_leaves (Code b p) s t h = h.1
      refused_leaves (Add b p why) s t h = refused_unchanged al (statement_in file b p) h.grade s t why h.adds

      accepts_before : (b p : ℕ) (s u t : Table G) → Begun al (sizes_in file) s u (Ok tt) → AddedBefore decoded file al 1 b p u t → AcceptsBefore decoded file al b p t
      accepts_before b p s u t begun h = (h.0, h.1, added_stands al (sizes_in file) u (begun_stands al (sizes_in file) s u begun) h.2)

      pub accepts_all : (letter : ℕ) (s t : Table G) (r : Result (Unit {0}) LoadFault) → Loaded decoded file al letter s t r → OnOk r (AcceptsAll decoded file al t)
      accepts_all letter s t (Ok tt) h = (h.0, h.1.0, accepts_before h.0 0 s h.2.0 t h.2.1 h.2.2)
      accepts_all letter s t (Err e) h = tt

      pub stopped_accepts : (letter : ℕ) (s t : Table G) (r : Result (Unit {0}) LoadFault) → Loaded decoded file al letter s t r → (f : RecordFault) → r ≡ Err (InBlock (InRecord f)) →
          AcceptsBefore decoded file al (block_at f) (place_at f) t
      stopped_accepts letter s t r h f is =
          let at : Loaded decoded file al letter s t (Err (InBlock (InRecord f))) = subst (Loaded decoded file al letter s t) is h in
          let stop = at.3.2 in
          let w = accepts_before (block_at f) (place_at f) s at.3.0 stop.reached at.3.1 stop.before in
          (w.0, w.1, unchanged_stands al (record { sizes = sizes_in file; accepted = w.0 }) stop.reached t (refused_leaves f stop.reached t stop.refused) w.2)
