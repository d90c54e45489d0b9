-- What a table's ghost fields say of its rows, and the writes that keep it.
use Rattle.std.proofs.Common.{◌≡◌, ◌≢◌, ℕ, ◌+◌, ◌<◌, ◌≤◌, min, Bool, true, List, length, get_or, Option, Some, None, sym, refl, ap, ◌∙◌, subst, ⊎_elim, arith, length-set}
use lib.ListN.{set}
use Rattle.std.proofs.lemmas.Bool.Decides.{eqb_tells}
use Rattle.standpoint.specs.declared.statement.Statement.{Statement}
use Rattle.saturation.specs.declared.row.Chain.{Chain}
use Rattle.saturation.specs.declared.row.Row.{Row}
use Rattle.saturation.specs.declared.table.Table.{Table}
use Rattle.saturation.specs.Phases.{is_begun}
use Rattle.saturation.specs.Tables.{view, capacity}
use Rattle.saturation.specs.Rows.{no_row, rows_in, TurnsWithin, InPlace, TurnsPlaced, PlacesTurned, Unlisted, WinnersWithin}
use Rattle.saturation.specs.Chains.{last_in}
use Rattle.saturation.specs.Buckets.{bucket_of, bucket_at, Indexed, headed, entered}
use Rattle.saturation.specs.declared.side.Spots.{Spots}
use Rattle.saturation.specs.declared.side.Side.{Side}
use Rattle.saturation.specs.Sides.{on, spots_of, SpotsWithin, node_of, chain_of, Sided, spot_of, placed, turned, settled_rows}
use Rattle.saturation.proofs.Writing.{write_leaves, turns_written, unlisted_written, winners_written}
use Rattle.saturation.proofs.Indexing.{index_kept, entered_long, entered_old, entered_new, entered_same, entered_index}
use Rattle.saturation.proofs.Siding.{Apart, sides_kept, sides_apart, spots_are, spots_within, statement_apart, listed_apart, winner_apart, index_apart, settled_long, settled_leaves, settled_statement, turn_old, turn_new, place_old, place_new, settled_sides}
use Rattle.saturation.proofs.Offers.{last_or, equal_or, not_both, same_some}

-- of rows of which so many are used
pub record RowFacts (used : ℕ) (rows : List Row) (settled len : ℕ) (begun : Bool) : Type 0 where
  pub there : used ≤ length rows
  pub fits : len ≤ used
  pub turns : TurnsWithin rows settled len
  pub in_place : InPlace rows settled len
  pub unlisted : Unlisted rows len begun
  pub winners : WinnersWithin rows len
  pub index : Indexed used rows len
  pub sides : Sided used rows settled

-- the taken rows are used ones
pub fits_of : {G : Type 0} (t : Table G) → t.len ≤ capacity (view t)
fits_of t = let a = t.rows_fit in let b = t.grades_fit in let c = t.few in omega arith

pub facts_of : {G : Type 0} (t : Table G) → RowFacts (capacity (view t)) t.rows.now t.settled t.len (is_begun t.phase)
facts_of t = record { there = omega arith; fits = fits_of t; turns = t.turns; in_place = t.in_place; unlisted = t.unlisted; winners = t.winners; index = t.index; sides = t.sides }

-- rows with the same statements, turns and places
module _ (rows new : List Row) (statement : (k : ℕ) → (get_or new k no_row).statement ≡ (get_or rows k no_row).statement)
    (turn : (k : ℕ) → (get_or new k no_row).turn ≡ (get_or rows k no_row).turn) (place : (k : ℕ) → (get_or new k no_row).place ≡ (get_or rows k no_row).place) where
  pub in_place_kept : (settled len : ℕ) → InPlace rows settled len → InPlace new settled len
  in_place_kept settled len is = record {
    places = λ k h. ap (λ (j : ℕ). (get_or new j no_row).place) (turn k) ∙ place (get_or rows k no_row).turn ∙ is.places k h;
    back = λ i k h at. let b = is.back i k h (sym (place i) ∙ at) in (b.0, turn k ∙ b.1);
    apart = λ i j hi hj same. is.apart i j hi hj (sym (statement i) ∙ same ∙ statement j);
  }

-- as many rows are used of memory that keeps its lengths
pub same_used : {G : Type 0} (rows new : List Row) (grades later : List G) → length new ≡ length rows → length later ≡ length grades → rows_in rows grades ≡ rows_in new later
same_used rows new grades later long beside = ap (λ (n : ℕ). min (min n (length grades)) 16777215) (sym long) ∙ ap (λ (n : ℕ). min (min (length new) n) 16777215) (sym beside)

-- the facts of rows that are written, as the ghost fields say them
pub facts_with : {G : Type 0} (t : Table G) (new : List Row) (later : List G) (settled len : ℕ) (begun : Bool) → length new ≡ length t.rows.now → length later ≡ length t.grades.now →
    RowFacts (capacity (view t)) new settled len begun → RowFacts (rows_in new later) new settled len begun
facts_with t new later settled len begun long beside f = subst (λ (n : ℕ). RowFacts n new settled len begun) (same_used t.rows.now new t.grades.now later long beside) f

module _ (used : ℕ) (rows : List Row) (settled len : ℕ) (begun : Bool) (f : RowFacts used rows settled len begun) where
  -- one row written that keeps these columns; what is listed is free where no run is begun
  pub set_facts : (i : ℕ) (r : Row) → i < length rows → r.statement ≡ (get_or rows i no_row).statement → r.turn ≡ (get_or rows i no_row).turn → r.place ≡ (get_or rows i no_row).place →
      r.index ≡ (get_or rows i no_row).index → ((side : Side) → chain_of side r ≡ chain_of side (get_or rows i no_row)) → (begun ≡ true → r.listed ≡ (get_or rows i no_row).listed) → (i < len → r.winner < len) → RowFacts used (set rows i r) settled len begun
  set_facts i r within statement turn place chain sides listed winner =
      let fits = f.fits in
      let long = length-set rows i r in
      let left : (X : Type 0) (g : Row → X) → g r ≡ g (get_or rows i no_row) → (k : ℕ) → g (get_or (set rows i r) k no_row) ≡ g (get_or rows k no_row) = λ X. write_leaves rows i r within in
      let statements = left Statement (λ (w : Row). w.statement) statement in
      let turns = left ℕ (λ (w : Row). w.turn) turn in
      let places = left (Option ℕ) (λ (w : Row). w.place) place in
      record {
        there = let h = f.there in omega arith;
        fits = fits;
        turns = turns_written rows i r within settled len turn f.turns;
        in_place = in_place_kept rows (set rows i r) statements turns places settled len f.in_place;
        unlisted = λ on. unlisted_written rows i r within len begun (listed on) f.unlisted on;
        winners = winners_written rows i r within len winner f.winners;
        index = index_kept used rows (set rows i r) len statements (left Chain (λ (w : Row). w.index) chain) f.index;
        sides = sides_kept used rows (set rows i r) settled
            (λ k h.
            ap (λ (j : ℕ). (get_or (set rows i r) j no_row).statement) (turns k) ∙ statements (get_or rows k no_row).turn)
            (λ side k. left Chain (chain_of side) (sides side) k) f.sides;
      }

  -- row i is settled next
  module _ (i : ℕ) (spots : Spots) (below : i < len) (room : settled < len) (un : (get_or rows i no_row).place ≡ None) (is : spots ≡ spots_of used rows settled (get_or rows i no_row).statement) where
    abbrev new : List Row
    new = settled_rows rows settled i spots

    in_n : settled < length rows
    in_n = let fits = f.fits in let there = f.there in omega arith

    in_i : i < length rows
    in_i = let fits = f.fits in let there = f.there in omega arith

    at_spots : (side : Side) → on spots side ≡ spot_of side used rows settled (node_of side (get_or rows i no_row).statement)
    at_spots = spots_are used rows settled (get_or rows i no_row).statement spots is

    in_spots : SpotsWithin spots used
    in_spots =
        let some : 0 < used = let fits = f.fits in omega arith in
        subst (λ (v : Spots). SpotsWithin v used) (sym is) (spots_within used rows settled (get_or rows i no_row).statement some)

    left : {X : Type 0} (g : Row → X) → Apart g → ((r : Row) (p : ℕ) → g (placed r p) ≡ g r) → g (turned (get_or rows settled no_row) i spots) ≡ g (get_or rows settled no_row) → (j : ℕ) → g (get_or new j no_row) ≡ g (get_or rows j no_row)
    left = settled_leaves rows settled i spots used f.there in_n in_i in_spots

    at_i : (k : ℕ) → k ≡ settled → (get_or new k no_row).turn ≡ i
    at_i k e = ap (λ (j : ℕ). (get_or new j no_row).turn) e ∙ turn_new rows settled i spots used f.there in_n in_i in_spots

    at_old : (k : ℕ) → (k ≡ settled → ⊥) → (get_or new k no_row).turn ≡ (get_or rows k no_row).turn
    at_old = turn_old rows settled i spots used f.there in_n in_i in_spots

    new_places : TurnsPlaced new (settled + 1)
    new_places k h =
        ⊎_elim
        (λ old.
        let t = (get_or rows k no_row).turn in
        let other : t ≡ i → ⊥ = λ e. not_both (get_or rows t no_row).place k (f.in_place.places k old) (ap (λ (j : ℕ). (get_or rows j no_row).place) e ∙ un) in
        ap (λ (j : ℕ). (get_or new j no_row).place) (at_old k (λ e. omega arith)) ∙ place_old rows settled i spots used f.there in_n in_i in_spots t other ∙ f.in_place.places k old)
        (λ last. ap (λ (j : ℕ). (get_or new j no_row).place) (at_i k last) ∙ place_new rows settled i spots used f.there in_n in_i in_spots ∙ ap (λ (j : ℕ). Some j) (sym last))
        (last_or k settled h)

    new_back : PlacesTurned new (settled + 1) len
    new_back j k h at =
        ⊎_elim
        (λ own.
        let last : settled ≡ k = same_some (sym (place_new rows settled i spots used f.there in_n in_i in_spots) ∙ ap (λ (v : ℕ). (get_or new v no_row).place) (sym own) ∙ at) in
        (omega arith, at_i k (sym last) ∙ sym own))
        (λ other.
        let b = f.in_place.back j k h (sym (place_old rows settled i spots used f.there in_n in_i in_spots j other) ∙ at) in
        let low = b.0 in
        (omega arith, at_old k (λ e. omega arith) ∙ b.1))
        (equal_or j i)

    pub settled_as_long : length new ≡ length rows
    settled_as_long = settled_long rows settled i spots used f.there in_n in_i in_spots

    pub settled_facts : RowFacts used new (settled + 1) len begun
    settled_facts =
        let fits = f.fits in
        let long = settled_long rows settled i spots used f.there in_n in_i in_spots in
        record {
          there = let h = f.there in omega arith;
          fits = fits;
          turns = λ k h.
              ⊎_elim
              (λ t. subst (λ (n : ℕ). n < len) (sym (at_i k t.1)) below)
              (λ n. let ne = n.1 in subst (λ (t : ℕ). t < len) (sym (at_old k ne)) (f.turns k (omega arith)))
              (eqb_tells k settled);
          in_place = record {
            places = new_places;
            back = new_back;
            apart = λ j k hj hk same. let kept = settled_statement rows settled i spots used f.there in_n in_i in_spots in f.in_place.apart j k hj hk (sym (kept j) ∙ same ∙ kept k);
          };
          unlisted = λ on k h. left (λ r. r.listed) listed_apart (λ r p. refl) refl k ∙ f.unlisted on k h;
          winners = λ k h. subst (λ (w : ℕ). w < len) (sym (left (λ r. r.winner) winner_apart (λ r p. refl) refl k)) (f.winners k h);
          index = index_kept used rows new len (left (λ r. r.statement) statement_apart (λ r p. refl) refl) (left (λ r. r.index) index_apart (λ r p. refl) refl) f.index;
          sides = settled_sides rows settled i spots used f.there in_n in_i in_spots
              at_spots
              f.sides;
        }

  -- one row more
  pub entered_facts : (x : Row) (b : ℕ) → b ≡ bucket_of used x.statement → len < used → settled ≤ len →
      ((k : ℕ) → k < len → (get_or rows k no_row).statement ≢ x.statement) → x.place ≡ None → x.listed ≡ 0 → x.winner ≡ len → x.index.head ≡ (get_or rows len no_row).index.head → x.index.link ≡ last_in (bucket_at used rows) b len → x.turn ≡ (get_or rows len no_row).turn → ((side : Side) → chain_of side x ≡ chain_of side (get_or rows len no_row)) → RowFacts used (entered rows len x b) settled (len + 1) begun
  entered_facts x b is within low absent un listed winner head link turn sides =
      let long = entered_long used rows len x b is within f.there in
      let old : (X : Type 0) (g : Row → X) → ((r : Row) (k : ℕ) → g (headed r k) ≡ g r) → (k : ℕ) → (k ≡ len → ⊥) → g (get_or (entered rows len x b) k no_row) ≡ g (get_or rows k no_row) = λ X. entered_old used rows len x b is within f.there in
      let new : (X : Type 0) (g : Row → X) → ((r : Row) (k : ℕ) → g (headed r k) ≡ g r) → (k : ℕ) → k ≡ len → g (get_or (entered rows len x b) k no_row) ≡ g x =
      λ X g apart k e. ap (λ (j : ℕ). g (get_or (entered rows len x b) j no_row)) e ∙ entered_new used rows len x b is within f.there g apart in
      let stood : (k : ℕ) → k < len → (get_or (entered rows len x b) k no_row).statement ≡ (get_or rows k no_row).statement = λ k h. old Statement (λ r. r.statement) (λ r j. refl) k (λ e. omega arith) in
      let stands : (k : ℕ) → k ≡ len → (get_or (entered rows len x b) k no_row).statement ≡ x.statement = new Statement (λ r. r.statement) (λ r j. refl) in
      record {
        there = let h = f.there in omega arith;
        fits = omega arith;
        turns = λ k h.
            let same = entered_old used rows len x b is within f.there (λ (r : Row). r.turn) (λ r k. refl) k (λ e. omega arith) in
            let t = f.turns k h in
            omega arith;
        in_place = record {
          places = λ k h.
              let t = f.turns k h in
              ap (λ (j : ℕ). (get_or (entered rows len x b) j no_row).place) (old ℕ (λ r. r.turn) (λ r j. refl) k (λ e. omega arith))
              ∙ old (Option ℕ) (λ r. r.place) (λ r j. refl) (get_or rows k no_row).turn (λ e. omega arith) ∙ f.in_place.places k h;
          back = λ i k h at.
              ⊎_elim
              (λ lt.
              let b = f.in_place.back i k lt (sym (old (Option ℕ) (λ r. r.place) (λ r j. refl) i (λ e. omega arith)) ∙ at) in
              let low' = b.0 in
              (b.0, old ℕ (λ r. r.turn) (λ r j. refl) k (λ e. omega arith) ∙ b.1))
              (λ e. absurd (not_both _ k at (new (Option ℕ) (λ r. r.place) (λ r j. refl) i e ∙ un)))
              (last_or i len h);
          apart = λ i j hi hj same.
              ⊎_elim
              (λ oi. ⊎_elim (λ oj. f.in_place.apart i j oi oj (sym (stood i oi) ∙ same ∙ stood j oj)) (λ nj. absurd (absent i oi (sym (stood i oi) ∙ same ∙ stands j nj))) (last_or j len hj))
              (λ ni. ⊎_elim (λ oj. absurd (absent j oj (sym (stood j oj) ∙ sym same ∙ stands i ni))) (λ nj. ni ∙ sym nj) (last_or j len hj))
              (last_or i len hi);
        };
        unlisted = λ on k h.
            ⊎_elim
            (λ lt. old ℕ (λ r. r.listed) (λ r j. refl) k (λ e. omega arith) ∙ f.unlisted on k lt)
            (λ e. new ℕ (λ r. r.listed) (λ r j. refl) k e ∙ listed)
            (last_or k len h);
        winners = λ k h.
            ⊎_elim
            (λ t. let e = ap (λ (j : ℕ). (get_or (entered rows len x b) j no_row).winner) t.1 ∙ entered_new used rows len x b is within f.there (λ (r : Row). r.winner) (λ r k. refl) in omega (arith, winner))
            (λ n. let ne = n.1 in let e = entered_old used rows len x b is within f.there (λ (r : Row). r.winner) (λ r k. refl) k ne in let w = f.winners k (omega arith) in omega arith)
            (eqb_tells k len);
        index = entered_index used rows len x b is within f.there head link f.index;
        sides = sides_kept used rows (entered rows len x b) settled
            (λ k h.
            ap (λ (j : ℕ). (get_or (entered rows len x b) j no_row).statement) (entered_same used rows len x b is within f.there (λ (r : Row). r.turn) (λ r j. refl) turn k)
            ∙ entered_old used rows len x b is within f.there (λ (r : Row). r.statement) (λ r j. refl) (get_or rows k no_row).turn (λ e. let t = f.turns k h in omega arith))
            (λ side. entered_same used rows len x b is within f.there (chain_of side) (sides_apart side) (sides side)) f.sides;
      }
