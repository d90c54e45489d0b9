-- The chunks of a list, and the bytes of a block and of a record.
use Rattle.std.proofs.Common.{◌≡◌, ℕ, zero, suc, ◌+◌, ◌-◌, ◌*◌, ◌<◌, ◌≤◌, Bool, true, false, ◌↔◌, IsTrue, List, length, get_or, take, drop, refl, ap, sym, subst, zero-add, ◌∙◌, arith}
use Rattle.std.specs.List.{All, AllWithin, HoldsAt, range_with_len}
use Rattle.std.specs.Bool.{MatchBool}
use Rattle.std.proofs.lemmas.List.{drop-drop, drop-take, take-take, get_or-take, get_or-drop, length-take, length-drop}
use Rattle.std.proofs.lemmas.List.Elements.{All-get_or, All-from_get_or}
use Rattle.std.proofs.lemmas.List.FromFn.{get_or-range_with_len, length-range_with_len}
use Rattle.std.specs.Simd.{first_chunks}
use Rattle.standpoint.specs.Lists.{Tells}
use Rattle.blockfile.specs.Layout.{big4, block_of, record_of, code_of, Zeros, Tail, Tails}

pub tells : (b : Bool) (P : Type 0) → IsTrue b ↔ P → Tells b P
tells true P e = e.0 refl
tells false P e = λ p. let z : ◌≡◌ {A = Bool} false true = e.1 p in cc

pub chunk_at : {A : Type 0} (n k i : ℕ) (xs : List A) (d : List A) → i < k → get_or (first_chunks n k xs) i d ≡ take n (drop (n * i) xs)
chunk_at n zero i xs d h = absurd (omega arith)
chunk_at n (suc k) zero xs d h = let e : n * 0 ≡ 0 = omega arith in rw e refl
chunk_at n (suc k) (suc i) xs d h =
    let e : n + n * i ≡ n * suc i = omega arith in
    chunk_at n k i (drop n xs) d (omega arith) ∙ ap (take n) (drop-drop (n * i) n xs ∙ ap (λ m. drop m xs) e)

inside : (n from m : ℕ) (xs : List ℕ) → from + n ≤ m → take n (drop from (take m xs)) ≡ take n (drop from xs)
inside n from m xs h =
    let room : m ≡ from + (m - from) = omega arith in
    ap (λ k. take n (drop from (take k xs))) room ∙ ap (take n) (drop-take from (m - from) xs) ∙ take-take n (m - from) (drop from xs) (omega arith)

-- the bytes of a record, in its block
pub in_block : (file : List ℕ) (b r : ℕ) → r ≤ 40 → take 12 (drop (12 * r) (take 504 (drop 8 (block_of file b)))) ≡ record_of file b r
in_block file b r h =
    let from = 8 + 12 * r in
    let assoc : 512 * b + from ≡ 512 * b + 8 + 12 * r = omega arith in
    inside 12 (12 * r) 504 (drop 8 (block_of file b)) (omega arith)
    ∙ ap (take 12) (drop-drop (12 * r) 8 (block_of file b))
    ∙ inside 12 from 512 (drop (512 * b) file) (omega arith)
    ∙ ap (take 12) (drop-drop from (512 * b) file ∙ ap (λ m. drop m file) assoc)

-- a byte of a record, in the file
pub in_record : (file : List ℕ) (b r i j : ℕ) → i < 12 → 512 * b + 8 + 12 * r + i ≡ j → get_or (record_of file b r) i 0 ≡ get_or file j 0
in_record file b r i j h e =
    get_or-take 12 (drop (512 * b + 8 + 12 * r) file) i 0 h ∙ get_or-drop (512 * b + 8 + 12 * r) file i 0 ∙ ap (λ m. get_or file m 0) e

-- the code and the statement in the bytes of a record
pub code_is : (file : List ℕ) (b r : ℕ) → big4 (record_of file b r) 6 ≡ code_of file b r
code_is file b r =
    let e0 = in_record file b r 6 (512 * b + 14 + 12 * r) (omega arith) (omega arith) in
    let e1 = in_record file b r 7 (512 * b + 14 + 12 * r + 1) (omega arith) (omega arith) in
    let e2 = in_record file b r 8 (512 * b + 14 + 12 * r + 2) (omega arith) (omega arith) in
    let e3 = in_record file b r 9 (512 * b + 14 + 12 * r + 3) (omega arith) (omega arith) in
    cc

-- all bytes of a part are 0
pub zeros : (xs : List ℕ) (i j : ℕ) → j ≤ length xs → All (λ x. x ≡ 0) (take (j - i) (drop i xs)) ↔ Zeros xs i j
zeros xs i j l =
    let part = take (j - i) (drop i xs) in
    let at : (k : ℕ) → k < j - i → get_or part k 0 ≡ get_or xs (i + k) 0 = λ k h. get_or-take (j - i) (drop i xs) k 0 h ∙ get_or-drop i xs k 0 in
    let long : length part ≡ j - i = omega (arith, length-take (j - i) (drop i xs), length-drop i xs) in (
      λ all k h m.
          let e : i + (k - i) ≡ k = omega arith in
          ap (λ n. get_or xs n 0) (sym e) ∙ sym (at (k - i) (omega arith)) ∙ All-get_or (λ x. x ≡ 0) part (k - i) 0 (omega (arith, long)) all,
      λ z. All-from_get_or (λ x. x ≡ 0) part 0 (λ k h. at k (omega (arith, long)) ∙ z (i + k) (omega arith) (omega (arith, long))),
    )

nth_of : (n r : ℕ) → r < n → get_or (range_with_len 0 n) r 0 ≡ r
nth_of n r lt = get_or-range_with_len 0 n r 0 lt ∙ zero-add r

pub tails_tell : (block : List ℕ) (n : ℕ) (b : Bool) →
    MatchBool b (AllWithin (Tail block) (range_with_len 0 n) 0 (length (range_with_len 0 n))) ((k : ℕ) × (k < length (range_with_len 0 n)) × HoldsAt (λ r. Tail block r → ⊥) (range_with_len 0 n) k) →
    Tells b (Tails block n)
tails_tell block n true h = λ r lt. subst (Tail block) (nth_of n r lt) (h r 0 (omega arith) (omega (arith, length-range_with_len 0 n)))
tails_tell block n false h = λ all.
    let lt : h.0 < n = omega (arith, length-range_with_len 0 n, h.1) in
    h.2 0 (subst (Tail block) (sym (nth_of n h.0 lt)) (all h.0 lt))
