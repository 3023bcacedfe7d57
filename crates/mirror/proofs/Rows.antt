-- Rows of sectors.
use Rattle.std.proofs.Common.{◌≡◌, ℕ, zero, suc, ◌+◌, ◌-◌, ◌*◌, ◌<◌, ◌≤◌, Bool, true, false, cond, List, ◌++◌, length, get_or, take, drop, sym, ap, ◌∙◌, ap₂, refl, ⊎_elim, add-one, arith}
use borrow.Rule.Slice.PartMut.{put_mid}
use Rattle.std.specs.Simd.{first_chunks}
use Rattle.std.proofs.lemmas.List.{length-append, length-drop, take_at, drop_at, drop-drop, append_assoc, take-append-le, drop-append-le, take-append-drop, take_all}
use Rattle.std.proofs.lemmas.Bool.{cases_lt}
use Rattle.device.specs.Meaning.{Contents, bytes_of, part}
use Rattle.mirror.specs.Means.{picked, either}
use Rattle.mirror.specs.SoundFacts.{length_picked}

pub picked_same : (p q : ℕ → Bool) (n : ℕ) (xs ys : List ℕ) → ((i : ℕ) → i < n → p i ≡ q i) → picked p n xs ys ≡ picked q n xs ys
picked_same p q zero xs ys h = refl
picked_same p q (suc n) xs ys h =
    ap₂ (λ r b. r ++ cond b (part ys n) (part xs n)) (picked_same p q n xs ys (λ i lt. h i (omega arith))) (h n (omega arith))

part_front : (xs r : List ℕ) (i : ℕ) → (i + 1) * 128 ≤ length xs → part (xs ++ r) i ≡ part xs i
part_front xs r i le =
    ap (take 128) (drop-append-le (i * 128) xs r (omega arith))
    ∙ take-append-le 128 (drop (i * 128) xs) r (simp length-drop (omega arith))

-- what follows the run's bytes does not matter
pub picked_front : (p : ℕ → Bool) (n : ℕ) (xs ys r s : List ℕ) → n * 128 ≤ length xs → n * 128 ≤ length ys → picked p n (xs ++ r) (ys ++ s) ≡ picked p n xs ys
picked_front p zero xs ys r s a b = refl
picked_front p (suc n) xs ys r s a b =
    let rest = picked_front p n xs ys r s (omega arith) (omega arith) in
    let left = part_front xs r n (omega arith) in
    let right = part_front ys s n (omega arith) in
    cc

length_bytes : (disk : Contents) (first n : ℕ) → ((s : ℕ) → s < first + n → length (disk s) ≡ 128) → length (bytes_of disk first n) ≡ n * 128
length_bytes disk first zero h = refl
length_bytes disk first (suc n) h =
    let one = h (first + n) (omega arith) in
    let rest = length_bytes disk first n (λ s lt. h s (omega arith)) in
    simp length-append (omega arith)

-- the part of a run's bytes that a sector has
part_bytes : (disk : Contents) (first n i : ℕ) → ((s : ℕ) → s < first + n → length (disk s) ≡ 128) → i < n → part (bytes_of disk first n) i ≡ disk (first + i)
part_bytes disk first zero i h lt = absurd (omega arith)
part_bytes disk first (suc n) i h lt =
    let rest = length_bytes disk first n (λ s l. h s (omega arith)) in
    let here = h (first + n) (omega arith) in
    let whole : take 128 (disk (first + n)) ≡ disk (first + n) = take_all 128 (disk (first + n)) (omega arith) in
    ⊎_elim
    (λ l. part_front (bytes_of disk first n) (disk (first + n)) i (omega arith) ∙ part_bytes disk first n i (λ s m. h s (omega arith)) l)
    (λ g.
    let e : i ≡ n = omega arith in
    rw e (ap (take 128) (drop_at (bytes_of disk first n) (disk (first + n)) (n * 128) rest) ∙ whole))
    (cases_lt i n)

-- the bytes of a run on both sides give those of the mirror
pub picked_bytes : (p : ℕ → Bool) (x y : Contents) (first count n : ℕ) → ((s : ℕ) → s < first + count → length (x s) ≡ 128) → ((s : ℕ) → s < first + count → length (y s) ≡ 128) → n ≤ count
    → picked (λ i. p (first + i)) n (bytes_of x first count) (bytes_of y first count) ≡ bytes_of (either p x y) first n
picked_bytes p x y first count zero a b le = refl
picked_bytes p x y first count (suc n) a b le =
    let rest = picked_bytes p x y first count n a b (omega arith) in
    let left = part_bytes x first count n a (omega arith) in
    let right = part_bytes y first count n b (omega arith) in
    cc

-- the i-th of the first sectors
pub chunk_part : (k i : ℕ) (bytes d : List ℕ) → i < k → get_or (first_chunks 128 k bytes) i d ≡ part bytes i
chunk_part zero i bytes d lt = absurd (omega arith)
chunk_part (suc k) zero bytes d lt = refl
chunk_part (suc k) (suc i) bytes d lt =
    let far : 128 + i * 128 ≡ suc i * 128 = omega arith in
    chunk_part k i (drop 128 bytes) d (omega arith) ∙ ap (take 128) (drop-drop (i * 128) 128 bytes ∙ ap (λ w. drop w bytes) far)

-- A step of the loop that patches: the sector is the other side's, or stays
module _ (p : ℕ → Bool) (i : ℕ) (start other buffer : List ℕ) (a : (i + 1) * 128 ≤ length start) (b : (i + 1) * 128 ≤ length other)
    (inv : buffer ≡ picked p i start other ++ drop (i * 128) start) where
  abbrev front : List ℕ
  front = picked p i start other

  length_front : length front ≡ i * 128
  length_front = length_picked p i start other (omega arith) (omega arith)

  rest_more : drop 128 (drop (i * 128) start) ≡ drop (suc i * 128) start
  rest_more = let far : i * 128 + 128 ≡ suc i * 128 = omega arith in drop-drop 128 (i * 128) start ∙ ap (λ w. drop w start) far

  pub patch_set : (x : List ℕ) → true ≡ p i → x ≡ part other i
      → put_mid (i * 128) ((i * 128 + 128) - i * 128) buffer x ≡ picked p (i + 1) start other ++ drop ((i + 1) * 128) start
  patch_set x t e =
      let f : take (i * 128) buffer ≡ front = rw inv (take_at front (drop (i * 128) start) (i * 128) length_front) in
      let r : drop (i * 128) buffer ≡ drop (i * 128) start = rw inv (drop_at front (drop (i * 128) start) (i * 128) length_front) in
      let w : (i * 128 + 128) - i * 128 ≡ 128 = omega arith in
      rw (add-one, f, r, w, e, ← t, rest_more) (sym (append_assoc front (part other i) (drop (suc i * 128) start)))

  pub patch_left : false ≡ p i → buffer ≡ picked p (i + 1) start other ++ drop ((i + 1) * 128) start
  patch_left t =
      let split : part start i ++ drop (suc i * 128) start ≡ drop (i * 128) start
      = ap (λ r. part start i ++ r) (sym rest_more) ∙ take-append-drop 128 (drop (i * 128) start) in
      rw (add-one, inv, ← t) (ap (λ r. front ++ r) (sym split) ∙ sym (append_assoc front (part start i) (drop (suc i * 128) start)))
