-- The data of a run, put into one buffer ticket by ticket.
use Rattle.std.proofs.Common.{◌≡◌, ℕ, ◌+◌, ◌-◌, ◌*◌, ◌<◌, ◌≤◌, true, cond, ◌&&◌, ltb, leb, ◌⊎◌, List, [], ◌∷◌, ◌++◌, length, take, drop, sym, refl, ap, ◌∙◌, subst, ap₂, inl, inr, arith, length-append, length-drop, take-append-drop, length-take-le}
use lib.Seq.{take-append-le, drop-append-le, drop-append-add}
use Rattle.std.proofs.lemmas.Bool.{cases_lt, le-leb, lt-leb, lt-ltb, le-ltb, and_from, and_left, and_right}
use Rattle.std.proofs.Math.Bool.{and-true}
use Rattle.std.proofs.lemmas.Bool.Decides.{nat_tests}
use Rattle.device.specs.Meaning.{is_write, covers, part}
use Rattle.queue.specs.Queue.{Entry, waits, hits, puts, put, overlay, All}
use Rattle.queue.specs.Runs.{no_bad, pasted, gathered}
use Rattle.queue.proofs.Runs.{over_any}

pub part_left : (p q : List ℕ) (i : ℕ) → i * 128 + 128 ≤ length p → part (p ++ q) i ≡ part p i
part_left p q i h =
    ap (take 128) (drop-append-le (i * 128) p q (omega arith))
    ∙ take-append-le 128 (drop (i * 128) p) q (simp length-drop (omega arith))

part_right : (p q : List ℕ) (m i : ℕ) → length p ≡ m * 128 → m ≤ i → part (p ++ q) i ≡ part q (i - m)
part_right p q m i h k =
    ap (take 128) (ap (λ n. drop n (p ++ q)) {x = i * 128} {y = length p + (i - m) * 128} (omega arith) ∙ drop-append-add p q ((i - m) * 128))

-- putting whole sectors in is writing them
part_pasted : (buffer bytes : List ℕ) (o n i : ℕ) → length bytes ≡ n * 128 → o * 128 + n * 128 ≤ length buffer →
    part (pasted buffer (o * 128) bytes) i ≡ cond (covers o n i) (part bytes (i - o)) (part buffer i)
part_pasted buffer bytes o n i lb fit = go (cases_lt i o) (cases_lt i (o + n))
  where
    front : length (take (o * 128) buffer) ≡ o * 128
    front = length-take-le (o * 128) buffer (omega arith)

    tail : List ℕ
    tail = drop (o * 128 + length bytes) buffer

    both : length (take (o * 128) buffer ++ bytes) ≡ (o + n) * 128
    both = length-append (take (o * 128) buffer) bytes ∙ omega (arith, front)

    start : length (take (o * 128 + length bytes) buffer) ≡ (o + n) * 128
    start = length-take-le (o * 128 + length bytes) buffer (omega arith) ∙ omega arith

    go : (i < o) ⊎ (o ≤ i) → (i < o + n) ⊎ (o + n ≤ i) → part (pasted buffer (o * 128) bytes) i ≡ cond (covers o n i) (part bytes (i - o)) (part buffer i)
    go (inl l) r =
        part_left (take (o * 128) buffer) (bytes ++ tail) i (omega (arith, front))
        ∙ sym (part_left (take (o * 128) buffer) (drop (o * 128) buffer) i (omega (arith, front)))
        ∙ ap (λ x. part x i) (take-append-drop (o * 128) buffer)
        ∙ sym (ap (λ b. cond b (part bytes (i - o)) (part buffer i)) (and_left (leb o i) (ltb i (o + n)) (lt-leb o i l)))
    go (inr g) (inl l) =
        part_right (take (o * 128) buffer) (bytes ++ tail) o i front g
        ∙ part_left bytes tail (i - o) (omega arith)
        ∙ sym (ap (λ b. cond b (part bytes (i - o)) (part buffer i)) (and_from (leb o i) (ltb i (o + n)) (le-leb o i g) (lt-ltb i (o + n) l)))
    go (inr g) (inr l) =
        part_right (take (o * 128) buffer) (bytes ++ tail) o i front g
        ∙ part_right bytes tail n (i - o) lb (omega arith)
        ∙ ap (part tail) {x = i - o - n} {y = i - (o + n)} (omega arith)
        ∙ sym (part_right (take (o * 128 + length bytes) buffer) tail (o + n) i start l)
        ∙ ap (λ x. part x i) (take-append-drop (o * 128 + length bytes) buffer)
        ∙ sym (ap (λ b. cond b (part bytes (i - o)) (part buffer i)) (and_right (leb o i) (ltb i (o + n)) (le-ltb i (o + n) l)))

length_pasted : (buffer bytes : List ℕ) (at : ℕ) → at + length bytes ≤ length buffer → length (pasted buffer at bytes) ≡ length buffer
length_pasted buffer bytes at h =
    length-append (take at buffer) (bytes ++ drop (at + length bytes) buffer)
    ∙ (let a = length-take-le at buffer (omega arith) in
    let b = length-append bytes (drop (at + length bytes) buffer) in
    let c = length-drop (at + length bytes) buffer in omega arith)

-- each ticket is a waiting write inside the run, with its data
abbrev pub WholeWrites : (f c : ℕ) → List Entry → Type 0
WholeWrites f c es = All (λ e. ((waits e && is_write e.kind) ≡ true) × (f ≤ e.first) × (e.first + e.count ≤ f + c) × (length e.bytes ≡ e.count * 128)) es

pub gathered_is : (f c : ℕ) (es : List Entry) (buffer : List ℕ) (s : ℕ) → WholeWrites f c es → c * 128 ≤ length buffer → f ≤ s →
    part (gathered f es buffer) (s - f) ≡ overlay no_bad es (λ x. part buffer (x - f)) s
gathered_is f c [] buffer s w l h = refl
gathered_is f c (e ∷ es) buffer s w l h =
    gathered_is f c es (pasted buffer ((e.first - f) * 128) e.bytes) s w.1 (subst (λ n. c * 128 ≤ n) (sym kept) l) h
    ∙ over_any no_bad es (λ x. part (pasted buffer ((e.first - f) * 128) e.bytes) (x - f)) (put no_bad e (λ x. part buffer (x - f))) s
    (λ _. part_pasted buffer e.bytes (e.first - f) e.count (s - f) w.0.3 fit ∙ ap₂ (λ b i. cond b (part e.bytes i) (part buffer (s - f))) test (omega arith))
  where
    fit : (e.first - f) * 128 + e.count * 128 ≤ length buffer
    fit = let a = w.0.1 in let b = w.0.2 in omega arith

    kept : length (pasted buffer ((e.first - f) * 128) e.bytes) ≡ length buffer
    kept = let a = w.0.3 in length_pasted buffer e.bytes ((e.first - f) * 128) (omega (arith, fit))

    shift : (a n t : ℕ) → f ≤ a → f ≤ t → covers (a - f) n (t - f) ≡ covers a n t
    shift a n t x y = grind (arith, nat_tests)

    test : covers (e.first - f) e.count (s - f) ≡ puts no_bad e s
    test =
        shift e.first e.count s w.0.1 h
        ∙ sym (ap (λ b. b && (hits e s && true)) w.0.0 ∙ and-true (hits e s))
