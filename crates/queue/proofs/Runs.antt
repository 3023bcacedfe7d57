-- A run of writes is one write, and a read's bytes are a stretch of its run's.
use Rattle.std.proofs.Common.{◌≡◌, ℕ, zero, suc, ◌+◌, ◌-◌, ◌*◌, ◌/◌, ◌%◌, ◌^◌, ◌<◌, ◌≤◌, Bool, true, false, cond, not, ◌&&◌, ◌||◌, List, [], ◌∷◌, ◌++◌, length, take, drop, sym, refl, ap, ◌∙◌, ap₂, add-zero, add_assoc, add-suc, mul_comm, arith, length-append, take_at, drop_at, pow-add}
use mathlib.Core.Path.{fun_ext}
use lib.Arith.{digits_div, digits_mod}
use Rattle.std.proofs.Math.Bool.{or_assoc, or-false, and-or_distrib_right}
use Rattle.std.proofs.lemmas.List.{append-nil, append_assoc}
use Rattle.std.proofs.lemmas.Bool.{not-true, and_parts, or_parts, both_ways}
use Rattle.std.proofs.lemmas.Bool.Decides.{nat_tests}
use Rattle.device.specs.Meaning.{Contents, is_write, covers, part, mask_of, bytes_of, written}
use Rattle.queue.specs.Queue.{Entry, waits, hits, puts, put, overlay, All}
use Rattle.queue.specs.Runs.{Spans, done, back, front, Row, covered, reached, no_bad, Whole}

join_back : (f c n s : ℕ) → (covers f c s || covers (f + c) n s) ≡ covers f (c + n) s
join_back f c n s = grind (arith, nat_tests)

join_front : (f c g n s : ℕ) → g + n ≡ f → (covers f c s || covers g n s) ≡ covers g (c + n) s
join_front f c g n s h = grind (arith, nat_tests)

spans_cover : {es : List Entry} {f c f' c' : ℕ} (s : ℕ) → Spans es f c f' c' → (covers f c s || covered es s) ≡ covers f' c' s
spans_cover {f = f} {c = c} s done = or-false (covers f c s)
spans_cover {f = f} {c = c} s (back {e = e} {es = es} h r) =
    sym (or_assoc (covers f c s) (hits e s) (covered es s))
    ∙ ap (λ b. b || covered es s) (ap (λ x. covers f c s || covers x e.count s) h ∙ join_back f c e.count s)
    ∙ spans_cover s r
spans_cover {f = f} {c = c} s (front {e = e} {es = es} h r) =
    sym (or_assoc (covers f c s) (hits e s) (covered es s))
    ∙ ap (λ b. b || covered es s) (join_front f c e.first e.count s h)
    ∙ spans_cover s r

-- the tickets of a run cover its stretch and nothing else
pub row_cover : (es : List Entry) (f c s : ℕ) → Row es f c → covered es s ≡ covers f c s
row_cover [] f c s h = elim h [ ]
row_cover (e ∷ es) f c s h = spans_cover s h

pub spans_within : {es : List Entry} {f c f' c' : ℕ} → Spans es f c f' c' → (f' ≤ f) × (f + c ≤ f' + c')
spans_within done = omega arith
spans_within (back h r) = let k = spans_within r in omega arith
spans_within (front h r) = let k = spans_within r in omega arith

spans_each : {es : List Entry} {f c f' c' : ℕ} → Spans es f c f' c' → All (λ e. (f' ≤ e.first) × (e.first + e.count ≤ f' + c')) es
spans_each done = tt
spans_each (back h r) = let k = spans_within r in (omega arith, spans_each r)
spans_each (front h r) = let k = spans_within r in (omega arith, spans_each r)

pub row_each : (es : List Entry) (f c : ℕ) → Row es f c → All (λ e. (f ≤ e.first) × (e.first + e.count ≤ f + c)) es
row_each [] f c h = elim h [ ]
row_each (e ∷ es) f c h = (spans_within h, spans_each h)

-- a sector that no waiting write of es reaches
pub unreached : (bad : ℕ → Bool) (es : List Entry) (d : Contents) (s : ℕ) → reached bad es s ≡ false → overlay bad es d s ≡ d s
unreached bad [] d s h = refl
unreached bad (e ∷ es) d s h =
    let p = or_parts (puts bad e s) (reached bad es s) h in
    unreached bad es (put bad e d) s p.1 ∙ ap (λ b. cond b (part e.bytes (s - e.first)) (d s)) p.0

-- where one reaches it, what lay there before does not matter
pub over_any : (bad : ℕ → Bool) (es : List Entry) (d d' : Contents) (s : ℕ) → (reached bad es s ≡ false → d s ≡ d' s) → overlay bad es d s ≡ overlay bad es d' s
over_any bad [] d d' s h = h refl
over_any bad (e ∷ es) d d' s h = over_any bad es (put bad e d) (put bad e d') s (go (puts bad e s) h)
  where
    go : (b : Bool) → ((b || reached bad es s) ≡ false → d s ≡ d' s) → reached bad es s ≡ false →
        cond b (part e.bytes (s - e.first)) (d s) ≡ cond b (part e.bytes (s - e.first)) (d' s)
    go true f z = refl
    go false f z = f z

-- at a good sector it does not matter which others are bad
over_good : (bad : ℕ → Bool) (es : List Entry) (d : Contents) (s : ℕ) → bad s ≡ false → (d' : Contents) → d s ≡ d' s → overlay bad es d s ≡ overlay no_bad es d' s
over_good bad [] d s g d' h = h
over_good bad (e ∷ es) d s g d' h =
    over_good bad es (put bad e d) s g (put no_bad e d')
    (ap₂ (λ b x. cond ((waits e && is_write e.kind) && (hits e s && not b)) (part e.bytes (s - e.first)) x) g h)

reached_is : (bad : ℕ → Bool) (es : List Entry) (s : ℕ) → All (λ e. (waits e && is_write e.kind) ≡ true) es → reached bad es s ≡ (covered es s && not (bad s))
reached_is bad [] s h = refl
reached_is bad (e ∷ es) s h =
    ap₂ ◌||◌ (ap (λ b. b && (hits e s && not (bad s))) h.0) (reached_is bad es s h.1) ∙ sym (and-or_distrib_right (hits e s) (covered es s) (not (bad s)))

-- the run's data, gathered over any bytes, written at once: the waiting writes of the run put on one by one
pub one_write : (bad : ℕ → Bool) (es : List Entry) (f c : ℕ) (gathered : List ℕ) (blank d : Contents) →
    Row es f c → All (λ e. (waits e && is_write e.kind) ≡ true) es →
    ((s : ℕ) → covers f c s ≡ true → part gathered (s - f) ≡ overlay no_bad es blank s) →
    written bad f c gathered d ≡ overlay bad es d
one_write bad es f c gathered blank d row writes g =
    fun_ext (λ s. go s (covers f c s && not (bad s)) refl (reached_is bad es s writes ∙ ap (λ b. b && not (bad s)) (row_cover es f c s row)))
  where
    go : (s : ℕ) (b : Bool) → (covers f c s && not (bad s)) ≡ b → reached bad es s ≡ (covers f c s && not (bad s)) →
        cond b (part gathered (s - f)) (d s) ≡ overlay bad es d s
    go s true e r =
        let p = and_parts (covers f c s) (not (bad s)) e in
        g s p.0 ∙ sym (over_good bad es blank s (not-true (bad s) p.1) blank refl)
        ∙ over_any bad es blank d s (λ z. absurd (both_ways (reached bad es s) z (r ∙ e)))
    go s false e r = sym (unreached bad es d s (r ∙ e))

bytes_add : (d : Contents) (f o n : ℕ) → bytes_of d f (o + n) ≡ bytes_of d f o ++ bytes_of d (f + o) n
bytes_add d f o zero = rw add-zero (sym (append-nil (bytes_of d f o)))
bytes_add d f o (suc n) =
    ap (bytes_of d f) (add-suc o n) ∙ ap₂ ◌++◌ (bytes_add d f o n) (ap d (sym (add_assoc f o n))) ∙ append_assoc (bytes_of d f o) (bytes_of d (f + o) n) (d (f + o + n))

pub bytes_length : (d : Contents) (f c : ℕ) → Whole d f c → length (bytes_of d f c) ≡ c * 128
bytes_length d f zero w = refl
bytes_length d f (suc n) w =
    length-append (bytes_of d f n) (d (f + n))
    ∙ (let a = bytes_length d f n (λ s l h. w s l (omega arith)) in let b = w (f + n) (omega arith) (omega arith) in omega arith)

-- a ticket's bytes are a stretch of its run's
pub stretch : (d : Contents) (f c o n : ℕ) → o + n ≤ c → Whole d f c →
    take (n * 128) (drop (o * 128) (bytes_of d f c)) ≡ bytes_of d (f + o) n
stretch d f c o n h w =
    rw (drop_all) (take_at (bytes_of d (f + o) n) (bytes_of d (f + o + n) (c - (o + n))) (n * 128) (bytes_length d (f + o) n (λ s a b. w s (omega arith) (omega arith))))
  where
    whole : bytes_of d f c ≡ bytes_of d f o ++ (bytes_of d (f + o) n ++ bytes_of d (f + o + n) (c - (o + n)))
    whole =
        ap (bytes_of d f) {x = c} {y = o + (n + (c - (o + n)))} (omega arith) ∙ bytes_add d f o (n + (c - (o + n)))
        ∙ ap (λ x. bytes_of d f o ++ x) (bytes_add d (f + o) n (c - (o + n)))

    drop_all : drop (o * 128) (bytes_of d f c) ≡ bytes_of d (f + o) n ++ bytes_of d (f + o + n) (c - (o + n))
    drop_all = rw whole (drop_at (bytes_of d f o) _ (o * 128) (bytes_length d f o (λ s a b. w s a (omega arith))))

pub mask_small : (bad : ℕ → Bool) (f n : ℕ) → mask_of bad f n < 2 ^ n
mask_small bad f zero = omega arith
mask_small bad f (suc n) = go (bad (f + n)) (mask_small bad f n)
  where
    go : (b : Bool) → mask_of bad f n < 2 ^ n → mask_of bad f n + cond b (2 ^ n) 0 < 2 ^ suc n
    go true h = omega arith
    go false h = omega arith

mask_add : (bad : ℕ → Bool) (f o n : ℕ) → mask_of bad f (o + n) ≡ mask_of bad (f + o) n * 2 ^ o + mask_of bad f o
mask_add bad f o zero = rw add-zero (omega arith)
mask_add bad f o (suc n) = ap (mask_of bad f) (add-suc o n) ∙ go (mask_add bad f o n)
  where
    at : (b : Bool) (x y p q z : ℕ) → x ≡ y * q + z → x + cond b (p * q) 0 ≡ (y + cond b p 0) * q + z
    at true x y p q z h = omega arith
    at false x y p q z h = omega arith

    powers : 2 ^ (o + n) ≡ 2 ^ n * 2 ^ o
    powers = pow-add 2 o n ∙ mul_comm (2 ^ o) (2 ^ n)

    go : mask_of bad f (o + n) ≡ mask_of bad (f + o) n * 2 ^ o + mask_of bad f o →
        mask_of bad f (o + n) + cond (bad (f + (o + n))) (2 ^ (o + n)) 0 ≡ (mask_of bad (f + o) n + cond (bad (f + o + n)) (2 ^ n) 0) * 2 ^ o + mask_of bad f o
    go ih =
        ap₂ (λ b p. mask_of bad f (o + n) + cond b p 0) (ap bad (sym (add_assoc f o n))) powers
        ∙ at (bad (f + o + n)) (mask_of bad f (o + n)) (mask_of bad (f + o) n) (2 ^ n) (2 ^ o) (mask_of bad f o) ih

-- a ticket's mask is a stretch of its run's
pub mask_stretch : (bad : ℕ → Bool) (f c o n : ℕ) → o + n ≤ c → mask_of bad f c / 2 ^ o % 2 ^ n ≡ mask_of bad (f + o) n
mask_stretch bad f c o n h =
    ap (λ x. x / 2 ^ o % 2 ^ n) (ap (mask_of bad f) {x = c} {y = o + (n + (c - (o + n)))} (omega arith) ∙ mask_add bad f o (n + (c - (o + n))))
    ∙ ap (λ x. x % 2 ^ n) (digits_div (mask_of bad (f + o) (n + (c - (o + n)))) (mask_small bad f o))
    ∙ ap (λ x. x % 2 ^ n) (mask_add bad (f + o) n (c - (o + n)))
    ∙ digits_mod (mask_of bad (f + o + n) (c - (o + n))) (mask_small bad (f + o) n)
