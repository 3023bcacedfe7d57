-- Masks, bit by bit.
use Rattle.std.proofs.Common.{◌≡◌, ℕ, zero, suc, ◌+◌, ◌-◌, ◌*◌, ◌^◌, ◌<◌, ◌≤◌, min, Bool, true, false, cond, ◌&&◌, eqb, bit_and, sym, refl, ap, ◌∙◌, ap₂, ⊎_elim, arith}
use Rattle.std.specs.Int.{bit_at}
use native.Mathlib.Nat.{two-pow-succ}
use Rattle.std.proofs.lemmas.Nat.Bits.{bit_at_and, bit_at_above, bit_at_cat_low, bit_at_cat_high, same_from_bits}
use Rattle.std.proofs.lemmas.Bool.{cases_lt}
use Rattle.device.specs.Meaning.{mask_of}
use Rattle.mirror.specs.Means.{bit, both}

abbrev one_bit : Bool → ℕ
one_bit b = cond b 1 0

one_bit_low : (b : Bool) → bit_at (one_bit b) 0 ≡ one_bit b
one_bit_low true = refl
one_bit_low false = refl

one_bit_and : (b c : Bool) → min (one_bit b) (one_bit c) ≡ one_bit (b && c)
one_bit_and true true = refl
one_bit_and true false = refl
one_bit_and false true = refl
one_bit_and false false = refl

-- a mask by its highest bit
mask_high : (bad : ℕ → Bool) (first n : ℕ) → mask_of bad first (suc n) ≡ one_bit (bad (first + n)) * 2 ^ n + mask_of bad first n
mask_high bad first n = by_bit (bad (first + n)) (mask_of bad first n)
  where
    by_bit : (b : Bool) (m : ℕ) → m + cond b (2 ^ n) 0 ≡ one_bit b * 2 ^ n + m
    by_bit true m = omega arith
    by_bit false m = omega arith

mask_small : (bad : ℕ → Bool) (first n : ℕ) → mask_of bad first n < 2 ^ n
mask_small bad first zero = omega arith
mask_small bad first (suc n) = next (mask_of bad first n) (bad (first + n)) (mask_small bad first n)
  where
    next : (m : ℕ) (b : Bool) → m < 2 ^ n → m + cond b (2 ^ n) 0 < 2 ^ suc n
    next m true lt = omega (arith, two-pow-succ n)
    next m false lt = omega (arith, two-pow-succ n)

-- bit i of a mask tells whether sector i of the run is bad
mask_at : (bad : ℕ → Bool) (first n i : ℕ) → i < n → bit_at (mask_of bad first n) i ≡ one_bit (bad (first + i))
mask_at bad first zero i lt = absurd (omega arith)
mask_at bad first (suc n) i lt =
    ap (λ m. bit_at m i) (mask_high bad first n)
    ∙ ⊎_elim
    (λ l. bit_at_cat_low (one_bit (bad (first + n))) n (mask_of bad first n) i l ∙ mask_at bad first n i l)
    (λ g.
    let e : i ≡ n = omega arith in
    let z : i - n ≡ 0 = omega arith in
    bit_at_cat_high (one_bit (bad (first + n))) n (mask_of bad first n) i (mask_small bad first n) g
    ∙ (ap (bit_at (one_bit (bad (first + n)))) z ∙ (one_bit_low (bad (first + n)) ∙ ap (λ j. one_bit (bad (first + j))) (sym e))))
    (cases_lt i n)

pub mask_bit : (bad : ℕ → Bool) (first n i : ℕ) → i < n → bit (mask_of bad first n) i ≡ bad (first + i)
mask_bit bad first n i lt = ap (λ x. eqb x 1) (mask_at bad first n i lt) ∙ test (bad (first + i))
  where
    test : (b : Bool) → eqb (one_bit b) 1 ≡ b
    test true = refl
    test false = refl

-- the and of two masks
pub mask_both : (p q : ℕ → Bool) (first n : ℕ) → bit_and (mask_of p first n) (mask_of q first n) ≡ mask_of (both p q) first n
mask_both p q first n =
    same_from_bits _ _ λ i.
    bit_at_and (mask_of p first n) (mask_of q first n) i
    ∙ ⊎_elim
    (λ l. ap₂ min (mask_at p first n i l) (mask_at q first n i l) ∙ (one_bit_and (p (first + i)) (q (first + i)) ∙ sym (mask_at (both p q) first n i l)))
    (λ g. ap₂ min (above p i g) (above q i g) ∙ sym (above (both p q) i g))
    (cases_lt i n)
  where
    above : (bad : ℕ → Bool) (i : ℕ) → n ≤ i → bit_at (mask_of bad first n) i ≡ 0
    above bad i g = bit_at_above (mask_of bad first n) n i (mask_small bad first n) g
