use Rattle.std.proofs.Common.{◌≡◌, ℕ, zero, suc, ◌+◌, ◌*◌, ◌%◌, ◌^◌, ◌<◌, ◌≤◌, Bool, true, false, cond, List, map, sum, sym, refl, ap, ◌∙◌, zero-add, zero-mul, add-one, one-mul, mod-eq_of_lt, arith, rules}
use native.Mathlib.Nat.{two-pow-succ}
use Rattle.std.proofs.Math.Nat.{pow-le-pow_right}
use Rattle.std.proofs.lemmas.Nat.{pow_below}
use Rattle.std.proofs.lemmas.List.FromFn.{sum_by-map-range_with_len_more}
use Rattle.std.proofs.lemmas.Iterator.{YieldsList-from_map, YieldsList-from_range}
use Rattle.std.proofs.lemmas.Iterator.Consumers.{sum_from_yields_List, fits_from_yields_list}
use Rattle.std.specs.Int.{from_bool}
use Rattle.std.specs.List.{range_with_len}
use Rattle.device.specs.Meaning.{mask_of}
use Rattle.sectors.specs.Memory.{listed, names}
use Rattle.sectors.proofs.named.mask.Goals as goal

-- what the closure gives of a sector of the run
abbrev bit : List ℕ → ℕ → ℕ → ℕ
bit named first i = (from_bool (listed (first + i) named) * 2 ^ i) % 256

bit_is : (b : Bool) (i : ℕ) → i < 8 → (from_bool b * 2 ^ i) % 256 ≡ cond b (2 ^ i) 0
bit_is true i lt = ap (λ x. x % 256) (one-mul (2 ^ i)) ∙ mod-eq_of_lt (pow_below i 8 lt)
bit_is false i lt = ap (λ x. x % 256) (zero-mul (2 ^ i))

-- a mask of n sectors is below the n-th power
below : (bad : ℕ → Bool) (first n : ℕ) → mask_of bad first n < 2 ^ n
below bad first zero = omega arith
below bad first (suc n) =
    let h = below bad first n in
    let p = two-pow-succ n in
    let c : cond (bad (first + n)) (2 ^ n) 0 ≤ 2 ^ n = elim (bad (first + n)) as (λ b. cond b (2 ^ n) 0 ≤ 2 ^ n) [ true ↦ omega arith | false ↦ omega arith ] in
    omega (arith, h, p, c)

bits : (named : List ℕ) (first n : ℕ) → n ≤ 8 → sum (map (bit named first) (range_with_len 0 n)) ≡ mask_of (names named) first n
bits named first zero le = refl
bits named first (suc n) le =
    let h = bits named first n (omega arith) in
    ap (λ k. sum (map (bit named first) (range_with_len 0 k))) (sym (add-one n))
    ∙ (sum_by-map-range_with_len_more (λ x. x) (bit named first) 0 n n (zero-add n)
    ∙ (ap (λ m. m + bit named first n) h ∙ ap (λ x. mask_of (names named) first n + x) (bit_is (listed (first + n) named) n (omega arith))))

pub sum-requires-clause-fits : goal.sum-requires-clause-fits
sum-requires-clause-fits c =
    let named = c.args.named.now in
    let n = c.min.result in
    let all = bits named c.args.first n (omega arith) in
    let less = below (names named) c.args.first n in
    let most = pow-le-pow_right {n = 2} (omega arith) {i = n} {j = 8} (omega arith) in
    fits_from_yields_list c.map.result 256
    (YieldsList-from_map _ (bit named c.args.first) (YieldsList-from_range 0 n n c.map.ensures.source (omega arith)) c.map.ensures.closure (λ x r q k. search rules))
    (omega (arith, all, less, most))

pub returns : goal.returns
returns c =
    let named = c.args.named.now in
    let n = c.min.result in
    sum_from_yields_List c.map.result _ c.sum.ensures.ran
    (YieldsList-from_map _ (bit named c.args.first) (YieldsList-from_range 0 n n c.map.ensures.source (omega arith)) c.map.ensures.closure (λ x r q k. search rules))
    ∙ (bits named c.args.first n (omega arith) ∙ ap (mask_of (names named) c.args.first) c.min.ensures)
