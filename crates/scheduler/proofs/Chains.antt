-- What the deadline rules say by recursion over the waiting tickets, in the words in which a chain of iterators is proved.
use Rattle.std.proofs.Common.{◌≡◌, ℕ, ◌+◌, suc, ◌*◌, ◌^◌, ◌<◌, ◌≤◌, min, Bool, true, false, cond, not, ◌&&◌, ◌||◌, List, [], ◌∷◌, ◌++◌, map, length, drop, sum, fold, zero-add, sym, refl, ap, ◌∙◌, arith}
use Rattle.std.specs.List.{enumerate_from, list_all, filter, prefix_len, take_while}
use Rattle.std.proofs.lemmas.List.Sums.{sum_by-cons, take_while-cons}
use Rattle.std.proofs.Math.Seq.{take-append_seam}
use Rattle.std.proofs.lemmas.List.{length_push, append_assoc}
use Rattle.std.proofs.lemmas.List.Folds.{list_any-append}
use Rattle.std.proofs.lemmas.Bool.{or_parts, ltb-false}
use Rattle.device.specs.Meaning.{is_flush}
use Rattle.device.specs.Sound.{most_sectors, most_tickets}
use Rattle.deadline.specs.declared.dispatch.Queued.{Queued}
use Rattle.deadline.specs.Waiting.{any, is_in, before_flushes, unhindered, lowest_sector, sectors}
use Rattle.deadline.specs.Joining.{has_flush, past_flushes}
use Rattle.scheduler.specs.Bounds.{beyond, Bounded}
use Rattle.scheduler.specs.Passes.{outside, no_flush, hinders, unhindered_at}

pub lowest_sector_is : (r s : ℕ) (ws : List Queued) → fold min s (map (λ x. x.first) (filter (is_in r) ws)) ≡ lowest_sector r s ws
lowest_sector_is r s [] = refl
lowest_sector_is r s (x ∷ xs) =
    elim (is_in r x) as (λ b. fold min s (map (λ x. x.first) (cond b (x ∷ filter (is_in r) xs) (filter (is_in r) xs))) ≡ lowest_sector r (cond b (min s x.first) s) xs) [
      | true ↦ lowest_sector_is r (min s x.first) xs
      | false ↦ lowest_sector_is r s xs
    ]

pub sectors_is : (r : ℕ) (ws : List Queued) → sum (map (λ x. x.count) (filter (is_in r) ws)) ≡ sectors r ws
sectors_is r [] = refl
sectors_is r (x ∷ xs) =
    elim (is_in r x) as (λ b. sum (map (λ x. x.count) (cond b (x ∷ filter (is_in r) xs) (filter (is_in r) xs))) ≡ cond b x.count 0 + sectors r xs) [
      | true ↦ sum_by-cons (λ n. n) x.count (map (λ x. x.count) (filter (is_in r) xs)) ∙ ap (λ n. x.count + n) (sectors_is r xs)
      | false ↦ sectors_is r xs ∙ sym (zero-add (sectors r xs))
    ]

before_flushes_from : (r : ℕ) (ws : List Queued) → list_all no_flush (take_while (outside r) ws) ≡ before_flushes r ws
before_flushes_from r [] = refl
before_flushes_from r (x ∷ xs) = ap (list_all no_flush) (take_while-cons (outside r) x xs) ∙ go (is_in r x) (before_flushes_from r xs)
  where
    go : (b : Bool) → list_all no_flush (take_while (outside r) xs) ≡ before_flushes r xs →
        list_all no_flush (cond (not b) (x ∷ take_while (outside r) xs) []) ≡ (b || (no_flush x && before_flushes r xs))
    go true ih = refl
    go false ih = ap (λ q. no_flush x && q) ih

-- a run has at most the sectors of a device for each ticket
sectors_per_ticket : (r : ℕ) (ws : List Queued) → any beyond ws ≡ false → sectors r ws ≤ most_sectors * length ws
sectors_per_ticket r [] _ = omega arith
sectors_per_ticket r (x ∷ xs) h =
    let ih = sectors_per_ticket r xs (or_parts (beyond x) (any beyond xs) h).1 in
    let k = ltb-false most_sectors (x.first + x.count) (or_parts (beyond x) (any beyond xs) h).0 in
    elim (is_in r x) as (λ b. cond b x.count 0 + sectors r xs ≤ most_sectors * suc (length xs)) [ true ↦ omega (arith, ih, k) | false ↦ omega (arith, ih) ]

pub sectors_fit : (r : ℕ) (ws : List Queued) → Bounded ws → sectors r ws ≤ most_tickets * most_sectors
sectors_fit r ws b = omega (arith, sectors_per_ticket r ws b.small, b.few)

pub sum_fits : (r : ℕ) (ws : List Queued) → Bounded ws → sum (map (λ x. x.count) (filter (is_in r) ws)) < 2 ^ 32
sum_fits r ws b = omega (arith, sectors_is r ws, sectors_fit r ws b)

-- ── flushes ──

any_no : (xs : List Queued) → list_all no_flush xs ≡ not (has_flush xs)
any_no [] = refl
any_no (x ∷ xs) = elim (is_flush x.kind) as (λ b. (not b && list_all no_flush xs) ≡ not (b || has_flush xs)) [ true ↦ refl | false ↦ any_no xs ]

-- where no flush waits, none is younger than the run
past_none : (r : ℕ) (xs : List Queued) → (not (has_flush xs) && past_flushes r xs) ≡ not (has_flush xs)
past_none r [] = refl
past_none r (x ∷ xs) = go (is_flush x.kind) (has_flush xs) (is_in r x) (past_flushes r xs) (past_none r xs)
  where
    go : (f h i p : Bool) → (not h && p) ≡ not h → (not (f || h) && (not (i && h) && p)) ≡ not (f || h)
    go true h i p e = refl
    go false true i p e = refl
    go false false true p e = e
    go false false false p e = e

one_more : (n : ℕ) → 1 + n ≡ suc n
one_more n = omega arith

past_flushes_from : (r : ℕ) (ws : List Queued) → list_all no_flush (drop 1 (drop (prefix_len (outside r) ws) ws)) ≡ past_flushes r ws
past_flushes_from r [] = refl
past_flushes_from r (x ∷ xs) =
    elim (is_in r x) as (λ b. list_all no_flush (drop 1 (drop (cond (not b) (1 + prefix_len (outside r) xs) 0) (x ∷ xs))) ≡ (not (b && has_flush xs) && past_flushes r xs)) [
      | true ↦ any_no xs ∙ sym (past_none r xs)
      | false ↦ ap (λ n. list_all no_flush (drop 1 (drop n (x ∷ xs)))) (one_more (prefix_len (outside r) xs)) ∙ past_flushes_from r xs
    ]

pub past_flushes_is : (r : ℕ) (ws : List Queued) → past_flushes r ws ≡ list_all no_flush (drop 1 (drop (prefix_len (outside r) ws) ws))
past_flushes_is r ws = sym (past_flushes_from r ws)

-- ── free ──

not_both : (a b : Bool) → (not a || not b) ≡ not (a && b)
not_both true b = refl
not_both false b = refl

or_turned : (a b : Bool) → (a || (b || false)) ≡ (b || a)
or_turned true true = refl
or_turned true false = refl
or_turned false true = refl
or_turned false false = refl

-- where the tickets that were passed are those that are older, in whatever order
unhindered_from : (r : ℕ) (pre xs older : List Queued) → ((p : Queued → Bool) → any p pre ≡ any p older) →
    list_all (unhindered_at r (pre ++ xs)) (enumerate_from (length pre) xs) ≡ unhindered r older xs
unhindered_from r pre [] older e = refl
unhindered_from r pre (x ∷ xs) older e =
    ap (λ b. b && list_all (unhindered_at r (pre ++ (x ∷ xs))) (enumerate_from (length pre + 1) xs)) here ∙
    ap (λ b. not (is_in r x && any (hinders r x) older) && b) (rest (unhindered_from r (pre ++ (x ∷ [])) xs (x ∷ older) more))
  where
    more : (p : Queued → Bool) → any p (pre ++ (x ∷ [])) ≡ any p (x ∷ older)
    more p = list_any-append p pre (x ∷ []) ∙ ap (λ b. b || (p x || false)) (e p) ∙ or_turned (any p older) (p x)

    here : unhindered_at r (pre ++ (x ∷ xs)) (length pre, x) ≡ not (is_in r x && any (hinders r x) older)
    here =
        ap (λ l. outside r x || not (any (hinders r x) l)) (take-append_seam pre (x ∷ xs)) ∙
        ap (λ b. outside r x || not b) (e (hinders r x)) ∙ not_both (is_in r x) (any (hinders r x) older)

    rest : list_all (unhindered_at r ((pre ++ (x ∷ [])) ++ xs)) (enumerate_from (length (pre ++ (x ∷ []))) xs) ≡ unhindered r (x ∷ older) xs →
        list_all (unhindered_at r (pre ++ (x ∷ xs))) (enumerate_from (length pre + 1) xs) ≡ unhindered r (x ∷ older) xs
    rest ih =
        ap (λ n. list_all (unhindered_at r (pre ++ (x ∷ xs))) (enumerate_from n xs)) (sym (length_push pre x)) ∙
        ap (λ l. list_all (unhindered_at r l) (enumerate_from (length (pre ++ (x ∷ []))) xs)) (sym (append_assoc pre (x ∷ []) xs)) ∙ ih

pub unhindered_is : (r : ℕ) (ws : List Queued) → unhindered r [] ws ≡ list_all (unhindered_at r ws) (enumerate_from 0 ws)
unhindered_is r ws = sym (unhindered_from r [] ws [] (λ p. refl))

pub before_flushes_is : (r : ℕ) (ws : List Queued) → before_flushes r ws ≡ list_all no_flush (take_while (outside r) ws)
before_flushes_is r ws = sym (before_flushes_from r ws)
