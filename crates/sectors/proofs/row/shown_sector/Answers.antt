use Rattle.std.proofs.Common.{sym, ap, ◌∙◌, arith, ℕ, List, ◌≡◌, ◌<◌, ◌-◌, ◌*◌, ◌^◌, min, length, take, drop, ⊎_elim}
use Rattle.std.proofs.lemmas.List.{take_all, take_min, drop_all, length-drop}
use Rattle.std.proofs.lemmas.Bool.{cond-true, cond-false, cases_order}
use Rattle.device.specs.Meaning.{zeros, part}
use Rattle.sectors.specs.Memory.{listed}
use Rattle.sectors.proofs.row.shown_sector.Goals as goal

-- past the end nothing is left, wherever one begins
dropped : (xs : List ℕ) (n m : ℕ) → length xs < 2 ^ 64 → m ≡ min (min n 18446744073709551615) (length xs) → drop m xs ≡ drop n xs
dropped xs n m lt e =
    ⊎_elim
    (λ h. ap (λ k. drop k xs) (omega arith))
    (⊎_elim
    (λ h. ap (λ k. drop k xs) (omega arith))
    (λ h. drop_all m xs (omega arith) ∙ sym (drop_all n xs (omega arith))))
    (cases_order n (length xs))

pub returns-then-is_named : goal.returns-then-is_named
unfolding zeros
returns-then-is_named c =
    sym (cond-true (listed c.args.sector c.args.named.now) zeros (part c.args.memory.now c.args.sector) (sym c.if-is_named.ensures))

pub returns : goal.returns
returns c =
    let xs = c.args.memory.now in
    let m = c.min-from.result in
    let rest : take (length xs - m) (drop m xs) ≡ drop (c.args.sector * 128) xs =
    take_all (length xs - m) (drop m xs) (omega (arith, length-drop m xs)) ∙ dropped xs (c.args.sector * 128) m (omega arith) (c.min-from.ensures ∙ ap (λ k. min k (length xs)) c.saturating_mul.ensures) in
    ap (λ k. take k (take (length xs - m) (drop m xs))) c.min.ensures
    ∙ (take_min 128 (take (length xs - m) (drop m xs))
    ∙ (ap (take 128) rest
    ∙ sym (cond-false (listed c.args.sector c.args.named.now) zeros (part xs c.args.sector) (sym c.if-is_named.ensures))))
