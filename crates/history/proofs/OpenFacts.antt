-- What the questions for the open tickets list, and what that list says.
use Rattle.std.proofs.Common.{◌≡◌, ℕ, zero, suc, ◌+◌, Bool, true, false, cond, not, eqb, List, [], ◌∷◌, map, length, Some, Option, refl, ap, ◌∙◌, arith}
use mathlib.Core.List.{map-map}
use Rattle.std.proofs.lemmas.Bool.{eq-eqb, and_parts, or_parts, not-true}
use Rattle.std.specs.List.{filter_map, cons_option, range_with_len}
use Rattle.device.specs.Meaning.{Ticket}
use Rattle.device.specs.Submit.{tag_is_open}
use Rattle.device.specs.Collect.{found}
use Rattle.device.specs.Questions.{tag_at, state_by, state_as, state_of}
use Rattle.device.specs.Turns.{waiting}
use Rattle.device.specs.Sound.{distinct}
use Rattle.history.specs.declared.call.OpenTicket.{OpenTicket}
use Rattle.history.specs.Promise.{tags}
use Rattle.history.specs.Questions.{open_list, tags_in, is_waiting, waiting_in}
use Rattle.history.proofs.Lists.{eqb_flip}

-- an open ticket by its tag
abbrev named : List Ticket → ℕ → OpenTicket
named ts t = record { tag = t; state = state_of t ts }

-- what is asked from the second place on
shifted : (g : ℕ → Option ℕ) (a b n : ℕ) → b ≡ suc a → filter_map g (range_with_len b n) ≡ filter_map (λ i. g (suc i)) (range_with_len a n)
shifted g a b zero e = refl
shifted g a b (suc n) e = ap (λ k. cons_option (g k) (filter_map g (range_with_len (b + 1) n))) e ∙ ap (cons_option (g (suc a))) (shifted g (a + 1) (b + 1) n (omega arith))

tags_asked : (ts : List Ticket) → filter_map (λ i. tag_at i ts) (range_with_len 0 (length ts)) ≡ tags ts
tags_asked [] = refl
tags_asked (x ∷ xs) = ap (λ l. x.tag ∷ l) (shifted (λ i. tag_at i (x ∷ xs)) 0 1 (length xs) refl ∙ tags_asked xs)

-- a younger ticket's state, past a ticket of another tag
past : (x : Ticket) (ts xs : List Ticket) → tag_is_open x.tag xs ≡ false → map (named (x ∷ ts)) (tags xs) ≡ map (named ts) (tags xs)
past x ts [] h = refl
past x ts (y ∷ ys) h =
    let p = or_parts (eqb x.tag y.tag) (tag_is_open x.tag ys) h in
    let rest = past x ts ys p.1 in
    ap (λ b. record { tag = y.tag; state = state_as (cond b (Some x) (found y.tag ts)) } ∷ map (named (x ∷ ts)) (tags ys)) (eqb_flip x.tag y.tag p.0) ∙ ap (λ l. named ts y.tag ∷ l) rest

states_asked : (ts : List Ticket) → distinct ts ≡ true → map (named ts) (tags ts) ≡ open_list ts
states_asked [] d = refl
states_asked (x ∷ xs) d =
    let a = and_parts (not (tag_is_open x.tag xs)) (distinct xs) d in
    ap (λ b. record { tag = x.tag; state = state_as (cond b (Some x) (found x.tag xs)) } ∷ map (named (x ∷ xs)) (tags xs)) (eq-eqb x.tag x.tag refl)
    ∙ ap (λ l. record { tag = x.tag; state = state_by x.ready } ∷ l) (past x xs xs (not-true (tag_is_open x.tag xs) a.0) ∙ states_asked xs a.1)

-- the tags at each place, and the state of each of these
pub open_asked : (ts : List Ticket) (n : ℕ) → distinct ts ≡ true → n ≡ length ts
    → map (λ t. record { tag = t; state = state_of t ts }) (filter_map (λ i. tag_at i ts) (range_with_len 0 n)) ≡ open_list ts
open_asked ts n d e = ap (λ k. map (named ts) (filter_map (λ i. tag_at i ts) (range_with_len 0 k))) e ∙ ap (map (named ts)) (tags_asked ts) ∙ states_asked ts d

pub tags_open : (ts : List Ticket) → tags_in (open_list ts) ≡ tags ts
tags_open ts = map-map _ _ ts

waits_by : (b : Bool) → is_waiting (state_by b) ≡ cond b 0 1
waits_by true = refl
waits_by false = refl

pub waiting_open : (ts : List Ticket) → waiting_in (open_list ts) ≡ waiting ts
waiting_open [] = refl
waiting_open (x ∷ xs) = ap (λ n. n + waiting_in (open_list xs)) (waits_by x.ready) ∙ ap (λ n. cond {A = ℕ} x.ready 0 1 + n) (waiting_open xs)
