-- Facts about lists of tickets.
use Rattle.std.proofs.Common.{◌≡◌, ℕ, ◌+◌, ◌≤◌, Bool, true, false, cond, not, ◌||◌, eqb, List, [], ◌∷◌, ◌++◌, Some, None, Option, sym, refl, ap, ◌∙◌, arith}
use Rattle.std.proofs.lemmas.Bool.{eqb-true, eqb-false, ne_eqb, or_parts, or_from, and_from, not_from_false}
use Rattle.device.specs.Meaning.{Ticket}
use Rattle.device.specs.Submit.{tag_is_open}
use Rattle.device.specs.Collect.{found, without}
use Rattle.device.specs.Turns.{waiting, Readied, none, stays, turns, made_ready}
use Rattle.device.specs.Sound.{distinct}

-- no tag twice
abbrev pub Once : List Ticket → Type 0
Once [] = Unit {0}
Once (x ∷ xs) = (tag_is_open x.tag xs ≡ false) × Once xs

pub once_distinct : (ts : List Ticket) → Once ts → distinct ts ≡ true
once_distinct [] h = refl
once_distinct (x ∷ xs) h = and_from (not (tag_is_open x.tag xs)) (distinct xs) (not_from_false (tag_is_open x.tag xs) h.0) (once_distinct xs h.1)

pub eqb_flip : (a b : ℕ) → eqb a b ≡ false → eqb b a ≡ false
eqb_flip a b h = ne_eqb b a (λ e. eqb-false a b h (sym e))

-- a turn keeps the tags
pub open_readied : {ts us : List Ticket} (t : ℕ) → Readied ts us → tag_is_open t us ≡ tag_is_open t ts
open_readied t none = refl
open_readied t (stays {t = x} r) = ap (λ b. eqb t x.tag || b) (open_readied t r)
open_readied t (turns {t = x} e r) = ap (λ b. eqb t x.tag || b) (open_readied t r)

pub once_readied : {ts us : List Ticket} → Readied ts us → Once ts → Once us
once_readied none h = h
once_readied (stays {t = x} r) h = (open_readied x.tag r ∙ h.0, once_readied r h.1)
once_readied (turns {t = x} e r) h = (open_readied x.tag r ∙ h.0, once_readied r h.1)

-- a ticket with this due answer is there
abbrev pub Like : Option Ticket → Ticket → Type 0
Like o y = (x : Ticket) × (o ≡ Some x) × (y.mask ≡ x.mask) × (y.bytes ≡ x.bytes)

pick : (b : Bool) (x x' : Ticket) (o o' : Option Ticket) (y : Ticket) → x'.mask ≡ x.mask → x'.bytes ≡ x.bytes → cond b (Some x') o' ≡ Some y → (o' ≡ Some y → Like o y) → Like (cond b (Some x) o) y
pick true x x' o o' y p q e k = let f : x' ≡ y = cc in (x, refl, ap (λ (z : Ticket). z.mask) (sym f) ∙ p, ap (λ (z : Ticket). z.bytes) (sym f) ∙ q)
pick false x x' o o' y p q e k = k e

pub found_readied : {ts us : List Ticket} (t : ℕ) (y : Ticket) → Readied ts us → found t us ≡ Some y → Like (found t ts) y
found_readied t y none e = (y, e, refl, refl)
found_readied t y (stays {t = x} {ts = ts} {us = us} r) e = pick (eqb t x.tag) x x (found t ts) (found t us) y refl refl e (found_readied t y r)
found_readied t y (turns {t = x} {ts = ts} {us = us} w r) e = pick (eqb t x.tag) x (made_ready x) (found t ts) (found t us) y refl refl e (found_readied t y r)

-- a new ticket at the end
pub open_push : (t : ℕ) (ts : List Ticket) (x : Ticket) → tag_is_open t ts ≡ false → eqb t x.tag ≡ false → tag_is_open t (ts ++ (x ∷ [])) ≡ false
open_push t [] x h e = or_from (eqb t x.tag) false e refl
open_push t (y ∷ ys) x h e = let p = or_parts (eqb t y.tag) (tag_is_open t ys) h in or_from (eqb t y.tag) _ p.0 (open_push t ys x p.1 e)

pub once_push : (ts : List Ticket) (x : Ticket) → Once ts → tag_is_open x.tag ts ≡ false → Once (ts ++ (x ∷ []))
once_push [] x h f = (refl, tt)
once_push (y ∷ ys) x h f = let p = or_parts (eqb x.tag y.tag) (tag_is_open x.tag ys) f in (open_push y.tag ys x h.0 (eqb_flip x.tag y.tag p.0), once_push ys x h.1 p.1)

pub found_push_other : (t : ℕ) (ts : List Ticket) (x : Ticket) → eqb t x.tag ≡ false → found t (ts ++ (x ∷ [])) ≡ found t ts
found_push_other t [] x e = ap (λ b. cond b (Some x) None) e
found_push_other t (y ∷ ys) x e = ap (λ o. cond (eqb t y.tag) (Some y) o) (found_push_other t ys x e)

pub found_push_same : (t : ℕ) (ts : List Ticket) (x : Ticket) → eqb t x.tag ≡ true → tag_is_open t ts ≡ false → found t (ts ++ (x ∷ [])) ≡ Some x
found_push_same t [] x e f = ap (λ b. cond b (Some x) None) e
found_push_same t (y ∷ ys) x e f = let p = or_parts (eqb t y.tag) (tag_is_open t ys) f in ap (λ b. cond b (Some y) (found t (ys ++ (x ∷ [])))) p.0 ∙ found_push_same t ys x e p.1

pub not_found : (t : ℕ) (ts : List Ticket) → tag_is_open t ts ≡ false → found t ts ≡ None
not_found t [] f = refl
not_found t (y ∷ ys) f = let p = or_parts (eqb t y.tag) (tag_is_open t ys) f in ap (λ b. cond b (Some y) (found t ys)) p.0 ∙ not_found t ys p.1

-- a ticket taken away
pub open_without : (t u : ℕ) (ts : List Ticket) → tag_is_open u ts ≡ false → tag_is_open u (without t ts) ≡ false
open_without t u [] f = f
open_without t u (x ∷ xs) f = let p = or_parts (eqb u x.tag) (tag_is_open u xs) f in go (eqb t x.tag) p.0 p.1 (open_without t u xs p.1)
  where
    go : (b : Bool) → eqb u x.tag ≡ false → tag_is_open u xs ≡ false → tag_is_open u (without t xs) ≡ false → tag_is_open u (cond b xs (x ∷ without t xs)) ≡ false
    go true p q h = q
    go false p q h = or_from (eqb u x.tag) _ p h

pub once_without : (t : ℕ) (ts : List Ticket) → Once ts → Once (without t ts)
once_without t [] h = h
once_without t (x ∷ xs) h = go (eqb t x.tag) (once_without t xs h.1)
  where
    go : (b : Bool) → Once (without t xs) → Once (cond b xs (x ∷ without t xs))
    go true k = h.1
    go false k = (open_without t x.tag xs h.0, k)

pub found_without_same : (t : ℕ) (ts : List Ticket) → Once ts → found t (without t ts) ≡ None
found_without_same t [] h = refl
found_without_same t (x ∷ xs) h = go (eqb t x.tag) refl (found_without_same t xs h.1)
  where
    go : (b : Bool) → eqb t x.tag ≡ b → found t (without t xs) ≡ None → found t (cond b xs (x ∷ without t xs)) ≡ None
    go true e k = not_found t xs (ap (λ n. tag_is_open n xs) (eqb-true t x.tag e) ∙ h.0)
    go false e k = ap (λ b. cond b (Some x) (found t (without t xs))) e ∙ k

pub found_without_other : (t u : ℕ) (ts : List Ticket) → eqb t u ≡ false → found t (without u ts) ≡ found t ts
found_without_other t u [] d = refl
found_without_other t u (x ∷ xs) d = go (eqb u x.tag) refl (found_without_other t u xs d)
  where
    go : (b : Bool) → eqb u x.tag ≡ b → found t (without u xs) ≡ found t xs → found t (cond b xs (x ∷ without u xs)) ≡ cond (eqb t x.tag) (Some x) (found t xs)
    go true e k = sym (ap (λ b. cond b (Some x) (found t xs)) (ap (λ n. eqb t n) (sym (eqb-true u x.tag e)) ∙ d))
    go false e k = ap (λ o. cond (eqb t x.tag) (Some x) o) k

pub waiting_without : (t : ℕ) (ts : List Ticket) → waiting (without t ts) ≤ waiting ts
waiting_without t [] = omega arith
waiting_without t (x ∷ xs) = go (eqb t x.tag) (waiting_without t xs)
  where
    go : (b : Bool) → waiting (without t xs) ≤ waiting xs → waiting (cond b xs (x ∷ without t xs)) ≤ cond x.ready 0 1 + waiting xs
    go true h = omega arith
    go false h = omega arith
