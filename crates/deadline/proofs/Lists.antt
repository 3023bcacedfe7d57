-- Laws of `any` and `those`, and what a turn and a submit keep of the waiting list.
use Rattle.std.proofs.Common.{◌≡◌, ℕ, Bool, true, false, cond, not, eqb, ◌⊎◌, List, [], ◌∷◌, ◌++◌, sym, refl, ◌∙◌, inl, inr}
use Rattle.std.proofs.lemmas.Bool.{true≢false, both_ways, or_cases, or_parts, or_from, or_left, or_right, not_from_false, cases_Bool}
use Rattle.std.proofs.lemmas.List.Folds.{list_any-append}
use Rattle.std.proofs.lemmas.Map.Views.{any-filter_same}
use Rattle.deadline.specs.Waiting.{Queued, is_in, any}
use Rattle.deadline.specs.Turn.{without}
use Rattle.deadline.specs.Laws.{In}
use Rattle.deadline.proofs.Members.{in_those}

-- ── `any` over a list from which a run is taken out ──

-- what none of a list is, none of what is left is
pub any_without : (p : Queued → Bool) (r : ℕ) (ws : List Queued) → any p ws ≡ false → any p (without r ws) ≡ false
any_without p r [] h = refl
any_without p r (x ∷ xs) h =
    elim (eqb x.head r) as (λ b. any p (cond (not b) (x ∷ without r xs) (without r xs)) ≡ false) [
      | true ↦ any_without p r xs (or_parts (p x) (any p xs) h).1
      | false ↦ or_from (p x) (any p (without r xs)) (or_parts (p x) (any p xs) h).0 (any_without p r xs (or_parts (p x) (any p xs) h).1)
    ]

pub any_within : (p : Queued → Bool) (r : ℕ) (ws : List Queued) → any p (without r ws) ≡ true → any p ws ≡ true
any_within p r ws h = elim (cases_Bool (any p ws)) [
  | inl e ↦ e
  | inr e ↦ absurd (both_ways (any p (without r ws)) (any_without p r ws e) h)
]

-- what is outside the run stays
pub any_stays : (p : Queued → Bool) (r : ℕ) (ws : List Queued) → ((x : Queued) → p x ≡ true → eqb x.head r ≡ false) →
    any p ws ≡ true → any p (without r ws) ≡ true
any_stays p r ws out h = any-filter_same p (λ x. not (is_in r x)) true (λ x t. not_from_false (is_in r x) (out x t)) ws ∙ h

-- ── a list put on another in reverse: the tickets older than the next one, youngest first ──

abbrev pub onto : List Queued → List Queued → List Queued
onto [] o = o
onto (x ∷ xs) o = onto xs (x ∷ o)

pub any_onto_false : (p : Queued → Bool) (ws o : List Queued) → any p ws ≡ false → any p o ≡ false → any p (onto ws o) ≡ false
any_onto_false p [] o h k = k
any_onto_false p (x ∷ xs) o h k =
    any_onto_false p xs (x ∷ o) (or_parts (p x) (any p xs) h).1 (or_from (p x) (any p o) (or_parts (p x) (any p xs) h).0 k)

pub any_onto_old : (p : Queued → Bool) (ws o : List Queued) → any p o ≡ true → any p (onto ws o) ≡ true
any_onto_old p [] o k = k
any_onto_old p (x ∷ xs) o k = any_onto_old p xs (x ∷ o) (or_right (p x) (any p o) k)

pub any_onto : (p : Queued → Bool) (ws o : List Queued) → any p ws ≡ true → any p (onto ws o) ≡ true
any_onto p [] o h = absurd (true≢false (sym h))
any_onto p (x ∷ xs) o h = elim (or_cases (p x) (any p xs) h) [
  | inl here ↦ any_onto_old p xs (x ∷ o) (or_left (p x) (any p o) here)
  | inr there ↦ any_onto p xs (x ∷ o) there
]

pub any_append : (p : Queued → Bool) (ws : List Queued) (x : Queued) → any p ws ≡ true → any p (ws ++ (x ∷ [])) ≡ true
any_append p ws x h = list_any-append p ws (x ∷ []) ∙ or_left (any p ws) (any p (x ∷ [])) h

pub any_mono : (p q : Queued → Bool) → ((x : Queued) → p x ≡ true → q x ≡ true) → (ws : List Queued) → any p ws ≡ true → any q ws ≡ true
any_mono p q f [] h = h
any_mono p q f (x ∷ xs) h = elim (or_cases (p x) (any p xs) h) [
  | inl here ↦ or_left _ _ (f x here)
  | inr there ↦ or_right _ _ (any_mono p q f xs there)
]

pub any_fewer : (p q : Queued → Bool) → ((x : Queued) → p x ≡ true → q x ≡ true) → (ws : List Queued) → any q ws ≡ false → any p ws ≡ false
any_fewer p q f ws h = elim (cases_Bool (any p ws)) [
  | inl e ↦ absurd (both_ways (any q ws) h (any_mono p q f ws e))
  | inr e ↦ e
]

pub any_joined : (p : Queued → Bool) (ws vs : List Queued) → any p ws ≡ false → any p vs ≡ false → any p (ws ++ vs) ≡ false
any_joined p ws vs h k = list_any-append p ws vs ∙ or_from (any p ws) (any p vs) h k

-- ── a ticket of a list ──

pub any_in : (p : Queued → Bool) (x : Queued) (ws : List Queued) → In x ws → p x ≡ true → any p ws ≡ true
any_in p x [] i h = absurd i
any_in p x (y ∷ ys) (inl e) h = or_left (p y) (any p ys) (rw (← e) h)
any_in p x (y ∷ ys) (inr i) h = or_right (p y) (any p ys) (any_in p x ys i h)

-- what none of a list is, this one is not
pub not_in : (p : Queued → Bool) (x : Queued) (ws : List Queued) → In x ws → any p ws ≡ false → p x ≡ false
not_in p x ws i h = elim (cases_Bool (p x)) [
  | inl e ↦ absurd (both_ways (any p ws) h (any_in p x ws i e))
  | inr e ↦ e
]

-- one of a list is
pub some_in : (p : Queued → Bool) (ws : List Queued) → any p ws ≡ true → (x : Queued) × In x ws × (p x ≡ true)
some_in p [] h = absurd (true≢false (sym h))
some_in p (y ∷ ys) h = elim (or_cases (p y) (any p ys) h) [
  | inl here ↦ (y, inl refl, here)
  | inr there ↦ let r = some_in p ys there in (r.0, inr r.1, r.2)
]

pub in_older : (x : Queued) (ws o : List Queued) → In x o → In x (onto ws o)
in_older x [] o i = i
in_older x (y ∷ ys) o i = in_older x ys (y ∷ o) (inr i)

pub in_onto : (x : Queued) (ws o : List Queued) → In x ws → In x (onto ws o)
in_onto x [] o i = absurd i
in_onto x (y ∷ ys) o (inl e) = in_older x ys (y ∷ o) (inl e)
in_onto x (y ∷ ys) o (inr i) = in_onto x ys (y ∷ o) i

pub of_onto : (x : Queued) (ws o : List Queued) → In x (onto ws o) → (In x ws) ⊎ (In x o)
of_onto x [] o i = inr i
of_onto x (y ∷ ys) o i = go (of_onto x ys (y ∷ o) i)
  where
    go : (In x ys) ⊎ (In x (y ∷ o)) → (In x (y ∷ ys)) ⊎ (In x o)
    go (inl j) = inl (inr j)
    go (inr (inl e)) = inl (inl e)
    go (inr (inr j)) = inr j

pub in_without : (r : ℕ) (x : Queued) (ws : List Queued) → In x ws → is_in r x ≡ false → In x (without r ws)
in_without r x ws i h = in_those (λ y. not (is_in r y)) x ws i (not_from_false (is_in r x) h)
