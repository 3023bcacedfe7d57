-- Free, as it is computed, is free in the words of the rule.
use Rattle.std.proofs.Common.{◌≡◌, ℕ, Bool, true, false, not, ◌&&◌, ◌||◌, ◌⊎◌, List, [], ◌∷◌, ◌++◌, sym, refl, ap, subst, inl, inr}
use Rattle.std.proofs.lemmas.Bool.{true≢false, both_ways, or_cases, or_left, or_right, or_from, and_parts, and_from, and_left, and_right, and_cases, not-true, not_from_false, not_from_true, cases_Bool}
use Rattle.device.specs.Meaning.{is_flush}
use Rattle.deadline.specs.Waiting.{Queued, any, is_in, conflict, unhindered, before_flushes, free}
use Rattle.deadline.specs.Laws.{In, IsFree, FreeIsFree}
use Rattle.deadline.proofs.Lists.{onto, not_in, some_in, any_in, in_onto, of_onto}

-- y is outside the run and conflicts with x
abbrev hinders : ℕ → Queued → Queued → Bool
hinders r x y = not (is_in r y) && conflict x y

unhindered_at : (r : ℕ) (o pre : List Queued) (x : Queued) (post : List Queued) → unhindered r o (pre ++ (x ∷ post)) ≡ true → is_in r x ≡ true →
    any (hinders r x) (onto pre o) ≡ false
unhindered_at r o [] x post h i =
    let n = not-true (is_in r x && any (hinders r x) o) (and_parts (not (is_in r x && any (hinders r x) o)) (unhindered r (x ∷ o) post) h).0 in
    elim (and_cases (is_in r x) (any (hinders r x) o) n) [ inl e ↦ absurd (both_ways (is_in r x) e i) | inr e ↦ e ]
unhindered_at r o (z ∷ zs) x post h i =
    unhindered_at r (z ∷ o) zs x post (and_parts (not (is_in r z && any (hinders r z) o)) (unhindered r (z ∷ o) (zs ++ (x ∷ post))) h).1 i

older_at : (r : ℕ) (pre : List Queued) (f : Queued) (post : List Queued) → before_flushes r (pre ++ (f ∷ post)) ≡ true → is_flush f.kind ≡ true → is_in r f ≡ false →
    any (is_in r) pre ≡ true
older_at r [] f post h k i = elim (or_cases (is_in r f) (not (is_flush f.kind) && before_flushes r post) h) [
  | inl e ↦ absurd (both_ways (is_in r f) i e)
  | inr e ↦ absurd (both_ways (is_flush f.kind) (not-true (is_flush f.kind) (and_parts (not (is_flush f.kind)) (before_flushes r post) e).0) k)
]
older_at r (z ∷ zs) f post h k i = elim (or_cases (is_in r z) (not (is_flush z.kind) && before_flushes r (zs ++ (f ∷ post))) h) [
  | inl e ↦ or_left (is_in r z) (any (is_in r) zs) e
  | inr e ↦ or_right (is_in r z) (any (is_in r) zs) (older_at r zs f post (and_parts (not (is_flush z.kind)) (before_flushes r (zs ++ (f ∷ post))) e).1 k i)
]

any_none : (p : Queued → Bool) (ws : List Queued) → ((y : Queued) → In y ws → p y ≡ false) → any p ws ≡ false
any_none p [] h = refl
any_none p (x ∷ xs) h = or_from (p x) (any p xs) (h x (inl refl)) (any_none p xs (λ y i. h y (inr i)))

unhindered_from : (r : ℕ) (o xs : List Queued) →
    ((pre : List Queued) (x : Queued) (post : List Queued) → xs ≡ pre ++ (x ∷ post) → is_in r x ≡ true → any (hinders r x) (onto pre o) ≡ false) → unhindered r o xs ≡ true
unhindered_from r o [] h = refl
unhindered_from r o (x ∷ xs) h =
    and_from (not (is_in r x && any (hinders r x) o)) (unhindered r (x ∷ o) xs) (not_from_false (is_in r x && any (hinders r x) o) (here (is_in r x) refl))
    (unhindered_from r (x ∷ o) xs (λ pre y post e. h (x ∷ pre) y post (ap (λ l. x ∷ l) e)))
  where
    here : (b : Bool) → is_in r x ≡ b → (b && any (hinders r x) o) ≡ false
    here false e = refl
    here true e = h [] x xs refl e

-- at each flush outside the run, some ticket of the run is older
abbrev OlderFound : ℕ → List Queued → Type 0
OlderFound r xs =
    (pre : List Queued) (f : Queued) (post : List Queued) → xs ≡ pre ++ (f ∷ post) → is_flush f.kind ≡ true → is_in r f ≡ false → any (is_in r) pre ≡ true

before_from : (r : ℕ) (xs : List Queued) → OlderFound r xs → before_flushes r xs ≡ true
before_from r [] h = refl
before_from r (x ∷ xs) h = go (λ f. before_from r xs f) (is_in r x) refl
  where
    no_flush : is_in r x ≡ false → is_flush x.kind ≡ false
    no_flush i = elim (cases_Bool (is_flush x.kind)) [ inl e ↦ absurd (true≢false (sym (h [] x xs refl e i))) | inr e ↦ e ]

    further : is_in r x ≡ false → OlderFound r xs
    further i pre f post e k n = elim (or_cases (is_in r x) (any (is_in r) pre) (h (x ∷ pre) f post (ap (λ l. x ∷ l) e) k n)) [
      | inl t ↦ absurd (both_ways (is_in r x) i t)
      | inr t ↦ t
    ]

    go : (OlderFound r xs → before_flushes r xs ≡ true) → (b : Bool) → is_in r x ≡ b → (b || (not (is_flush x.kind) && before_flushes r xs)) ≡ true
    go ih true e = refl
    go ih false e =
        and_from (not (is_flush x.kind)) (before_flushes r xs) (not_from_false (is_flush x.kind) (no_flush e)) (ih (further e))

pub free_means : FreeIsFree
unfolding free
free_means ws r = (there, back)
  where
    there : free ws r ≡ true → IsFree ws r
    there h =
        let p = and_parts (unhindered r [] ws) (before_flushes r ws) h in
        record {
          apart = λ older x younger e i y m n.
              let none = unhindered_at r [] older x younger (subst (λ vs. unhindered r [] vs ≡ true) e p.0) i in
              apart_of x y n (not_in (hinders r x) y (onto older []) (in_onto y older [] m) none);
          before_flushes = λ older f younger e k n. some_in (is_in r) older (older_at r older f younger (subst (λ vs. before_flushes r vs ≡ true) e p.1) k n);
        }
      where
        apart_of : (x y : Queued) → is_in r y ≡ false → hinders r x y ≡ false → conflict x y ≡ false
        apart_of x y n h₂ = elim (and_cases (not (is_in r y)) (conflict x y) h₂) [
          | inl e ↦ absurd (both_ways (not (is_in r y)) e (not_from_false (is_in r y) n))
          | inr e ↦ e
        ]

    back : IsFree ws r → free ws r ≡ true
    back f =
        and_from (unhindered r [] ws) (before_flushes r ws)
        (unhindered_from r [] ws (λ pre x post e i. any_none (hinders r x) (onto pre []) (λ y m. calm pre x post e i y (of_onto y pre [] m))))
        (before_from r ws (λ pre g post e k n. let s = f.before_flushes pre g post e k n in any_in (is_in r) s.0 pre s.1 s.2))
      where
        calm : (pre : List Queued) (x : Queued) (post : List Queued) → ws ≡ pre ++ (x ∷ post) → is_in r x ≡ true → (y : Queued) → (In y pre) ⊎ (In y []) → hinders r x y ≡ false
        calm pre x post e i y (inr m) = absurd m
        calm pre x post e i y (inl m) = elim (cases_Bool (is_in r y)) [
          | inl t ↦ and_left (not (is_in r y)) (conflict x y) (not_from_true (is_in r y) t)
          | inr t ↦ and_right (not (is_in r y)) (conflict x y) (f.apart pre x post e i y m t)
        ]
