-- The run of the oldest waiting ticket is free.
use Rattle.std.proofs.Common.{◌≡◌, ℕ, Bool, true, false, cond, not, ◌&&◌, eqb, ◌⊎◌, List, [], ◌∷◌, sym, refl, ap, ◌∙◌, inl, inr}
use Rattle.std.proofs.lemmas.Bool.{true≢false, eqb-true, eq-eqb, or_left, or_right, and_parts, and_from, and_left, and_right, not_from_false}
use Rattle.device.specs.declared.interface.Kind.{Kind}
use Rattle.device.specs.Meaning.{is_flush}
use Rattle.deadline.specs.Waiting.{same, Queued, Run, any, those, is_in, conflict, run_of, runs, runs_headed_in, unhindered, before_flushes, free, free_runs}
use Rattle.deadline.proofs.Lists.{any_fewer}
use Rattle.deadline.proofs.Sound.{SoundFrom}

unhindered_on : (r : ℕ) (o xs : List Queued) → any (is_in r) o ≡ true → SoundFrom o xs → unhindered r o xs ≡ true
unhindered_on r o [] h s = refl
unhindered_on r o (y ∷ ys) h s =
    and_from (not (is_in r y && hit)) (unhindered r (y ∷ o) ys) (not_from_false (is_in r y && hit) (go (is_in r y) refl))
    (unhindered_on r (y ∷ o) ys (or_right (is_in r y) (any (is_in r) o) h) s.1)
  where
    hit : Bool
    hit = any (λ z. not (is_in r z) && conflict y z) o

    go : (b : Bool) → is_in r y ≡ b → (b && hit) ≡ false
    go false e = and_left false hit refl
    go true e = and_right true hit (any_fewer (λ z. not (is_in r z) && conflict y z) (conflict y) (λ z k. (and_parts (not (is_in r z)) (conflict y z) k).1) o
        (s.0.apart (rw (eqb-true y.head r e) h)))

abbrev pub own_head : (x : Queued) → (x.tag ≡ x.head) ⊎ (false ≡ true) → x.tag ≡ x.head
own_head x (inl e) = e
own_head x (inr e) = absurd (true≢false (sym e))

pub free_oldest : (x : Queued) (xs : List Queued) → SoundFrom [] (x ∷ xs) → free (x ∷ xs) x.head ≡ true
unfolding free
free_oldest x xs s =
    and_from (unhindered x.head [] (x ∷ xs)) (before_flushes x.head (x ∷ xs))
    (and_from (not (is_in x.head x && false)) (unhindered x.head (x ∷ []) xs) (not_from_false (is_in x.head x && false) (and_right (is_in x.head x) false refl))
    (unhindered_on x.head (x ∷ []) xs (or_left (is_in x.head x) false self) s.1))
    (or_left (is_in x.head x) (not (is_flush x.kind) && before_flushes x.head xs) self)
  where
    self : is_in x.head x ≡ true
    self = eq-eqb x.head x.head refl

pub oldest_free_run : (k : Kind) (x : Queued) (xs : List Queued) → SoundFrom [] (x ∷ xs) → is_flush x.kind ≡ false → same x.kind k ≡ true →
    (rs : List Run) × (free_runs k (x ∷ xs) ≡ run_of (x ∷ xs) x ∷ rs)
unfolding free_runs runs run_of
oldest_free_run k x xs s nf sk = (those p rest, ap (those p) e₁ ∙ e₂)
  where
    p : Run → Bool
    p r = same r.kind k && free (x ∷ xs) r.name

    rest : List Run
    rest = runs_headed_in (x ∷ xs) xs

    e₁ : runs_headed_in (x ∷ xs) (x ∷ xs) ≡ run_of (x ∷ xs) x ∷ rest
    e₁ = ap (λ b. cond b (run_of (x ∷ xs) x ∷ rest) rest)
        (and_from (eqb x.tag x.head) (not (is_flush x.kind)) (eq-eqb x.tag x.head (own_head x s.0.headed)) (not_from_false (is_flush x.kind) nf))

    e₂ : those p (run_of (x ∷ xs) x ∷ rest) ≡ run_of (x ∷ xs) x ∷ those p rest
    e₂ = ap (λ b. cond b (run_of (x ∷ xs) x ∷ those p rest) (those p rest))
        (and_from (same x.kind k) (free (x ∷ xs) x.head) sk (free_oldest x xs s))
