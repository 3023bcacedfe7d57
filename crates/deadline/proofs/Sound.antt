-- What every submit and every turn keep of the waiting tickets.
use Rattle.std.proofs.Common.{◌≡◌, ℕ, ◌≤◌, max, Bool, true, false, cond, not, ◌&&◌, eqb, ◌⊎◌, List, [], ◌∷◌, ◌++◌, refl, ◌∙◌, inl, inr, arith}
use Rattle.std.proofs.lemmas.Bool.{both_ways, eqb-true, eqb-false, ne_eqb, or_parts, or_from, and_parts, and_from, and_left, and_right, and_cases, not-true, not_from_false}
use Rattle.device.specs.declared.interface.Kind.{Kind}
use Rattle.device.specs.Meaning.{is_flush}
use Rattle.deadline.specs.Waiting.{Queued, any, is_in, same, has_tag, conflict}
use Rattle.deadline.specs.Turn.{without}
use Rattle.deadline.proofs.Lists.{any_without, any_within, any_stays, onto, any_mono}

abbrev pub newest : List Queued → ℕ
newest [] = 0
newest (x ∷ xs) = max x.tick (newest xs)

-- y is the head of the run r
abbrev pub heads : ℕ → Queued → Bool
heads r y = eqb y.tag r && eqb y.head r

-- of the older tickets o, the youngest first: none of the run r is older than a flush
abbrev pub unsplit : ℕ → List Queued → Bool
unsplit r [] = true
unsplit r (y ∷ o) = not (is_flush y.kind && any (is_in r) o) && unsplit r o

-- z is in the run r though it is not of the kind k, or though k is a flush's
abbrev pub strange : ℕ → Kind → Queued → Bool
strange r k z = is_in r z && not (same z.kind k && not (is_flush k))

-- a waiting ticket x, with the older ones, the youngest of them first
pub record Fine (o : List Queued) (x : Queued) : Type 0 where
  pub fresh : has_tag x.tag o ≡ false
  pub headed : (x.tag ≡ x.head) ⊎ (any (heads x.head) o ≡ true)
  pub apart : any (is_in x.head) o ≡ true → any (conflict x) o ≡ false
  pub later : newest o ≤ x.tick
  pub unsplit : unsplit x.head o ≡ true
  pub alike : any (strange x.head x.kind) o ≡ false

abbrev pub SoundFrom : List Queued → List Queued → Type 0
SoundFrom o [] = Unit {0}
SoundFrom o (x ∷ xs) = Fine o x × SoundFrom (x ∷ o) xs

-- ── a run is taken out ──

pub newest_without : (r : ℕ) (ws : List Queued) → newest (without r ws) ≤ newest ws
newest_without r [] = omega arith
newest_without r (x ∷ xs) =
    let ih = newest_without r xs in
    elim (eqb x.head r) as (λ b. newest (cond (not b) (x ∷ without r xs) (without r xs)) ≤ max x.tick (newest xs)) [
      | true ↦ omega arith
      | false ↦ omega arith
    ]

unsplit_without : (n r : ℕ) (o : List Queued) → unsplit n o ≡ true → unsplit n (without r o) ≡ true
unsplit_without n r [] h = refl
unsplit_without n r (y ∷ o) h = go (eqb y.head r) (unsplit_without n r o parts.1)
  where
    parts : (not (is_flush y.kind && any (is_in n) o) ≡ true) × (unsplit n o ≡ true)
    parts = and_parts (not (is_flush y.kind && any (is_in n) o)) (unsplit n o) h

    none_older : (is_flush y.kind ≡ false) ⊎ (any (is_in n) o ≡ false) → (is_flush y.kind && any (is_in n) (without r o)) ≡ false
    none_older (inl e) = and_left (is_flush y.kind) (any (is_in n) (without r o)) e
    none_older (inr e) = and_right (is_flush y.kind) (any (is_in n) (without r o)) (any_without (is_in n) r o e)

    go : (b : Bool) → unsplit n (without r o) ≡ true → unsplit n (cond (not b) (y ∷ without r o) (without r o)) ≡ true
    go true ih = ih
    go false ih =
        and_from (not (is_flush y.kind && any (is_in n) (without r o))) (unsplit n (without r o))
        (not_from_false (is_flush y.kind && any (is_in n) (without r o))
        (none_older (and_cases (is_flush y.kind) (any (is_in n) o) (not-true (is_flush y.kind && any (is_in n) o) parts.0)))) ih

fine_without : (r : ℕ) (o : List Queued) (x : Queued) → eqb x.head r ≡ false → Fine o x → Fine (without r o) x
fine_without r o x e f = record {
  fresh = any_without (λ y. eqb y.tag x.tag) r o f.fresh;
  headed = elim f.headed [
    | inl own ↦ inl own
    | inr old ↦ inr (any_stays (heads x.head) r o (λ y h. rw (eqb-true y.head x.head (and_parts (eqb y.tag x.head) (eqb y.head x.head) h).1) e) old)
  ];
  apart = λ k. any_without (conflict x) r o (f.apart (any_within (is_in x.head) r o k));
  later = omega (arith, newest_without r o, f.later);
  unsplit = unsplit_without x.head r o f.unsplit;
  alike = any_without (strange x.head x.kind) r o f.alike;
}

pub sound_without : (r : ℕ) (o ws : List Queued) → SoundFrom o ws → SoundFrom (without r o) (without r ws)
sound_without r o [] s = tt
sound_without r o (x ∷ xs) s = go (eqb x.head r) refl (sound_without r (x ∷ o) xs s.1)
  where
    go : (b : Bool) → eqb x.head r ≡ b → SoundFrom (cond (not b) (x ∷ without r o) (without r o)) (without r xs) →
        SoundFrom (without r o) (cond (not b) (x ∷ without r xs) (without r xs))
    go true e rest = rest
    go false e rest = (fine_without r o x e s.0, rest)

-- ── a ticket is put at the end ──

pub sound_push : (o ws : List Queued) (x : Queued) → SoundFrom o ws → Fine (onto ws o) x → SoundFrom o (ws ++ (x ∷ []))
sound_push o [] x s f = (f, tt)
sound_push o (y ∷ ys) x s f = (s.0, sound_push (y ∷ o) ys x s.1 f)

pub newest_onto : (ws o : List Queued) (m : ℕ) → newest ws ≤ m → newest o ≤ m → newest (onto ws o) ≤ m
newest_onto [] o m h k = k
newest_onto (x ∷ xs) o m h k = newest_onto xs (x ∷ o) m (omega arith) (omega arith)

-- a tag that does not wait names no waiting run
pub fresh_heads : (n : ℕ) (o ws : List Queued) → SoundFrom o ws → has_tag n o ≡ false → has_tag n ws ≡ false → any (is_in n) ws ≡ false
fresh_heads n o [] s a b = refl
fresh_heads n o (y ∷ ys) s a b =
    or_from (eqb y.head n) (any (is_in n) ys) (ne_eqb y.head n (λ e. here e s.0.headed))
    (fresh_heads n (y ∷ o) ys s.1 (or_from (eqb y.tag n) (has_tag n o) not_here a) (or_parts (eqb y.tag n) (has_tag n ys) b).1)
  where
    not_here : eqb y.tag n ≡ false
    not_here = (or_parts (eqb y.tag n) (has_tag n ys) b).0

    here : y.head ≡ n → (y.tag ≡ y.head) ⊎ (any (heads y.head) o ≡ true) → ⊥
    here e (inl own) = eqb-false y.tag n not_here (own ∙ e)
    here e (inr old) = both_ways (has_tag n o) a (any_mono (heads y.head) (λ z. eqb z.tag n) (λ z h. rw (← e) (and_parts (eqb z.tag y.head) (eqb z.head y.head) h).0) o old)

-- ── parts of a sound list ──

pub sound_front : (o pre post : List Queued) → SoundFrom o (pre ++ post) → SoundFrom o pre
sound_front o [] post s = tt
sound_front o (x ∷ xs) post s = (s.0, sound_front (x ∷ o) xs post s.1)

pub fine_at : (o pre : List Queued) (x : Queued) (post : List Queued) → SoundFrom o (pre ++ (x ∷ post)) → Fine (onto pre o) x
fine_at o [] x post s = s.0
fine_at o (y ∷ ys) x post s = fine_at (y ∷ o) ys x post s.1

pub sound_back : (o pre post : List Queued) → SoundFrom o (pre ++ post) → SoundFrom (onto pre o) post
sound_back o [] post s = s
sound_back o (y ∷ ys) post s = sound_back (y ∷ o) ys post s.1
