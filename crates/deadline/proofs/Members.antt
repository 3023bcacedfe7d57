-- What is in a list.
use Rattle.std.proofs.Common.{◌≡◌, Bool, true, false, cond, ◌⊎◌, List, [], ◌∷◌, ◌++◌, refl, inl, inr}
use Rattle.std.proofs.lemmas.Bool.{both_ways}
use Rattle.deadline.specs.Waiting.{those}
use Rattle.deadline.specs.Laws.{In}

module _ {A : Type 0} where
  pub in_parts : (x : A) (xs ys : List A) → In x (xs ++ ys) → In x xs ⊎ In x ys
  in_parts x [] ys i = inr i
  in_parts x (z ∷ zs) ys (inl e) = inl (inl e)
  in_parts x (z ∷ zs) ys (inr i) = elim (in_parts x zs ys i) [ inl j ↦ inl (inr j) | inr j ↦ inr j ]

  pub in_front : (x : A) (xs ys : List A) → In x xs → In x (xs ++ ys)
  in_front x [] ys i = absurd i
  in_front x (z ∷ zs) ys (inl e) = inl e
  in_front x (z ∷ zs) ys (inr i) = inr (in_front x zs ys i)

  pub in_back : (x : A) (xs ys : List A) → In x ys → In x (xs ++ ys)
  in_back x [] ys i = i
  in_back x (z ∷ zs) ys i = inr (in_back x zs ys i)

  -- those of a list that a test takes
  pub of_those : (p : A → Bool) (x : A) (xs : List A) → In x (those p xs) → In x xs × (p x ≡ true)
  of_those p x [] i = absurd i
  of_those p x (z ∷ zs) i = go (p z) refl i (of_those p x zs)
    where
      go : (b : Bool) → p z ≡ b → In x (cond b (z ∷ those p zs) (those p zs)) → (In x (those p zs) → In x zs × (p x ≡ true)) → In x (z ∷ zs) × (p x ≡ true)
      go true t (inl e) ih = (inl e, rw e t)
      go true t (inr j) ih = let r = ih j in (inr r.0, r.1)
      go false t j ih = let r = ih j in (inr r.0, r.1)

  pub in_those : (p : A → Bool) (x : A) (xs : List A) → In x xs → p x ≡ true → In x (those p xs)
  in_those p x [] i h = absurd i
  in_those p x (z ∷ zs) i h = go (p z) refl i (λ j. in_those p x zs j h)
    where
      go : (b : Bool) → p z ≡ b → In x (z ∷ zs) → (In x zs → In x (those p zs)) → In x (cond b (z ∷ those p zs) (those p zs))
      go true t (inl e) ih = inl e
      go true t (inr j) ih = inr (ih j)
      go false t (inl e) ih = absurd (both_ways (p z) t (rw (← e) h))
      go false t (inr j) ih = ih j
