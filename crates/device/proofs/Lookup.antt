-- The steps of a search through a list by a key, and where what it finds stands.
use Rattle.std.proofs.Common.{◌≡◌, ℕ, zero, suc, ◌+◌, ◌<◌, ◌≤◌, Bool, true, false, cond, eqb, List, [], ◌∷◌, length, get_or, drop, Some, None, sym, refl, ap, ◌∙◌, subst, arith}
use Rattle.std.proofs.lemmas.List.{at_drop_more, at_drop_all}
use Rattle.std.proofs.lemmas.Bool.{eq-eqb, ne_eqb, cond-true, cond-false}
use Rattle.device.specs.Lookup.{index_by}

module _ {A : Type 0} (key : A → ℕ) (t i : ℕ) (xs ps : List A) (e : xs ≡ ps) (d : A) where
  pub index_here : i < length xs → key (get_or xs i d) ≡ t → index_by key i t (drop i ps) ≡ index_by key 0 t ps → Some i ≡ index_by key 0 t ps
  index_here lt h inv =
      sym (cond-true (eqb t (key (get_or xs i d))) (Some i) (index_by key (i + 1) t (drop (i + 1) xs)) (eq-eqb t (key (get_or xs i d)) (sym h)))
      ∙ (sym (at_drop_more (index_by key i t) xs i d lt) ∙ (ap (λ z. index_by key i t (drop i z)) e ∙ inv))

  pub index_past : i < length xs → (key (get_or xs i d) ≡ t → ⊥) → index_by key i t (drop i ps) ≡ index_by key 0 t ps → index_by key (i + 1) t (drop (i + 1) ps) ≡ index_by key 0 t ps
  index_past lt h inv =
      sym (ap (λ z. index_by key (i + 1) t (drop (i + 1) z)) e)
      ∙ (sym (cond-false (eqb t (key (get_or xs i d))) (Some i) (index_by key (i + 1) t (drop (i + 1) xs)) (ne_eqb t (key (get_or xs i d)) (λ z. h (sym z))))
      ∙ (sym (at_drop_more (index_by key i t) xs i d lt) ∙ (ap (λ z. index_by key i t (drop i z)) e ∙ inv)))

  pub index_end : length xs ≤ i → index_by key i t (drop i ps) ≡ index_by key 0 t ps → None ≡ index_by key 0 t ps
  index_end le inv = sym (at_drop_all (index_by key i t) xs i le) ∙ (ap (λ z. index_by key i t (drop i z)) e ∙ inv)

-- the first element of the key stands at j
pub data Stands {A : Type 0} (key : A → ℕ) (t : ℕ) : List A → ℕ → Type 0 where
  here : {p : A} {ps : List A} → eqb t (key p) ≡ true → Stands key t (p ∷ ps) zero
  there : {p : A} {ps : List A} {j : ℕ} → eqb t (key p) ≡ false → Stands key t ps j → Stands key t (p ∷ ps) (suc j)

some_none : (A : Type 0) (i : ℕ) → None ≡ Some i → A
some_none A i e = let z : ◌≡◌ {A = ℕ} 0 1 = cc in absurd (omega arith)

module _ {A : Type 0} (key : A → ℕ) where
  stands_by : (t n i : ℕ) (p : A) (ps : List A) (ih : index_by key (n + 1) t ps ≡ Some i → (j : ℕ) × (i ≡ (n + 1) + j) × Stands key t ps j) (b : Bool) → eqb t (key p) ≡ b → cond b (Some n) (index_by key (n + 1) t ps) ≡ Some i → (j : ℕ) × (i ≡ n + j) × Stands key t (p ∷ ps) j
  stands_by t n i p ps ih true h e = (0, (let q : n ≡ i = cc in omega arith), here h)
  stands_by t n i p ps ih false h e =
      let r = ih e in
      (suc r.0, (let q = r.1 in omega arith), there h r.2)

  stands_from : (t n i : ℕ) (ps : List A) → index_by key n t ps ≡ Some i → (j : ℕ) × (i ≡ n + j) × Stands key t ps j
  stands_from t n i [] e = some_none _ i e
  stands_from t n i (p ∷ ps) e = stands_by t n i p ps (stands_from t (n + 1) i ps) (eqb t (key p)) refl e

  pub stands : (t i : ℕ) (ps : List A) → index_by key 0 t ps ≡ Some i → Stands key t ps i
  stands t i ps e =
      let r = stands_from t 0 i ps e in
      let q : r.0 ≡ i = (let h = r.1 in omega arith) in
      subst (Stands key t ps) q r.2

  pub stands_within : {t j : ℕ} {ps : List A} → Stands key t ps j → j < length ps
  stands_within (here h) = omega arith
  stands_within (there h s) = let r = stands_within s in omega arith
