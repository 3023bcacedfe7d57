-- Where an element stands in a list, by a number that is its key.
use Rattle.std.specs.Prelude.{ℕ, ◌+◌, cond, List, [], ◌∷◌, Some, None, Option, ◌==◌}

-- the first element of the key t, counted from n
abbrev pub index_by : {A : Type 0} → (A → ℕ) → ℕ → ℕ → List A → Option ℕ
index_by key n t [] = None
index_by key n t (x ∷ xs) = cond (t == key x) (Some n) (index_by key (n + 1) t xs)
