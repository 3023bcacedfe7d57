-- What is kept of the waiting tickets when a new one is taken. Nothing else looks at which run it joins or at runs that come to touch.
use Rattle.std.proofs.Common.{◌≡◌, ℕ, suc, ◌≤◌, Bool, true, false, cond, eqb, List, [], ◌∷◌, ◌++◌, sym, refl, ap, arith}
use Rattle.std.proofs.lemmas.Bool.{true≢false}
use Rattle.deadline.specs.Settings.{Settings}
use Rattle.deadline.specs.Waiting.{Queued, has_tag}
use Rattle.deadline.specs.Joining.{in_run, run_for, once_runs_touch}
use Rattle.deadline.specs.Turn.{taken}
use Rattle.deadline.specs.Bound.{older_than, tick_of}
use Rattle.deadline.proofs.Sound.{newest, SoundFrom, sound_push}
use Rattle.deadline.proofs.Joined.{fine_new}

pub taken_sound : (st : Settings) (ws : List Queued) (x : Queued) → SoundFrom [] ws → has_tag x.tag ws ≡ false → newest ws ≤ x.tick → SoundFrom [] (taken st ws x)
unfolding taken once_runs_touch
taken_sound st ws x s a l = sound_push [] ws (in_run x (run_for st ws x)) s (fine_new st ws x s a l)

newest_push : (ws : List Queued) (x : Queued) (m : ℕ) → newest ws ≤ m → x.tick ≤ m → newest (ws ++ (x ∷ [])) ≤ m
newest_push [] x m h k = omega arith
newest_push (y ∷ ys) x m h k = let ih = newest_push ys x m (omega arith) k in omega arith

pub taken_newest : (st : Settings) (ws : List Queued) (x : Queued) (m : ℕ) → newest ws ≤ m → x.tick ≤ m → newest (taken st ws x) ≤ m
unfolding taken once_runs_touch
taken_newest st ws x m h k = newest_push ws (in_run x (run_for st ws x)) m h k

pushed : (t : ℕ) (ws : List Queued) (x : Queued) → has_tag t ws ≡ true →
    (tick_of t (ws ++ (x ∷ [])) ≡ tick_of t ws) × (older_than t (ws ++ (x ∷ [])) ≡ older_than t ws)
pushed t [] x h = absurd (true≢false (sym h))
pushed t (y ∷ ys) x h = go (eqb y.tag t) refl (pushed t ys x)
  where
    go : (c : Bool) → eqb y.tag t ≡ c →
        (has_tag t ys ≡ true → (tick_of t (ys ++ (x ∷ [])) ≡ tick_of t ys) × (older_than t (ys ++ (x ∷ [])) ≡ older_than t ys)) →
        (cond c y.tick (tick_of t (ys ++ (x ∷ []))) ≡ cond c y.tick (tick_of t ys)) ×
        (cond c 0 (suc (older_than t (ys ++ (x ∷ [])))) ≡ cond c 0 (suc (older_than t ys)))
    go true e ih = (refl, refl)
    go false e ih = let i = ih (rw e at h) in (i.0, ap suc i.1)

-- a ticket that waits keeps its tick, and as many older ones
pub taken_keeps : (st : Settings) (t : ℕ) (ws : List Queued) (x : Queued) → has_tag t ws ≡ true →
    (tick_of t (taken st ws x) ≡ tick_of t ws) × (older_than t (taken st ws x) ≡ older_than t ws)
unfolding taken once_runs_touch
taken_keeps st t ws x h = pushed t ws (in_run x (run_for st ws x)) h

-- the oldest is of the kind that it was
pub taken_oldest : (st : Settings) (y : Queued) (ys : List Queued) (x : Queued) → (z : Queued) × (zs : List Queued) × (taken st (y ∷ ys) x ≡ z ∷ zs) × (z.kind ≡ y.kind)
unfolding taken once_runs_touch
taken_oldest st y ys x = (y, ys ++ (in_run x (run_for st (y ∷ ys) x) ∷ []), refl, refl)
