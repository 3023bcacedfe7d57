-- The waiting bound: while a ticket waits past the longer period, each turn takes from a number that begins at (k + 1) × (W + 1) × F at most.
use Rattle.std.proofs.Common.{◌≡◌, ℕ, suc, ◌+◌, ◌-◌, ◌*◌, ◌≤◌, max, Bool, true, false, cond, not, eqb, ◌⊎◌, List, [], ◌∷◌, sym, refl, ap, ◌∙◌, subst, inl, inr, mul-le-mul_right, arith}
use Rattle.std.proofs.lemmas.Bool.{true≢false, both_ways, ne_eqb, or_from, or_left, or_right}
use Rattle.device.specs.declared.interface.Kind.{Kind}
use Rattle.device.specs.declared.interface.Kind.TheVariants.{Read, Write, Flush}
use Rattle.deadline.specs.Settings.{Settings, period, longer_period, WithinLimits}
use Rattle.deadline.specs.Waiting.{Queued, has_tag}
use Rattle.deadline.specs.Turn.{State, set_up, Batch, without, submitted, taken, at_tick, turned_with, turned}
use Rattle.deadline.specs.Events.{Event, submit, turn, collect, following, turns_in}
use Rattle.deadline.specs.Bound.{WaitsThrough, older_than, tick_of}
use Rattle.deadline.proofs.Lists.{any_within}
use Rattle.deadline.proofs.Sound.{newest, SoundFrom}
use Rattle.deadline.proofs.Progress.{Begun, turns_left, turns_left_bound, Outcome, turn_outcome}
use Rattle.deadline.specs.Bound.{WaitingIsBounded}
use Rattle.deadline.proofs.Taking.{taken_keeps, taken_oldest}
use Rattle.deadline.proofs.Reached.{Good, entry, with_entry, by_submit, good_turned, good_submitted, good_following, good_set_up}

-- ── a ticket's place and tick while others leave and come ──

pub unique : (t : ℕ) (o xs : List Queued) → SoundFrom o xs → has_tag t o ≡ true → has_tag t xs ≡ false
unique t o [] s h = refl
unique t o (y ∷ ys) s h =
    or_from (eqb y.tag t) (has_tag t ys) (ne_eqb y.tag t (λ e. both_ways (has_tag t o) (rw e at s.0.fresh) h))
    (unique t (y ∷ o) ys s.1 (or_right (eqb y.tag t) (has_tag t o) h))

abbrev Keeps : ℕ → List Queued → List Queued → Type 0
Keeps t ws ws' = (tick_of t ws' ≡ tick_of t ws) × (older_than t ws' ≤ older_than t ws)

keeps : (r t : ℕ) (o ws : List Queued) → SoundFrom o ws → has_tag t (without r ws) ≡ true → Keeps t ws (without r ws)
keeps r t o [] s h = absurd (true≢false (sym h))
keeps r t o (x ∷ xs) s h = go (eqb x.head r) (eqb x.tag t) refl h (keeps r t (x ∷ o) xs s.1)
  where
    rest : List Queued
    rest = without r xs

    go : (b c : Bool) → eqb x.tag t ≡ c → has_tag t (cond (not b) (x ∷ rest) rest) ≡ true → (has_tag t rest ≡ true → Keeps t xs rest) →
        Keeps t (x ∷ xs) (cond (not b) (x ∷ rest) rest)
    go true true e k ih = absurd (both_ways (has_tag t xs) (unique t (x ∷ o) xs s.1 (or_left (eqb x.tag t) (has_tag t o) e)) (any_within (λ y. eqb y.tag t) r xs k))
    go true false e k ih = rw e ((ih k).0, omega (arith, (ih k).1))
    go false true e k ih = rw e (refl, omega arith)
    go false false e k ih = let i = ih (rw e at k) in rw e (i.0, omega (arith, i.1))

out : (r : ℕ) (x : Queued) (xs : List Queued) → eqb x.head r ≡ true → without r (x ∷ xs) ≡ without r xs
out r x xs e = ap (λ b. cond (not b) (x ∷ without r xs) (without r xs)) e

stays : (r : ℕ) (x : Queued) (xs : List Queued) → eqb x.head r ≡ false → without r (x ∷ xs) ≡ x ∷ without r xs
stays r x xs e = ap (λ b. cond (not b) (x ∷ without r xs) (without r xs)) e

-- where the oldest leaves, and t does not, one older than t has left
gone : (r t : ℕ) (x : Queued) (xs : List Queued) → SoundFrom [] (x ∷ xs) → has_tag t (without r xs) ≡ true →
    suc (older_than t (without r xs)) ≤ older_than t (x ∷ xs)
gone r t x xs s h = go (eqb x.tag t) refl
  where
    go : (c : Bool) → eqb x.tag t ≡ c → suc (older_than t (without r xs)) ≤ cond c 0 (suc (older_than t xs))
    go true e = absurd (both_ways (has_tag t xs) (unique t (x ∷ []) xs s.1 (or_left (eqb x.tag t) false e)) (any_within (λ y. eqb y.tag t) r xs h))
    go false e = omega (arith, (keeps r t (x ∷ []) xs s.1 h).1)

-- older tickets were submitted no later
since : (t : ℕ) (o ws : List Queued) → SoundFrom o ws → has_tag t ws ≡ true → newest o ≤ tick_of t ws
since t o [] s h = absurd (true≢false (sym h))
since t o (x ∷ xs) s h = go (eqb x.tag t) refl (since t (x ∷ o) xs s.1)
  where
    go : (c : Bool) → eqb x.tag t ≡ c → (has_tag t xs ≡ true → newest (x ∷ o) ≤ tick_of t xs) → newest o ≤ cond c x.tick (tick_of t xs)
    go true e ih = s.0.later
    go false e ih = let i = ih (rw e at h) in omega arith

oldest_since : (t : ℕ) (x : Queued) (xs : List Queued) → SoundFrom [] (x ∷ xs) → has_tag t (x ∷ xs) ≡ true → x.tick ≤ tick_of t (x ∷ xs)
oldest_since t x xs s h = go (eqb x.tag t) refl
  where
    go : (c : Bool) → eqb x.tag t ≡ c → x.tick ≤ cond c x.tick (tick_of t xs)
    go true e = omega arith
    go false e = let i = since t (x ∷ []) xs s.1 (rw e at h) in omega arith

period_longer : (st : Settings) (k : Kind) → period st k ≤ longer_period st
period_longer st Read = omega arith
period_longer st Write = omega arith
period_longer st Flush = omega arith

-- ── the number that each turn takes from ──

abbrev round : Settings → ℕ
round st = (st.writes_starved + 1) * st.fifo_batch

abbrev for_oldest : Settings → Batch → ℕ → List Queued → ℕ
for_oldest st b n [] = 1
for_oldest st b n (x ∷ xs) = turns_left st b x.kind n

abbrev Left : Settings → ℕ → State → ℕ
Left st t s = older_than t s.waiting * round st + for_oldest st s.batch s.passed_over s.waiting

round_some : (st : Settings) → WithinLimits st → 1 ≤ round st
round_some st w = omega (arith, w.some_run, mul-le-mul_right st.fifo_batch w.some_passed_over)

for_oldest_bound : (st : Settings) → WithinLimits st → (b : Batch) → Begun b → (n : ℕ) (ws : List Queued) → for_oldest st b n ws ≤ round st
for_oldest_bound st w b g n [] = round_some st w
for_oldest_bound st w b g n (x ∷ xs) = turns_left_bound st w b g x.kind n

for_oldest_some : (st : Settings) (b : Batch) (n : ℕ) (ws : List Queued) → 1 ≤ for_oldest st b n ws
for_oldest_some st b n [] = omega arith
for_oldest_some st b n (x ∷ xs) = omega arith

served_sum : (a b M c d : ℕ) → suc a ≤ b → c ≤ M → 1 ≤ d → suc (a * M + c) ≤ b * M + d
served_sum a b M c d h k l = omega (arith, mul-le-mul_right M h)

stayed_sum : (a b M c d : ℕ) → a ≤ b → suc c ≤ d → suc (a * M + c) ≤ b * M + d
stayed_sum a b M c d h k = omega (arith, mul-le-mul_right M h)

-- one turn takes from it, and keeps the ticket's tick
record Stepped (st : Settings) (t : ℕ) (s s' : State) (now : ℕ) : Type 0 where
  fewer : suc (Left st t s') ≤ Left st t s
  tick_kept : tick_of t s'.waiting ≡ tick_of t s.waiting
  latest_now : s'.latest ≡ now

turn_steps : (st : Settings) → WithinLimits st → (t : ℕ) (s s' : State) (x : Queued) (xs : List Queued) → s.waiting ≡ x ∷ xs → SoundFrom [] (x ∷ xs) →
    Good s' → Outcome st s x s' → has_tag t s'.waiting ≡ true → Stepped st t s s' s.latest
turn_steps st w t s s' x xs ew sound g o h = go (eqb x.head o.run) refl o.gain
  where
    now_is : s'.waiting ≡ without o.run (x ∷ xs)
    now_is = o.waiting_is ∙ ap (without o.run) ew

    h₁ : has_tag t (without o.run (x ∷ xs)) ≡ true
    h₁ = rw now_is at h

    kept : Keeps t (x ∷ xs) (without o.run (x ∷ xs))
    kept = keeps o.run t [] (x ∷ xs) sound h₁

    tick_is : tick_of t s'.waiting ≡ tick_of t s.waiting
    tick_is = rw (now_is, ew) kept.0

    before : ℕ
    before = for_oldest st s.batch s.passed_over (x ∷ xs)

    then : ℕ
    then = for_oldest st s'.batch s'.passed_over s'.waiting

    go : (b : Bool) → eqb x.head o.run ≡ b →
        (eqb x.head o.run ≡ true) ⊎ (suc (turns_left st s'.batch x.kind s'.passed_over) ≤ turns_left st s.batch x.kind s.passed_over) →
        Stepped st t s s' s.latest
    go true e gain = record {
      fewer = rw ew (served_sum (older_than t s'.waiting) (older_than t (x ∷ xs)) (round st) then before
          (subst (λ l. suc (older_than t l) ≤ older_than t (x ∷ xs)) (sym (now_is ∙ out o.run x xs e)) (gone o.run t x xs sound (rw (out o.run x xs e) at h₁)))
          (for_oldest_bound st w s'.batch g.begun s'.passed_over s'.waiting)
          (for_oldest_some st s.batch s.passed_over (x ∷ xs)));
      tick_kept = tick_is;
      latest_now = o.latest_is;
    }
    go false e (inl gain) = absurd (both_ways (eqb x.head o.run) e gain)
    go false e (inr gain) = record {
      fewer = rw ew (stayed_sum (older_than t s'.waiting) (older_than t (x ∷ xs)) (round st) then before
          (subst (λ l. older_than t l ≤ older_than t (x ∷ xs)) (sym now_is) kept.1)
          (subst (λ l. suc (for_oldest st s'.batch s'.passed_over l) ≤ before) (sym (now_is ∙ stays o.run x xs e)) gain));
      tick_kept = tick_is;
      latest_now = o.latest_is;
    }

late : (p l t n x : ℕ) → t + l ≤ n → x ≤ t → p ≤ l → p ≤ n - x
late p l t n x a b c = omega arith

turned_steps : (st : Settings) → WithinLimits st → (t : ℕ) (s : State) (told : ℕ) → Good s → tick_of t s.waiting + longer_period st ≤ max s.latest told →
    has_tag t s.waiting ≡ true → has_tag t (turned st s told).waiting ≡ true → Stepped st t s (turned st s told) (max s.latest told)
unfolding turned
turned_steps st w t s told g due h h' = go s.waiting refl h' (good_turned st s told g)
  where
    go : (ws : List Queued) → s.waiting ≡ ws → has_tag t (turned_with st s told ws).waiting ≡ true → Good (turned_with st s told ws) →
        Stepped st t s (turned_with st s told ws) (max s.latest told)
    go [] e k g' = absurd (true≢false (sym (rw e at h)))
    go (x ∷ xs) e k g' =
        let sound : SoundFrom [] (x ∷ xs) = rw e at g.sound in
        let early = oldest_since t x xs sound (rw e at h) in
        let due' : tick_of t (x ∷ xs) + longer_period st ≤ max s.latest told = rw e at due in
        let p = period_longer st x.kind in
        let s₁ = at_tick s told in
        let s₂ = turned_with st s told (x ∷ xs) in
        let o = turn_outcome st w s₁ x xs e sound (late (period st x.kind) (longer_period st) (tick_of t (x ∷ xs)) (max s.latest told) x.tick due' early p) in
        let r = turn_steps st w t s₁ s₂ x xs e sound g' o k in
        record { fewer = r.fewer; tick_kept = r.tick_kept; latest_now = r.latest_now }

-- a submit takes nothing from it, and adds nothing to it
record Stayed (st : Settings) (t : ℕ) (s s' : State) : Type 0 where
  same_left : Left st t s' ≡ Left st t s
  tick_same : tick_of t s'.waiting ≡ tick_of t s.waiting
  latest_up : s.latest ≤ s'.latest

for_oldest_taken : (st : Settings) (b : Batch) (n t : ℕ) (ws : List Queued) (x : Queued) → has_tag t ws ≡ true →
    for_oldest st b n (taken st ws x) ≡ for_oldest st b n ws
for_oldest_taken st b n t [] x h = absurd (true≢false (sym h))
for_oldest_taken st b n t (y ∷ ys) x h =
    let o = taken_oldest st y ys x in
    ap (for_oldest st b n) o.2 ∙ ap (λ k. turns_left st b k n) o.3

submitted_stays : (st : Settings) (t : ℕ) (s : State) (tag : ℕ) (kind : Kind) (first count told : ℕ) → has_tag t s.waiting ≡ true →
    Stayed st t s (submitted st s tag kind first count told)
submitted_stays st t s tag kind first count told h =
    by_submit (Stayed st t s) st s tag kind first count told (record { same_left = refl; tick_same = refl; latest_up = omega arith }) (λ _. more)
  where
    x : Queued
    x = entry s tag kind first count told

    more : Stayed st t s (with_entry st s x)
    more =
        let p = taken_keeps st t s.waiting x h in
        let q = for_oldest_taken st s.batch s.passed_over t s.waiting x h in
        record { same_left = rw (p.1, q); tick_same = p.0; latest_up = omega arith }

-- ── over every list of events ──

waits_now : (st : Settings) (t : ℕ) (s : State) (es : List Event) → WaitsThrough st t s es → has_tag t s.waiting ≡ true
waits_now st t s [] h = h
waits_now st t s (e ∷ es) h = h.0

still : (st : Settings) → WithinLimits st → (t : ℕ) (es : List Event) (s : State) → Good s → tick_of t s.waiting + longer_period st ≤ s.latest →
    WaitsThrough st t s es → suc (turns_in es) ≤ Left st t s
still st w t [] s g due h = omega (arith, for_oldest_some st s.batch s.passed_over s.waiting)
still st w t (submit tag kind first count told ∷ es) s g due h =
    let c = submitted_stays st t s tag kind first count told h.0 in
    let s' = submitted st s tag kind first count told in
    let due' : tick_of t s'.waiting + longer_period st ≤ s'.latest = omega (arith, c.tick_same, c.latest_up) in
    let ih = still st w t es s' (good_submitted st s tag kind first count told g) due' h.1 in
    omega (arith, c.same_left, ih)
still st w t (collect tag ∷ es) s g due h = still st w t es s g due h.1
still st w t (turn told ∷ es) s g due h =
    let s' = turned st s told in
    let c = turned_steps st w t s told g (omega arith) h.0 (waits_now st t s' es h.1) in
    let due' : tick_of t s'.waiting + longer_period st ≤ s'.latest = omega (arith, c.tick_kept, c.latest_now) in
    let ih = still st w t es s' (good_turned st s told g) due' h.1 in
    omega (arith, c.fewer, ih)

whole : (st : Settings) → WithinLimits st → (t : ℕ) (s : State) → Good s → Left st t s ≤ (older_than t s.waiting + 1) * (st.writes_starved + 1) * st.fifo_batch
whole st w t s g =
    let b = for_oldest_bound st w s.batch g.begun s.passed_over s.waiting in
    sum (older_than t s.waiting) st.writes_starved st.fifo_batch (for_oldest st s.batch s.passed_over s.waiting) b
  where
    sum : (k W F c : ℕ) → c ≤ (W + 1) * F → k * ((W + 1) * F) + c ≤ (k + 1) * (W + 1) * F
    sum k W F c h = omega arith

pub bounded : WaitingIsBounded
bounded st w past t told es due many h =
    let s = following st set_up past in
    let s' = turned st s told in
    let g = good_following st past set_up good_set_up in
    let c = turned_steps st w t s told g due h.0 (waits_now st t s' es h.1) in
    let due' : tick_of t s'.waiting + longer_period st ≤ s'.latest = omega (arith, c.tick_kept, c.latest_now) in
    let k = still st w t es s' (good_turned st s told g) due' h.1 in
    omega (arith, c.fewer, k, whole st w t s g)
