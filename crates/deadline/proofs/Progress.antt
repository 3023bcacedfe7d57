-- One turn, where the oldest waiting ticket is expired: its run is served, or its turns left grow fewer.
use Rattle.std.proofs.Common.{◌≡◌, ℕ, suc, ◌+◌, ◌-◌, ◌*◌, ◌≤◌, Bool, true, false, cond, not, ◌&&◌, eqb, ltb, leb, ◌⊎◌, List, [], ◌∷◌, IfSome, Some, None, Option, sym, refl, ap, ◌∙◌, subst, inl, inr, mul-le-mul_right, arith}
use Rattle.std.proofs.lemmas.Bool.{true≢false, eq-eqb, le-leb, lt-leb, leb-false, ltb-true, and_parts, not-true, not-false}
use Rattle.device.specs.declared.interface.Kind.{Kind}
use Rattle.device.specs.declared.interface.Kind.TheVariants.{Read, Write, Flush}
use Rattle.device.specs.Meaning.{is_flush}
use Rattle.deadline.specs.Settings.{Settings, period, WithinLimits}
use Rattle.deadline.specs.Waiting.{same, Queued, Run, those, run_of, runs, free, free_runs}
use Rattle.deadline.specs.Turn.{State, Batch, closed, reading, writing, without, passes_down, goes_on, begins_with, lower, lowest, some_of, next_of, reads_next, expired, or_oldest, first_of, new_batch, served_run, by_oldest, choice, one_more, opened, after}
use Rattle.deadline.proofs.Sound.{SoundFrom}
use Rattle.deadline.proofs.Joined.{Each}
use Rattle.deadline.proofs.KindFacts.{same_is}
use Rattle.deadline.proofs.FreeFacts.{own_head, oldest_free_run}

-- ── the runs of a kind are of that kind ──

abbrev Of : Kind → Run → Type 0
Of k r = same r.kind k ≡ true

each_of : (k : Kind) (free? : Run → Bool) (rs : List Run) → Each (Of k) (those (λ r. same r.kind k && free? r) rs)
each_of k f [] = tt
each_of k f (r ∷ rs) = go (same r.kind k && f r) refl (each_of k f rs)
  where
    rest : List Run
    rest = those (λ q. same q.kind k && f q) rs

    go : (b : Bool) → (same r.kind k && f r) ≡ b → Each (Of k) rest → Each (Of k) (cond b (r ∷ rest) rest)
    go true e ih = ((and_parts (same r.kind k) (f r) e).0, ih)
    go false e ih = ih

each_free : (k : Kind) (ws : List Queued) → Each (Of k) (free_runs k ws)
unfolding free_runs
each_free k ws = each_of k (λ r. free ws r.name) (runs ws)

holds_lower : (P : Run → Type 0) (r : Run) (o : Option Run) → P r → IfSome o P → IfSome (lower r o) P
holds_lower P r None h k = h
holds_lower P r (Some q) h k = elim (leb r.begins q.begins) as (λ b. P (cond b r q)) [ true ↦ h | false ↦ k ]

holds_lowest : (P : Run → Type 0) (p : ℕ) (rs : List Run) → Each P rs → IfSome (lowest p rs) P
holds_lowest P p [] e = tt
holds_lowest P p (r ∷ rs) e =
    elim (leb p r.begins) as (λ b. IfSome (cond b (lower r (lowest p rs)) (lowest p rs)) P) [
      | true ↦ holds_lower P r (lowest p rs) e.0 (holds_lowest P p rs e.1)
      | false ↦ holds_lowest P p rs e.1
    ]

holds_or : (P : Run → Type 0) (r : Run) (o : Option Run) → P r → IfSome o P → P (or_oldest r o)
holds_or P r None h k = h
holds_or P r (Some q) h k = k

first_holds : (P : Run → Type 0) (st : Settings) (s : State) (p : ℕ) (rs : List Run) → Each P rs → some_of rs ≡ true →
    (r : Run) × (first_of st s p rs ≡ Some r) × P r
first_holds P st s p [] e h = absurd (true≢false (sym h))
first_holds P st s p (r ∷ rs) e h = (
  cond (expired st s r) r (or_oldest r (lowest p (r ∷ rs))),
  refl,
  elim (expired st s r) as (λ b. P (cond b r (or_oldest r (lowest p (r ∷ rs))))) [
    | true ↦ e.0
    | false ↦ holds_or P r (lowest p (r ∷ rs)) e.0 (holds_lowest P p (r ∷ rs) e)
  ],
)

-- the oldest free run of a kind is the first of a new batch if it is expired
first_expired : (st : Settings) (s : State) (p : ℕ) (r : Run) (rs all : List Run) → all ≡ r ∷ rs → expired st s r ≡ true → first_of st s p all ≡ Some r
first_expired st s p r rs all e x = rw e (ap (λ b. Some (cond b r (or_oldest r (lowest p (r ∷ rs))))) x)

-- ── turns left ──

-- the turns that the open batch may still take
abbrev pub left : ℕ → Batch → ℕ
left F closed = 0
left F (reading n) = F - n
left F (writing n) = F - n

-- the turns of batches that may begin before one begins with the oldest ticket's run
abbrev pub passing : Settings → Kind → ℕ → ℕ
passing st Read n = cond (leb st.writes_starved n) st.fifo_batch 0
passing st Write n = (st.writes_starved - n) * st.fifo_batch
passing st Flush n = 0

abbrev pub turns_left : Settings → Batch → Kind → ℕ → ℕ
turns_left st b k n = left st.fifo_batch b + passing st k n + 1

abbrev pub Begun : Batch → Type 0
Begun closed = Unit {0}
Begun (reading n) = 1 ≤ n
Begun (writing n) = 1 ≤ n

pub left_bound : (F : ℕ) (b : Batch) → 1 ≤ F → Begun b → suc (left F b) ≤ F
left_bound F closed h t = omega arith
left_bound F (reading n) h t = omega arith
left_bound F (writing n) h t = omega arith

pub passing_bound : (st : Settings) → WithinLimits st → (k : Kind) (n : ℕ) → passing st k n ≤ st.writes_starved * st.fifo_batch
passing_bound st w Read n = elim (leb st.writes_starved n) as (λ b. cond b st.fifo_batch 0 ≤ st.writes_starved * st.fifo_batch) [
  | true ↦ omega (arith, mul-le-mul_right st.fifo_batch w.some_passed_over)
  | false ↦ omega arith
]
passing_bound st w Write n =
    let h : st.writes_starved - n ≤ st.writes_starved = omega arith in mul-le-mul_right st.fifo_batch h
passing_bound st w Flush n = omega arith

pub turns_left_bound : (st : Settings) → WithinLimits st → (b : Batch) → Begun b → (k : Kind) (n : ℕ) →
    turns_left st b k n ≤ (st.writes_starved + 1) * st.fifo_batch
turns_left_bound st w b g k n =
    omega (arith, left_bound st.fifo_batch b w.some_run g, passing_bound st w k n)

-- ── what one turn does ──

pub record Outcome (st : Settings) (s : State) (x : Queued) (after_it : State) : Type 0 where
  pub run : ℕ
  pub waiting_is : after_it.waiting ≡ without run s.waiting
  pub latest_is : after_it.latest ≡ s.latest
  pub begun : Begun after_it.batch
  pub gain : (eqb x.head run ≡ true) ⊎
      (suc (turns_left st after_it.batch x.kind after_it.passed_over) ≤ turns_left st s.batch x.kind s.passed_over)

abbrev is_some : Option Run → Bool
is_some None = false
is_some (Some r) = true

-- a batch that goes on has one turn fewer left
next_gains : (st : Settings) (s : State) (b : Batch) (r : Run) → next_of st s b ≡ Some r →
    (suc (left st.fifo_batch (one_more b)) ≤ left st.fifo_batch b) × Begun (one_more b)
next_gains st s closed r e = absurd (true≢false (sym (ap is_some e)))
next_gains st s (reading n) r e = go (ltb n st.fifo_batch) refl e
  where
    go : (b : Bool) → ltb n st.fifo_batch ≡ b → cond b (lowest s.read_position (free_runs Read s.waiting)) None ≡ Some r →
        (suc (st.fifo_batch - (n + 1)) ≤ st.fifo_batch - n) × (1 ≤ n + 1)
    go true t e = omega (arith, ltb-true n st.fifo_batch t)
    go false t e = absurd (true≢false (sym (ap is_some e)))
next_gains st s (writing n) r e = go (ltb n st.fifo_batch) refl e
  where
    go : (b : Bool) → ltb n st.fifo_batch ≡ b → cond b (lowest s.write_position (free_runs Write s.waiting)) None ≡ Some r →
        (suc (st.fifo_batch - (n + 1)) ≤ st.fifo_batch - n) × (1 ≤ n + 1)
    go true t e = omega (arith, ltb-true n st.fifo_batch t)
    go false t e = absurd (true≢false (sym (ap is_some e)))

going_on : (st : Settings) (s : State) (x : Queued) (r : Run) → next_of st s s.batch ≡ Some r → Outcome st s x (after s (goes_on r))
unfolding after
going_on st s x r e =
    let g = next_gains st s s.batch r e in
    record { run = r.name; waiting_is = refl; latest_is = refl; begun = g.1; gain = inr (omega (arith, g.0)) }

pub begun_opened : (k : Kind) → Begun (opened k)
begun_opened Read = omega arith
begun_opened Write = omega arith
begun_opened Flush = tt

-- the batch begins with the oldest ticket's run
begins_own : (st : Settings) (s : State) (ws : List Queued) (x : Queued) → Outcome st s x (after s (begins_with (run_of ws x)))
unfolding after run_of
begins_own st s ws x = record { run = x.head; waiting_is = refl; latest_is = refl; begun = begun_opened x.kind; gain = inl (eq-eqb x.head x.head refl) }

-- a write batch goes before an expired read, and the next batch reads
fewer_for_read : (st : Settings) → WithinLimits st → (b : Batch) (n : ℕ) → leb st.writes_starved n ≡ true →
    suc (turns_left st (writing 1) Read 0) ≤ turns_left st b Read n
fewer_for_read st w b n t =
    let z = lt-leb st.writes_starved 0 w.some_passed_over in
    let m = w.some_run in
    subst (λ v. suc (st.fifo_batch - 1 + cond v st.fifo_batch 0 + 1) ≤ turns_left st b Read n) (sym z)
    (subst (λ v. suc (st.fifo_batch - 1 + 0 + 1) ≤ left st.fifo_batch b + cond v st.fifo_batch 0 + 1) (sym t) (omega arith))

once_more : (a b F : ℕ) → a + 1 ≤ b → a * F + F ≤ b * F
once_more a b F h = omega (arith, mul-le-mul_right F h)

-- a read batch goes before an expired write, and the count rises
fewer_for_write : (st : Settings) → WithinLimits st → (b : Batch) (n : ℕ) → leb st.writes_starved n ≡ false →
    suc (turns_left st (reading 1) Write (n + 1)) ≤ turns_left st b Write n
fewer_for_write st w b n t =
    let l = leb-false st.writes_starved n t in
    let h : (st.writes_starved - (n + 1)) + 1 ≤ st.writes_starved - n = omega arith in
    let k = once_more (st.writes_starved - (n + 1)) (st.writes_starved - n) st.fifo_batch h in
    let m = w.some_run in
    few (left st.fifo_batch b) ((st.writes_starved - (n + 1)) * st.fifo_batch) ((st.writes_starved - n) * st.fifo_batch) st.fifo_batch k m
  where
    few : (l p q F : ℕ) → p + F ≤ q → 1 ≤ F → suc (F - 1 + p + 1) ≤ l + q + 1
    few l p q F h k = omega arith

begins_write : (st : Settings) → WithinLimits st → (s : State) (x : Queued) (r : Run) → x.kind ≡ Read → r.kind ≡ Write →
    leb st.writes_starved s.passed_over ≡ true → Outcome st s x (after s (begins_with r))
unfolding after
begins_write st w s x r ex er t = record {
  run = r.name;
  waiting_is = refl;
  latest_is = refl;
  begun = begun_opened r.kind;
  gain = inr (rw (ex, er) (fewer_for_read st w s.batch s.passed_over t));
}

begins_read : (st : Settings) → WithinLimits st → (s : State) (x : Queued) (r : Run) → x.kind ≡ Write → r.kind ≡ Read →
    some_of (free_runs Write s.waiting) ≡ true → leb st.writes_starved s.passed_over ≡ false → Outcome st s x (after s (begins_with r))
unfolding after
begins_read st w s x r ex er f t = record {
  run = r.name;
  waiting_is = refl;
  latest_is = refl;
  begun = begun_opened r.kind;
  gain = inr (rw (ex, er, f) (fewer_for_write st w s.batch s.passed_over t));
}

abbrev Begins : Settings → State → Queued → Option Run → Type 0
Begins st s x o = (r : Run) × (o ≡ Some r) × Outcome st s x (after s (begins_with r))

-- from the free reads and writes
begins_for_read : (st : Settings) → WithinLimits st → (s : State) (x : Queued) (ws : List Queued) → x.kind ≡ Read → expired st s (run_of ws x) ≡ true →
    (rs : List Run) → free_runs Read s.waiting ≡ run_of ws x ∷ rs → Begins st s x (new_batch st s)
unfolding new_batch
begins_for_read st w s x ws ex late rs e = go (reads_next st.writes_starved s.passed_over reads writes) refl
  where
    reads : List Run
    reads = free_runs Read s.waiting

    writes : List Run
    writes = free_runs Write s.waiting

    some_read : some_of reads ≡ true
    some_read = ap some_of e

    go : (b : Bool) → reads_next st.writes_starved s.passed_over reads writes ≡ b →
        Begins st s x (cond b (first_of st s s.read_position reads) (first_of st s s.write_position writes))
    go true t = (run_of ws x, first_expired st s s.read_position (run_of ws x) rs reads e late, begins_own st s ws x)
    go false t =
        let both : (some_of writes && leb st.writes_starved s.passed_over) ≡ true = not-false (some_of writes && leb st.writes_starved s.passed_over) (rw some_read at t) in
        let f = first_holds (Of Write) st s s.write_position writes (each_free Write s.waiting) (and_parts (some_of writes) (leb st.writes_starved s.passed_over) both).0 in
        (f.0, f.1, begins_write st w s x f.0 ex (same_is f.0.kind Write f.2) (and_parts (some_of writes) (leb st.writes_starved s.passed_over) both).1)

begins_for_write : (st : Settings) → WithinLimits st → (s : State) (x : Queued) (ws : List Queued) → x.kind ≡ Write → expired st s (run_of ws x) ≡ true →
    (rs : List Run) → free_runs Write s.waiting ≡ run_of ws x ∷ rs → Begins st s x (new_batch st s)
unfolding new_batch
begins_for_write st w s x ws ex late rs e = go (reads_next st.writes_starved s.passed_over reads writes) refl
  where
    reads : List Run
    reads = free_runs Read s.waiting

    writes : List Run
    writes = free_runs Write s.waiting

    some_write : some_of writes ≡ true
    some_write = ap some_of e

    go : (b : Bool) → reads_next st.writes_starved s.passed_over reads writes ≡ b →
        Begins st s x (cond b (first_of st s s.read_position reads) (first_of st s s.write_position writes))
    go false t = (run_of ws x, first_expired st s s.write_position (run_of ws x) rs writes e late, begins_own st s ws x)
    go true t =
        let parts = and_parts (some_of reads) (not (some_of writes && leb st.writes_starved s.passed_over)) t in
        let few = rw some_write at (not-true (some_of writes && leb st.writes_starved s.passed_over) parts.1) in
        let f = first_holds (Of Read) st s s.read_position reads (each_free Read s.waiting) parts.0 in
        (f.0, f.1, begins_read st w s x f.0 ex (same_is f.0.kind Read f.2) some_write few)

-- ── one turn ──

passing_down : (st : Settings) (s : State) (x : Queued) → x.tag ≡ x.head → Outcome st s x (after s (passes_down x.tag))
unfolding after
passing_down st s x own = record { run = x.tag; waiting_is = refl; latest_is = refl; begun = tt; gain = inl (eq-eqb x.head x.tag (sym own)) }

serving_one : (st : Settings) (s : State) (x : Queued) → Begins st s x (new_batch st s) → Outcome st s x (after s (served_run (next_of st s s.batch) (new_batch st s)))
serving_one st s x b = go (next_of st s s.batch) refl
  where
    go : (o : Option Run) → next_of st s s.batch ≡ o → Outcome st s x (after s (served_run o (new_batch st s)))
    go (Some r) e = going_on st s x r e
    go None e = subst (λ o. Outcome st s x (after s (served_run None o))) (sym b.1) b.2

late_run : (st : Settings) (s : State) (ws : List Queued) (x : Queued) → period st x.kind ≤ s.latest - x.tick → expired st s (run_of ws x) ≡ true
unfolding run_of
late_run st s ws x h = le-leb (period st x.kind) (s.latest - x.tick) h

pub turn_outcome : (st : Settings) → WithinLimits st → (s : State) (x : Queued) (xs : List Queued) → s.waiting ≡ x ∷ xs → SoundFrom [] (x ∷ xs) →
    period st x.kind ≤ s.latest - x.tick → Outcome st s x (after s (choice st s (x ∷ xs)))
unfolding choice
turn_outcome st w s x xs ew sound late = go x.kind refl
  where
    own : x.tag ≡ x.head
    own = own_head x sound.0.headed

    is_late : expired st s (run_of (x ∷ xs) x) ≡ true
    is_late = late_run st s (x ∷ xs) x late

    first_run : (k : Kind) → is_flush x.kind ≡ false → same x.kind k ≡ true → (rs : List Run) × (free_runs k s.waiting ≡ run_of (x ∷ xs) x ∷ rs)
    first_run k a b = let f = oldest_free_run k x xs sound a b in (f.0, ap (free_runs k) ew ∙ f.1)

    go : (k : Kind) → x.kind ≡ k → Outcome st s x (after s (by_oldest k x.tag (next_of st s s.batch) (new_batch st s)))
    go Flush e = passing_down st s x own
    go Read e = let f = first_run Read (ap is_flush e) (ap (λ j. same j Read) e) in serving_one st s x (begins_for_read st w s x (x ∷ xs) e is_late f.0 f.1)
    go Write e = let f = first_run Write (ap is_flush e) (ap (λ j. same j Write) e) in serving_one st s x (begins_for_write st w s x (x ∷ xs) e is_late f.0 f.1)
