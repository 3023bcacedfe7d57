-- What the deadline rules keep, in the subject's words. Each law is in the contract of a function of `src/laws.rt`.
use Rattle.std.specs.Prelude.{◌≡◌, ℕ, ◌+◌, ◌<◌, ◌≤◌, Bool, true, false, ◌||◌, ◌⊎◌, List, [], ◌∷◌, ◌++◌, map, length, ◌≢◌}
use Rattle.device.specs.declared.interface.Kind.{Kind}
use Rattle.device.specs.declared.interface.Kind.TheVariants.{Read, Write, Flush}
use Rattle.device.specs.Meaning.{is_flush}
use Rattle.deadline.specs.Settings.{Settings, WithinLimits}
use Rattle.deadline.specs.Waiting.{Queued, Run, ends, is_in, conflict, runs, free, free_runs}
use Rattle.deadline.specs.Turn.{State, set_up, Batch, closed, reading, writing, Choice, idle, passes_down, goes_on, begins_with, position, expired, some_of, turned, chosen, at_tick}
use Rattle.deadline.specs.Events.{Event, following, dispatched, how_many, begins_writing, passes_writes_over}

-- words

abbrev pub In : {A : Type 0} → A → List A → Type 0
In x [] = ⊥
In x (y ∷ ys) = (x ≡ y) ⊎ In x ys

infixr 3 ◌⇔◌
abbrev pub ◌⇔◌ : Type 0 → Type 0 → Type 0
P ⇔ Q = (P → Q) × (Q → P)

-- every state that events lead to from set-up
abbrev pub Always : (Settings → State → Type 0) → Type 0
Always P = (st : Settings) → WithinLimits st → (past : List Event) → P st (following st set_up past)

-- ── free runs ──

-- what free means: at each ticket x of the run, with those older than it, none outside the run conflicts with x;
-- and at each flush outside the run, some ticket of the run is older than it
pub record IsFree (ws : List Queued) (r : ℕ) : Type 0 where
  pub apart : (older : List Queued) (x : Queued) (younger : List Queued) → ws ≡ older ++ (x ∷ younger) → is_in r x ≡ true →
      (y : Queued) → In y older → is_in r y ≡ false → conflict x y ≡ false
  pub before_flushes : (older : List Queued) (f : Queued) (younger : List Queued) → ws ≡ older ++ (f ∷ younger) → is_flush f.kind ≡ true →
      is_in r f ≡ false → (y : Queued) × In y older × (is_in r y ≡ true)

abbrev pub FreeIsFree : Type 0
FreeIsFree = (ws : List Queued) (r : ℕ) → (free ws r ≡ true) ⇔ IsFree ws r

-- the candidates of a kind are its free runs, all of them and no others
abbrev pub CandidatesAreTheFreeRuns : Type 0
CandidatesAreTheFreeRuns = (k : Kind) (ws : List Queued) (r : Run) →
    In r (free_runs k ws) ⇔ (In r (runs ws) × (r.kind ≡ k) × (free ws r.name ≡ true))

-- the oldest waiting ticket is a flush, or its run is free
abbrev pub OldestIsFree : Type 0
OldestIsFree = Always (λ st s. (x : Queued) (younger : List Queued) → s.waiting ≡ x ∷ younger →
    (is_flush x.kind ≡ true) ⊎ (free s.waiting x.head ≡ true))

-- ── what a turn serves ──

-- r is the lowest run at or past p; of several that begin there, the one with the oldest head
pub record Lowest (p : ℕ) (rs : List Run) (r : Run) : Type 0 where
  pub older : List Run
  pub younger : List Run
  pub stands : rs ≡ older ++ (r ∷ younger)
  pub past : p ≤ r.begins
  pub below_older : (q : Run) → In q older → p ≤ q.begins → r.begins < q.begins
  pub below_younger : (q : Run) → In q younger → p ≤ q.begins → r.begins ≤ q.begins

abbrev pub NonePast : ℕ → List Run → Type 0
NonePast p rs = (q : Run) → In q rs → q.begins < p

-- the batch is of the kind, and has served fewer runs than it may
abbrev pub Open : Settings → Batch → Kind → Type 0
Open st closed k = ⊥
Open st (reading n) k = (k ≡ Read) × (n < st.fifo_batch)
Open st (writing n) k = (k ≡ Write) × (n < st.fifo_batch)

-- a new batch reads if a free read exists, unless a free write exists too and the count has come to writes_starved
abbrev pub NextKind : Settings → State → Kind → Type 0
NextKind st s Read = some_of (free_runs Write s.waiting) ≡ true → s.passed_over < st.writes_starved
NextKind st s Write = some_of (free_runs Read s.waiting) ≡ true → st.writes_starved ≤ s.passed_over
NextKind st s Flush = ⊥

-- the first run of a new batch, of the candidates of its kind, the oldest head first
pub record First (st : Settings) (s : State) (p : ℕ) (rs : List Run) (r : Run) : Type 0 where
  pub oldest : Run
  pub others : List Run
  pub candidates : rs ≡ oldest ∷ others
  pub urgent : expired st s oldest ≡ true → r ≡ oldest
  pub in_order : expired st s oldest ≡ false → Lowest p rs r ⊎ (NonePast p rs × (r ≡ oldest))

pub record GoesOn (st : Settings) (s : State) (r : Run) : Type 0 where
  pub open_batch : Open st s.batch r.kind
  pub lowest : Lowest (position r.kind s) (free_runs r.kind s.waiting) r

pub record BeginsWith (st : Settings) (s : State) (r : Run) : Type 0 where
  -- the batch could not go on
  pub ended : (k : Kind) → Open st s.batch k → NonePast (position k s) (free_runs k s.waiting)
  pub next_kind : NextKind st s r.kind
  pub first : First st s (position r.kind s) (free_runs r.kind s.waiting) r

abbrev pub NoFlushFirst : List Queued → Type 0
NoFlushFirst ws = (x : Queued) (younger : List Queued) → ws ≡ x ∷ younger → is_flush x.kind ≡ false

-- the rules of a turn, as a relation between what waits and what is served
abbrev pub ByTheRules : Settings → State → Choice → Type 0
ByTheRules st s idle = s.waiting ≡ []
ByTheRules st s (passes_down t) = (x : Queued) × (younger : List Queued) × (s.waiting ≡ x ∷ younger) × (is_flush x.kind ≡ true) × (x.tag ≡ t)
ByTheRules st s (goes_on r) = NoFlushFirst s.waiting × GoesOn st s r
ByTheRules st s (begins_with r) = NoFlushFirst s.waiting × BeginsWith st s r

abbrev pub TurnsFollowTheRules : Type 0
TurnsFollowTheRules = Always (λ st s. (told : ℕ) → ByTheRules st (at_tick s told) (chosen st s told))

-- ── nothing is overtaken ──

-- y may not be served while the older x waits: they conflict, or one of them is a flush
abbrev pub stays_behind : (x y : Queued) → Bool
stays_behind x y = conflict y x || (is_flush x.kind || is_flush y.kind)

abbrev pub NothingOvertakes : Type 0
NothingOvertakes = Always (λ st s. (told : ℕ) (older : List Queued) (x : Queued) (between : List Queued) (y : Queued) (younger : List Queued) →
    s.waiting ≡ older ++ (x ∷ (between ++ (y ∷ younger))) → stays_behind x y ≡ true → In y (turned st s told).waiting)

-- ── batches ──

abbrev pub AllOf : Kind → List Run → Type 0
AllOf k [] = Unit {0}
AllOf k (r ∷ rs) = (r.kind ≡ k) × AllOf k rs

-- each run begins at or past the end of the one before
abbrev pub Rising : ℕ → List Run → Type 0
Rising p [] = Unit {0}
Rising p (r ∷ rs) = (p ≤ r.begins) × Rising (ends r) rs

-- a batch: the run that begins it, and those with which it goes on
pub record ABatch (st : Settings) (r : Run) (rs : List Run) : Type 0 where
  pub few : length (r ∷ rs) ≤ st.fifo_batch
  pub one_kind : AllOf r.kind rs
  pub rising : Rising (ends r) rs

abbrev pub BatchesAreShortAndRising : Type 0
BatchesAreShortAndRising = Always (λ st s. (es : List Event) (r : Run) (rs : List Run) →
    dispatched st s es ≡ begins_with r ∷ map goes_on rs → ABatch st r rs)

-- after a flush, and at set-up, no batch is open to go on
abbrev pub FlushesCloseTheBatch : Type 0
FlushesCloseTheBatch = Always (λ st s. (es : List Event) (t : ℕ) (r : Run) (cs : List Choice) →
    dispatched st s es ≢ passes_down t ∷ (goes_on r ∷ cs))

-- ── writes are not starved ──

pub record Counted (st : Settings) (s : State) (es : List Event) : Type 0 where
  -- while no write batch begins, at most writes_starved read batches begin with a free write waiting
  pub at_most : how_many begins_writing st s es ≡ 0 → how_many passes_writes_over st s es ≤ st.writes_starved
  -- and the count is the number of those since the last write batch
  pub exactly : how_many begins_writing st s es ≡ 0 → (following st s es).passed_over ≡ s.passed_over + how_many passes_writes_over st s es

abbrev pub WritesAreNotStarved : Type 0
WritesAreNotStarved = Always (λ st s. (es : List Event) → Counted st s es)

abbrev pub WriteBatchesResetTheCount : Type 0
WriteBatchesResetTheCount = Always (λ st s. (told : ℕ) → begins_writing st s told ≡ true → (turned st s told).passed_over ≡ 0)
