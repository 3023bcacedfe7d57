-- What one turn serves, and what a submit and a turn leave.
use Rattle.std.specs.Prelude.{ℕ, ◌+◌, ◌-◌, max, Bool, true, false, cond, not, ◌&&◌, List, [], ◌∷◌, ◌++◌, Some, None, Option, nat_le, nat_lt}
use Rattle.device.specs.declared.interface.Kind.{Kind}
use Rattle.device.specs.declared.interface.Kind.TheVariants.{Read, Write, Flush}
use Rattle.device.specs.Meaning.{is_read, is_write}
use Rattle.deadline.specs.Settings.{Settings, period}
use Rattle.deadline.specs.Waiting.{Queued, Run, those, ends, is_in, has_tag, free_runs}
use Rattle.deadline.specs.Joining.{in_run, run_for, once_runs_touch}
pub use Rattle.deadline.specs.declared.dispatch.Batch.{Batch}
pub use Rattle.deadline.specs.declared.dispatch.Batch.TheVariants.{Closed as closed, Reading as reading, Writing as writing}
pub use Rattle.deadline.specs.declared.dispatch.Choice.{Choice}
pub use Rattle.deadline.specs.declared.dispatch.Choice.TheVariants.{Idle as idle, PassesDown as passes_down, GoesOn as goes_on, BeginsWith as begins_with}

-- What is remembered from call to call. The waiting tickets are in order of acceptance, the oldest first.
pub record State : Type 0 where
  pub latest : ℕ
  pub batch : Batch
  pub read_position : ℕ
  pub write_position : ℕ
  pub passed_over : ℕ
  pub waiting : List Queued

abbrev pub set_up : State
set_up = record { latest = 0; batch = closed; read_position = 0; write_position = 0; passed_over = 0; waiting = [] }

-- each kind has its position: the end of its last served run
abbrev pub position : Kind → State → ℕ
position Read s = s.read_position
position Write s = s.write_position
position Flush s = 0

-- what a turn serves

abbrev pub lower : Run → Option Run → Option Run
lower r None = Some r
lower r (Some q) = Some (cond (nat_le r.begins q.begins) r q)

-- the lowest run at or past a position; ties go to the oldest head
abbrev pub lowest : ℕ → List Run → Option Run
lowest p [] = None
lowest p (r ∷ rs) = let rest = lowest p rs in cond (nat_le p r.begins) (lower r rest) rest

abbrev pub some_of : List Run → Bool
some_of [] = false
some_of (r ∷ rs) = true

-- the run that the batch goes on with: it has served fewer than it may, and a free run of its kind lies at or past the position
abbrev pub next_of : Settings → State → Batch → Option Run
next_of st s closed = None
next_of st s (reading n) = cond (nat_lt n st.fifo_batch) (lowest s.read_position (free_runs Read s.waiting)) None
next_of st s (writing n) = cond (nat_lt n st.fifo_batch) (lowest s.write_position (free_runs Write s.waiting)) None

-- a new batch reads if a free read exists, unless a free write exists too and was passed over often enough
abbrev pub reads_next : (most passed : ℕ) (reads writes : List Run) → Bool
reads_next most passed reads writes = some_of reads && not (some_of writes && nat_le most passed)

abbrev pub expired : Settings → State → Run → Bool
expired st s r = nat_le (period st r.kind) (s.latest - r.tick)

abbrev pub or_oldest : Run → Option Run → Run
or_oldest r None = r
or_oldest r (Some q) = q

-- the first run of a new batch: the oldest free one of its kind if that is expired, else the lowest at or past the position, else the oldest
abbrev pub first_of : Settings → State → (position : ℕ) → List Run → Option Run
first_of st s p [] = None
first_of st s p (r ∷ rs) = Some (cond (expired st s r) r (or_oldest r (lowest p (r ∷ rs))))

unfoldable pub new_batch : Settings → State → Option Run
unfolding free_runs
new_batch st s =
    let reads = free_runs Read s.waiting in
    let writes = free_runs Write s.waiting in
    cond (reads_next st.writes_starved s.passed_over reads writes)
    (first_of st s s.read_position reads)
    (first_of st s s.write_position writes)

abbrev pub served_run : (next first : Option Run) → Choice
served_run (Some r) first = goes_on r
served_run None (Some r) = begins_with r
served_run None None = idle

abbrev pub by_oldest : Kind → ℕ → (next first : Option Run) → Choice
by_oldest Flush t next first = passes_down t
by_oldest Read t next first = served_run next first
by_oldest Write t next first = served_run next first

-- a flush that is oldest is passed down; else the batch goes on; else a new one begins
unfoldable pub choice : Settings → State → List Queued → Choice
unfolding new_batch
choice st s [] = idle
choice st s (x ∷ xs) = by_oldest x.kind x.tag (next_of st s s.batch) (new_batch st s)

-- what is left

abbrev pub without : ℕ → List Queued → List Queued
without r ws = those (λ x. not (is_in r x)) ws

abbrev pub one_more : Batch → Batch
one_more closed = closed
one_more (reading n) = reading (n + 1)
one_more (writing n) = writing (n + 1)

abbrev pub opened : Kind → Batch
opened Read = reading 1
opened Write = writing 1
opened Flush = closed

-- a read batch that begins while a free write exists adds 1, a write batch sets the count to 0
abbrev pub passed_over_by : Kind → (free_write : Bool) → ℕ → ℕ
passed_over_by Read w n = cond w (n + 1) n
passed_over_by Write w n = 0
passed_over_by Flush w n = n

abbrev pub serving : State → Run → Batch → (passed : ℕ) → State
serving s r b n = record {
  latest = s.latest;
  batch = b;
  read_position = cond (is_read r.kind) (ends r) s.read_position;
  write_position = cond (is_write r.kind) (ends r) s.write_position;
  passed_over = n;
  waiting = without r.name s.waiting;
}

-- a flush that is passed down closes the batch
unfoldable pub after : State → Choice → State
unfolding free_runs
after s idle = s
after s (passes_down t) = record {
  latest = s.latest;
  batch = closed;
  read_position = s.read_position;
  write_position = s.write_position;
  passed_over = s.passed_over;
  waiting = without t s.waiting;
}
after s (goes_on r) = serving s r (one_more s.batch) s.passed_over
after s (begins_with r) =
    serving s r (opened r.kind) (passed_over_by r.kind (some_of (free_runs Write s.waiting)) s.passed_over)

-- a smaller tick told counts as the latest
abbrev pub at_tick : State → ℕ → State
at_tick s told = record {
  latest = max s.latest told;
  batch = s.batch;
  read_position = s.read_position;
  write_position = s.write_position;
  passed_over = s.passed_over;
  waiting = s.waiting;
}

-- a turn that finds none waiting changes nothing
abbrev pub turned_with : Settings → State → ℕ → List Queued → State
turned_with st s told [] = s
turned_with st s told (x ∷ xs) = after (at_tick s told) (choice st (at_tick s told) (x ∷ xs))

unfoldable pub turned : Settings → State → ℕ → State
turned st s told = turned_with st s told s.waiting

-- what a turn that is told the tick serves
unfoldable pub chosen : Settings → State → ℕ → Choice
unfolding choice
chosen st s told = choice st (at_tick s told) s.waiting

-- a new ticket at the end of the waiting ones, in the run that it belongs to
unfoldable pub taken : Settings → List Queued → Queued → List Queued
unfolding run_for
taken st ws x = once_runs_touch st (ws ++ (in_run x (run_for st ws x) ∷ []))

-- an accepted submit. A tag that waits is open, so it is never accepted.
unfoldable pub submitted : Settings → State → (tag : ℕ) → Kind → (first count told : ℕ) → State
unfolding taken
submitted st s tag kind first count told =
    let now = max s.latest told in
    let x : Queued = record { tag = tag; kind = kind; first = first; count = count; tick = now; head = tag } in
    cond (has_tag tag s.waiting) s
    (record {
      latest = now;
      batch = s.batch;
      read_position = s.read_position;
      write_position = s.write_position;
      passed_over = s.passed_over;
      waiting = taken st s.waiting x;
    })
