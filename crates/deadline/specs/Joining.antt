-- Which waiting run a new ticket joins.
use Rattle.std.specs.Prelude.{ℕ, ◌+◌, Bool, true, cond, not, ◌&&◌, List, [], ◌∷◌, ◌++◌, ◌==◌, nat_le}
use Rattle.device.specs.Meaning.{is_flush, longest_run}
use Rattle.deadline.specs.Settings.{Settings}
use Rattle.deadline.specs.Waiting.{Queued, Run, any, those, same, end, ends, is_in, conflict, runs}

abbrev pub has_flush : List Queued → Bool
has_flush ws = any (λ x. is_flush x.kind) ws

-- each ticket of the run is younger than every waiting flush
abbrev pub past_flushes : ℕ → List Queued → Bool
past_flushes r [] = true
past_flushes r (x ∷ xs) = not (is_in r x && has_flush xs) && past_flushes r xs

-- the run is of the ticket's kind, both together are no longer than a run may be, and no flush waits in or after the run
abbrev pub has_room : List Queued → Queued → Run → Bool
has_room ws x r = same r.kind x.kind && (nat_le (r.count + x.count) longest_run && past_flushes r.name ws)

-- the runs that x can join: first those that end where it begins, then, with front merges, those that begin where it ends
unfoldable pub joinable : Settings → List Queued → Queued → List Run
unfolding runs
joinable st ws x =
    those (λ r. has_room ws x r && ends r == x.first) (runs ws) ++
    those (λ r. has_room ws x r && (st.front_merges && end x == r.begins)) (runs ws)

-- the run with the oldest head, or none
abbrev pub name_of_first : List Run → ℕ → ℕ
name_of_first [] own = own
name_of_first (r ∷ rs) own = r.name

-- the run that a new ticket belongs to: its own if it conflicts with a waiting ticket or can join none
unfoldable pub run_for : Settings → List Queued → Queued → ℕ
unfolding joinable conflict
run_for st ws x = cond (any (conflict x) ws) x.tag (name_of_first (joinable st ws x) x.tag)

abbrev pub in_run : Queued → ℕ → Queued
in_run x r = record { tag = x.tag; kind = x.kind; first = x.first; count = x.count; tick = x.tick; head = r }

-- the waiting tickets once the youngest has its run: two runs that come to touch stay two
unfoldable pub once_runs_touch : Settings → List Queued → List Queued
once_runs_touch st ws = ws
