-- Examples of what the turns serve, in order. A read, a write at a sector has the sector as its tag, and count 1 and tick 0
-- unless said otherwise.
use Rattle.std.specs.Prelude.{◌≡◌, ℕ, true, false, not, List, [], ◌∷◌, map}
use Rattle.device.specs.declared.interface.Kind.TheVariants.{Read, Write, Flush}
use Rattle.deadline.specs.Settings.{Settings, usual}
use Rattle.deadline.specs.Waiting.{Queued, those, has_tag}
use Rattle.deadline.specs.Turn.{State, set_up, submitted, turned}
use Rattle.deadline.specs.Events.{Event, submit, turn, collect}

abbrev pub tags : List Queued → List ℕ
tags = map (λ x. x.tag)

-- the tickets that wait before and not after, by tag, the oldest first
abbrev pub gone : (before after : List Queued) → List ℕ
gone before after = tags (those (λ x. not (has_tag x.tag after)) before)

-- what each turn of a list of events serves
abbrev pub served_from : Settings → State → List Event → List (List ℕ)
served_from st s [] = []
served_from st s (submit tag kind first count told ∷ es) = served_from st (submitted st s tag kind first count told) es
served_from st s (turn told ∷ es) = gone s.waiting (turned st s told).waiting ∷ served_from st (turned st s told) es
served_from st s (collect tag ∷ es) = served_from st s es

abbrev pub served : Settings → List Event → List (List ℕ)
served st es = served_from st set_up es

abbrev pub R : ℕ → Event
R n = submit n Read n 1 0

abbrev pub W : ℕ → Event
W n = submit n Write n 1 0

abbrev pub F : ℕ → Event
F tag = submit tag Flush 0 0 0

abbrev pub T : Event
T = turn 0

abbrev pub with_starved_and_batch : ℕ → ℕ → Settings
with_starved_and_batch n f = record { read_expire = 500; write_expire = 5000; writes_starved = n; fifo_batch = f; front_merges = true }

abbrev pub without_front_merges : Settings
without_front_merges = record { read_expire = 500; write_expire = 5000; writes_starved = 2; fifo_batch = 16; front_merges = false }

abbrev pub OrdersHold : Type 0
OrdersHold =
    -- reads go before writes that they do not conflict with
    (served usual (W 100 ∷ R 200 ∷ T ∷ T ∷ []) ≡ (200 ∷ []) ∷ (100 ∷ []) ∷ []) ×
    -- of two runs that begin at one sector the one with the older head goes first
    (served usual (submit 1 Read 10 1 0 ∷ submit 2 Read 10 2 0 ∷ T ∷ T ∷ []) ≡ (1 ∷ []) ∷ (2 ∷ []) ∷ []) ×
    (served usual (submit 2 Read 10 2 0 ∷ submit 1 Read 10 1 0 ∷ T ∷ T ∷ []) ≡ (2 ∷ []) ∷ (1 ∷ []) ∷ []) ×
    -- a run may come to 8 sectors and not to 9, at the back and in front
    (served usual (submit 10 Read 10 4 0 ∷ submit 14 Read 14 4 0 ∷ T ∷ T ∷ []) ≡ (10 ∷ 14 ∷ []) ∷ [] ∷ []) ×
    (served usual (submit 10 Read 10 4 0 ∷ submit 14 Read 14 5 0 ∷ T ∷ T ∷ []) ≡ (10 ∷ []) ∷ (14 ∷ []) ∷ []) ×
    (served usual (submit 14 Read 14 4 0 ∷ submit 10 Read 10 4 0 ∷ T ∷ T ∷ []) ≡ (14 ∷ 10 ∷ []) ∷ [] ∷ []) ×
    (served without_front_merges (submit 14 Read 14 4 0 ∷ submit 10 Read 10 4 0 ∷ T ∷ T ∷ []) ≡ (10 ∷ []) ∷ (14 ∷ []) ∷ []) ×
    -- the back of a run is tried before the front of another, and the two stay two
    (served usual (submit 14 Read 14 2 0 ∷ submit 10 Read 10 2 0 ∷ submit 12 Read 12 2 0 ∷ T ∷ T ∷ []) ≡ (10 ∷ 12 ∷ []) ∷ (14 ∷ []) ∷ []) ×
    -- no joining where a waiting write overlaps, and none across a flush
    (served usual (submit 1 Write 14 1 0 ∷ submit 10 Read 10 4 0 ∷ R 14 ∷ T ∷ T ∷ T ∷ []) ≡ (10 ∷ []) ∷ (1 ∷ []) ∷ (14 ∷ []) ∷ []) ×
    (served usual (R 10 ∷ F 1 ∷ R 11 ∷ T ∷ T ∷ T ∷ []) ≡ (10 ∷ []) ∷ (1 ∷ []) ∷ (11 ∷ []) ∷ []) ×
    -- two read batches pass a write over, then it is served; a write batch sets the count to 0
    (served (with_starved_and_batch 2 1) (R 10 ∷ R 20 ∷ R 30 ∷ R 40 ∷ W 50 ∷ T ∷ T ∷ T ∷ T ∷ T ∷ []) ≡
    (10 ∷ []) ∷ (20 ∷ []) ∷ (50 ∷ []) ∷ (30 ∷ []) ∷ (40 ∷ []) ∷ []) ×
    (served (with_starved_and_batch 1 1) (R 10 ∷ R 20 ∷ R 30 ∷ W 50 ∷ W 60 ∷ T ∷ T ∷ T ∷ T ∷ T ∷ []) ≡
    (10 ∷ []) ∷ (50 ∷ []) ∷ (20 ∷ []) ∷ (60 ∷ []) ∷ (30 ∷ []) ∷ []) ×
    -- a run is expired once its period has passed, and not before
    (served usual (R 200 ∷ submit 10 Read 10 1 500 ∷ turn 500 ∷ turn 500 ∷ []) ≡ (200 ∷ []) ∷ (10 ∷ []) ∷ []) ×
    (served usual (R 200 ∷ submit 10 Read 10 1 499 ∷ turn 499 ∷ turn 499 ∷ []) ≡ (10 ∷ []) ∷ (200 ∷ []) ∷ []) ×
    -- a smaller tick told counts as the latest
    (served usual (R 200 ∷ submit 10 Read 10 1 500 ∷ turn 3 ∷ turn 3 ∷ []) ≡ (200 ∷ []) ∷ (10 ∷ []) ∷ []) ×
    -- each kind has its own position
    (served usual (W 200 ∷ R 100 ∷ W 50 ∷ T ∷ T ∷ T ∷ []) ≡ (100 ∷ []) ∷ (50 ∷ []) ∷ (200 ∷ []) ∷ []) ×
    (served usual (R 100 ∷ T ∷ W 200 ∷ T ∷ R 50 ∷ R 150 ∷ T ∷ T ∷ []) ≡ (100 ∷ []) ∷ (200 ∷ []) ∷ (150 ∷ []) ∷ (50 ∷ []) ∷ []) ×
    -- which is the end of its last served run
    (served usual (submit 10 Read 10 2 0 ∷ T ∷ R 11 ∷ R 30 ∷ T ∷ T ∷ []) ≡ (10 ∷ []) ∷ (30 ∷ []) ∷ (11 ∷ []) ∷ []) ×
    -- a batch goes on upwards from its position, then a new one begins
    (served usual (R 100 ∷ R 50 ∷ T ∷ R 20 ∷ R 60 ∷ T ∷ T ∷ T ∷ []) ≡ (50 ∷ []) ∷ (60 ∷ []) ∷ (100 ∷ []) ∷ (20 ∷ []) ∷ []) ×
    -- flushes are served in order
    (served usual (W 5 ∷ F 1 ∷ R 9 ∷ T ∷ T ∷ T ∷ []) ≡ (5 ∷ []) ∷ (1 ∷ []) ∷ (9 ∷ []) ∷ []) ×
    -- and a flush closes the batch: the read at 20 begins one, which passes the write over, so the write goes before the read at 15
    (served (with_starved_and_batch 1 16) (R 10 ∷ T ∷ F 1 ∷ T ∷ W 50 ∷ R 20 ∷ T ∷ R 15 ∷ T ∷ T ∷ []) ≡
    (10 ∷ []) ∷ (1 ∷ []) ∷ (20 ∷ []) ∷ (50 ∷ []) ∷ (15 ∷ []) ∷ [])
