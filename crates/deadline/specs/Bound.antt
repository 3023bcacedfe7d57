-- How long a ticket can wait, over every list of events.
use Rattle.std.specs.Prelude.{◌≡◌, ℕ, zero, suc, ◌+◌, ◌*◌, ◌≤◌, max, true, false, cond, List, [], ◌∷◌, ◌==◌}
use Rattle.device.specs.declared.interface.Kind.TheVariants.{Read, Write}
use Rattle.deadline.specs.Settings.{Settings, WithinLimits, longer_period}
use Rattle.deadline.specs.Waiting.{Queued, has_tag}
use Rattle.deadline.specs.Turn.{State, set_up}
use Rattle.deadline.specs.Events.{Event, submit, turn, step, following, turns_in}

-- the ticket of a tag waits before the events, between each two, and after the last
abbrev pub WaitsThrough : Settings → (tag : ℕ) → State → List Event → Type 0
WaitsThrough st t s [] = has_tag t s.waiting ≡ true
WaitsThrough st t s (e ∷ es) = (has_tag t s.waiting ≡ true) × WaitsThrough st t (step st s e) es

-- how many waiting tickets are older than that of the tag, and its submission tick
abbrev pub older_than : ℕ → List Queued → ℕ
older_than t [] = 0
older_than t (x ∷ xs) = cond (x.tag == t) 0 (suc (older_than t xs))

abbrev pub tick_of : ℕ → List Queued → ℕ
tick_of t [] = 0
tick_of t (x ∷ xs) = cond (x.tag == t) x.tick (tick_of t xs)

-- No ticket waits through (k + 1) × (writes_starved + 1) × fifo_batch turns, of which the first is told a tick that counts as
-- one at least the longer period past the ticket's, where k older tickets wait before that turn. The past is any, and so are
-- the submits and collects between.
abbrev pub WaitingIsBounded : Type 0
WaitingIsBounded =
    (st : Settings) → WithinLimits st → (past : List Event) (tag told : ℕ) (es : List Event) →
    let s = following st set_up past in
    tick_of tag s.waiting + longer_period st ≤ max s.latest told →
    (older_than tag s.waiting + 1) * (st.writes_starved + 1) * st.fifo_batch ≤ turns_in (turn told ∷ es) →
    WaitsThrough st tag s (turn told ∷ es) → ⊥

-- A list that meets the bound: with writes_starved 1, fifo_batch 2 and one older ticket waiting, the write tagged 9 waits
-- through 7 turns and is served by the 8th. So no smaller number would do.
abbrev pub tight_settings : Settings
tight_settings = record { read_expire = 1; write_expire = 1; writes_starved = 1; fifo_batch = 2; front_merges = true }

abbrev pub tight_past : List Event
tight_past =
    submit 1 Read 0 1 0 ∷ turn 0 ∷ submit 8 Write 100 1 0 ∷ submit 9 Write 50 1 0 ∷ submit 2 Read 10 1 0 ∷ submit 3 Read 20 1 0 ∷
    submit 4 Read 30 1 0 ∷ submit 5 Write 200 1 0 ∷ submit 6 Read 40 1 0 ∷ submit 7 Read 60 1 0 ∷ []

abbrev pub many_turns : ℕ → List Event
many_turns zero = []
many_turns (suc n) = turn 1 ∷ many_turns n

abbrev pub BoundIsMet : Type 0
BoundIsMet =
    let s = following tight_settings set_up tight_past in
    (older_than 9 s.waiting ≡ 1) × (has_tag 9 (following tight_settings s (many_turns 7)).waiting ≡ true) ×
    (has_tag 9 (following tight_settings s (many_turns 8)).waiting ≡ false)
