-- What holds of every state that events lead to.
use Rattle.std.proofs.Common.{◌≡◌, ℕ, ◌≤◌, max, Bool, true, false, cond, List, [], ◌∷◌, refl, arith}
use Rattle.device.specs.declared.interface.Kind.{Kind}
use Rattle.deadline.specs.Settings.{Settings}
use Rattle.deadline.specs.Waiting.{Queued, has_tag}
use Rattle.deadline.specs.Turn.{State, set_up, Batch, closed, reading, writing, without, submitted, taken, Choice, idle, passes_down, goes_on, begins_with, choice, one_more, after, at_tick, turned_with, turned}
use Rattle.deadline.specs.Events.{Event, submit, turn, collect, following}
use Rattle.deadline.proofs.Sound.{newest, newest_without, SoundFrom, sound_without}
use Rattle.deadline.proofs.Progress.{Begun, begun_opened}
use Rattle.deadline.proofs.Taking.{taken_sound, taken_newest}

pub record Good (s : State) : Type 0 where
  pub sound : SoundFrom [] s.waiting
  pub past : newest s.waiting ≤ s.latest
  pub begun : Begun s.batch

begun_more : (b : Batch) → Begun (one_more b)
begun_more closed = tt
begun_more (reading n) = omega arith
begun_more (writing n) = omega arith

past_without : (r : ℕ) (ws : List Queued) (m : ℕ) → newest ws ≤ m → newest (without r ws) ≤ m
past_without r ws m h = omega (arith, newest_without r ws)

pub good_after : (s : State) → Good s → (c : Choice) → Good (after s c)
unfolding after
good_after s g idle = g
good_after s g (passes_down t) = record { sound = sound_without t [] s.waiting g.sound; past = past_without t s.waiting s.latest g.past; begun = tt }
good_after s g (goes_on r) =
    record { sound = sound_without r.name [] s.waiting g.sound; past = past_without r.name s.waiting s.latest g.past; begun = begun_more s.batch }
good_after s g (begins_with r) =
    record { sound = sound_without r.name [] s.waiting g.sound; past = past_without r.name s.waiting s.latest g.past; begun = begun_opened r.kind }

pub good_at_tick : (s : State) (told : ℕ) → Good s → Good (at_tick s told)
good_at_tick s told g = record { sound = g.sound; past = omega (arith, g.past); begun = g.begun }

pub good_turned : (st : Settings) (s : State) (told : ℕ) → Good s → Good (turned st s told)
unfolding turned
good_turned st s told g = go s.waiting
  where
    go : (ws : List Queued) → Good (turned_with st s told ws)
    go [] = g
    go (x ∷ xs) = good_after (at_tick s told) (good_at_tick s told g) (choice st (at_tick s told) (x ∷ xs))

-- what a submit lets wait
abbrev pub entry : State → (tag : ℕ) → Kind → (first count told : ℕ) → Queued
entry s tag kind first count told = record { tag = tag; kind = kind; first = first; count = count; tick = max s.latest told; head = tag }

-- the state that lets it wait
abbrev pub with_entry : Settings → State → Queued → State
with_entry st s x = record {
  latest = x.tick;
  batch = s.batch;
  read_position = s.read_position;
  write_position = s.write_position;
  passed_over = s.passed_over;
  waiting = taken st s.waiting x;
}

-- a submit leaves the state as it was, or one that lets its request wait
pub by_submit : (P : State → Type 0) (st : Settings) (s : State) (tag : ℕ) (kind : Kind) (first count told : ℕ) →
    P s → (has_tag tag s.waiting ≡ false → P (with_entry st s (entry s tag kind first count told))) → P (submitted st s tag kind first count told)
unfolding submitted
by_submit P st s tag kind first count told same more = go (has_tag tag s.waiting) refl
  where
    go : (b : Bool) → has_tag tag s.waiting ≡ b → P (cond b s (with_entry st s (entry s tag kind first count told)))
    go true e = same
    go false e = more e

pub good_submitted : (st : Settings) (s : State) (tag : ℕ) (kind : Kind) (first count told : ℕ) → Good s → Good (submitted st s tag kind first count told)
good_submitted st s tag kind first count told g = by_submit Good st s tag kind first count told g more
  where
    x : Queued
    x = entry s tag kind first count told

    more : has_tag tag s.waiting ≡ false → Good (with_entry st s x)
    more e = record {
      sound = taken_sound st s.waiting x g.sound e (omega (arith, g.past));
      past = taken_newest st s.waiting x x.tick (omega (arith, g.past)) (omega arith);
      begun = g.begun;
    }

pub good_following : (st : Settings) (es : List Event) (s : State) → Good s → Good (following st s es)
good_following st [] s g = g
good_following st (submit tag kind first count told ∷ es) s g = good_following st es (submitted st s tag kind first count told) (good_submitted st s tag kind first count told g)
good_following st (turn told ∷ es) s g = good_following st es (turned st s told) (good_turned st s told g)
good_following st (collect tag ∷ es) s g = good_following st es s g

pub good_set_up : Good set_up
good_set_up = record { sound = tt; past = omega arith; begun = tt }
