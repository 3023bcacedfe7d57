-- What a turn may do: its ticks, the tickets that it readies and the medium after it are the device's own choice within
-- these bounds, and all else is as it was.
use Rattle.std.specs.Prelude.{◌≡◌, ℕ, ◌+◌, ◌<◌, ◌≤◌, Bool, true, false, cond, not, ◌&&◌, ◌||◌, List, [], ◌∷◌}
use Rattle.device.specs.Meaning.{Meaning, Ticket, Contents, is_write, is_flush, covers}

-- a turn takes at most this many ticks
abbrev pub most_ticks : ℕ
most_ticks = 60000

-- how many tickets wait
abbrev pub waiting : List Ticket → ℕ
waiting [] = 0
waiting (t ∷ ts) = cond t.ready 0 1 + waiting ts

abbrev pub none_ready : List Ticket → Bool
none_ready [] = true
none_ready (t ∷ ts) = not t.ready && none_ready ts

-- some write that waits covers the sector
abbrev pub waiting_write_at : ℕ → List Ticket → Bool
waiting_write_at s [] = false
waiting_write_at s (t ∷ ts) = (not t.ready && (is_write t.kind && covers t.first t.count s)) || waiting_write_at s ts

-- some write, waiting or ready, covers the sector
abbrev pub open_write_at : ℕ → List Ticket → Bool
open_write_at s [] = false
open_write_at s (t ∷ ts) = (is_write t.kind && covers t.first t.count s) || open_write_at s ts

abbrev pub made_ready : Ticket → Ticket
made_ready t = record { tag = t.tag; kind = t.kind; first = t.first; count = t.count; mask = t.mask; bytes = t.bytes; ready = true }

-- the same tickets in the same order with the same due answers, some of them ready that waited
pub data Readied : List Ticket → List Ticket → Type 0 where
  none : Readied [] []
  stays : {t : Ticket} {ts us : List Ticket} → Readied ts us → Readied (t ∷ ts) (t ∷ us)
  turns : {t : Ticket} {ts us : List Ticket} → t.ready ≡ false → Readied ts us → Readied (t ∷ ts) (made_ready t ∷ us)

-- A flush that becomes ready between two lists of the same tickets leaves the medium as the disk, but where an open
-- write younger than it covers the sector.
abbrev pub Flushed : Contents → Contents → List Ticket → List Ticket → Type 0
Flushed disk medium [] us = Unit {0}
Flushed disk medium (t ∷ ts) [] = Unit {0}
Flushed disk medium (t ∷ ts) (u ∷ us) =
    ((is_flush t.kind ≡ true → t.ready ≡ false → u.ready ≡ true → (s : ℕ) → open_write_at s us ≡ false → medium s ≡ disk s))
    × Flushed disk medium ts us

-- no flush among the tickets is ready
abbrev pub flush_free : List Ticket → Bool
flush_free [] = true
flush_free (t ∷ ts) = not (t.ready && is_flush t.kind) && flush_free ts

-- a waiting flush has no younger ticket that is ready, and a ready flush no older one that waits
abbrev pub flush_order : List Ticket → Bool
flush_order [] = true
flush_order (t ∷ ts) = cond t.ready true (cond (is_flush t.kind) (none_ready ts) (flush_free ts)) && flush_order ts

-- what stays for life
pub record SameShape (m m' : Meaning) : Type 0 where
  pub size : m'.size ≡ m.size
  pub capacity : m'.capacity ≡ m.capacity
  pub height : m'.height ≡ m.height
  pub bad : m'.bad ≡ m.bad
  pub home : m'.home ≡ m.home

pub record Turned (m m' : Meaning) (ticks : ℕ) : Type 0 where
  pub shape : SameShape m m'
  pub disk : m'.disk ≡ m.disk
  -- nothing waits: nothing changes, and the answer is 0
  pub idle : waiting m.tickets ≡ 0 → (m' ≡ m) × (ticks ≡ 0)
  -- otherwise at least one waiting ticket becomes ready
  pub progress : 0 < waiting m.tickets → waiting m'.tickets < waiting m.tickets
  pub readied : Readied m.tickets m'.tickets
  pub flush_order : flush_order m'.tickets ≡ true
  -- where medium and disk agree and no waiting write covers the sector, they still agree
  pub settled : (s : ℕ) → m.medium s ≡ m.disk s → waiting_write_at s m.tickets ≡ false → m'.medium s ≡ m'.disk s
  pub flushed : Flushed m'.disk m'.medium m.tickets m'.tickets
  pub bounded : ticks ≤ most_ticks
