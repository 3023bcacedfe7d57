-- What a drive means, and what a call does to it beyond that: a turn's ticks, and arm, buffer and bytes after it; no other call
-- touches them.
use Rattle.std.specs.Prelude.{◌≡◌, ℕ, Bool, true, false, not, ◌&&◌, List, take, drop}
use Rattle.std.specs.List.{list_any}
use Rattle.device.specs.Meaning.{Meaning, Ticket, is_flush}
use Rattle.device.specs.Told.{Told, submit, turn, collect}
use Rattle.sectors.specs.Shown.{Spares}
use Rattle.tickets.specs.declared.place.Place.{Place}
use Rattle.tickets.specs.Front.{places_as}
use Rattle.tickets.specs.Oldest.{ready_oldest}
use Rattle.tickets.specs.Open.{places_of, oldest_of}
use Rattle.drive.specs.declared.buffer.Entry.{Entry}
use Rattle.drive.specs.declared.drive.Drive.{Drive}
use Rattle.drive.specs.Buffer.{put_all}
use Rattle.drive.specs.Means.{meant}
use Rattle.drive.specs.Service.{sight, turn_ticks, turn_arm, turn_entries, turn_row}

-- the buffer's sectors, the one longest in it first
abbrev pub entries_of : Drive → List Entry
entries_of d = d.buffer.entries.items

-- its owner's bytes
abbrev pub row_of : Drive → List ℕ
row_of d = d.buffer.row.bytes.now

-- the drive as its user sees it
abbrev pub means : Drive → Meaning
means d = meant d.front.size d.front.capacity d.front.named (places_of d.front) (entries_of d) (row_of d)

abbrev pub turned_ticks : Drive → ℕ
turned_ticks d = turn_ticks (oldest_of d.front) (places_of d.front) d.arm (entries_of d)

abbrev pub turned_places : Drive → List Place
turned_places d = places_as (oldest_of d.front) (sight d.front.named (entries_of d) (row_of d)) (places_of d.front)

abbrev pub turned_arm : Drive → ℕ
turned_arm d = turn_arm (oldest_of d.front) (places_of d.front) d.arm

abbrev pub turned_buffer : Drive → List Entry
turned_buffer d = turn_entries (oldest_of d.front) d.front.named (places_of d.front) (entries_of d)

abbrev pub turned_bytes : Drive → List ℕ
turned_bytes d = turn_row (oldest_of d.front) d.front.named (places_of d.front) (entries_of d) (row_of d)

-- some flush waits
abbrev pub flush_waits : List Ticket → Bool
flush_waits ts = list_any (λ t. not t.ready && is_flush t.kind) ts

-- at every good sector, what is promised has survived
abbrev pub MediumIsDisk : Meaning → Type 0
MediumIsDisk m = (s : ℕ) → m.bad s ≡ false → m.medium s ≡ m.disk s

-- the disk as promised, had the n sectors longest in the buffer gone to the medium in order
abbrev pub disk_after_pushing : ℕ → Drive → ℕ → List ℕ
disk_after_pushing n d =
    (meant d.front.size d.front.capacity d.front.named (places_of d.front) (drop n (entries_of d)) (put_all d.front.named (take n (entries_of d)) (row_of d))).disk

pub record ServesOldest (d : Drive) (answer : ℕ) (d' : Drive) : Type 0 where
  pub ticks : answer ≡ turned_ticks d
  pub tickets : (means d').tickets ≡ ready_oldest (means d).tickets
  pub arm : d'.arm ≡ turned_arm d
  pub buffer : entries_of d' ≡ turned_buffer d
  pub bytes : row_of d' ≡ turned_bytes d
  -- bytes of bad sectors and bytes past the last sector never change
  pub spares : Spares d.front.size d.front.named (row_of d) (row_of d')
  -- nothing that is on the disk is lost by pushing out
  pub pushing_out_keeps : (n : ℕ) → disk_after_pushing n d ≡ (means d).disk
  -- after a flush the medium is the disk at every good sector
  pub flush_reaches_the_medium : flush_waits (means d).tickets ≡ true → MediumIsDisk (means d')

-- arm, buffer and bytes are as they were
abbrev pub Rests : Drive → Drive → Type 0
Rests d d' = (row_of d' ≡ row_of d) × (d'.arm ≡ d.arm) × (d'.buffer.entries ≡ d.buffer.entries)

abbrev pub Acts : Drive → Told → Drive → Type 0
Acts d (submit q x k r) d' = Rests d d'
Acts d (turn k n) d' = ServesOldest d n d'
Acts d (collect t g r b) d' = Rests d d'
