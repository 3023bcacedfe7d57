-- What a memory disk means, and what a call does to it beyond that: a turn serves the oldest waiting ticket and answers 1, and
-- no other call touches the bytes.
use Rattle.std.specs.Prelude.{◌≡◌, ℕ, List, Some, None, Option, slice_index_or}
use Rattle.device.specs.Meaning.{Meaning}
use Rattle.device.specs.Told.{Told, submit, turn, collect}
use Rattle.sectors.specs.Shown.{Spares}
use Rattle.tickets.specs.declared.place.Place.{Place}
use Rattle.tickets.specs.Front.{blank}
use Rattle.tickets.specs.Oldest.{ready_oldest}
use Rattle.tickets.specs.Open.{places_of, oldest_of}
use Rattle.memory_disk.specs.declared.disk.MemoryDisk.{MemoryDisk}
use Rattle.memory_disk.specs.Means.{meant}
use Rattle.memory_disk.specs.Stored.{stored}

-- the disk as its user sees it
abbrev pub means : MemoryDisk → Meaning
means d = meant d.front.size d.front.capacity d.front.named (places_of d.front) d.row.bytes.now

abbrev pub ticks_as : Option ℕ → ℕ
ticks_as None = 0
ticks_as (Some i) = 1

abbrev pub turn_ticks : MemoryDisk → ℕ
turn_ticks d = ticks_as (oldest_of d.front)

abbrev pub bytes_as : Option ℕ → List ℕ → List ℕ → List Place → List ℕ
bytes_as None named row ps = row
bytes_as (Some i) named row ps = stored named (slice_index_or ps i blank) row

-- the bytes once the oldest waiting ticket is served
abbrev pub turned_bytes : MemoryDisk → List ℕ
turned_bytes d = bytes_as (oldest_of d.front) d.front.named d.row.bytes.now (places_of d.front)

pub record ServesOldest (d : MemoryDisk) (answer : ℕ) (d' : MemoryDisk) : Type 0 where
  pub ticks : answer ≡ turn_ticks d
  pub tickets : (means d').tickets ≡ ready_oldest (means d).tickets
  pub bytes : d'.row.bytes.now ≡ turned_bytes d
  -- bytes of bad sectors and bytes past the last sector never change
  pub spares : Spares d.front.size d.front.named d.row.bytes.now d'.row.bytes.now

abbrev pub Acts : MemoryDisk → Told → MemoryDisk → Type 0
Acts d (submit q x k r) d' = d'.row.bytes.now ≡ d.row.bytes.now
Acts d (turn k n) d' = ServesOldest d n d'
Acts d (collect t g r b) d' = d'.row.bytes.now ≡ d.row.bytes.now
