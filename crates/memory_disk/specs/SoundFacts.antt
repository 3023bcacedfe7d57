-- Lemmas, no definitions to believe: what a memory disk means is sound. They stand here because the device's ghost member
-- can cite this crate's lemmas only from specs/.
use Rattle.device.specs.Sound.{Sound}
use Rattle.sectors.specs.Shown.{shown}
use Rattle.sectors.proofs.Parts.{shown_whole, bad_shown}
use Rattle.tickets.specs.Open.{places_of}
use Rattle.tickets.proofs.CallFacts.{Kept, sound_of}
use Rattle.memory_disk.specs.declared.disk.MemoryDisk.{MemoryDisk}
use Rattle.memory_disk.specs.Turn.{means}

pub kept_of : (d : MemoryDisk) → Kept d.front.size d.front.capacity d.front.named (places_of d.front) (shown d.front.size d.front.named d.row.bytes.now) (shown d.front.size d.front.named d.row.bytes.now)
kept_of d =
    let f = d.front in
    record {
      small = f.small;
      limit = f.most;
      within = f.within;
      apart = f.apart;
      well = f.well;
      turns = f.turns;
      whole = shown_whole f.size f.named d.row.bytes.now d.holds;
      whole_medium = shown_whole f.size f.named d.row.bytes.now d.holds;
      bad = bad_shown f.size f.named d.row.bytes.now;
      bad_medium = bad_shown f.size f.named d.row.bytes.now;
    }

pub sound_disk : (d : MemoryDisk) → Sound (means d)
sound_disk d =
    let base = shown d.front.size d.front.named d.row.bytes.now in
    sound_of d.front.size d.front.capacity d.front.named (places_of d.front) base base (kept_of d)
