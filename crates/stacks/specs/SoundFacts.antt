-- A lemma, no definition to believe: a sound device is sound at another height. It stands here because the device's ghost member
-- can cite this crate's lemmas only from specs/.
use Rattle.std.specs.Prelude.{ℕ, ◌≤◌}
use Rattle.device.specs.Meaning.{Meaning}
use Rattle.device.specs.Sound.{Sound, most_height}
use Rattle.stacks.specs.Tall.{raised}

pub sound_raised : (height : ℕ) (m : Meaning) → height ≤ most_height → Sound m → Sound (raised height m)
sound_raised height m low s = record {
  size = s.size;
  capacity = s.capacity;
  height = low;
  room = s.room;
  tags = s.tags;
  tickets = s.tickets;
  flush_order = s.flush_order;
  bad_inside = s.bad_inside;
  bad_disk = s.bad_disk;
  bad_medium = s.bad_medium;
  disk = s.disk;
  medium = s.medium;
}
