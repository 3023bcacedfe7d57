-- A device at another height: what the examples stack layers on.
use Rattle.std.specs.Prelude.{ℕ}
use Rattle.device.specs.Meaning.{Meaning}

-- all as it is below, but the height
abbrev pub raised : ℕ → Meaning → Meaning
raised height m = record {
  size = m.size;
  capacity = m.capacity;
  height = height;
  bad = m.bad;
  home = m.home;
  disk = m.disk;
  medium = m.medium;
  tickets = m.tickets;
}
