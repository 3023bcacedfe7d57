-- A device as it is, or shut, by the meaning of the device below.
use Rattle.std.specs.Prelude.{Bool, cond, []}
use Rattle.device.specs.Meaning.{Meaning}

-- what a gate means over a device; a shut one has no place for tickets and only asks questions below
abbrev pub gated : (shut : Bool) → Meaning → Meaning
gated shut m = record {
  size = m.size;
  capacity = cond shut 0 m.capacity;
  height = m.height;
  bad = m.bad;
  home = m.home;
  disk = m.disk;
  medium = m.medium;
  tickets = cond shut [] m.tickets;
}
