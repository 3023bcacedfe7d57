-- A stretch of a device, by the meaning of the device below.
use Rattle.std.specs.Prelude.{◌≡◌, ℕ, ◌+◌, ◌-◌, ◌≤◌, min, false, ◌&&◌, map, nat_lt}
use Rattle.device.specs.Meaning.{Meaning, Ticket, is_flush}
use Rattle.device.specs.Layers.{layer_height, shut_over}
use Rattle.device.specs.Sound.{Each}
use Rattle.gate.specs.Means.{gated}

-- the sectors from the base on, the length at most; none if the base is not below the lower size
abbrev pub room : (base n size : ℕ) → ℕ
room base n size = min n (size - base)

-- a ticket below as it is seen from above; a flush begins at 0 on both
abbrev pub shifted : ℕ → Ticket → Ticket
shifted base t = record { tag = t.tag; kind = t.kind; first = t.first - base; count = t.count; mask = t.mask; bytes = t.bytes; ready = t.ready }

-- what an offset means over a device
abbrev pub over : (base n : ℕ) → Meaning → Meaning
over base n m = record {
  size = room base n m.size;
  capacity = m.capacity;
  height = layer_height m.height;
  bad = λ s. nat_lt s (room base n m.size) && m.bad (base + s);
  home = λ s. m.home (base + s);
  disk = λ s. m.disk (base + s);
  medium = λ s. m.medium (base + s);
  tickets = map (shifted base) m.tickets;
}

-- a ticket below lies in the stretch
abbrev pub Lies : (base n size : ℕ) → Ticket → Type 0
Lies base n size t = is_flush t.kind ≡ false → (base ≤ t.first) × (t.first + t.count ≤ base + room base n size)

-- every ticket below was sent through this layer
abbrev pub Within : (base n : ℕ) → Meaning → Type 0
Within base n m = Each (Lies base n m.size) m.tickets

-- the meaning of an offset at set-up: one over a device that has open tickets, or no room for any, only asks questions below
abbrev pub set_up : (base most : ℕ) → Meaning → Meaning
set_up base most m = over base most (gated (shut_over m) m)
