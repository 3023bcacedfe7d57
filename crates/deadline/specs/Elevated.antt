-- What an elevator means over a device when nothing waits in it, and which of its tickets are ready.
use Rattle.std.specs.Prelude.{cond, List, [], ◌∷◌}
use Rattle.device.specs.Meaning.{Meaning, Ticket}
use Rattle.device.specs.Layers.{layer_height, shut_over}
use Rattle.device.specs.Sound.{most_tickets}
use Rattle.device.specs.Turns.{made_ready}
use Rattle.deadline.specs.Waiting.{Queued, has_tag}

-- size, bad sectors, homes and contents are those below; the capacity is 32, or 0 where it only asks questions
abbrev pub elevated : Meaning → Meaning
elevated m = record {
  size = m.size;
  capacity = cond (shut_over m) 0 most_tickets;
  height = layer_height m.height;
  bad = m.bad;
  home = m.home;
  disk = m.disk;
  medium = m.medium;
  tickets = [];
}

-- the open tickets, of which those that wait no more are ready
abbrev pub readied : List Queued → List Ticket → List Ticket
readied ws [] = []
readied ws (t ∷ ts) = cond (has_tag t.tag ws) t (made_ready t) ∷ readied ws ts
