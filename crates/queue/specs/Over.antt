-- What an elevator means: its open tickets over the device below.
use Rattle.std.specs.Prelude.{ℕ, Bool, false, cond, List}
use Rattle.device.specs.declared.interface.Kind.{Kind}
use Rattle.device.specs.declared.interface.Request.{Request}
use Rattle.device.specs.Meaning.{Meaning}
use Rattle.device.specs.Layers.{layer_height}
use Rattle.device.specs.Sound.{most_tickets}
use Rattle.queue.specs.Queue.{Entry, overlay, tickets_of}

-- size, bad sectors, homes and medium are those below; the disk is that below with the waiting writes put on in order of
-- acceptance; a closed one has no place for tickets and only asks questions below
abbrev pub over : (closed : Bool) → List Entry → Meaning → Meaning
over closed es m = record {
  size = m.size;
  capacity = cond closed 0 most_tickets;
  height = layer_height m.height;
  bad = m.bad;
  home = m.home;
  disk = overlay m.bad es m.disk;
  medium = m.medium;
  tickets = tickets_of m.bad es m.disk;
}

-- the open ticket that an accepted request becomes, in the run named
abbrev pub entry_of : Request → Kind → List ℕ → ℕ → Entry
entry_of q k bytes run = record { tag = q.tag; kind = k; first = q.first; count = q.count; bytes = bytes; run = run; ready = false }
