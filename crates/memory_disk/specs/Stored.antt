-- What the service of a ticket stores on a row of bytes.
use Rattle.std.specs.Prelude.{ℕ, List}
use Rattle.device.specs.declared.interface.Kind.{Kind}
use Rattle.device.specs.declared.interface.Kind.TheVariants.{Read, Write, Flush}
use Rattle.sectors.specs.Memory.{put_run}
use Rattle.tickets.specs.declared.place.Place.{Place}
use Rattle.tickets.specs.Meant.{held}

abbrev pub stored_as : Kind → List ℕ → Place → List ℕ → List ℕ
stored_as Read named p row = row
stored_as Write named p row = put_run named p.first p.count (held p) row
stored_as Flush named p row = row

-- a write's data at the good sectors of its run
abbrev pub stored : List ℕ → Place → List ℕ → List ℕ
stored named p row = stored_as p.kind named p row
