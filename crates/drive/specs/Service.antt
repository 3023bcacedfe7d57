-- What the service of a ticket costs on a drive, and what it leaves.
use Rattle.std.specs.Prelude.{ℕ, ◌+◌, ◌-◌, ◌/◌, List, [], length, Some, None, Option, slice_index_or}
use Rattle.device.specs.declared.interface.Kind.{Kind}
use Rattle.device.specs.declared.interface.Kind.TheVariants.{Read, Write, Flush}
use Rattle.device.specs.Meaning.{Contents}
use Rattle.sectors.specs.Memory.{seen}
use Rattle.tickets.specs.declared.place.Place.{Place}
use Rattle.tickets.specs.Meant.{held}
use Rattle.tickets.specs.Front.{blank}
use Rattle.drive.specs.declared.buffer.Entry.{Entry}
use Rattle.drive.specs.Buffer.{buffered, brought_run, put_out_run, put_all}

-- what a read sees: buffered bytes first
abbrev pub sight : List ℕ → List Entry → List ℕ → Contents
sight named es row = buffered es (seen named row)

-- how far two sectors lie apart
abbrev pub distance : ℕ → ℕ → ℕ
distance a b = (a - b) + (b - a)

-- the sectors that the arm passes in a tick
abbrev pub stride : ℕ
stride = 16

-- the arm's law: a tick, and one for each 16 sectors that the arm moves, rounded down
abbrev pub travel : ℕ → ℕ → ℕ
travel arm first = 1 + distance arm first / stride

-- the ticks of a service; a flush costs 1 plus the sectors put
abbrev pub cost_as : Kind → ℕ → Place → List Entry → ℕ
cost_as Read arm p es = travel arm p.first
cost_as Write arm p es = travel arm p.first
cost_as Flush arm p es = 1 + length es

-- the arm then stands just past the run, and stays for a flush
abbrev pub arm_as : Kind → ℕ → Place → ℕ
arm_as Read arm p = p.first + p.count
arm_as Write arm p = p.first + p.count
arm_as Flush arm p = arm

-- the buffer after it
abbrev pub entries_as : Kind → List ℕ → Place → List Entry → List Entry
entries_as Read named p es = es
entries_as Write named p es = brought_run named p.first p.count (held p) es
entries_as Flush named p es = []

-- the row of bytes after it
abbrev pub row_as : Kind → List ℕ → Place → List Entry → List ℕ → List ℕ
row_as Read named p es row = row
row_as Write named p es row = put_out_run named p.first p.count (held p) es row
row_as Flush named p es row = put_all named es row

-- the same of a turn, by the place of the oldest waiting ticket, or none
abbrev pub turn_ticks : Option ℕ → List Place → ℕ → List Entry → ℕ
turn_ticks None ps arm es = 0
turn_ticks (Some i) ps arm es = cost_as (slice_index_or ps i blank).kind arm (slice_index_or ps i blank) es

abbrev pub turn_arm : Option ℕ → List Place → ℕ → ℕ
turn_arm None ps arm = arm
turn_arm (Some i) ps arm = arm_as (slice_index_or ps i blank).kind arm (slice_index_or ps i blank)

abbrev pub turn_entries : Option ℕ → List ℕ → List Place → List Entry → List Entry
turn_entries None named ps es = es
turn_entries (Some i) named ps es = entries_as (slice_index_or ps i blank).kind named (slice_index_or ps i blank) es

abbrev pub turn_row : Option ℕ → List ℕ → List Place → List Entry → List ℕ → List ℕ
turn_row None named ps es row = row
turn_row (Some i) named ps es row = row_as (slice_index_or ps i blank).kind named (slice_index_or ps i blank) es row
