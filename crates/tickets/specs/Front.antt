-- What the front of a device answers and leaves, over its list of places.
use Rattle.std.specs.Prelude.{ℕ, ◌*◌, true, false, cond, List, [], ◌∷◌, ◌++◌, length, take, drop, Some, None, Ok, Err, Option, Result, ◌==◌, nat_lt, slice_index_or, slice_set}
use Rattle.device.specs.declared.interface.Kind.{Kind}
use Rattle.device.specs.declared.interface.Kind.TheVariants.{Read, Write, Flush}
use Rattle.device.specs.declared.interface.Cause.{Cause}
use Rattle.device.specs.declared.interface.Cause.TheVariants as causes
use Rattle.device.specs.declared.interface.Home.{Home}
use Rattle.device.specs.declared.interface.State.{State}
use Rattle.device.specs.declared.interface.State.TheVariants as states
use Rattle.device.specs.declared.interface.Request.{Request}
use Rattle.device.specs.declared.interface.Refusal.{Refusal}
use Rattle.device.specs.Questions.{state_by}
use Rattle.device.specs.Submit.{form}
use Rattle.device.specs.Meaning.{Contents, bytes_of, mask_of, is_read, sector_bytes}
use Rattle.sectors.specs.Memory.{names}
use Rattle.tickets.specs.declared.place.Place.{Place}
use Rattle.tickets.specs.Places.{index_of}
use Rattle.tickets.specs.Fresh.{fresh}
use Rattle.tickets.specs.Meant.{less}

-- what stands where there is no place
abbrev pub blank : Place
blank = record { tag = 0; kind = Read; first = 0; count = 0; mask = 0; ready = false; bytes = [] }

abbrev pub entry_as : ℕ → Option ℕ → ℕ → Kind → Result Kind Cause
entry_as most (Some i) n k = Err causes.TagOpen
entry_as most None n k = cond (n == most) (Err causes.Full) (Ok k)

abbrev pub admitted_as : ℕ → Result Kind Cause → List Place → ℕ → Result Kind Cause
admitted_as most (Err c) ps t = Err c
admitted_as most (Ok k) ps t = entry_as most (index_of t ps) (length ps) k

-- the kind that is accepted on a device of a size and a capacity, or the first cause that applies
abbrev pub admitted_to : ℕ → ℕ → List Place → Request → ℕ → Result Kind Cause
admitted_to size most ps q given = admitted_as most (form size q given) ps q.tag

-- a refusal by a bottom device
abbrev pub at_bottom : Cause → Refusal
at_bottom c = record { cause = c; height = 0 }

-- what a submit answers
abbrev pub answer_as : Result Kind Cause → Result (Unit {0}) Refusal
answer_as (Ok k) = Ok tt
answer_as (Err c) = Err (at_bottom c)

-- the places after a submit
abbrev pub put_in : Result Kind Cause → List Place → List ℕ → Request → List ℕ → List Place
put_in (Err c) ps named q d = ps
put_in (Ok k) ps named q d = ps ++ (fresh q k (mask_of (names named) q.first q.count) d ∷ [])

-- the bytes of a place once its ticket is served, over the contents that a read sees
abbrev pub filled : Kind → Contents → Place → List ℕ
filled Read sight p = bytes_of sight p.first p.count ++ drop (p.count * sector_bytes) p.bytes
filled Write sight p = p.bytes
filled Flush sight p = p.bytes

-- the place once its ticket is served, over the contents that a read sees
abbrev pub served : Contents → Place → Place
served sight p = record { tag = p.tag; kind = p.kind; first = p.first; count = p.count; mask = p.mask; ready = true; bytes = filled p.kind sight p }

-- the places once the i-th is served
abbrev pub places_as : Option ℕ → Contents → List Place → List Place
places_as None sight ps = ps
places_as (Some i) sight ps = slice_set ps i (served sight (slice_index_or ps i blank))

-- the bytes that the answer has
abbrev pub byte_room : Place → ℕ
byte_room p = cond (is_read p.kind) (p.count * sector_bytes) 0

-- the place that a collect answers, or the first cause that applies
abbrev pub due_place : Option Place → ℕ → Result Place Cause
due_place None room = Err causes.NotOpen
due_place (Some p) room = cond p.ready (cond (nat_lt room (byte_room p)) (Err causes.ShortBuffer) (Ok p)) (Err causes.Waits)

-- what a collect answers
abbrev pub mask_as : Result Place Cause → Result ℕ Refusal
mask_as (Ok p) = Ok p.mask
mask_as (Err c) = Err (at_bottom c)

-- the buffer and the places after a collect
abbrev pub handed_as : Result Place Cause → List ℕ → List ℕ
handed_as (Ok p) buffer = take (byte_room p) p.bytes ++ drop (byte_room p) buffer
handed_as (Err c) buffer = buffer

abbrev pub rest_as : Result Place Cause → ℕ → List Place → List Place
rest_as (Ok p) t ps = less t ps
rest_as (Err c) t ps = ps

-- the home of a sector of a bottom device of a size, or nothing beyond the last
abbrev pub home_below : (size sector : ℕ) → Option Home
home_below size s = cond (nat_lt s size) (Some (record { height = 0; sector = s })) None

abbrev pub state_place : Option Place → State
state_place None = states.NotOpen
state_place (Some p) = state_by p.ready

abbrev pub count_place : Option Place → ℕ
count_place None = 0
count_place (Some p) = byte_room p
