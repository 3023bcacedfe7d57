-- What a submit answers and leaves.
use Rattle.std.specs.Prelude.{ℕ, ◌+◌, ◌*◌, Bool, false, cond, ◌&&◌, ◌||◌, List, [], ◌∷◌, ◌++◌, length, Some, None, Ok, Err, Option, Result, ◌==◌, nat_le, nat_lt}
use Rattle.device.specs.declared.interface.Cause.{Cause}
use Rattle.device.specs.declared.interface.Cause.TheVariants as causes
use Rattle.device.specs.declared.interface.Kind.{Kind}
use Rattle.device.specs.declared.interface.Kind.TheVariants.{Read, Write, Flush}
use Rattle.device.specs.declared.interface.Request.{Request}
use Rattle.device.specs.declared.interface.Refusal.{Refusal}
use Rattle.device.specs.Meaning.{Meaning, Ticket, Contents, is_write, mask_of, bytes_of, written, with_disk, refused_by, longest_run, sector_bytes}
use Rattle.device.specs.Numbers.{kind_of}

-- a run that the kind may have: 1 to 8 sectors, and for a flush no sector
abbrev pub fair_count : Kind → (first count : ℕ) → Bool
fair_count Read first count = nat_le 1 count && nat_le count longest_run
fair_count Write first count = nat_le 1 count && nat_le count longest_run
fair_count Flush first count = first == 0 && count == 0

-- the bytes that a request of the kind comes with
abbrev pub due_length : Kind → ℕ → ℕ
due_length k count = cond (is_write k) (count * sector_bytes) 0

-- what a request is by its own form: its kind, or the first of the causes 1 to 4 that applies
abbrev pub formed_as : Kind → ℕ → Request → ℕ → Result Kind Cause
formed_as k size q given =
    cond (fair_count k q.first q.count)
    (cond (nat_lt size (q.first + q.count)) (Err causes.PastEnd)
    (cond (given == due_length k q.count) (Ok k) (Err causes.BadLength)))
    (Err causes.BadCount)

abbrev pub form_as : Option Kind → ℕ → Request → ℕ → Result Kind Cause
form_as None size q given = Err causes.BadKind
form_as (Some k) size q given = formed_as k size q given

abbrev pub form : ℕ → Request → ℕ → Result Kind Cause
form size q given = form_as (kind_of q.kind) size q given

abbrev pub tag_is_open : ℕ → List Ticket → Bool
tag_is_open t [] = false
tag_is_open t (x ∷ xs) = t == x.tag || tag_is_open t xs

-- the kind of a well-formed request, or the first of the causes 5 and 6 that applies
abbrev pub admitted_as : Result Kind Cause → Meaning → ℕ → Result Kind Cause
admitted_as (Err c) m t = Err c
admitted_as (Ok k) m t = cond (tag_is_open t m.tickets) (Err causes.TagOpen) (cond (length m.tickets == m.capacity) (Err causes.Full) (Ok k))

-- the kind that is accepted, or the cause with the smallest number that applies
abbrev pub admitted : Meaning → Request → ℕ → Result Kind Cause
admitted m q given = admitted_as (form m.size q given) m q.tag

abbrev pub due_bytes : Kind → Contents → (first count : ℕ) → List ℕ
due_bytes Read disk first count = bytes_of disk first count
due_bytes Write disk first count = []
due_bytes Flush disk first count = []

-- the waiting ticket that an accepted request becomes
abbrev pub ticket_of : Meaning → Request → Kind → Ticket
ticket_of m q k = record {
  tag = q.tag;
  kind = k;
  first = q.first;
  count = q.count;
  mask = mask_of m.bad q.first q.count;
  bytes = due_bytes k m.disk q.first q.count;
  ready = false;
}

abbrev pub disk_after : Kind → Meaning → Request → List ℕ → Contents
disk_after Read m q d = m.disk
disk_after Write m q d = written m.bad q.first q.count d m.disk
disk_after Flush m q d = m.disk

abbrev pub accepted : Meaning → Request → Kind → List ℕ → Meaning
accepted m q k d = with_disk m (disk_after k m q d) (m.tickets ++ (ticket_of m q k ∷ []))

abbrev pub submitted_as : Result Kind Cause → Meaning → Request → List ℕ → Meaning
submitted_as (Err c) m q d = m
submitted_as (Ok k) m q d = accepted m q k d

-- the device after a submit with the bytes d: as it was, or with one ticket more
abbrev pub submitted : Meaning → Request → List ℕ → Meaning
submitted m q d = submitted_as (admitted m q (length d)) m q d

abbrev pub submit_answer_as : Result Kind Cause → Meaning → Result (Unit {0}) Refusal
submit_answer_as (Ok k) m = Ok tt
submit_answer_as (Err c) m = Err (refused_by m c)

abbrev pub submit_answer : Meaning → Request → ℕ → Result (Unit {0}) Refusal
submit_answer m q given = submit_answer_as (admitted m q given) m
