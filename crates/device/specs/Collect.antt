-- What a collect answers and leaves.
use Rattle.std.specs.Prelude.{ℕ, cond, List, [], ◌∷◌, ◌++◌, length, drop, Some, None, Ok, Err, Option, Result, ◌==◌, nat_lt}
use Rattle.device.specs.declared.interface.Cause.{Cause}
use Rattle.device.specs.declared.interface.Cause.TheVariants as causes
use Rattle.device.specs.declared.interface.Refusal.{Refusal}
use Rattle.device.specs.Meaning.{Meaning, Ticket, with_disk, refused_by}

-- the open ticket of a tag
abbrev pub found : ℕ → List Ticket → Option Ticket
found t [] = None
found t (x ∷ xs) = cond (t == x.tag) (Some x) (found t xs)

abbrev pub without : ℕ → List Ticket → List Ticket
without t [] = []
without t (x ∷ xs) = cond (t == x.tag) xs (x ∷ without t xs)

-- the ticket that a collect answers, or the cause with the smallest number that applies, 7 to 9
abbrev pub due_as : Option Ticket → ℕ → Result Ticket Cause
due_as None room = Err causes.NotOpen
due_as (Some x) room = cond x.ready (cond (nat_lt room (length x.bytes)) (Err causes.ShortBuffer) (Ok x)) (Err causes.Waits)

abbrev pub due : Meaning → ℕ → ℕ → Result Ticket Cause
due m t room = due_as (found t m.tickets) room

abbrev pub collect_answer_as : Result Ticket Cause → Meaning → Result ℕ Refusal
collect_answer_as (Ok x) m = Ok x.mask
collect_answer_as (Err c) m = Err (refused_by m c)

abbrev pub collect_answer : Meaning → ℕ → ℕ → Result ℕ Refusal
collect_answer m t room = collect_answer_as (due m t room) m

abbrev pub collected_as : Result Ticket Cause → Meaning → ℕ → Meaning
collected_as (Ok x) m t = with_disk m m.disk (without t m.tickets)
collected_as (Err c) m t = m

-- the device after a collect: as it was, or without the ticket
abbrev pub collected : Meaning → ℕ → ℕ → Meaning
collected m t room = collected_as (due m t room) m t

abbrev pub buffer_as : Result Ticket Cause → List ℕ → List ℕ
buffer_as (Ok x) buffer = x.bytes ++ drop (length x.bytes) buffer
buffer_as (Err c) buffer = buffer

-- the buffer after a collect: a read's bytes at its front, all else as it was
abbrev pub buffer_after : Meaning → ℕ → List ℕ → List ℕ
buffer_after m t buffer = buffer_as (due m t (length buffer)) buffer
