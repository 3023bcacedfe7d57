-- A list of calls played on an elevator by the definitions alone: what it means to its callers, and what is scheduled.
use Rattle.std.specs.Prelude.{ℕ, List, [], ◌∷◌, length, Ok, Err, Result}
use Rattle.device.specs.declared.interface.Kind.{Kind}
use Rattle.device.specs.declared.interface.Cause.{Cause}
use Rattle.device.specs.declared.interface.Request.{Request}
use Rattle.device.specs.Meaning.{Meaning, Ticket, with_disk}
use Rattle.device.specs.Numbers.{cause_number}
use Rattle.device.specs.Submit.{admitted, accepted}
use Rattle.device.specs.Collect.{due, collected}
use Rattle.deadline.specs.Settings.{Settings}
use Rattle.deadline.specs.Turn.{State, set_up, submitted, turned}
use Rattle.deadline.specs.Orders.{gone}
use Rattle.deadline.specs.Elevated.{elevated, readied}

pub record Elevator : Type 0 where
  pub means : Meaning
  pub scheduling : State

-- an elevator over a device
abbrev pub made_over : Meaning → Elevator
made_over m = record { means = elevated m; scheduling = set_up }

pub data Call : Type 0 where
  -- request, data, tick
  submit : Request → List ℕ → ℕ → Call
  turn : (tick : ℕ) → Call
  -- tag, bytes of the buffer
  collect : (tag room : ℕ) → Call

pub data Said : Type 0 where
  done : Said
  -- the number of the refusal
  refused : ℕ → Said
  -- the tickets that a turn readies, by tag, the oldest first
  readies : List ℕ → Said
  -- the mask and a read's bytes
  gives : ℕ → List ℕ → Said

-- what a call leaves

abbrev pub left_by_submit : Result Kind Cause → Settings → Elevator → Request → List ℕ → ℕ → Elevator
left_by_submit (Err c) st x q d tick = x
left_by_submit (Ok k) st x q d tick = record {
  means = accepted x.means q k d;
  scheduling = submitted st x.scheduling q.tag k q.first q.count tick;
}

abbrev pub left_by_turn : Settings → Elevator → ℕ → Elevator
left_by_turn st x tick =
    let next = turned st x.scheduling tick in
    record { means = with_disk x.means x.means.disk (readied next.waiting x.means.tickets); scheduling = next }

abbrev pub left_by : Settings → Elevator → Call → Elevator
left_by st x (submit q d tick) = left_by_submit (admitted x.means q (length d)) st x q d tick
left_by st x (turn tick) = left_by_turn st x tick
left_by st x (collect tag room) = record { means = collected x.means tag room; scheduling = x.scheduling }

-- what it answers

abbrev pub said_of_submit : Result Kind Cause → Said
said_of_submit (Ok k) = done
said_of_submit (Err c) = refused (cause_number c)

abbrev pub said_of_collect : Result Ticket Cause → Said
said_of_collect (Ok t) = gives t.mask t.bytes
said_of_collect (Err c) = refused (cause_number c)

abbrev pub said : Settings → Elevator → Call → Said
said st x (submit q d tick) = said_of_submit (admitted x.means q (length d))
said st x (turn tick) = readies (gone x.scheduling.waiting (turned st x.scheduling tick).waiting)
said st x (collect tag room) = said_of_collect (due x.means tag room)

-- the answers to a list of calls, in order
abbrev pub played : Settings → Elevator → List Call → List Said
played st x [] = []
played st x (c ∷ cs) = said st x c ∷ played st (left_by st x c) cs
