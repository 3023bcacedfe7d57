-- The open tickets as a list of tags and states.
use Rattle.std.specs.Prelude.{ℕ, ◌+◌, List, [], ◌∷◌, map}
use Rattle.device.specs.declared.interface.State.{State}
use Rattle.device.specs.declared.interface.State.TheVariants as states
use Rattle.device.specs.Meaning.{Ticket}
use Rattle.device.specs.Questions.{state_by}
use Rattle.history.specs.declared.call.OpenTicket.{OpenTicket}

abbrev pub open_list : List Ticket → List OpenTicket
open_list ts = map (λ (x : Ticket). record { tag = x.tag; state = state_by x.ready }) ts

abbrev pub tags_in : List OpenTicket → List ℕ
tags_in xs = map (λ (x : OpenTicket). x.tag) xs

abbrev pub is_waiting : State → ℕ
is_waiting states.NotOpen = 0
is_waiting states.Waiting = 1
is_waiting states.Ready = 0

-- how many of the list wait
abbrev pub waiting_in : List OpenTicket → ℕ
waiting_in [] = 0
waiting_in (x ∷ xs) = is_waiting x.state + waiting_in xs
