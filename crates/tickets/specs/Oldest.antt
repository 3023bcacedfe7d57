-- The tickets once the oldest waiting one is served.
use Rattle.std.specs.Prelude.{cond, List, [], ◌∷◌}
use Rattle.device.specs.Meaning.{Ticket}
use Rattle.device.specs.Turns.{made_ready}

abbrev pub ready_oldest : List Ticket → List Ticket
ready_oldest [] = []
ready_oldest (t ∷ ts) = cond t.ready (t ∷ ready_oldest ts) (made_ready t ∷ ts)
