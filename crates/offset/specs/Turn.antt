-- What a call of an offset does beyond its meaning: it is the same call of what is below, as it is or shut, told the same tick.
use Rattle.std.specs.Prelude.{◌≡◌, ℕ, ◌+◌, ◌⊎◌, cond, Ok, Err, ◌==◌}
use Rattle.device.specs.declared.interface.Kind.TheVariants.{Flush}
use Rattle.device.specs.declared.interface.Request.{Request}
use Rattle.device.specs.declared.interface.Refusal.{Refusal}
use Rattle.device.specs.Meaning.{Meaning}
use Rattle.device.specs.Numbers.{kind_number}
use Rattle.device.specs.Told.{Told, submit, turn, collect}
use Rattle.device.specs.Turns.{Turned}

-- a request as it is sent below; a flush has no sectors to move
abbrev pub moved : ℕ → Request → Request
moved base q = record { tag = q.tag; kind = q.kind; first = cond (q.kind == kind_number Flush) 0 (base + q.first); count = q.count }

-- a refused submit may not go below; one that does is refused there
abbrev pub Acts : {D : Type 0} → ℕ → (D → Meaning) → (D → Told → D → Type 0) → D → Told → D → Type 0
Acts base meaning does d (submit q b k (Ok u)) d' = does d (submit (moved base q) b k (Ok u)) d'
Acts base meaning does d (submit q b k (Err r)) d' = (d' ≡ d) ⊎ ((by : Refusal) × does d (submit (moved base q) b k (Err by)) d')
Acts base meaning does d (turn k n) d' = Turned (meaning d) (meaning d') n × does d (turn k n) d'
Acts base meaning does d (collect t g (Ok m) b) d' = does d (collect t g (Ok m) b) d'
Acts base meaning does d (collect t g (Err r) b) d' = (by : Refusal) × does d (collect t g (Err by) b) d'
