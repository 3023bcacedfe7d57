-- What a memory disk means, by its parts: at good sectors the bytes are the medium.
use Rattle.std.specs.Prelude.{ℕ, ◌*◌, ◌/◌, ◌≤◌, min, List, [], length}
use Rattle.device.specs.Meaning.{Meaning, sector_bytes}
use Rattle.device.specs.Sound.{most_sectors}
use Rattle.sectors.specs.Shown.{shown}
use Rattle.tickets.specs.declared.place.Place.{Place}
use Rattle.tickets.specs.declared.front.Front.{Front}
use Rattle.tickets.specs.Device.{meant_over}

-- the bytes hold every sector
abbrev pub Holds : Front → List ℕ → Type 0
Holds f row = f.size * sector_bytes ≤ length row

-- height 0, home (0, s); the oldest waiting ticket finds what the bytes show
abbrev pub meant : (size most : ℕ) → List ℕ → List Place → List ℕ → Meaning
meant size most named ps row = meant_over size most named ps (shown size named row) (shown size named row)

-- at set-up: as many sectors as the bytes have whole ones, 65,536 at most; 4 tickets, none open
abbrev pub set_up : List ℕ → List ℕ → Meaning
set_up named row = meant (min (length row / sector_bytes) most_sectors) 4 named [] row
