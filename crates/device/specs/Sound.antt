-- What holds of a device's meaning at any time.
use Rattle.std.specs.Prelude.{◌≡◌, ℕ, ◌+◌, ◌*◌, ◌<◌, ◌≤◌, Bool, true, false, not, ◌&&◌, List, [], ◌∷◌, length}
use Rattle.device.specs.Meaning.{Meaning, Ticket, mask_of, is_read, zeros, sector_bytes}
use Rattle.device.specs.Submit.{fair_count, tag_is_open}
use Rattle.device.specs.Turns.{flush_order}

abbrev pub most_sectors : ℕ
most_sectors = 65536

abbrev pub most_tickets : ℕ
most_tickets = 32

abbrev pub most_height : ℕ
most_height = 255

-- no tag twice
abbrev pub distinct : List Ticket → Bool
distinct [] = true
distinct (t ∷ ts) = not (tag_is_open t.tag ts) && distinct ts

-- a ticket with a run inside the device, and with the answer that its run is due
pub record WellFormed (size : ℕ) (bad : ℕ → Bool) (t : Ticket) : Type 0 where
  pub count : fair_count t.kind t.first t.count ≡ true
  pub inside : t.first + t.count ≤ size
  pub mask : t.mask ≡ mask_of bad t.first t.count
  pub read : is_read t.kind ≡ true → length t.bytes ≡ t.count * sector_bytes
  pub other : is_read t.kind ≡ false → length t.bytes ≡ 0

abbrev pub Each : (Ticket → Type 0) → List Ticket → Type 0
Each P [] = Unit {0}
Each P (t ∷ ts) = P t × Each P ts

pub record Sound (m : Meaning) : Type 0 where
  pub size : m.size ≤ most_sectors
  pub capacity : m.capacity ≤ most_tickets
  pub height : m.height ≤ most_height
  pub room : length m.tickets ≤ m.capacity
  pub tags : distinct m.tickets ≡ true
  pub tickets : Each (WellFormed m.size m.bad) m.tickets
  pub flush_order : flush_order m.tickets ≡ true
  pub bad_inside : (s : ℕ) → m.bad s ≡ true → s < m.size
  pub bad_disk : (s : ℕ) → m.bad s ≡ true → m.disk s ≡ zeros
  pub bad_medium : (s : ℕ) → m.bad s ≡ true → m.medium s ≡ zeros
  pub disk : (s : ℕ) → s < m.size → length (m.disk s) ≡ sector_bytes
  pub medium : (s : ℕ) → s < m.size → length (m.medium s) ≡ sector_bytes
