-- What a device means that serves its tickets in the order of acceptance, by its shape, its places,
-- the contents that the oldest waiting ticket finds, and the medium.
use Rattle.std.specs.Prelude.{ℕ, List}
use Rattle.device.specs.Meaning.{Meaning, Contents}
use Rattle.sectors.specs.Shown.{bad_of}
use Rattle.tickets.specs.declared.place.Place.{Place}
use Rattle.tickets.specs.Meant.{tickets_over, disk_over}

abbrev pub meant_over : (size most : ℕ) → List ℕ → List Place → (base medium : Contents) → Meaning
meant_over size most named ps base medium = record {
  size = size;
  capacity = most;
  height = 0;
  bad = bad_of size named;
  home = λ s. record { height = 0; sector = s };
  disk = disk_over (bad_of size named) ps base;
  medium = medium;
  tickets = tickets_over (bad_of size named) ps base;
}
