-- What a list of places means on a device that serves its tickets in the order of acceptance,
-- so that a waiting read is due what lies below with the older waiting writes put on.
use Rattle.std.specs.Prelude.{ℕ, ◌+◌, ◌*◌, Bool, true, cond, not, ◌&&◌, List, [], ◌∷◌, length, take, Option, ◌==◌, nat_le}
use Rattle.std.specs.List.{list_any, list_all, find}
use Rattle.device.specs.declared.interface.Kind.{Kind}
use Rattle.device.specs.declared.interface.Kind.TheVariants.{Read, Write, Flush}
use Rattle.device.specs.Meaning.{Contents, Ticket, is_write, written, bytes_of, mask_of, sector_bytes, run_bytes}
use Rattle.device.specs.Submit.{fair_count}
use Rattle.tickets.specs.declared.place.Place.{Place}

-- the bytes of the place's run
abbrev pub held : Place → List ℕ
held p = take (p.count * sector_bytes) p.bytes

-- the contents once the place's write, if it waits, is put on
abbrev pub after : (ℕ → Bool) → Place → Contents → Contents
after bad p base = cond (not p.ready && is_write p.kind) (written bad p.first p.count (held p) base) base

-- the bytes that the place is due, over the contents that it finds
abbrev pub owed_as : Kind → Bool → List ℕ → List ℕ → List ℕ
owed_as Read ready stored due = cond ready stored due
owed_as Write ready stored due = []
owed_as Flush ready stored due = []

abbrev pub owed : Contents → Place → List ℕ
owed base p = owed_as p.kind p.ready (held p) (bytes_of base p.first p.count)

-- the open ticket of a place
abbrev pub ticket : Contents → Place → Ticket
ticket base p = record {
  tag = p.tag;
  kind = p.kind;
  first = p.first;
  count = p.count;
  mask = p.mask;
  bytes = owed base p;
  ready = p.ready;
}

-- the open tickets of the places, the oldest first, and the disk with every waiting write put on
abbrev pub tickets_over : (ℕ → Bool) → List Place → Contents → List Ticket
tickets_over bad [] base = []
tickets_over bad (p ∷ ps) base = ticket base p ∷ tickets_over bad ps (after bad p base)

abbrev pub disk_over : (ℕ → Bool) → List Place → Contents → Contents
disk_over bad [] base = base
disk_over bad (p ∷ ps) base = disk_over bad ps (after bad p base)

-- a tag is there
abbrev pub has_tag : ℕ → List Place → Bool
has_tag t ps = list_any (λ p. t == p.tag) ps

-- the place of a tag
abbrev pub place_of : ℕ → List Place → Option Place
place_of t ps = find (λ p. t == p.tag) ps

-- no tag twice
abbrev pub apart : List Place → Bool
apart [] = true
apart (p ∷ ps) = not (has_tag p.tag ps) && apart ps

-- a place with a run inside the size, with its mask and with its bytes whole
abbrev pub well : ℕ → (ℕ → Bool) → Place → Bool
well size bad p = fair_count p.kind p.first p.count && (nat_le (p.first + p.count) size && (p.mask == mask_of bad p.first p.count && length p.bytes == run_bytes))

abbrev pub all_well : ℕ → (ℕ → Bool) → List Place → Bool
all_well size bad ps = list_all (well size bad) ps

abbrev pub all_wait : List Place → Bool
all_wait ps = list_all (λ p. not p.ready) ps

-- no ready place stands behind a waiting one
abbrev pub in_turn : List Place → Bool
in_turn [] = true
in_turn (p ∷ ps) = cond p.ready (in_turn ps) (all_wait ps)

-- the places without that of the tag
abbrev pub less : ℕ → List Place → List Place
less t [] = []
less t (p ∷ ps) = cond (t == p.tag) ps (p ∷ less t ps)
