-- The open tickets of an elevator, the oldest first, over the disk below.
use Rattle.std.specs.Prelude.{◌≡◌, ℕ, ◌-◌, ◌*◌, Bool, true, false, cond, not, ◌&&◌, ◌||◌, List, [], ◌∷◌, map, filter, length, ◌==◌}
use Rattle.device.specs.declared.interface.Kind.{Kind}
use Rattle.device.specs.declared.interface.Kind.TheVariants.{Read, Write, Flush}
use Rattle.device.specs.Meaning.{Ticket, Contents, is_write, is_flush, covers, part, mask_of, bytes_of, sector_bytes}

-- An open ticket: `bytes` is a waiting write's data or a ready read's answer. `run` names the run that it waits in; a ready ticket
-- waits in none, and goes by its own tag.
pub record Entry : Type 0 where
  pub tag : ℕ
  pub kind : Kind
  pub first : ℕ
  pub count : ℕ
  pub bytes : List ℕ
  pub run : ℕ
  pub ready : Bool

abbrev pub waits : Entry → Bool
waits e = not e.ready

abbrev pub hits : Entry → ℕ → Bool
hits e s = covers e.first e.count s

-- a waiting write gives its data to the good sector s
abbrev pub puts : (ℕ → Bool) → Entry → ℕ → Bool
puts bad e s = (waits e && is_write e.kind) && (hits e s && not (bad s))

abbrev pub put : (ℕ → Bool) → Entry → Contents → Contents
put bad e disk s = cond (puts bad e s) (part e.bytes (s - e.first)) (disk s)

-- the disk below with the waiting writes put on in order of acceptance
abbrev pub overlay : (ℕ → Bool) → List Entry → Contents → Contents
overlay bad [] disk = disk
overlay bad (e ∷ es) disk = overlay bad es (put bad e disk)

-- what a ticket is due over the disk that it finds
abbrev pub due_as : Kind → Bool → List ℕ → List ℕ → List ℕ
due_as Read ready stored due = cond ready stored due
due_as Write ready stored due = []
due_as Flush ready stored due = []

abbrev pub bytes_due : Entry → Contents → List ℕ
bytes_due e disk = due_as e.kind e.ready e.bytes (bytes_of disk e.first e.count)

abbrev pub ticket : (ℕ → Bool) → Entry → Contents → Ticket
ticket bad e disk = record {
  tag = e.tag;
  kind = e.kind;
  first = e.first;
  count = e.count;
  mask = mask_of bad e.first e.count;
  bytes = bytes_due e disk;
  ready = e.ready;
}

-- the tickets as the user sees them: a waiting read is due the disk below with the writes older than it
abbrev pub tickets_of : (ℕ → Bool) → List Entry → Contents → List Ticket
tickets_of bad [] disk = []
tickets_of bad (e ∷ es) disk = ticket bad e disk ∷ tickets_of bad es (put bad e disk)

-- the waiting tickets of run r
abbrev pub mine : ℕ → Entry → Bool
mine r e = waits e && e.run == r

abbrev pub of_run : ℕ → List Entry → List Entry
of_run r es = filter (mine r) es

-- a ticket served: ready, with what its read answers
abbrev pub answered : Entry → List ℕ → Entry
answered e b = record { tag = e.tag; kind = e.kind; first = e.first; count = e.count; bytes = b; run = e.tag; ready = true }

abbrev pub serve : ℕ → (Entry → List ℕ) → Entry → Entry
serve r answer e = cond (mine r e) (answered e (answer e)) e

abbrev pub served : ℕ → (Entry → List ℕ) → List Entry → List Entry
served r answer es = map (serve r answer) es

abbrev pub All : (Entry → Type 0) → List Entry → Type 0
All P [] = Unit {0}
All P (e ∷ es) = P e × All P es

-- P holds of each ticket and each younger one
abbrev pub Pairs : (Entry → Entry → Type 0) → List Entry → Type 0
Pairs P [] = Unit {0}
Pairs P (e ∷ es) = All (P e) es × Pairs P es

-- two tickets that share a sector only if neither writes
abbrev pub Apart : Entry → Entry → Type 0
Apart x y = (s : ℕ) → hits x s ≡ true → hits y s ≡ true → (is_write x.kind || is_write y.kind) ≡ false

-- e is older than x: where x waits in run r and e waits outside it, they do not conflict and neither is a flush
pub record Clear (r : ℕ) (e x : Entry) : Type 0 where
  pub apart : waits e ≡ true → mine r e ≡ false → mine r x ≡ true → Apart e x
  pub passes : waits e ≡ true → mine r e ≡ false → mine r x ≡ true → is_flush e.kind ≡ false
  pub last : waits e ≡ true → mine r e ≡ false → mine r x ≡ true → is_flush x.kind ≡ false

abbrev pub Free : ℕ → List Entry → Type 0
Free r es = Pairs (Clear r) es

-- the tickets of run r are of one kind
abbrev pub Kinded : ℕ → Kind → List Entry → Type 0
Kinded r k es = All (λ e. mine r e ≡ true → e.kind ≡ k) es

-- the tickets of run r write, or none does
abbrev pub Alike : ℕ → Bool → List Entry → Type 0
Alike r writes es = All (λ e. mine r e ≡ true → is_write e.kind ≡ writes) es

-- each of run r that does not write is answered what it is due over the disk below
abbrev pub Right : ℕ → (Entry → List ℕ) → Contents → List Entry → Type 0
Right r answer disk es = All (λ e. mine r e ≡ true → is_write e.kind ≡ false → bytes_due (answered e (answer e)) disk ≡ bytes_due e disk) es

-- a waiting write has all its data
abbrev pub Filled : List Entry → Type 0
Filled es = All (λ e. waits e ≡ true → is_write e.kind ≡ true → length e.bytes ≡ e.count * sector_bytes) es
