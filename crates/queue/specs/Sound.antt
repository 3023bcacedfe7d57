-- What holds of the open tickets at all times.
use Rattle.std.specs.Prelude.{◌≡◌, ℕ, ◌+◌, ◌*◌, ◌≤◌, Bool, true, false, cond, not, ◌&&◌, ◌||◌, ◌⊎◌, List, [], ◌∷◌, length, Some, None, Option, ◌==◌, ◌≢◌}
use Rattle.device.specs.Meaning.{is_flush, longest_run, sector_bytes}
use Rattle.device.specs.Submit.{fair_count}
use Rattle.queue.specs.Queue.{Entry, waits, mine, of_run, All, Pairs, Apart}
use Rattle.queue.specs.Runs.{Row}

-- a run goes by the tag of its head, so any other ticket of it has joined
abbrev pub joined : Entry → Bool
joined e = not (e.run == e.tag)

-- e is older than x
pub record Fits (e x : Entry) : Type 0 where
  pub other : e.tag ≡ x.tag → ⊥
  pub held : waits e ≡ true → is_flush e.kind ≡ true → x.ready ≡ false
  pub after : x.ready ≡ true → is_flush x.kind ≡ true → e.ready ≡ true
  pub clean : waits e ≡ true → waits x ≡ true → joined x ≡ true → Apart e x
  pub fellow : waits e ≡ true → waits x ≡ true → e.run ≡ x.run → (joined x ≡ true) × (e.kind ≡ x.kind) × (is_flush e.kind ≡ false)

abbrev pub Leaves : Entry → Entry → Type 0
Leaves e z = waits z ≡ true → e.run ≢ z.run

-- past a waiting flush no ticket waits in e's run
abbrev pub UnbrokenFrom : Entry → List Entry → Type 0
UnbrokenFrom e [] = Unit {0}
UnbrokenFrom e (f ∷ es) = (waits e ≡ true → waits f ≡ true → is_flush f.kind ≡ true → All (Leaves e) es) × UnbrokenFrom e es

abbrev pub Unbroken : List Entry → Type 0
Unbroken [] = Unit {0}
Unbroken (e ∷ es) = UnbrokenFrom e es × Unbroken es

-- the waiting tickets of run r make up neighbouring sectors, no more than a run may have
abbrev pub Rowed : List Entry → Type 0
Rowed es = (es ≡ []) ⊎ ((f : ℕ) × (c : ℕ) × Row es f c × (c ≤ longest_run))

pub record Sound (es : List Entry) : Type 0 where
  pub pairs : Pairs Fits es
  pub unbroken : Unbroken es
  pub rows : (r : ℕ) → Rowed (of_run r es)

abbrev pub oldest : List Entry → Option Entry
oldest [] = None
oldest (e ∷ es) = cond e.ready (oldest es) (Some e)

-- a new ticket that waits in a run of its own: its tag is no open ticket's, and no waiting ticket's run goes by it
pub record Alone (es : List Entry) (n : Entry) : Type 0 where
  pub waiting : n.ready ≡ false
  pub named : n.run ≡ n.tag
  pub short : n.count ≤ longest_run
  pub fresh : All (λ e. e.tag ≢ n.tag) es
  pub unused : All (λ e. waits e ≡ true → e.run ≢ n.run) es

-- a new ticket that joins a run: of its kind, younger than every waiting flush, ending or beginning where it begins or ends
pub record Joins (es : List Entry) (n : Entry) (f c : ℕ) : Type 0 where
  pub waiting : n.ready ≡ false
  pub named : joined n ≡ true
  pub short : c + n.count ≤ longest_run
  pub fresh : All (λ e. e.tag ≢ n.tag) es
  pub apart : All (λ e. waits e ≡ true → Apart e n) es
  pub same : All (λ e. waits e ≡ true → e.run ≡ n.run → (e.kind ≡ n.kind) × (is_flush e.kind ≡ false)) es
  pub late : Pairs (λ e x. waits e ≡ true → waits x ≡ true → is_flush x.kind ≡ true → e.run ≢ n.run) es
  pub row : Row (of_run n.run es) f c
  pub touches : (n.first ≡ f + c) ⊎ (n.first + n.count ≡ f)

-- the open tickets but the one of tag t
abbrev pub gone : ℕ → List Entry → List Entry
gone t [] = []
gone t (e ∷ es) = cond (t == e.tag) es (e ∷ gone t es)

abbrev pub ReadyAt : ℕ → List Entry → Type 0
ReadyAt t es = All (λ e. t ≡ e.tag → e.ready ≡ true) es

-- the head of run r waits among es
abbrev pub headed : ℕ → List Entry → Bool
headed r [] = false
headed r (e ∷ es) = ((waits e && e.tag == r) && e.run == r) || headed r es

-- each waiting ticket's run has its head waiting
abbrev pub Headed : List Entry → Type 0
Headed es = All (λ e. waits e ≡ true → headed e.run es ≡ true) es

-- no waiting flush is older than the head of run r
abbrev pub Unflushed : ℕ → List Entry → Type 0
Unflushed r [] = Unit {0}
Unflushed r (e ∷ es) = mine r e ≡ false → (waits e ≡ true → is_flush e.kind ≡ false) × Unflushed r es

-- none of run r conflicts with an older waiting ticket outside it
abbrev pub Unconflicted : ℕ → List Entry → Type 0
Unconflicted r es = Pairs (λ e x. waits e ≡ true → mine r e ≡ false → mine r x ≡ true → Apart e x) es

-- a ticket with a run inside the size, and with bytes for all of it
pub record Proper (size : ℕ) (e : Entry) : Type 0 where
  pub count : fair_count e.kind e.first e.count ≡ true
  pub inside : e.first + e.count ≤ size
  pub whole : length e.bytes ≡ e.count * sector_bytes
