-- The stretch of sectors that the tickets of a run make up.
use Rattle.std.specs.Prelude.{◌≡◌, ℕ, ◌+◌, ◌-◌, ◌*◌, ◌<◌, ◌≤◌, Bool, false, ◌||◌, List, [], ◌∷◌, ◌++◌, length, take, drop}
use Rattle.device.specs.Meaning.{Contents, sector_bytes}
use Rattle.queue.specs.Queue.{Entry, hits, puts}

-- the tickets lengthen the stretch f, c one by one, each at one of its ends, to f', c'
pub data Spans : List Entry → (f c f' c' : ℕ) → Type 0 where
  done : {f c : ℕ} → Spans [] f c f c
  back : {e : Entry} {es : List Entry} {f c f' c' : ℕ} → e.first ≡ f + c → Spans es f (c + e.count) f' c' → Spans (e ∷ es) f c f' c'
  front : {e : Entry} {es : List Entry} {f c f' c' : ℕ} → e.first + e.count ≡ f → Spans es e.first (c + e.count) f' c' → Spans (e ∷ es) f c f' c'

-- the tickets of a run, the oldest first, make up the stretch f, c
abbrev pub Row : List Entry → (f c : ℕ) → Type 0
Row [] f c = ⊥
Row (h ∷ es) f c = Spans es h.first h.count f c

abbrev pub covered : List Entry → ℕ → Bool
covered [] s = false
covered (e ∷ es) s = hits e s || covered es s

abbrev pub reached : (ℕ → Bool) → List Entry → ℕ → Bool
reached bad [] s = false
reached bad (e ∷ es) s = puts bad e s || reached bad es s

abbrev pub no_bad : ℕ → Bool
no_bad s = false

-- each sector of the stretch has its 128 bytes
abbrev pub Whole : Contents → (f c : ℕ) → Type 0
Whole d f c = (s : ℕ) → f ≤ s → s < f + c → length (d s) ≡ sector_bytes

-- a row of bytes with others put in at a place
abbrev pub pasted : List ℕ → ℕ → List ℕ → List ℕ
pasted buffer at bytes = take at buffer ++ (bytes ++ drop (at + length bytes) buffer)

-- the data of a run that begins at f, put in ticket by ticket
abbrev pub gathered : ℕ → List Entry → List ℕ → List ℕ
gathered f [] buffer = buffer
gathered f (e ∷ es) buffer = gathered f es (pasted buffer ((e.first - f) * sector_bytes) e.bytes)

-- a ticket's stretch of the bytes of its run, which begins at f
abbrev pub stretch_in : List ℕ → ℕ → Entry → List ℕ
stretch_in bytes f e = take (e.count * sector_bytes) (drop ((e.first - f) * sector_bytes) bytes)
