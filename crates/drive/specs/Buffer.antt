-- The buffer of a drive: sectors with their bytes, the one longest in it first.
use Rattle.std.specs.Prelude.{ℕ, zero, suc, ◌+◌, ◌*◌, Bool, true, cond, not, ◌&&◌, List, [], ◌∷◌, ◌++◌, length, drop, Option, ◌==◌, nat_le}
use Rattle.std.specs.List.{list_any, list_all}
use Rattle.device.specs.Lookup.{index_by}
use Rattle.device.specs.Meaning.{Contents, part, sector_bytes}
use Rattle.sectors.specs.Memory.{listed, put_sector}
use Rattle.drive.specs.declared.buffer.Entry.{Entry}

-- the sectors that the buffer holds at most
abbrev pub buffer_size : ℕ
buffer_size = 8

abbrev pub entry : ℕ → List ℕ → Entry
entry s x = record { sector = s; bytes = x }

-- an entry goes by its sector
abbrev pub by_sector : Entry → ℕ
by_sector e = e.sector

-- where a sector stands
abbrev pub index_of : ℕ → List Entry → Option ℕ
index_of s es = index_by by_sector 0 s es

-- the sector is in the buffer
abbrev pub stands_in : ℕ → List Entry → Bool
stands_in s es = list_any (λ e. s == e.sector) es

-- the buffer over what lies below it
abbrev pub buffered : List Entry → Contents → Contents
buffered [] below s = below s
buffered (e ∷ es) below s = cond (s == e.sector) e.bytes (buffered es below s)

-- a sector in the buffer takes the bytes and keeps its place
abbrev pub renewed : ℕ → List ℕ → List Entry → List Entry
renewed s x [] = []
renewed s x (e ∷ es) = cond (s == e.sector) (entry e.sector x ∷ es) (e ∷ renewed s x es)

-- the buffer is full
abbrev pub full : List Entry → Bool
full es = length es == buffer_size

-- the buffer without the sector that is longest in it
abbrev pub younger : List Entry → List Entry
younger es = drop 1 es

-- the row of bytes once the sector longest in the buffer is put on it
abbrev pub put_oldest : List ℕ → List Entry → List ℕ → List ℕ
put_oldest named [] row = row
put_oldest named (e ∷ es) row = put_sector named e.sector e.bytes row

-- a full buffer loses the sector longest in it
abbrev pub eased : List Entry → List Entry
eased es = cond (full es) (younger es) es

-- which goes to the row
abbrev pub pushed_out : List ℕ → List Entry → List ℕ → List ℕ
pushed_out named es row = cond (full es) (put_oldest named es row) row

-- the buffer once a sector is brought in
abbrev pub brought_in : ℕ → List ℕ → List Entry → List Entry
brought_in s x es = cond (stands_in s es) (renewed s x es) (eased es ++ entry s x ∷ [])

-- the row of bytes after that: a new sector that finds the buffer full puts the oldest out
abbrev pub put_out : List ℕ → ℕ → List Entry → List ℕ → List ℕ
put_out named s es row = cond (stands_in s es) row (pushed_out named es row)

-- the good sectors of a run are brought in, in rising order
abbrev pub brought_run : List ℕ → (first count : ℕ) → List ℕ → List Entry → List Entry
brought_run named first zero bytes es = es
brought_run named first (suc n) bytes es =
    cond (listed (first + n) named) (brought_run named first n bytes es) (brought_in (first + n) (part bytes n) (brought_run named first n bytes es))

-- and those that they push out go to the row of bytes
abbrev pub put_out_run : List ℕ → (first count : ℕ) → List ℕ → List Entry → List ℕ → List ℕ
put_out_run named first zero bytes es row = row
put_out_run named first (suc n) bytes es row =
    cond (listed (first + n) named) (put_out_run named first n bytes es row)
    (put_out named (first + n) (brought_run named first n bytes es) (put_out_run named first n bytes es row))

-- the row of bytes once the whole buffer is put on it in order
abbrev pub put_all : List ℕ → List Entry → List ℕ → List ℕ
put_all named [] row = row
put_all named (e ∷ es) row = put_all named es (put_sector named e.sector e.bytes row)

-- an entry whose sector lies on a row of so many bytes, with its own bytes whole
abbrev pub lies : ℕ → Entry → Bool
lies room e = nat_le ((e.sector + 1) * sector_bytes) room && length e.bytes == sector_bytes

abbrev pub all_lie : ℕ → List Entry → Bool
all_lie room es = list_all (lies room) es

-- no entry of a named sector
abbrev pub all_good : List ℕ → List Entry → Bool
all_good named es = list_all (λ e. not (listed e.sector named)) es

-- no sector twice
abbrev pub single : List Entry → Bool
single [] = true
single (e ∷ es) = not (stands_in e.sector es) && single es
