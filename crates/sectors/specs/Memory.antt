-- A row of bytes as sectors, some of them named bad.
use Rattle.std.specs.Prelude.{ℕ, zero, suc, ◌+◌, ◌*◌, Bool, cond, ◌&&◌, List, ◌++◌, take, drop, ◌==◌, nat_le}
use Rattle.std.specs.List.{list_any}
use Rattle.device.specs.Meaning.{Contents, part, zeros, sector_bytes}

-- the sector is among those named
abbrev pub listed : ℕ → List ℕ → Bool
listed s named = list_any (λ x. x == s) named

abbrev pub names : List ℕ → ℕ → Bool
names named s = listed s named

-- what a row of bytes shows at a sector
abbrev pub seen : List ℕ → List ℕ → Contents
seen named memory s = cond (listed s named) zeros (part memory s)

-- the row once a sector that is not named takes the bytes
abbrev pub put_sector : List ℕ → ℕ → List ℕ → List ℕ → List ℕ
put_sector named s bytes memory = cond (listed s named) memory (take (s * sector_bytes) memory ++ (bytes ++ drop (s * sector_bytes + sector_bytes) memory))

-- and once the sectors of a run do
abbrev pub put_run : List ℕ → (first count : ℕ) → List ℕ → List ℕ → List ℕ
put_run named first zero bytes memory = memory
put_run named first (suc n) bytes memory = put_sector named (first + n) (part bytes n) (put_run named first n bytes memory)

-- a run lies in a number of bytes, and its own bytes in another
abbrev pub lies_in : (first count memory buffer : ℕ) → Bool
lies_in first count memory buffer = nat_le ((first + count) * sector_bytes) memory && nat_le (count * sector_bytes) buffer
