-- What a row of bytes shows on a device of a size.
use Rattle.std.specs.Prelude.{◌≡◌, ℕ, ◌*◌, Bool, true, cond, not, ◌&&◌, List, drop, nat_lt}
use Rattle.device.specs.Meaning.{Contents, part, zeros, sector_bytes}
use Rattle.sectors.specs.Memory.{listed}

-- a sector of the device that is named
abbrev pub bad_of : ℕ → List ℕ → ℕ → Bool
bad_of size named s = nat_lt s size && listed s named

-- what the row of bytes shows at a sector: zeros where it is bad, and past the last
abbrev pub shown : ℕ → List ℕ → List ℕ → Contents
shown size named memory s = cond (nat_lt s size && not (listed s named)) (part memory s) zeros

-- the bytes of bad sectors, and those past the last sector, are as they were
pub record Spares (size : ℕ) (named before after : List ℕ) : Type 0 where
  pub bad : (s : ℕ) → bad_of size named s ≡ true → part after s ≡ part before s
  pub past : drop (size * sector_bytes) after ≡ drop (size * sector_bytes) before
