-- What a block device means: its shape for life, its contents, and its open tickets.
use Rattle.std.specs.Prelude.{ℕ, zero, suc, ◌+◌, ◌-◌, ◌*◌, ◌^◌, Bool, true, false, cond, not, ◌&&◌, List, [], ◌++◌, take, drop, replicate, nat_le, nat_lt}
use Rattle.device.specs.declared.interface.Kind.{Kind}
use Rattle.device.specs.declared.interface.Kind.TheVariants.{Read, Write, Flush}
use Rattle.device.specs.declared.interface.Home.{Home}
use Rattle.device.specs.declared.interface.Cause.{Cause}
use Rattle.device.specs.declared.interface.Refusal.{Refusal}

-- the bytes of one sector
abbrev pub sector_bytes : ℕ
sector_bytes = 128

-- a run is 1 to this many neighbouring sectors
abbrev pub longest_run : ℕ
longest_run = 8

-- the bytes of the longest run
abbrev pub run_bytes : ℕ
run_bytes = longest_run * sector_bytes

-- the bytes of each sector
abbrev pub Contents : Type 0
Contents = ℕ → List ℕ

-- An accepted request that is not answered yet. Its due answer is the mask and, for a read, the bytes.
pub record Ticket : Type 0 where
  pub tag : ℕ
  pub kind : Kind
  pub first : ℕ
  pub count : ℕ
  pub mask : ℕ
  pub bytes : List ℕ
  pub ready : Bool

-- A device as its user sees it. For life: size, capacity, height, bad sectors and homes. The disk is the contents as
-- promised, the medium the contents that survive, the tickets are in order of acceptance, the oldest first.
pub record Meaning : Type 0 where
  pub size : ℕ
  pub capacity : ℕ
  pub height : ℕ
  pub bad : ℕ → Bool
  pub home : ℕ → Home
  pub disk : Contents
  pub medium : Contents
  pub tickets : List Ticket

-- what a bad sector shows
unfoldable pub zeros : List ℕ
zeros = replicate sector_bytes 0

abbrev pub is_read : Kind → Bool
is_read Read = true
is_read Write = false
is_read Flush = false

abbrev pub is_write : Kind → Bool
is_write Read = false
is_write Write = true
is_write Flush = false

abbrev pub is_flush : Kind → Bool
is_flush Read = false
is_flush Write = false
is_flush Flush = true

-- sector s lies in the run
abbrev pub covers : (first count s : ℕ) → Bool
covers first count s = nat_le first s && nat_lt s (first + count)

-- the i-th sector's part of a row of bytes
abbrev pub part : List ℕ → ℕ → List ℕ
part bytes i = take sector_bytes (drop (i * sector_bytes) bytes)

-- the mask of a run: its bit i, of weight 2 ^ i, is set if the run's sector i is bad
abbrev pub mask_of : (ℕ → Bool) → (first count : ℕ) → ℕ
mask_of bad first zero = 0
mask_of bad first (suc n) = mask_of bad first n + cond (bad (first + n)) (2 ^ n) 0

-- the bytes of a run, one sector after the other
abbrev pub bytes_of : Contents → (first count : ℕ) → List ℕ
bytes_of disk first zero = []
bytes_of disk first (suc n) = bytes_of disk first n ++ disk (first + n)

-- the contents after a write: its good sectors take the data
abbrev pub written : (ℕ → Bool) → (first count : ℕ) → List ℕ → Contents → Contents
written bad first count data' disk s = cond (covers first count s && not (bad s)) (part data' (s - first)) (disk s)

-- the device with another disk and other tickets, all else as it was
abbrev pub with_disk : Meaning → Contents → List Ticket → Meaning
with_disk m disk tickets = record {
  size = m.size;
  capacity = m.capacity;
  height = m.height;
  bad = m.bad;
  home = m.home;
  disk = disk;
  medium = m.medium;
  tickets = tickets;
}

-- what a refused call returns: the cause, and the height of the device called
abbrev pub refused_by : Meaning → Cause → Refusal
refused_by m c = record { cause = c; height = m.height }
