-- Requests and their order, over the usual elevator on a drive of 512 zeroed sectors of which sector 300 is bad.
use Rattle.std.specs.Prelude.{◌≡◌, ℕ, zero, suc, ◌*◌, Bool, true, false, List, [], ◌∷◌, ◌++◌, replicate}
use Rattle.device.specs.declared.interface.Kind.TheVariants.{Read, Write, Flush}
use Rattle.device.specs.declared.interface.Request.{Request}
use Rattle.device.specs.Meaning.{Meaning, sector_bytes}
use Rattle.device.specs.Numbers.{kind_number}
use Rattle.drive.specs.Means as drive
use Rattle.deadline.specs.Settings.{Settings, usual}
use Rattle.deadline.specs.Orders.{with_starved_and_batch, without_front_merges}
use Rattle.cases.specs.Played.{Elevator, made_over, Call, submit, turn, collect, Said, done, refused, readies, gives, played}

-- the numbers that name bad sectors: 300, and seven that are not below the size and name none
abbrev pub bad_sectors : List ℕ
bad_sectors = 300 ∷ replicate 7 65536

-- the bytes of 512 sectors, all zero
unfoldable pub zeroed : List ℕ
zeroed = replicate 65536 0

abbrev pub the_drive : Meaning
the_drive = drive.set_up bad_sectors zeroed

-- n sectors of one byte
abbrev pub filled : (n byte : ℕ) → List ℕ
filled n byte = replicate (n * sector_bytes) byte

-- requests by tag, first sector and count; each write's data is of one byte
abbrev pub read : (tag first count : ℕ) → Call
read tag first count = submit (record { tag = tag; kind = kind_number Read; first = first; count = count }) [] 0

abbrev pub write : (tag first count byte : ℕ) → Call
write tag first count byte = submit (record { tag = tag; kind = kind_number Write; first = first; count = count }) (filled count byte) 0

abbrev pub read_at : (tag first tick : ℕ) → Call
read_at tag first tick = submit (record { tag = tag; kind = kind_number Read; first = first; count = 1 }) [] tick

abbrev pub flush : (tag : ℕ) → Call
flush tag = submit (record { tag = tag; kind = kind_number Flush; first = 0; count = 0 }) [] 0

-- a read, a write of one sector, under its sector's number
abbrev pub R : ℕ → Call
R n = read n n 1

abbrev pub W : ℕ → Call
W n = write n n 1 7

abbrev pub T : Call
T = turn 0

-- n reads of sectors that do not touch, under the tags 1 to n
abbrev pub many_reads : ℕ → List Call
many_reads zero = []
many_reads (suc n) = many_reads n ++ (read (suc n) (2 * suc n) 1 ∷ [])

abbrev pub CasesOn : Meaning → Type 0
CasesOn m =
    let over = made_over m in
    -- a write goes before a read of its sector, and the read shows it
    (played usual over (W 100 ∷ read 1 100 1 ∷ T ∷ T ∷ collect 1 128 ∷ []) ≡ done ∷ done ∷ readies (100 ∷ []) ∷ readies (1 ∷ []) ∷ gives 0 (filled 1 7) ∷ []) ×
    -- a read of another sector goes first
    (played usual over (W 100 ∷ R 200 ∷ T ∷ T ∷ []) ≡ done ∷ done ∷ readies (200 ∷ []) ∷ readies (100 ∷ []) ∷ []) ×
    -- two reads that make up 8 sectors go together, and two that make up 9 do not
    (played usual over (read 10 10 4 ∷ read 14 14 4 ∷ T ∷ T ∷ []) ≡ done ∷ done ∷ readies (10 ∷ 14 ∷ []) ∷ readies [] ∷ []) ×
    (played usual over (read 10 10 4 ∷ read 14 14 5 ∷ T ∷ T ∷ []) ≡ done ∷ done ∷ readies (10 ∷ []) ∷ readies (14 ∷ []) ∷ []) ×
    -- in front too, unless front merges are off
    (played usual over (read 14 14 4 ∷ read 10 10 4 ∷ T ∷ T ∷ []) ≡ done ∷ done ∷ readies (14 ∷ 10 ∷ []) ∷ readies [] ∷ []) ×
    (played without_front_merges over (read 14 14 4 ∷ read 10 10 4 ∷ T ∷ T ∷ []) ≡ done ∷ done ∷ readies (10 ∷ []) ∷ readies (14 ∷ []) ∷ []) ×
    -- a read that overlaps a waiting write joins no run
    (played usual over (write 0 14 1 7 ∷ read 10 10 4 ∷ R 14 ∷ T ∷ T ∷ T ∷ []) ≡ done ∷ done ∷ done ∷ readies (10 ∷ []) ∷ readies (0 ∷ []) ∷ readies (14 ∷ []) ∷ []) ×
    -- with batches of one run, two read batches pass a write over
    (played (with_starved_and_batch 2 1) over (R 10 ∷ R 20 ∷ R 30 ∷ R 40 ∷ W 50 ∷ T ∷ T ∷ T ∷ T ∷ T ∷ []) ≡
    done ∷ done ∷ done ∷ done ∷ done ∷ readies (10 ∷ []) ∷ readies (20 ∷ []) ∷ readies (50 ∷ []) ∷ readies (30 ∷ []) ∷ readies (40 ∷ []) ∷ []) ×
    -- an expired read goes first, and one tick earlier it does not
    (played usual over (R 200 ∷ read_at 10 10 500 ∷ turn 500 ∷ turn 500 ∷ []) ≡ done ∷ done ∷ readies (200 ∷ []) ∷ readies (10 ∷ []) ∷ []) ×
    (played usual over (R 200 ∷ read_at 10 10 499 ∷ turn 499 ∷ turn 499 ∷ []) ≡ done ∷ done ∷ readies (10 ∷ []) ∷ readies (200 ∷ []) ∷ []) ×
    -- nothing passes a flush
    (played usual over (W 5 ∷ flush 0 ∷ R 9 ∷ T ∷ T ∷ T ∷ []) ≡ done ∷ done ∷ done ∷ readies (5 ∷ []) ∷ readies (0 ∷ []) ∷ readies (9 ∷ []) ∷ []) ×
    -- a bad sector in the middle: its bit is in the mask, and a read shows zeros there
    (played usual over (write 1 299 3 7 ∷ T ∷ collect 1 0 ∷ read 2 299 3 ∷ T ∷ collect 2 384 ∷ []) ≡
    done ∷ readies (1 ∷ []) ∷ gives 2 [] ∷ done ∷ readies (2 ∷ []) ∷ gives 2 (filled 1 7 ++ (filled 1 0 ++ filled 1 7)) ∷ []) ×
    -- two writes in one run have each its own mask
    (played usual over (write 1 298 2 7 ∷ write 2 300 1 7 ∷ T ∷ collect 1 0 ∷ collect 2 0 ∷ []) ≡
    done ∷ done ∷ readies (1 ∷ 2 ∷ []) ∷ gives 0 [] ∷ gives 1 [] ∷ []) ×
    -- a 33rd ticket is refused with 6, and accepted once one of the 32 is collected
    (played usual over (R 0 ∷ T ∷ (many_reads 31 ++ (R 100 ∷ collect 0 128 ∷ R 100 ∷ []))) ≡
    done ∷ readies (0 ∷ []) ∷ (replicate 31 done ++ (refused 6 ∷ gives 0 (filled 1 0) ∷ done ∷ []))) ×
    -- the last sectors, one past them, and a kind that is none
    (played usual over (read 1 504 8 ∷ read 2 505 8 ∷ submit (record { tag = 3; kind = 3; first = 0; count = 9 }) [] 0 ∷ []) ≡ done ∷ refused 3 ∷ refused 1 ∷ [])

-- all of them on the drive
abbrev pub CasesHold : Type 0
CasesHold = CasesOn the_drive
