-- Facts on turns that hold of every device.
use Rattle.std.proofs.Common.{◌≡◌, true, List, [], ◌∷◌, ◌++◌, refl, arith}
use Rattle.std.proofs.lemmas.Bool.{both_ways}
use Rattle.device.specs.Meaning.{Meaning, Ticket, Contents}
use Rattle.device.specs.Turns.{Turned, SameShape, Readied, Flushed, waiting, made_ready, flush_order}
use Rattle.device.specs.Sound.{Each}

pub same_refl : (m : Meaning) → SameShape m m
same_refl m = record { size = refl; capacity = refl; height = refl; bad = refl; home = refl }

pub readied_refl : (ts : List Ticket) → Readied ts ts
readied_refl [] = Readied.none
readied_refl (t ∷ ts) = Readied.stays (readied_refl ts)

pub flushed_refl : (disk medium : Contents) (ts : List Ticket) → Flushed disk medium ts ts
flushed_refl disk medium [] = tt
flushed_refl disk medium (t ∷ ts) = ((λ f w r. absurd (both_ways t.ready w r)), flushed_refl disk medium ts)

-- a device with nothing that waits stays, and answers 0
pub idle_turned : (m : Meaning) → flush_order m.tickets ≡ true → waiting m.tickets ≡ 0 → Turned m m 0
idle_turned m o w = record {
  shape = same_refl m;
  disk = refl;
  idle = λ z. (refl, refl);
  progress = λ p. absurd (omega arith);
  readied = readied_refl m.tickets;
  flush_order = o;
  settled = λ s e n. e;
  flushed = flushed_refl m.disk m.medium m.tickets;
  bounded = omega arith;
}

-- what a ticket keeps when it becomes ready, each keeps by a turn
pub each_readied : (P : Ticket → Type 0) → ((t : Ticket) → P t → P (made_ready t)) → {ts us : List Ticket} → Readied ts us → Each P ts → Each P us
each_readied P up Readied.none e = tt
each_readied P up (Readied.stays r) e = (e.0, each_readied P up r e.1)
each_readied P up (Readied.turns {t} h r) e = (up t e.0, each_readied P up r e.1)

pub each_more : (P : Ticket → Type 0) (ts : List Ticket) (t : Ticket) → Each P ts → P t → Each P (ts ++ (t ∷ []))
each_more P [] t e p = (p, tt)
each_more P (x ∷ xs) t e p = (e.0, each_more P xs t e.1 p)
