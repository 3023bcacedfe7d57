-- Two devices as one, by the meanings of the two.
use Rattle.std.specs.Prelude.{◌≡◌, ℕ, zero, suc, ◌+◌, ◌/◌, ◌%◌, ◌^◌, min, max, Bool, cond, ◌&&◌, ◌||◌, List, [], ◌∷◌, ◌++◌, length, Ok, Err, Result, ◌==◌, nat_lt}
use Rattle.device.specs.declared.interface.Kind.{Kind}
use Rattle.device.specs.declared.interface.Kind.TheVariants.{Read, Write, Flush}
use Rattle.device.specs.declared.interface.Cause.{Cause}
use Rattle.device.specs.declared.interface.Refusal.{Refusal}
use Rattle.device.specs.Meaning.{Meaning, Ticket, Contents, mask_of, part}
use Rattle.device.specs.Layers.{layer_height}
use Rattle.gate.specs.Means.{gated}

-- the first sectors of two rows of bytes: the second row's where the test says so
abbrev pub picked : (ℕ → Bool) → ℕ → List ℕ → List ℕ → List ℕ
picked p zero xs ys = []
picked p (suc n) xs ys = picked p n xs ys ++ cond (p n) (part ys n) (part xs n)

-- whether bit i of a mask is set
abbrev pub bit : ℕ → ℕ → Bool
bit mask i = mask / 2 ^ i % 2 == 1

-- a read's bytes, sector by sector from the left, but from the right where the test says so
abbrev pub mixed : Kind → (ℕ → Bool) → ℕ → List ℕ → List ℕ → List ℕ
mixed Read p n xs ys = picked p n xs ys
mixed Write p n xs ys = []
mixed Flush p n xs ys = []

-- bad on both sides
abbrev pub both : (ℕ → Bool) → (ℕ → Bool) → ℕ → Bool
both p q s = p s && q s

-- the right side's contents where the left is bad
abbrev pub either : (ℕ → Bool) → Contents → Contents → Contents
either p x y s = cond (p s) (y s) (x s)

-- one ticket of both sides' tickets; p and q are the bad sectors left and right
abbrev pub paired : (p q : ℕ → Bool) → Ticket → Ticket → Ticket
paired p q x y = record {
  tag = x.tag;
  kind = x.kind;
  first = x.first;
  count = x.count;
  mask = mask_of (both p q) x.first x.count;
  bytes = mixed x.kind (λ i. p (x.first + i)) x.count x.bytes y.bytes;
  ready = x.ready;
}

abbrev pub all_paired : (p q : ℕ → Bool) → List Ticket → List Ticket → List Ticket
all_paired p q [] ys = []
all_paired p q (x ∷ xs) [] = []
all_paired p q (x ∷ xs) (y ∷ ys) = paired p q x y ∷ all_paired p q xs ys

-- what a mirror means over its two sides
abbrev pub mirrored : Meaning → Meaning → Meaning
mirrored a b = record {
  size = min a.size b.size;
  capacity = min a.capacity b.capacity;
  height = layer_height (max a.height b.height);
  bad = both a.bad b.bad;
  home = λ s. record { height = layer_height (max a.height b.height); sector = s };
  disk = either a.bad a.disk b.disk;
  medium = either a.bad a.medium b.medium;
  tickets = all_paired a.bad b.bad a.tickets b.tickets;
}

-- the two sides' tickets of one request
pub record Alike (x y : Ticket) : Type 0 where
  pub tag : y.tag ≡ x.tag
  pub kind : y.kind ≡ x.kind
  pub first : y.first ≡ x.first
  pub count : y.count ≡ x.count
  pub ready : y.ready ≡ x.ready

abbrev pub Agree : List Ticket → List Ticket → Type 0
Agree [] [] = Unit {0}
Agree [] (y ∷ ys) = ⊥
Agree (x ∷ xs) [] = ⊥
Agree (x ∷ xs) (y ∷ ys) = Alike x y × Agree xs ys

-- both sides hold the same requests
abbrev pub Level : Meaning → Meaning → Type 0
Level a b = Agree a.tickets b.tickets

-- the number of bytes that a collect hands over
abbrev pub room_due : Result Ticket Cause → Result ℕ Cause
room_due (Ok t) = Ok (length t.bytes)
room_due (Err c) = Err c

-- the mask of an answer
abbrev pub answered : Result ℕ Refusal → ℕ
answered (Ok x) = x
answered (Err f) = 0

-- a mirror of which a side has open tickets, or no room for any, only asks questions below
abbrev pub shut_both : Meaning → Meaning → Bool
shut_both a b = (nat_lt 0 (length a.tickets) || nat_lt 0 (length b.tickets)) || min a.capacity b.capacity == 0

-- the meaning of a mirror at set-up: over sides that are as they are, or shut together
abbrev pub set_up : Meaning → Meaning → Meaning
set_up a b = mirrored (gated (shut_both a b) a) (gated (shut_both a b) b)
