-- Lemmas, no definitions to believe: a mirror over sound sides is sound. They stand here because the layer's ghost member can
-- cite this crate's lemmas only from specs/.
use Rattle.std.specs.Prelude.{◌≡◌, ℕ, zero, suc, ◌+◌, ◌*◌, ◌<◌, ◌≤◌, min, Bool, true, false, cond, List, [], ◌∷◌, length, refl}
use Rattle.std.proofs.Common.{ap, ◌∙◌, arith}
use Rattle.std.proofs.lemmas.List.{length-append, length-take, length-drop}
use Rattle.std.proofs.lemmas.Bool.{and_parts, cond_both}
use Rattle.device.specs.declared.interface.Kind.{Kind}
use Rattle.device.specs.declared.interface.Kind.TheVariants.{Read, Write, Flush}
use Rattle.device.specs.Meaning.{Meaning, Ticket, Contents, is_read, part, zeros}
use Rattle.device.specs.Submit.{tag_is_open}
use Rattle.device.specs.Turns.{none_ready, flush_free, flush_order}
use Rattle.device.specs.Sound.{Sound, WellFormed, Each, distinct}
use Rattle.mirror.specs.Means.{picked, mixed, both, either, paired, all_paired, mirrored, Alike, Agree, Level}

-- the two sides' tickets of the same requests, one by one
pub data Pairs : List Ticket → List Ticket → Type 0 where
  none : Pairs [] []
  more : {x y : Ticket} {xs ys : List Ticket} → Alike x y → Pairs xs ys → Pairs (x ∷ xs) (y ∷ ys)

pub pairs : (xs ys : List Ticket) → Agree xs ys → Pairs xs ys
pairs [] [] h = Pairs.none
pairs [] (y ∷ ys) h = absurd h
pairs (x ∷ xs) [] h = absurd h
pairs (x ∷ xs) (y ∷ ys) h = Pairs.more h.0 (pairs xs ys h.1)

pub agree : {xs ys : List Ticket} → Pairs xs ys → Agree xs ys
agree Pairs.none = tt
agree (Pairs.more l h) = (l, agree h)

-- the mirror's tickets are of the same requests as the left side's
pub pairs_paired : (p q : ℕ → Bool) {xs ys : List Ticket} → Pairs xs ys → Pairs xs (all_paired p q xs ys)
pairs_paired p q Pairs.none = Pairs.none
pairs_paired p q (Pairs.more l h) = Pairs.more (record { tag = refl; kind = refl; first = refl; count = refl; ready = refl }) (pairs_paired p q h)

-- What lists of the same requests have in common

pub length_alike : {xs ys : List Ticket} → Pairs xs ys → length ys ≡ length xs
length_alike Pairs.none = refl
length_alike (Pairs.more l h) = cc (length_alike h)

pub open_alike : (t : ℕ) {xs ys : List Ticket} → Pairs xs ys → tag_is_open t ys ≡ tag_is_open t xs
open_alike t Pairs.none = refl
open_alike t (Pairs.more l h) = cc (open_alike t h)

pub distinct_alike : {xs ys : List Ticket} → Pairs xs ys → distinct ys ≡ distinct xs
distinct_alike Pairs.none = refl
distinct_alike (Pairs.more {x} l h) = cc (open_alike x.tag h, distinct_alike h)

none_ready_alike : {xs ys : List Ticket} → Pairs xs ys → none_ready ys ≡ none_ready xs
none_ready_alike Pairs.none = refl
none_ready_alike (Pairs.more l h) = cc (none_ready_alike h)

flush_free_alike : {xs ys : List Ticket} → Pairs xs ys → flush_free ys ≡ flush_free xs
flush_free_alike Pairs.none = refl
flush_free_alike (Pairs.more l h) = cc (flush_free_alike h)

pub flush_order_alike : {xs ys : List Ticket} → Pairs xs ys → flush_order ys ≡ flush_order xs
flush_order_alike Pairs.none = refl
flush_order_alike (Pairs.more l h) = cc (none_ready_alike h, flush_free_alike h, flush_order_alike h)

-- The bytes of a read

-- one of two sectors
pub length_either : (b : Bool) (x y : List ℕ) → length x ≡ 128 → length y ≡ 128 → length (cond b y x) ≡ 128
length_either b x y e f = cond_both b y x (λ z. length z ≡ 128) (λ _. f) (λ _. e)

pub length_part : (row : List ℕ) (s : ℕ) → (s + 1) * 128 ≤ length row → length (part row s) ≡ 128
length_part row s le = simp (length-take, length-drop) (omega arith)

pub length_picked : (p : ℕ → Bool) (n : ℕ) (xs ys : List ℕ) → n * 128 ≤ length xs → n * 128 ≤ length ys → length (picked p n xs ys) ≡ n * 128
length_picked p zero xs ys a b = refl
length_picked p (suc n) xs ys a b =
    let rest = length_picked p n xs ys (omega arith) (omega arith) in
    let here = length_either (p n) (part xs n) (part ys n) (length_part xs n (omega arith)) (length_part ys n (omega arith)) in
    simp length-append (omega arith)

read_mixed : (k : Kind) (p : ℕ → Bool) (n : ℕ) (xs ys : List ℕ) → (is_read k ≡ true → length xs ≡ n * 128) → (is_read k ≡ true → length ys ≡ n * 128)
    → is_read k ≡ true → length (mixed k p n xs ys) ≡ n * 128
read_mixed Read p n xs ys a b e = let x = a refl in let y = b refl in length_picked p n xs ys (omega arith) (omega arith)
read_mixed Write p n xs ys a b e = absurd cc
read_mixed Flush p n xs ys a b e = absurd cc

other_mixed : (k : Kind) (p : ℕ → Bool) (n : ℕ) (xs ys : List ℕ) → is_read k ≡ false → length (mixed k p n xs ys) ≡ 0
other_mixed Read p n xs ys e = absurd cc
other_mixed Write p n xs ys e = refl
other_mixed Flush p n xs ys e = refl

module _ (sa sb : ℕ) (p q : ℕ → Bool) where
  pub well_paired : (x y : Ticket) → Alike x y → WellFormed sa p x → WellFormed sb q y → WellFormed (min sa sb) (both p q) (paired p q x y)
  well_paired x y l v w = record {
    count = v.count;
    inside = (let i = v.inside in let j = w.inside in let f = l.first in let c = l.count in omega arith);
    mask = refl;
    read = read_mixed x.kind (λ i. p (x.first + i)) x.count x.bytes y.bytes v.read
        (λ e. w.read (ap is_read l.kind ∙ e) ∙ ap (λ n. n * 128) l.count);
    other = other_mixed x.kind (λ i. p (x.first + i)) x.count x.bytes y.bytes;
  }

  pub each_paired : {xs ys : List Ticket} → Pairs xs ys → Each (WellFormed sa p) xs → Each (WellFormed sb q) ys → Each (WellFormed (min sa sb) (both p q)) (all_paired p q xs ys)
  each_paired Pairs.none v w = tt
  each_paired (Pairs.more {x} {y} l h) v w = (well_paired x y l v.0 w.0, each_paired h v.1 w.1)

bad_either : (b : Bool) (x y z : List ℕ) → b ≡ true → y ≡ z → cond b y x ≡ z
bad_either b x y z e f = rw e f

module _ (a b : Meaning) (v : Sound a) (w : Sound b) where
  inside_both : (s : ℕ) → both a.bad b.bad s ≡ true → s < min a.size b.size
  inside_both s h = let l = and_parts (a.bad s) (b.bad s) h in let i = v.bad_inside s l.0 in let j = w.bad_inside s l.1 in omega arith

  -- a sector that is bad on both sides shows what the right shows
  zero_both : (x y : Contents) → ((s : ℕ) → b.bad s ≡ true → y s ≡ zeros) → (s : ℕ) → both a.bad b.bad s ≡ true → either a.bad x y s ≡ zeros
  zero_both x y e s h = let l = and_parts (a.bad s) (b.bad s) h in bad_either (a.bad s) (x s) (y s) zeros l.0 (e s l.1)

  whole_both : (x y : Contents) → ((s : ℕ) → s < a.size → length (x s) ≡ 128) → ((s : ℕ) → s < b.size → length (y s) ≡ 128)
      → (s : ℕ) → s < min a.size b.size → length (either a.bad x y s) ≡ 128
  whole_both x y e f s lt = length_either (a.bad s) (x s) (y s) (e s (omega arith)) (f s (omega arith))

  pub mirrored_sound : Level a b → Sound (mirrored a b)
  mirrored_sound l =
      let h = pairs a.tickets b.tickets l in
      let g = pairs_paired a.bad b.bad h in
      record {
        size = (let i = v.size in omega arith);
        capacity = (let i = v.capacity in omega arith);
        height = omega arith;
        room = (let i = v.room in let j = w.room in omega (arith, length_alike h, length_alike g));
        tags = distinct_alike g ∙ v.tags;
        tickets = each_paired a.size b.size a.bad b.bad h v.tickets w.tickets;
        flush_order = flush_order_alike g ∙ v.flush_order;
        bad_inside = inside_both;
        bad_disk = zero_both a.disk b.disk w.bad_disk;
        bad_medium = zero_both a.medium b.medium w.bad_medium;
        disk = whole_both a.disk b.disk v.disk w.disk;
        medium = whole_both a.medium b.medium v.medium w.medium;
      }
