-- What the front's calls rest on. Assumes nothing.
use Rattle.std.proofs.Common.{◌≡◌, ℕ, ◌+◌, ◌*◌, ◌<◌, ◌≤◌, min, Bool, true, false, cond, ◌&&◌, eqb, ltb, leb, List, [], ◌∷◌, ◌++◌, length, get_or, take, drop, set, replicate, Some, None, Ok, Err, Option, Result, Vec, Global, vec_items, vec_capacity, sym, refl, ap, ◌∙◌, arith}
use native.Mathlib.Nat.{min-eq_left}
use Rattle.std.proofs.lemmas.List.{get_or_default, length-append, length-drop, length-replicate, length-set, take_all}
use Rattle.std.proofs.lemmas.Bool.{and_parts, and_from, leb-true, le-leb, eqb-true, eqb-false, eq-eqb, cond-true, cond-false, lt-ltb, le-ltb, ltb-false}
use Rattle.device.specs.declared.interface.Kind.{Kind}
use Rattle.device.specs.declared.interface.Kind.TheVariants.{Read, Write, Flush}
use Rattle.device.specs.declared.interface.Cause.{Cause}
use Rattle.device.specs.declared.interface.Cause.TheVariants as causes
use Rattle.device.specs.declared.interface.Request.{Request}
use Rattle.device.specs.Meaning.{Contents, mask_of, bytes_of, is_read}
use Rattle.device.specs.Submit.{fair_count, form}
use Rattle.device.specs.Sound.{most_sectors, most_tickets}
use Rattle.device.proofs.Forms.{form_ok, fair_short, due_short}
use Rattle.tickets.specs.declared.place.Place.{Place}
use Rattle.tickets.specs.Places.{by_tag}
use Rattle.tickets.specs.Fresh.{fresh}
use Rattle.sectors.specs.Memory.{names}
use Rattle.tickets.specs.declared.front.Front.{Front}
use Rattle.tickets.specs.Meant.{well, all_well, place_of, has_tag, apart, in_turn, less}
use Rattle.tickets.specs.Open.{places_of, admission, Due}
use Rattle.tickets.proofs.Keeps.{apart_push, apart_set, apart_less, well_at, well_push, well_set, well_less, in_turn_push, in_turn_serve, in_turn_less, length_less}
use Rattle.tickets.specs.Places.{index_of, first_waiting}
use Rattle.tickets.proofs.Stands.{Oldest, oldest, oldest_within, absent_has, stands_place}
use Rattle.device.proofs.Lookup.{Stands, stands, stands_within}
use Rattle.tickets.specs.Front.{blank, filled, served, byte_room, due_place, entry_as, admitted_as}
use Rattle.sectors.proofs.Runs.{length_bytes}

-- what a well-kept place says
pub record Fits (size : ℕ) (bad : ℕ → Bool) (p : Place) : Type 0 where
  pub fair : fair_count p.kind p.first p.count ≡ true
  pub inside : p.first + p.count ≤ size
  pub mask : p.mask ≡ mask_of bad p.first p.count
  pub whole : length p.bytes ≡ 1024
  pub short : p.count ≤ 8

pub fits_from : (size : ℕ) (bad : ℕ → Bool) (p : Place) → well size bad p ≡ true → Fits size bad p
fits_from size bad p h =
    let a = and_parts (fair_count p.kind p.first p.count) (leb (p.first + p.count) size && (eqb p.mask (mask_of bad p.first p.count) && eqb (length p.bytes) 1024)) h in
    let b = and_parts (leb (p.first + p.count) size) (eqb p.mask (mask_of bad p.first p.count) && eqb (length p.bytes) 1024) a.1 in
    let d = and_parts (eqb p.mask (mask_of bad p.first p.count)) (eqb (length p.bytes) 1024) b.1 in
    record {
      fair = a.0;
      inside = leb-true (p.first + p.count) size b.0;
      mask = eqb-true p.mask (mask_of bad p.first p.count) d.0;
      whole = eqb-true (length p.bytes) 1024 d.1;
      short = fair_short p.kind p.first p.count a.0;
    }

pub well_from : (size : ℕ) (bad : ℕ → Bool) (p : Place) → fair_count p.kind p.first p.count ≡ true → p.first + p.count ≤ size
    → p.mask ≡ mask_of bad p.first p.count → length p.bytes ≡ 1024 → well size bad p ≡ true
well_from size bad p f i m w =
    and_from (fair_count p.kind p.first p.count) (leb (p.first + p.count) size && (eqb p.mask (mask_of bad p.first p.count) && eqb (length p.bytes) 1024)) f
    (and_from (leb (p.first + p.count) size) (eqb p.mask (mask_of bad p.first p.count) && eqb (length p.bytes) 1024) (le-leb (p.first + p.count) size i)
    (and_from (eqb p.mask (mask_of bad p.first p.count)) (eqb (length p.bytes) 1024) (eq-eqb p.mask (mask_of bad p.first p.count) m) (eq-eqb (length p.bytes) 1024 w)))

pub fresh_well : (size : ℕ) (bad : ℕ → Bool) (q : Request) (k : Kind) (mask : ℕ) (d : List ℕ) → form size q (length d) ≡ Ok k
    → mask ≡ mask_of bad q.first q.count → well size bad (fresh q k mask d) ≡ true
fresh_well size bad q k mask d e m =
    let f = form_ok size q (length d) k e in
    let le = due_short k q.count (fair_short k q.first q.count f.0) in
    let short : length d ≤ 1024 = omega (arith, f.2, le) in
    let n = length-append d (drop (length d) (replicate {A = ℕ} 1024 0)) in
    let r = length-drop (length d) (replicate {A = ℕ} 1024 0) in
    let z = length-replicate {A = ℕ} 1024 0 in
    well_from size bad (fresh q k mask d) f.0 f.1 m (omega (arith, n, r, z))

filled_whole : (k : Kind) (sight : Contents) (p : Place) → length p.bytes ≡ 1024 → p.count ≤ 8 → ((s : ℕ) → s < p.first + p.count → length (sight s) ≡ 128) → length (filled k sight p) ≡ 1024
filled_whole Read sight p w s h =
    let b = length_bytes sight p.first p.count h in
    let n = length-append (bytes_of sight p.first p.count) (drop (p.count * 128) p.bytes) in
    let r = length-drop (p.count * 128) p.bytes in
    omega (arith, b, n, r)
filled_whole Write sight p w s h = w
filled_whole Flush sight p w s h = w

pub served_well : (size : ℕ) (bad : ℕ → Bool) (sight : Contents) (p : Place) → Fits size bad p → ((s : ℕ) → s < size → length (sight s) ≡ 128) → well size bad (served sight p) ≡ true
served_well size bad sight p f h =
    let i = f.inside in
    well_from size bad (served sight p) f.fair f.inside f.mask (filled_whole p.kind sight p f.whole f.short (λ s lt. h s (omega arith)))

room_by : (k : Kind) (count : ℕ) → count ≤ 8 → cond (is_read k) (count * 128) 0 ≤ 1024
room_by Read count h = omega arith
room_by Write count h = omega arith
room_by Flush count h = omega arith

pub room_short : (size : ℕ) (bad : ℕ → Bool) (p : Place) → Fits size bad p → byte_room p ≤ 1024
room_short size bad p f = room_by p.kind p.count f.short

-- the three answers at a place that is there
pub due_waits : (o : Option Place) (p : Place) (room : ℕ) → o ≡ Some p → p.ready ≡ false → due_place o room ≡ Err causes.Waits
due_waits o p room e h = ap (λ x. due_place x room) e ∙ cond-false p.ready (cond (ltb room (byte_room p)) (Err causes.ShortBuffer) (Ok p)) (Err causes.Waits) h

pub due_shorts : (o : Option Place) (p : Place) (room : ℕ) → o ≡ Some p → p.ready ≡ true → room < byte_room p → due_place o room ≡ Err causes.ShortBuffer
due_shorts o p room e h lt =
    ap (λ x. due_place x room) e
    ∙ (cond-true p.ready (cond (ltb room (byte_room p)) (Err causes.ShortBuffer) (Ok p)) (Err causes.Waits) h
    ∙ cond-true (ltb room (byte_room p)) (Err causes.ShortBuffer) (Ok p) (lt-ltb room (byte_room p) lt))

pub due_there : (o : Option Place) (p : Place) (room : ℕ) → o ≡ Some p → p.ready ≡ true → byte_room p ≤ room → due_place o room ≡ Ok p
due_there o p room e h le =
    ap (λ x. due_place x room) e
    ∙ (cond-true p.ready (cond (ltb room (byte_room p)) (Err causes.ShortBuffer) (Ok p)) (Err causes.Waits) h
    ∙ cond-false (ltb room (byte_room p)) (Err causes.ShortBuffer) (Ok p) (le-ltb room (byte_room p) le))

-- the place that a look-up lends
pub lent_place : (t i : ℕ) (ps : List Place) (p : Place) → index_of t ps ≡ Some i → p ≡ get_or ps i p → place_of t ps ≡ Some p
lent_place t i ps p e is = stands_place (stands by_tag t i ps e) p ∙ ap Some (sym is)

pub at_oldest : (i : ℕ) (ps : List Place) (r : Option ℕ) → r ≡ first_waiting ps → r ≡ Some i → Oldest ps i
at_oldest i ps r e h = oldest i ps (sym e ∙ h)

never : (A : Type 0) {B : Type 0} (c : Cause) (x : B) → ◌≡◌ {A = Result B Cause} (Err c) (Ok x) → A
never A c x e = let z : ◌≡◌ {A = ℕ} 0 1 = cc in absurd (omega arith)

full_parts : (b : Bool) (k k' : Kind) → ◌≡◌ {A = Result Kind Cause} (cond b (Err causes.Full) (Ok k)) (Ok k') → (k ≡ k') × (b ≡ false)
full_parts true k k' e = never _ causes.Full k' e
full_parts false k k' e = ((cc), refl)

entry_parts : (most : ℕ) (o : Option ℕ) (n : ℕ) (k k' : Kind) → entry_as most o n k ≡ Ok k' → (k ≡ k') × (o ≡ None) × (eqb n most ≡ false)
entry_parts most (Some i) n k k' e = never _ causes.TagOpen k' e
entry_parts most None n k k' e = let f = full_parts (eqb n most) k k' e in (f.0, refl, f.1)

-- what an admitted request is: well-formed, under a tag that is not open, and with a place to spare
pub admitted_parts : (most : ℕ) (r : Result Kind Cause) (ps : List Place) (t : ℕ) (k : Kind) → admitted_as most r ps t ≡ Ok k
    → (r ≡ Ok k) × (index_of t ps ≡ None) × (eqb (length ps) most ≡ false)
admitted_parts most (Err c) ps t k e = never _ c k e
admitted_parts most (Ok j) ps t k e = let f = entry_parts most (index_of t ps) (length ps) j k e in (ap Ok f.0, f.1, f.2)

room_by_test : (r l : Bool) (p q : Place) (room : ℕ) → ltb room (byte_room p) ≡ l → ◌≡◌ {A = Result Place Cause} (cond r (cond l (Err causes.ShortBuffer) (Ok p)) (Err causes.Waits)) (Ok q) → byte_room q ≤ room
room_by_test true true p q room h e = never _ causes.ShortBuffer q e
room_by_test true false p q room h e = let f : p ≡ q = cc in (let g = ltb-false room (byte_room p) h in let b : byte_room p ≡ byte_room q = ap byte_room f in omega (arith, g, b))
room_by_test false l p q room h e = never _ causes.Waits q e

-- a ticket that is answered has room for its bytes
pub due_room : (o : Option Place) (room : ℕ) (q : Place) → due_place o room ≡ Ok q → byte_room q ≤ room
due_room None room q e = never _ causes.NotOpen q e
due_room (Some p) room q e = room_by_test p.ready (ltb room (byte_room p)) p q room refl e

-- what a front's places keep to after a call
pub record KeptPlaces (size most : ℕ) (bad : ℕ → Bool) (ps : List Place) : Type 0 where
  pub within : length ps ≤ most
  pub apart : apart ps ≡ true
  pub well : all_well size bad ps ≡ true
  pub turns : in_turn ps ≡ true

-- so a front that is left with such places keeps to all that a front does
pub front_keeps : (f : Front) (v : Vec Place Global) {ps : List Place} → KeptPlaces f.size f.capacity (names f.named) ps → vec_items v ≡ ps → f.capacity ≤ vec_capacity v →
    record {
      small : f.size ≤ most_sectors;
      most : f.capacity ≤ most_tickets;
      room : f.capacity ≤ vec_capacity v;
      within : length (vec_items v) ≤ f.capacity;
      apart : apart (vec_items v) ≡ true;
      well : all_well f.size (names f.named) (vec_items v) ≡ true;
      turns : in_turn (vec_items v) ≡ true;
    }
front_keeps f v kept items room = record {
  small = f.small;
  most = f.most;
  room = room;
  within = omega (arith, ap length items, kept.within);
  apart = ap apart items ∙ kept.apart;
  well = ap (all_well f.size (names f.named)) items ∙ kept.well;
  turns = ap in_turn items ∙ kept.turns;
}

pub serve_keeps : (f : Front) (sight : Contents) (i : ℕ) (p q : Place) → ((s : ℕ) → s < f.size → length (sight s) ≡ 128)
    → Oldest (places_of f) i → p ≡ get_or (places_of f) i p → q ≡ served sight p → KeptPlaces f.size f.capacity (names f.named) (set (places_of f) i q)
serve_keeps f sight i p q h old is made =
    let ps = places_of f in
    let bad = names f.named in
    let fit = fits_from f.size bad p (ap (well f.size bad) is ∙ well_at f.size bad ps i p f.well (oldest_within old)) in
    record {
      within = (let n = length-set ps i q in let w = f.within in omega (arith, n, w));
      apart = apart_set ps i q p (sym (ap (λ x. x.tag) is) ∙ sym (ap (λ x. x.tag) made)) ∙ f.apart;
      well = well_set f.size bad ps i q f.well (ap (well f.size bad) made ∙ served_well f.size bad sight p fit h);
      turns = in_turn_serve old q f.turns (ap (λ x. x.ready) made);
    }

-- an admitted request leaves room for its place
pub room_left : (f : Front) (q : Request) (n : ℕ) (k : Kind) → admission f q n ≡ Ok k → length (places_of f) < f.capacity
room_left f q n k e =
    let a = admitted_parts f.capacity (form f.size q n) (places_of f) q.tag k e in
    omega (arith, eqb-false (length (places_of f)) f.capacity a.2, f.within)

-- an admitted request's place has its whole mask and its whole data
pub admitted_place : (f : Front) (q : Request) (d : List ℕ) (k : Kind) (mask : ℕ) → admission f q (length d) ≡ Ok k → mask ≡ mask_of (names f.named) q.first (min q.count 8)
    → fresh q k mask (take 1024 d) ≡ fresh q k (mask_of (names f.named) q.first q.count) d
admitted_place f q d k mask e m =
    let made = form_ok f.size q (length d) k (admitted_parts f.capacity (form f.size q (length d)) (places_of f) q.tag k e).0 in
    let few = fair_short k q.first q.count made.0 in
    let short : length d ≤ 1024 = omega (arith, made.2, due_short k q.count few) in
    ap (λ x. fresh q k x (take 1024 d)) (m ∙ ap (mask_of (names f.named) q.first) (min-eq_left few))
    ∙ ap (fresh q k (mask_of (names f.named) q.first q.count)) (take_all 1024 d short)

-- a place of an admitted request
pub record Admitted (f : Front) (q : Request) (d : List ℕ) (p : Place) : Type 0 where
  pub kind : Kind
  pub ok : admission f q (length d) ≡ Ok kind
  pub made : p ≡ fresh q kind (mask_of (names f.named) q.first q.count) d

pub add_keeps : (f : Front) (q : Request) (d : List ℕ) (p : Place) → Admitted f q d p → KeptPlaces f.size f.capacity (names f.named) (places_of f ++ p ∷ [])
add_keeps f q d p new =
    let ps = places_of f in
    let bad = names f.named in
    let k = new.kind in
    let made = new.made in
    let a = admitted_parts f.capacity (form f.size q (length d)) ps q.tag k new.ok in
    record {
      within = omega (arith, length-append ps (p ∷ []), room_left f q (length d) k new.ok);
      apart = apart_push ps p f.apart (ap (λ x. has_tag x.tag ps) made ∙ absent_has q.tag ps a.1);
      well = well_push f.size bad ps p f.well (ap (well f.size bad) made ∙ fresh_well f.size bad q k _ d a.0 refl);
      turns = in_turn_push ps p f.turns (ap (λ x. x.ready) made);
    }

pub less_keeps : (f : Front) (t i : ℕ) → Stands by_tag t (places_of f) i → KeptPlaces f.size f.capacity (names f.named) (less t (places_of f))
less_keeps f t i at =
    let ps = places_of f in
    record {
      within = omega (arith, length_less at, f.within);
      apart = apart_less t ps f.apart;
      well = well_less f.size (names f.named) t ps f.well;
      turns = in_turn_less t ps f.turns;
    }

-- the answer of a place fits the room that it is handed over to
pub answer_fits : (f : Front) (t i room : ℕ) (p : Place) → Due f t room (Ok i) → p ≡ get_or (places_of f) i p → byte_room p ≤ room
answer_fits f t i room p due is =
    let ps = places_of f in
    let same = ap byte_room (is ∙ get_or_default ps i p blank (stands_within by_tag (stands by_tag t i ps due.0))) in
    omega (arith, same, due_room (place_of t ps) room (get_or ps i blank) due.1)
