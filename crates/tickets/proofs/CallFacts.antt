-- What each call of a device answers and leaves that serves its tickets in the order of acceptance. Assumes nothing.
use Rattle.std.proofs.Common.{◌≡◌, ℕ, ◌+◌, ◌-◌, ◌*◌, ◌<◌, ◌≤◌, Bool, true, false, cond, not, ◌&&◌, eqb, ltb, leb, ◌⊎◌, List, [], ◌∷◌, ◌++◌, length, get_or, take, drop, set, replicate, Some, None, Ok, Err, Option, Result, sym, refl, ap, ◌∙◌, inl, inr, ⊎_elim, arith}
use Rattle.std.proofs.lemmas.List.{take_at, length-take-le}
use Rattle.std.proofs.lemmas.Bool.{cases_Bool, cond_both, cond-true, cond-false, and_parts, ltb-true, leb-true, ltb-false}
use Rattle.device.specs.declared.interface.Kind.{Kind}
use Rattle.device.specs.declared.interface.Kind.TheVariants.{Read, Write, Flush}
use Rattle.device.specs.declared.interface.Cause.{Cause}
use Rattle.device.specs.declared.interface.Cause.TheVariants as causes
use Rattle.device.specs.declared.interface.Request.{Request}
use Rattle.device.specs.Meaning.{with_disk, Meaning, Contents, Ticket, part, zeros, mask_of, bytes_of, covers, written, is_read, is_write, is_flush}
use Rattle.device.specs.Submit as calls
use Rattle.device.specs.Submit.{form, tag_is_open, ticket_of, disk_after, submitted_as, submitted, submit_answer_as, submit_answer}
use Rattle.device.specs.Collect.{found, due_as, due, collect_answer_as, collect_answer, collected_as, collected, buffer_as, buffer_after}
use Rattle.device.specs.Questions.{state_as, state_of, byte_count_as, byte_count}
use Rattle.device.specs.Turns.{Turned, SameShape, made_ready}
use Rattle.device.specs.Sound.{Sound, WellFormed, Each}
use Rattle.device.proofs.Forms.{form_ok}
use Rattle.tickets.specs.declared.place.Place.{Place}
use Rattle.tickets.specs.Places.{by_tag}
use Rattle.tickets.specs.Fresh.{fresh}
use Rattle.tickets.specs.Places.{index_of, first_waiting}
use Rattle.tickets.specs.Meant.{held, after, owed_as, owed, ticket, tickets_over, disk_over, place_of, apart, well, all_well, in_turn, less}
use Rattle.tickets.proofs.Stands.{Oldest, oldest, stands_place, stands_has, absent_has, absent_place}
use Rattle.device.proofs.Lookup.{Stands, stands, stands_within}
use Rattle.tickets.proofs.Keeps.{well_at, in_turn_serve}
use Rattle.tickets.proofs.MeantFacts as over
use Rattle.sectors.specs.Memory.{listed, names}
use Rattle.sectors.specs.Shown.{bad_of}
use Rattle.sectors.proofs.Runs.{length_part, length_bytes}
use Rattle.sectors.proofs.Parts.{bytes_same, mask_same, names_bad}
use Rattle.tickets.specs.Front.{blank, filled, served, entry_as, admitted_as, admitted_to, answer_as, put_in, byte_room, due_place, mask_as, handed_as, rest_as, state_place, count_place}
use Rattle.tickets.specs.Device.{meant_over}
use Rattle.tickets.proofs.FrontFacts.{Fits, fits_from, room_short, due_waits, due_shorts, due_there, admitted_parts}

-- contents of whole sectors
abbrev pub Whole : Contents → Type 0
Whole base = (s : ℕ) → length (base s) ≡ 128

module _ (size : ℕ) (bad' : ℕ → Bool) where
  pub length_held : (p : Place) → Fits size bad' p → length (held p) ≡ p.count * 128
  length_held p f = let w = f.whole in let c = f.short in length-take-le (p.count * 128) p.bytes (omega arith)

  module _ (bad : ℕ → Bool) where
    written_whole : (p : Place) (base : Contents) → Fits size bad' p → Whole base → Whole (written bad p.first p.count (held p) base)
    written_whole p base f w s =
        ⊎_elim
        (λ h.
        let a = (and_parts (covers p.first p.count s) (not (bad s)) h).0 in
        let b = and_parts (leb p.first s) (ltb s (p.first + p.count)) a in
        let lo = leb-true p.first s b.0 in
        let hi = ltb-true s (p.first + p.count) b.1 in
        let n = length_held p f in
        ap length (cond-true (covers p.first p.count s && not (bad s)) (part (held p) (s - p.first)) (base s) h)
        ∙ length_part (held p) (s - p.first) (omega arith))
        (λ h. ap length (cond-false (covers p.first p.count s && not (bad s)) (part (held p) (s - p.first)) (base s) h) ∙ w s)
        (cases_Bool (covers p.first p.count s && not (bad s)))

    pub after_whole : (p : Place) (base : Contents) → Fits size bad' p → Whole base → Whole (after bad p base)
    after_whole p base f w =
        cond_both (not p.ready && is_write p.kind) (written bad p.first p.count (held p) base) base Whole (λ _. written_whole p base f w) (λ _. w)

    all_parts : (p : Place) (ps : List Place) → all_well size bad' (p ∷ ps) ≡ true → Fits size bad' p × (all_well size bad' ps ≡ true)
    all_parts p ps h = let a = and_parts (well size bad' p) (all_well size bad' ps) h in (fits_from size bad' p a.0, a.1)

    pub disk_whole : (ps : List Place) (base : Contents) → all_well size bad' ps ≡ true → Whole base → Whole (disk_over bad ps base)
    disk_whole [] base h w = w
    disk_whole (p ∷ ps) base h w = let a = all_parts p ps h in disk_whole ps (after bad p base) a.1 (after_whole p base a.0 w)

    -- the ticket of a tag, over whole contents
    pub found_whole : {t j : ℕ} {ps : List Place} → Stands by_tag t ps j → (d : Place) (base : Contents) → all_well size bad' ps ≡ true → Whole base
        → (b : Contents) × Whole b × (found t (tickets_over bad ps base) ≡ Some (ticket b (get_or ps j d)))
    found_whole {t} (Stands.here {p} {ps} h) d base a w = (base, w, cond-true (eqb t p.tag) (Some (ticket base p)) (found t (tickets_over bad ps (after bad p base))) h)
    found_whole {t} (Stands.there {p} {ps} h s) d base a w =
        let q = all_parts p ps a in
        let r = found_whole s d (after bad p base) q.1 (after_whole p base q.0 w) in
        (r.0, r.1, cond-false (eqb t p.tag) (Some (ticket base p)) (found t (tickets_over bad ps (after bad p base))) h ∙ r.2)

    -- a bad sector shows what lies below
    bad_cond : (b c : Bool) (x y : List ℕ) → cond b (cond (c && false) x y) y ≡ y
    bad_cond true true x y = refl
    bad_cond true false x y = refl
    bad_cond false c x y = refl

    bad_after : (p : Place) (base : Contents) (s : ℕ) → bad s ≡ true → after bad p base s ≡ base s
    bad_after p base s h =
        over.cond_at (not p.ready && is_write p.kind) (written bad p.first p.count (held p) base) base s
        ∙ (ap (λ b. cond (not p.ready && is_write p.kind) (cond (covers p.first p.count s && not b) (part (held p) (s - p.first)) (base s)) (base s)) h
        ∙ bad_cond (not p.ready && is_write p.kind) (covers p.first p.count s) (part (held p) (s - p.first)) (base s))

    pub bad_at : (ps : List Place) (base : Contents) (s : ℕ) → bad s ≡ true → disk_over bad ps base s ≡ base s
    bad_at [] base s h = refl
    bad_at (p ∷ ps) base s h = bad_at ps (after bad p base) s h ∙ bad_after p base s h

    owed_by : (k : Kind) (r : Bool) (n : ℕ) (x y : List ℕ) → length x ≡ n → length y ≡ n → length (owed_as k r x y) ≡ cond (is_read k) n 0
    owed_by Read true n x y a b = a
    owed_by Read false n x y a b = b
    owed_by Write r n x y a b = refl
    owed_by Flush r n x y a b = refl

    pub length_owed : (p : Place) (base : Contents) → Fits size bad' p → Whole base → length (owed base p) ≡ byte_room p
    length_owed p base f w =
        owed_by p.kind p.ready (p.count * 128) (held p) (bytes_of base p.first p.count)
        (length_held p f) (length_bytes base p.first p.count (λ s lt. w s))

    owed_form : (k : Kind) (n : ℕ) (bytes y : List ℕ) → owed_as k true (take n bytes) y ≡ take (cond (is_read k) n 0) bytes
    owed_form Read n bytes y = refl
    owed_form Write n bytes y = refl
    owed_form Flush n bytes y = refl

    pub owed_ready : (p : Place) (base : Contents) → p.ready ≡ true → owed base p ≡ take (byte_room p) p.bytes
    owed_ready p base h =
        ap (λ r. owed_as p.kind r (held p) (bytes_of base p.first p.count)) h ∙ owed_form p.kind (p.count * 128) p.bytes (bytes_of base p.first p.count)

    read_of : (k : Kind) (r : Bool) (n : ℕ) (x y : List ℕ) → length x ≡ n → length y ≡ n → is_read k ≡ true → length (owed_as k r x y) ≡ n
    read_of k r n x y a b h = owed_by k r n x y a b ∙ cond-true (is_read k) n 0 h

    other_of : (k : Kind) (r : Bool) (n : ℕ) (x y : List ℕ) → length x ≡ n → length y ≡ n → is_read k ≡ false → length (owed_as k r x y) ≡ 0
    other_of k r n x y a b h = owed_by k r n x y a b ∙ cond-false (is_read k) n 0 h

    pub each_over : ((first count : ℕ) → first + count ≤ size → mask_of bad' first count ≡ mask_of bad first count) → (ps : List Place) (base : Contents)
        → all_well size bad' ps ≡ true → Whole base → Each (WellFormed size bad) (tickets_over bad ps base)
    each_over m [] base h w = tt
    each_over m (p ∷ ps) base h w =
        let a = all_parts p ps h in
        let f = a.0 in
        let hl = length_held p f in
        let bl = length_bytes base p.first p.count (λ s lt. w s) in (
          record {
            count = f.fair;
            inside = f.inside;
            mask = f.mask ∙ m p.first p.count f.inside;
            read = read_of p.kind p.ready (p.count * 128) (held p) (bytes_of base p.first p.count) hl bl;
            other = other_of p.kind p.ready (p.count * 128) (held p) (bytes_of base p.first p.count) hl bl;
          },
          each_over m ps (after bad p base) a.1 (after_whole p base f w),
        )

pub mask_bad : (size : ℕ) (named : List ℕ) (first count : ℕ) → first + count ≤ size → mask_of (names named) first count ≡ mask_of (bad_of size named) first count
mask_bad size named first count le = mask_same (names named) (bad_of size named) first count (λ s lt. names_bad size named s (omega arith))

-- what such a device keeps to
pub record Kept (size most : ℕ) (named : List ℕ) (ps : List Place) (base medium : Contents) : Type 0 where
  pub small : size ≤ 65536
  pub limit : most ≤ 32
  pub within : length ps ≤ most
  pub apart : apart ps ≡ true
  pub well : all_well size (names named) ps ≡ true
  pub turns : in_turn ps ≡ true
  pub whole : Whole base
  pub whole_medium : Whole medium
  pub bad : (s : ℕ) → bad_of size named s ≡ true → base s ≡ zeros
  pub bad_medium : (s : ℕ) → bad_of size named s ≡ true → medium s ≡ zeros

pub sound_of : (size most : ℕ) (named : List ℕ) (ps : List Place) (base medium : Contents) → Kept size most named ps base medium → Sound (meant_over size most named ps base medium)
sound_of size most named ps base medium k =
    let bad = bad_of size named in
    record {
      size = k.small;
      capacity = k.limit;
      height = omega arith;
      room = (let n = over.length_over bad ps base in let w = k.within in omega (arith, n, w));
      tags = over.distinct_over bad ps base ∙ k.apart;
      tickets = each_over size (names named) bad (mask_bad size named) ps base k.well k.whole;
      flush_order = over.order_over bad ps base k.turns;
      bad_inside = λ s h. ltb-true s size (and_parts (ltb s size) (listed s named) h).0;
      bad_disk = λ s h. bad_at size (names named) bad ps base s h ∙ k.bad s h;
      bad_medium = k.bad_medium;
      disk = λ s lt. disk_whole size (names named) bad ps base k.well k.whole s;
      medium = λ s lt. k.whole_medium s;
    }

pub moved : {size size' most most' : ℕ} {named named' : List ℕ} {ps ps' : List Place} {base base' medium medium' : Contents}
    → size' ≡ size → most' ≡ most → named' ≡ named → ps' ≡ ps → base' ≡ base → medium' ≡ medium
    → meant_over size' most' named' ps' base' medium' ≡ meant_over size most named ps base medium
moved {size} {size'} {most} {most'} {named} {named'} {ps} {ps'} {base} {base'} {medium} {medium'} a m b c d e =
    ap (λ x. meant_over x most' named' ps' base' medium') a ∙ (ap (λ x. meant_over size x named' ps' base' medium') m ∙ (ap (λ x. meant_over size most x ps' base' medium') b
    ∙ (ap (λ x. meant_over size most named x base' medium') c ∙ (ap (λ x. meant_over size most named ps x medium') d ∙ ap (meant_over size most named ps base) e))))

-- the count of a read's bytes is small
count_by : (size : ℕ) (bad' : ℕ → Bool) (ps : List Place) (t : ℕ) → all_well size bad' ps ≡ true → (o : Option ℕ) → index_of t ps ≡ o → count_place (place_of t ps) ≤ 1024
count_by size bad' ps t w None e = let z = ap count_place (absent_place t ps e) in omega (arith, z)
count_by size bad' ps t w (Some j) e =
    let s = stands by_tag t j ps e in
    let z = ap count_place (stands_place s blank) in
    let r = room_short size bad' (get_or ps j blank) (fits_from size bad' (get_or ps j blank) (well_at size bad' ps j blank w (stands_within by_tag s))) in
    omega (arith, z, r)

pub count_fits : (size : ℕ) (bad' : ℕ → Bool) (ps : List Place) (t : ℕ) → all_well size bad' ps ≡ true → count_place (place_of t ps) ≤ 1024
count_fits size bad' ps t w = count_by size bad' ps t w (index_of t ps) refl

pub oldest_ready : {i : ℕ} {xs : List Place} → Oldest xs i → (d : Place) → (get_or xs i d).ready ≡ false
oldest_ready (Oldest.first h) d = h
oldest_ready (Oldest.later h s) d = oldest_ready s d

-- submit

entry_same : (most : ℕ) (bad : ℕ → Bool) (ps : List Place) (base : Contents) (t : ℕ) (k : Kind) (o : Option ℕ) → index_of t ps ≡ o
    → ◌≡◌ {A = Result Kind Cause} (cond (tag_is_open t (tickets_over bad ps base)) (Err causes.TagOpen) (cond (eqb (length (tickets_over bad ps base)) most) (Err causes.Full) (Ok k))) (entry_as most o (length ps) k)
entry_same most bad ps base t k (Some i) e =
    cond-true (tag_is_open t (tickets_over bad ps base)) (Err causes.TagOpen) (cond (eqb (length (tickets_over bad ps base)) most) (Err causes.Full) (Ok k))
    (over.open_over bad t ps base ∙ stands_has (stands by_tag t i ps e))
entry_same most bad ps base t k None e =
    cond-false (tag_is_open t (tickets_over bad ps base)) (Err causes.TagOpen) (cond (eqb (length (tickets_over bad ps base)) most) (Err causes.Full) (Ok k))
    (over.open_over bad t ps base ∙ absent_has t ps e)
    ∙ ap (λ n. cond (eqb n most) (Err causes.Full) (Ok k)) (over.length_over bad ps base)

admitted_same : (size most : ℕ) (named : List ℕ) (ps : List Place) (base medium : Contents) (r : Result Kind Cause) (t : ℕ) → calls.admitted_as r (meant_over size most named ps base medium) t ≡ admitted_as most r ps t
admitted_same size most named ps base medium (Err c) t = refl
admitted_same size most named ps base medium (Ok k) t = entry_same most (bad_of size named) ps base t k (index_of t ps) refl

module _ (size most : ℕ) (named : List ℕ) (ps : List Place) (base medium : Contents) where
  abbrev bad : ℕ → Bool
  bad = bad_of size named

  abbrev device : Meaning
  device = meant_over size most named ps base medium

  abbrev with : Contents → List Ticket → Meaning
  with disk tickets = with_disk device disk tickets

  fresh_disk : (k : Kind) (q : Request) (mask : ℕ) (d : List ℕ) → (is_write k ≡ true → held (fresh q k mask d) ≡ d)
      → after bad (fresh q k mask d) (disk_over bad ps base) ≡ disk_after k device q d
  fresh_disk Read q mask d h = refl
  fresh_disk Write q mask d h = ap (λ x. written bad q.first q.count x (disk_over bad ps base)) (h refl)
  fresh_disk Flush q mask d h = refl

  fresh_bytes : (k : Kind) (disk : Contents) (first count : ℕ) (x : List ℕ) → owed_as k false x (bytes_of disk first count) ≡ calls.due_bytes k disk first count
  fresh_bytes Read disk first count x = refl
  fresh_bytes Write disk first count x = refl
  fresh_bytes Flush disk first count x = refl

  abbrev ticket_with : Request → Kind → ℕ → List ℕ → Ticket
  ticket_with q k mask bytes = record { tag = q.tag; kind = k; first = q.first; count = q.count; mask = mask; bytes = bytes; ready = false }

  accepted_same : (q : Request) (k : Kind) (d : List ℕ) → form size q (length d) ≡ Ok k
      → meant_over size most named (ps ++ fresh q k (mask_of (names named) q.first q.count) d ∷ []) base medium ≡ calls.accepted device q k d
  accepted_same q k d e =
      let f = form_ok size q (length d) k e in
      let mask = mask_of (names named) q.first q.count in
      let new = fresh q k mask d in
      let disk = disk_over bad ps base in
      let keeps : is_write k ≡ true → held new ≡ d = λ h. take_at d (drop (length d) (replicate 1024 0)) (q.count * 128) (f.2 ∙ cond-true (is_write k) (q.count * 128) 0 h) in
      let tick : ticket disk new ≡ ticket_of device q k =
      ap (λ m. ticket_with q k m (owed disk new)) (mask_bad size named q.first q.count f.1)
      ∙ ap (ticket_with q k (mask_of bad q.first q.count)) (fresh_bytes k disk q.first q.count (held new)) in
      ap (λ x. with x (tickets_over bad (ps ++ new ∷ []) base)) (over.disk_push bad ps new base ∙ fresh_disk k q mask d keeps)
      ∙ ap (with (disk_after k device q d)) (over.tickets_push bad ps new base ∙ ap (λ x. tickets_over bad ps base ++ x ∷ []) tick)

  leaves_by : (q : Request) (d : List ℕ) (a : Result Kind Cause) → ((k : Kind) → a ≡ Ok k → form size q (length d) ≡ Ok k)
      → meant_over size most named (put_in a ps named q d) base medium ≡ submitted_as a device q d
  leaves_by q d (Err c) h = refl
  leaves_by q d (Ok k) h = accepted_same q k d (h k refl)

  pub submit_leaves : (q : Request) (d : List ℕ) → meant_over size most named (put_in (admitted_to size most ps q (length d)) ps named q d) base medium ≡ submitted device q d
  submit_leaves q d =
      leaves_by q d (admitted_to size most ps q (length d)) (λ k e. (admitted_parts most (form size q (length d)) ps q.tag k e).0)
      ∙ ap (λ a. submitted_as a device q d) (sym (admitted_same size most named ps base medium (form size q (length d)) q.tag))

  answers_by : (a : Result Kind Cause) → answer_as a ≡ submit_answer_as a device
  answers_by (Ok k) = refl
  answers_by (Err c) = refl

  pub submit_answers : (q : Request) (n : ℕ) → answer_as (admitted_to size most ps q n) ≡ submit_answer device q n
  submit_answers q n = answers_by (admitted_to size most ps q n) ∙ ap (λ a. submit_answer_as a device) (sym (admitted_same size most named ps base medium (form size q n) q.tag))

  -- turn

  same_shape : (xs : List Place) (b m : Contents) → SameShape device (meant_over size most named xs b m)
  same_shape xs b m = record { size = refl; capacity = refl; height = refl; bad = refl; home = refl }

  -- a turn that finds none waiting
  pub turn_idle : Kept size most named ps base medium → first_waiting ps ≡ None → Turned device device 0
  turn_idle k e =
      let z = over.none_wait bad 0 ps base e in
      record {
        shape = same_shape ps base medium;
        disk = refl;
        idle = λ h. (refl, refl);
        progress = λ lt. absurd (omega (arith, z));
        readied = over.readied_none bad (tickets_over bad ps base);
        flush_order = over.order_over bad ps base k.turns;
        settled = λ s h w. h;
        flushed = over.flushed_none bad (disk_over bad ps base) medium (tickets_over bad ps base);
        bounded = omega arith;
      }

  -- a served ticket is due what it was due, where a read sees what it finds
  module _ (sight : Contents) (whole : (s : ℕ) → s < size → length (sight s) ≡ 128) (same : (s : ℕ) → s < size → sight s ≡ base s) where
    served_bytes : (k : Kind) (p : Place) (x : List ℕ) → Fits size (names named) p
        → owed_as k true (take (p.count * 128) (filled k sight p)) x ≡ owed_as k false (held p) (bytes_of base p.first p.count)
    served_bytes Read p x f =
        let i = f.inside in
        take_at (bytes_of sight p.first p.count) (drop (p.count * 128) p.bytes) (p.count * 128)
        (length_bytes sight p.first p.count (λ s lt. whole s (omega arith)))
        ∙ bytes_same sight base p.first p.count (λ s lt. same s (omega arith))
    served_bytes Write p x f = refl
    served_bytes Flush p x f = refl

    pub served_ticket : (p : Place) (base' : Contents) → p.ready ≡ false → Fits size (names named) p → ticket base' (served sight p) ≡ made_ready (ticket base p)
    served_ticket p base' r f =
        ap (λ (x : List ℕ). made_ready (record { tag = p.tag; kind = p.kind; first = p.first; count = p.count; mask = p.mask; bytes = x; ready = false }))
        (served_bytes p.kind p (bytes_of base' p.first p.count) f
        ∙ ap (λ b. owed_as p.kind b (held p) (bytes_of base p.first p.count)) (sym r))

  -- what the service of the oldest waiting place does to the contents
  pub record Serves (p q : Place) (base' medium' : Contents) : Type 0 where
    pub readies : q.ready ≡ true
    pub moves : base' ≡ after bad p base
    pub answers : ticket base' q ≡ made_ready (ticket base p)
    pub lays : (s : ℕ) → medium s ≡ base s → (is_write p.kind && covers p.first p.count s) ≡ false → medium' s ≡ base' s
    pub flushes : is_flush p.kind ≡ true → (s : ℕ) → medium' s ≡ base' s

  pub turn_serves : Kept size most named ps base medium → (i ticks : ℕ) → first_waiting ps ≡ Some i → (q : Place) (base' medium' : Contents)
      → Serves (get_or ps i blank) q base' medium' → ticks ≤ 60000
      → Turned device (meant_over size most named (set ps i q) base' medium') ticks
  turn_serves k i ticks e q base' medium' v b =
      let old = oldest i ps e in
      let p = get_or ps i blank in
      let moves = v.moves in
      let disk : disk_over bad (set ps i q) base' ≡ disk_over bad ps base = ap (disk_over bad (set ps i q)) moves ∙ over.disk_serve bad old q blank base v.readies in
      record {
        shape = same_shape (set ps i q) base' medium';
        disk = disk;
        idle = λ h. absurd (over.oldest_waits bad old base h);
        progress = λ lt. over.waiting_serve bad old q base base' v.readies;
        readied = over.tickets_serve bad old q blank base base' v.readies moves v.answers;
        flush_order = over.order_over bad (set ps i q) base' (in_turn_serve old q k.turns v.readies);
        settled = λ s h w.
            v.lays s (h ∙ over.disk_at bad ps base s w) (over.oldest_apart bad old blank base s w)
            ∙ (ap (λ (g : Contents). g s) moves ∙ (over.oldest_at bad old blank base s w ∙ (sym (over.disk_at bad ps base s w) ∙ sym (ap (λ (g : Contents). g s) disk))));
        flushed = over.flushed_serve bad old q blank base base' medium' v.readies moves v.flushes;
        bounded = b;
      }

  -- collect and the questions by tag

  module _ (k : Kept size most named ps base medium) (t : ℕ) where
    -- the place and the ticket of the tag
    abbrev Meets : Type 0
    Meets = ((place_of t ps ≡ None) × (found t (tickets_over bad ps base) ≡ None))
        ⊎ ((j : ℕ) × (b : Contents) × Stands by_tag t ps j × Whole b × (place_of t ps ≡ Some (get_or ps j blank)) × (found t (tickets_over bad ps base) ≡ Some (ticket b (get_or ps j blank))) × Fits size (names named) (get_or ps j blank))

    meets_by : (o : Option ℕ) → index_of t ps ≡ o → Meets
    meets_by None e = inl (absent_place t ps e, over.found_none bad t ps base (absent_has t ps e))
    meets_by (Some j) e =
        let s = stands by_tag t j ps e in
        let r = found_whole size (names named) bad s blank base k.well k.whole in
        inr (j, r.0, s, r.1, stands_place s blank, r.2, fits_from size (names named) (get_or ps j blank) (well_at size (names named) ps j blank k.well (stands_within by_tag s)))

    meets : Meets
    meets = meets_by (index_of t ps) refl

    pub state_same : state_place (place_of t ps) ≡ state_of t (tickets_over bad ps base)
    state_same =
        ⊎_elim
        (λ m. ap state_place m.0 ∙ sym (ap state_as m.1))
        (λ m. ap state_place m.4 ∙ sym (ap state_as m.5))
        meets

    pub count_same : count_place (place_of t ps) ≡ byte_count t (tickets_over bad ps base)
    count_same =
        ⊎_elim
        (λ m. ap count_place m.0 ∙ sym (ap byte_count_as m.1))
        (λ m. ap count_place m.4 ∙ sym (ap byte_count_as m.5 ∙ length_owed size (names named) bad (get_or ps m.0 blank) m.1 m.6 m.3))
        meets

    module _ (buffer : List ℕ) where
      abbrev got : Result Place Cause
      got = due_place (place_of t ps) (length buffer)

      abbrev asked : Result Ticket Cause
      asked = due device t (length buffer)

      pub record Collects : Type 0 where
        pub answers : mask_as got ≡ collect_answer device t (length buffer)
        pub hands : handed_as got buffer ≡ buffer_after device t buffer
        pub leaves : meant_over size most named (rest_as got t ps) base medium ≡ collected device t (length buffer)

      refusing : (c : Cause) → got ≡ Err c → asked ≡ Err c → Collects
      refusing c g a = record {
        answers = ap mask_as g ∙ sym (ap (λ z. collect_answer_as z device) a);
        hands = ap (λ z. handed_as z buffer) g ∙ sym (ap (λ z. buffer_as z buffer) a);
        leaves = ap (λ z. meant_over size most named (rest_as z t ps) base medium) g ∙ sym (ap (λ z. collected_as z device t) a);
      }

      giving : (j : ℕ) (b : Contents) → Stands by_tag t ps j → Whole b → Fits size (names named) (get_or ps j blank) → (get_or ps j blank).ready ≡ true
          → got ≡ Ok (get_or ps j blank) → asked ≡ Ok (ticket b (get_or ps j blank)) → Collects
      giving j b s w f r g a =
          let p = get_or ps j blank in
          let o : owed b p ≡ take (byte_room p) p.bytes = owed_ready size (names named) bad p b r in
          let n : length (owed b p) ≡ byte_room p = length_owed size (names named) bad p b f w in
          record {
            answers = ap mask_as g ∙ sym (ap (λ z. collect_answer_as z device) a);
            hands = ap (λ z. handed_as z buffer) g
                ∙ (ap (λ z. z ++ drop (byte_room p) buffer) (sym o) ∙ (ap (λ z. owed b p ++ drop z buffer) (sym n) ∙ sym (ap (λ z. buffer_as z buffer) a)));
            leaves = ap (λ z. meant_over size most named (rest_as z t ps) base medium) g
                ∙ (ap (λ x. with x (tickets_over bad (less t ps) base)) (sym (over.disk_less bad s blank base r))
                ∙ (ap (with (disk_over bad ps base)) (sym (over.tickets_less bad s blank base r))
                ∙ sym (ap (λ z. collected_as z device t) a)));
          }

      there_by : (j : ℕ) (b : Contents) → Stands by_tag t ps j → Whole b → Fits size (names named) (get_or ps j blank)
          → place_of t ps ≡ Some (get_or ps j blank) → found t (tickets_over bad ps base) ≡ Some (ticket b (get_or ps j blank))
          → (r : Bool) → (get_or ps j blank).ready ≡ r → (l : Bool) → ltb (length buffer) (byte_room (get_or ps j blank)) ≡ l → Collects
      there_by j b s w f pl fo false r l lt =
          let p = get_or ps j blank in
          refusing causes.Waits (due_waits (place_of t ps) p (length buffer) pl r)
          (ap (λ x. due_as x (length buffer)) fo ∙ cond-false p.ready (cond (ltb (length buffer) (length (owed b p))) (Err causes.ShortBuffer) (Ok (ticket b p))) (Err causes.Waits) r)
      there_by j b s w f pl fo true r true lt =
          let p = get_or ps j blank in
          let n = length_owed size (names named) bad p b f w in
          refusing causes.ShortBuffer (due_shorts (place_of t ps) p (length buffer) pl r (ltb-true (length buffer) (byte_room p) lt))
          (ap (λ x. due_as x (length buffer)) fo
          ∙ (cond-true p.ready (cond (ltb (length buffer) (length (owed b p))) (Err causes.ShortBuffer) (Ok (ticket b p))) (Err causes.Waits) r
          ∙ cond-true (ltb (length buffer) (length (owed b p))) (Err causes.ShortBuffer) (Ok (ticket b p)) (ap (ltb (length buffer)) n ∙ lt)))
      there_by j b s w f pl fo true r false lt =
          let p = get_or ps j blank in
          let n = length_owed size (names named) bad p b f w in
          giving j b s w f r (due_there (place_of t ps) p (length buffer) pl r (ltb-false (length buffer) (byte_room p) lt))
          (ap (λ x. due_as x (length buffer)) fo
          ∙ (cond-true p.ready (cond (ltb (length buffer) (length (owed b p))) (Err causes.ShortBuffer) (Ok (ticket b p))) (Err causes.Waits) r
          ∙ cond-false (ltb (length buffer) (length (owed b p))) (Err causes.ShortBuffer) (Ok (ticket b p)) (ap (ltb (length buffer)) n ∙ lt)))

      pub collects : Collects
      collects =
          ⊎_elim
          (λ m. refusing causes.NotOpen (ap (λ o. due_place o (length buffer)) m.0) (ap (λ o. due_as o (length buffer)) m.1))
          (λ m. there_by m.0 m.1 m.2 m.3 m.6 m.4 m.5 (get_or ps m.0 blank).ready refl (ltb (length buffer) (byte_room (get_or ps m.0 blank))) refl)
          meets
