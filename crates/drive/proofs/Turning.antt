-- What a turn of a drive does, over its places, its buffer and its bytes.
use Rattle.std.proofs.Common.{◌≡◌, ℕ, ◌+◌, ◌-◌, ◌*◌, ◌≤◌, Bool, true, false, cond, not, ◌&&◌, eqb, ltb, leb, List, [], ◌∷◌, length, get_or, Some, None, Option, sym, refl, ap, ◌∙◌, ⊎_elim, arith}
use mathlib.Core.Path.{fun_ext}
use Rattle.std.proofs.lemmas.Bool.{cases_Bool, cond-true, cond-false, and_parts, and_from, and_left, and_right, not_from_false, ltb-true, lt-ltb, both_ways}
use Rattle.device.specs.declared.interface.Kind.{Kind}
use Rattle.device.specs.declared.interface.Kind.TheVariants.{Read, Write, Flush}
use Rattle.device.specs.Meaning.{Contents, part, covers, written, is_write, is_flush}
use Rattle.device.specs.Turns.{Turned, made_ready}
use Rattle.sectors.specs.Memory.{listed, names, seen}
use Rattle.sectors.specs.Shown.{bad_of, shown}
use Rattle.sectors.proofs.Runs.{length_seen}
use Rattle.sectors.proofs.Parts.{seen_shown}
use Rattle.tickets.specs.declared.place.Place.{Place}
use Rattle.tickets.specs.Places.{first_waiting}
use Rattle.tickets.specs.Meant.{held, ticket, tickets_over}
use Rattle.tickets.specs.Oldest.{ready_oldest}
use Rattle.tickets.proofs.OldestFacts.{oldest_serve, oldest_none}
use Rattle.tickets.specs.Front.{blank, places_as, served}
use Rattle.tickets.proofs.Stands.{oldest, oldest_within}
use Rattle.tickets.proofs.Keeps.{well_at}
use Rattle.tickets.proofs.FrontFacts as places
use Rattle.tickets.proofs.FrontFacts.{fits_from}
use Rattle.tickets.proofs.CallFacts.{Kept, length_held, oldest_ready, turn_idle, turn_serves, served_ticket}
use Rattle.drive.specs.SoundFacts.{Fits, buffered_length}
use Rattle.drive.specs.declared.buffer.Entry.{Entry}
use Rattle.drive.specs.Buffer.{buffered}
use Rattle.drive.proofs.Keeping.{run_fits, none_fits, fits_more, length_all}
use Rattle.drive.proofs.Laws.{all_base, run_base, run_medium, out_long}
use Rattle.drive.specs.Means.{meant}
use Rattle.drive.specs.Service.{sight, travel, cost_as, arm_as, entries_as, row_as, turn_ticks, turn_entries, turn_row}

pub buffered_same : (es : List Entry) (below below' : Contents) (s : ℕ) → below s ≡ below' s → buffered es below s ≡ buffered es below' s
buffered_same [] below below' s h = h
buffered_same (e ∷ es) below below' s h = ap (cond (eqb s e.sector) e.bytes) (buffered_same es below below' s h)

-- the run of a place as the buffer's laws want it
module _ (size : ℕ) (named : List ℕ) (p : Place) (f : places.Fits size (names named) p) where
  pub held_long : p.count * 128 ≤ length (held p)
  held_long = let n = length_held size (names named) p f in omega (arith, n)

  pub entries_fit : (k : Kind) (es : List Entry) → Fits (size * 128) named es → Fits (size * 128) named (entries_as k named p es)
  entries_fit Read es g = g
  entries_fit Write es g = let i = f.inside in run_fits (size * 128) named es g p.first p.count (held p) (omega arith) held_long
  entries_fit Flush es g = none_fits (size * 128) named

  pub row_length : (k : Kind) (es : List Entry) (row : List ℕ) → size * 128 ≤ length row → Fits (size * 128) named es → length (row_as k named p es row) ≡ length row
  row_length Read es row m g = refl
  row_length Write es row m g = out_long size named p.first (held p) es row g m p.count f.inside held_long
  row_length Flush es row m g = length_all named es row (fits_more (size * 128) named es g (length row) m)

  pub arm_in : (k : Kind) (arm : ℕ) → arm ≤ size → arm_as k arm p ≤ size
  arm_in Read arm h = f.inside
  arm_in Write arm h = f.inside
  arm_in Flush arm h = h

  far : (a b : ℕ) → a ≤ 65536 → b ≤ 65536 → travel a b ≤ 60000
  far a b h g = omega arith

  pub cost_low : (k : Kind) (arm : ℕ) (es : List Entry) → size ≤ 65536 → arm ≤ size → length es ≤ 8 → cost_as k arm p es ≤ 60000
  cost_low Read arm es s h n = let i = f.inside in far arm p.first (omega arith) (omega arith)
  cost_low Write arm es s h n = let i = f.inside in far arm p.first (omega arith) (omega arith)
  cost_low Flush arm es s h n = omega arith

-- a bad sector as a run sees it
bad_test : (size : ℕ) (named : List ℕ) (first n s : ℕ) → first + n ≤ size → (covers first n s && not (listed s named)) ≡ (covers first n s && not (bad_of size named s))
bad_test size named first n s i =
    ⊎_elim
    (λ c.
    let lt = ltb-true s (first + n) (and_parts (leb first s) (ltb s (first + n)) c).1 in
    ap (λ b. covers first n s && not (b && listed s named)) (sym (lt-ltb s size (omega arith))))
    (λ c. and_left (covers first n s) (not (listed s named)) c ∙ sym (and_left (covers first n s) (not (bad_of size named s)) c))
    (cases_Bool (covers first n s))

module _ (size most : ℕ) (named : List ℕ) (ps : List Place) (arm : ℕ) (es : List Entry) (row : List ℕ) (m : size * 128 ≤ length row) (f : Fits (size * 128) named es)
    (k : Kept size most named ps (buffered es (shown size named row)) (shown size named row)) where
  abbrev base : Contents
  base = buffered es (shown size named row)

  abbrev medium : Contents
  medium = shown size named row

  abbrev bad : ℕ → Bool
  bad = bad_of size named

  pub place_fits : (i : ℕ) → first_waiting ps ≡ Some i → places.Fits size (names named) (get_or ps i blank)
  place_fits i e = fits_from size (names named) (get_or ps i blank) (well_at size (names named) ps i blank k.well (oldest_within (oldest i ps e)))

  moves_by : (j : Kind) (p : Place) → p.ready ≡ false → places.Fits size (names named) p
      → buffered (entries_as j named p es) (shown size named (row_as j named p es row)) ≡ cond (not p.ready && is_write j) (written bad p.first p.count (held p) base) base
  moves_by Read p r g = sym (cond-false (not p.ready && false) (written bad p.first p.count (held p) base) base (and_right (not p.ready) false refl))
  moves_by Flush p r g =
      fun_ext (λ s. all_base size named es row f m s)
      ∙ sym (cond-false (not p.ready && false) (written bad p.first p.count (held p) base) base (and_right (not p.ready) false refl))
  moves_by Write p r g =
      fun_ext (λ s.
      run_base size named p.first (held p) es row f m p.count g.inside (held_long size named p g) s
      ∙ ap (λ b. cond b (part (held p) (s - p.first)) (base s)) (bad_test size named p.first p.count s g.inside))
      ∙ sym (cond-true (not p.ready && true) (written bad p.first p.count (held p) base) base (and_from (not p.ready) true (not_from_false p.ready r) refl))

  lays_by : (j : Kind) (p : Place) → places.Fits size (names named) p → (s : ℕ) → medium s ≡ base s → (is_write j && covers p.first p.count s) ≡ false
      → shown size named (row_as j named p es row) s ≡ buffered (entries_as j named p es) (shown size named (row_as j named p es row)) s
  lays_by Read p g s h c = h
  lays_by Flush p g s h c = refl
  lays_by Write p g s h c =
      run_medium size named p.first (held p) es row f m p.count g.inside (held_long size named p g) s c h
      ∙ sym (run_base size named p.first (held p) es row f m p.count g.inside (held_long size named p g) s
      ∙ cond-false (covers p.first p.count s && not (listed s named)) (part (held p) (s - p.first)) (base s) (and_left (covers p.first p.count s) (not (listed s named)) c))

  pub flushes_by : (j : Kind) (p : Place) → is_flush j ≡ true → (s : ℕ)
      → shown size named (row_as j named p es row) s ≡ buffered (entries_as j named p es) (shown size named (row_as j named p es row)) s
  flushes_by Read p h s = absurd (both_ways false refl h)
  flushes_by Write p h s = absurd (both_ways false refl h)
  flushes_by Flush p h s = refl

  abbrev Turns : Option ℕ → Type 0
  Turns o = Turned (meant size most named ps es row) (meant size most named (places_as o (sight named es row) ps) (turn_entries o named ps es) (turn_row o named ps es row)) (turn_ticks o ps arm es)

  -- the ticket that is served is due what it was due
  answers_by : (i : ℕ) (e : first_waiting ps ≡ Some i) → ticket (buffered (turn_entries (Some i) named ps es) (shown size named (turn_row (Some i) named ps es row))) (served (sight named es row) (get_or ps i blank)) ≡ made_ready (ticket base (get_or ps i blank))
  answers_by i e =
      served_ticket size most named ps base medium (sight named es row)
      (λ s lt. buffered_length (size * 128) es (seen named row) s f.lie (length_seen named row s (omega arith)))
      (λ s lt. buffered_same es (seen named row) medium s (seen_shown size named row s lt)) (get_or ps i blank) (buffered (turn_entries (Some i) named ps es) (shown size named (turn_row (Some i) named ps es row)))
      (oldest_ready (oldest i ps e) blank) (place_fits i e)

  turn_by : arm ≤ size → (o : Option ℕ) → first_waiting ps ≡ o → Turns o
  turn_by a None e = turn_idle size most named ps base medium k e
  turn_by a (Some i) e =
      let p = get_or ps i blank in
      let r = oldest_ready (oldest i ps e) blank in
      let g = place_fits i e in
      let row' = row_as p.kind named p es row in
      let medium' = shown size named row' in
      let base' = buffered (entries_as p.kind named p es) medium' in
      turn_serves size most named ps base medium k i (cost_as p.kind arm p es) e (served (sight named es row) p) base' medium'
      (record {
        readies = refl;
        moves = moves_by p.kind p r g;
        answers = answers_by i e;
        lays = lays_by p.kind p g;
        flushes = flushes_by p.kind p;
      })
      (cost_low size named p g p.kind arm es k.small a f.most)

  pub turn_turns : arm ≤ size → Turns (first_waiting ps)
  turn_turns a = turn_by a (first_waiting ps) refl

  -- the oldest waiting ticket becomes ready, and no other
  oldest_by : (o : Option ℕ) → first_waiting ps ≡ o → tickets_over bad (places_as o (sight named es row) ps) (buffered (turn_entries o named ps es) (shown size named (turn_row o named ps es row))) ≡ ready_oldest (tickets_over bad ps base)
  oldest_by None e = sym (oldest_none bad 0 ps base e)
  oldest_by (Some i) e =
      let p = get_or ps i blank in
      oldest_serve bad (oldest i ps e) (served (sight named es row) p) blank base (buffered (turn_entries (Some i) named ps es) (shown size named (turn_row (Some i) named ps es row))) refl
      (moves_by p.kind p (oldest_ready (oldest i ps e) blank) (place_fits i e)) (answers_by i e)

  pub turn_oldest : tickets_over bad (places_as (first_waiting ps) (sight named es row) ps) (buffered (turn_entries (first_waiting ps) named ps es) (shown size named (turn_row (first_waiting ps) named ps es row))) ≡ ready_oldest (tickets_over bad ps base)
  turn_oldest = oldest_by (first_waiting ps) refl
