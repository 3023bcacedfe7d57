-- What a turn of a memory disk does, over its places and its bytes.
use Rattle.std.proofs.Common.{◌≡◌, ℕ, ◌*◌, ◌≤◌, Bool, true, false, cond, not, ◌&&◌, ltb, List, length, get_or, Some, None, Option, sym, refl, ◌∙◌, arith}
use Rattle.std.proofs.lemmas.Bool.{cond-true, cond-false, and_parts, and_from, and_right, not_from_false}
use Rattle.device.specs.declared.interface.Kind.{Kind}
use Rattle.device.specs.declared.interface.Kind.TheVariants.{Read, Write, Flush}
use Rattle.device.specs.Meaning.{Contents, written, is_write}
use Rattle.device.specs.Turns.{Turned}
use Rattle.sectors.specs.Memory.{listed, names, seen}
use Rattle.sectors.specs.Shown.{bad_of, shown, Spares}
use Rattle.sectors.proofs.Runs.{length_seen}
use Rattle.sectors.proofs.Parts.{length_run, run_spares, run_past, shown_run, seen_shown}
use Rattle.tickets.specs.declared.place.Place.{Place}
use Rattle.tickets.specs.Places.{first_waiting}
use Rattle.tickets.specs.Front.{blank, places_as, served}
use Rattle.tickets.specs.Meant.{held, tickets_over}
use Rattle.tickets.specs.Oldest.{ready_oldest}
use Rattle.tickets.proofs.OldestFacts.{oldest_serve, oldest_none}
use Rattle.tickets.proofs.Stands.{oldest, oldest_within}
use Rattle.tickets.proofs.Keeps.{well_at}
use Rattle.tickets.proofs.FrontFacts.{Fits, fits_from}
use Rattle.tickets.proofs.CallFacts.{Kept, length_held, oldest_ready, turn_idle, turn_serves, served_ticket}
use Rattle.memory_disk.specs.Means.{meant}
use Rattle.memory_disk.specs.Stored.{stored_as, stored}
use Rattle.memory_disk.specs.Turn.{ticks_as, bytes_as}

-- what a ticket stores leaves the length of the row
pub stored_length : (size : ℕ) (named named' : List ℕ) (p : Place) (memory : List ℕ) → size * 128 ≤ length memory → (k : Kind) → Fits size (names named) p → length (stored_as k named' p memory) ≡ length memory
stored_length size named named' p memory h Read f = refl
stored_length size named named' p memory h Flush f = refl
stored_length size named named' p memory h Write f =
    let n = length_held size (names named) p f in
    let i = f.inside in
    length_run named' p.first (held p) memory p.count (omega (arith, n)) (omega arith)

module _ (size most : ℕ) (named : List ℕ) (ps : List Place) (memory : List ℕ) (holds : size * 128 ≤ length memory)
    (k : Kept size most named ps (shown size named memory) (shown size named memory)) where
  abbrev base : Contents
  base = shown size named memory

  abbrev bad : ℕ → Bool
  bad = bad_of size named

  fits : (i : ℕ) → first_waiting ps ≡ Some i → Fits size (names named) (get_or ps i blank)
  fits i e = fits_from size (names named) (get_or ps i blank) (well_at size (names named) ps i blank k.well (oldest_within (oldest i ps e)))

  stored_same : (k : Kind) (p : Place) → p.ready ≡ false → Fits size (names named) p
      → shown size named (stored_as k named p memory) ≡ cond (not p.ready && is_write k) (written bad p.first p.count (held p) base) base
  stored_same Read p r f = sym (cond-false (not p.ready && false) (written bad p.first p.count (held p) base) base (and_right (not p.ready) false refl))
  stored_same Flush p r f = sym (cond-false (not p.ready && false) (written bad p.first p.count (held p) base) base (and_right (not p.ready) false refl))
  stored_same Write p r f =
      let n = length_held size (names named) p f in
      shown_run size named p.first p.count (held p) memory (omega (arith, n)) f.inside holds
      ∙ sym (cond-true (not p.ready && true) (written bad p.first p.count (held p) base) base (and_from (not p.ready) true (not_from_false p.ready r) refl))

  abbrev Turns : Option ℕ → Type 0
  Turns o = Turned (meant size most named ps memory) (meant size most named (places_as o (seen named memory) ps) (bytes_as o named memory ps)) (ticks_as o)

  turn_by : (o : Option ℕ) → first_waiting ps ≡ o → Turns o
  turn_by None e = turn_idle size most named ps base base k e
  turn_by (Some i) e =
      let p = get_or ps i blank in
      let r = oldest_ready (oldest i ps e) blank in
      let base' = shown size named (stored named p memory) in
      turn_serves size most named ps base base k i 1 e (served (seen named memory) p) base' base'
      (record {
        readies = refl;
        moves = stored_same p.kind p r (fits i e);
        answers = served_ticket size most named ps base base (seen named memory) (λ s lt. length_seen named memory s (omega arith)) (λ s lt. seen_shown size named memory s lt) p base' r (fits i e);
        lays = λ s h w. refl;
        flushes = λ h s. refl;
      })
      (omega arith)

  pub turn_turns : Turns (first_waiting ps)
  turn_turns = turn_by (first_waiting ps) refl

  -- the oldest waiting ticket becomes ready, and no other
  oldest_by : (o : Option ℕ) → first_waiting ps ≡ o → tickets_over bad (places_as o (seen named memory) ps) (shown size named (bytes_as o named memory ps)) ≡ ready_oldest (tickets_over bad ps base)
  oldest_by None e = sym (oldest_none bad 0 ps base e)
  oldest_by (Some i) e =
      let p = get_or ps i blank in
      let r = oldest_ready (oldest i ps e) blank in
      let base' = shown size named (stored named p memory) in
      oldest_serve bad (oldest i ps e) (served (seen named memory) p) blank base base' refl (stored_same p.kind p r (fits i e))
      (served_ticket size most named ps base base (seen named memory) (λ s lt. length_seen named memory s (omega arith)) (λ s lt. seen_shown size named memory s lt) p base' r (fits i e))

  pub turn_oldest : tickets_over bad (places_as (first_waiting ps) (seen named memory) ps) (shown size named (bytes_as (first_waiting ps) named memory ps)) ≡ ready_oldest (tickets_over bad ps base)
  turn_oldest = oldest_by (first_waiting ps) refl

  stored_spares : (k : Kind) (p : Place) → Fits size (names named) p → Spares size named memory (stored_as k named p memory)
  stored_spares Read p f = record { bad = λ s h. refl; past = refl }
  stored_spares Flush p f = record { bad = λ s h. refl; past = refl }
  stored_spares Write p f =
      let n = length_held size (names named) p f in
      let i = f.inside in
      record {
        bad = λ s h. run_spares named p.first (held p) memory p.count s (omega (arith, n)) (omega (arith, i)) (and_parts (ltb s size) (listed s named) h).1;
        past = run_past named p.first (held p) memory p.count (size * 128) (omega (arith, n)) (omega (arith, i)) (omega (arith, i));
      }

  spares_by : (o : Option ℕ) → first_waiting ps ≡ o → Spares size named memory (bytes_as o named memory ps)
  spares_by None e = record { bad = λ s h. refl; past = refl }
  spares_by (Some i) e = let p = get_or ps i blank in stored_spares p.kind p (fits i e)

  pub turn_spares : Spares size named memory (bytes_as (first_waiting ps) named memory ps)
  turn_spares = spares_by (first_waiting ps) refl
