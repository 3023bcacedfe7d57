-- A turn leaves the bytes of bad sectors, and those past the last; after a flush the medium is the disk.
use Rattle.std.proofs.Common.{◌≡◌, ℕ, zero, suc, ◌+◌, ◌*◌, ◌≤◌, true, false, not, ◌&&◌, ltb, List, [], ◌∷◌, length, get_or, Some, None, Option, sym, refl, ap, ◌∙◌, subst, ⊎_elim, arith}
use Rattle.std.proofs.lemmas.Bool.{cases_order, cond-true, cond_both, and_parts, or_cases, both_ways}
use Rattle.device.specs.declared.interface.Kind.{Kind}
use Rattle.device.specs.declared.interface.Kind.TheVariants.{Read, Write, Flush}
use Rattle.device.specs.Meaning.{is_flush}
use Rattle.sectors.specs.Memory.{listed, names, put_sector}
use Rattle.sectors.specs.Shown.{bad_of, shown, Spares}
use Rattle.sectors.proofs.Parts.{sector_other, sector_above, length_sector}
use Rattle.tickets.specs.declared.place.Place.{Place}
use Rattle.std.specs.List.{position_from}
use Rattle.tickets.specs.Places.{first_waiting}
use Rattle.tickets.specs.Meant.{held, disk_over, tickets_over}
use Rattle.tickets.specs.Front.{blank, places_as}
use Rattle.tickets.proofs.FrontFacts as places
use Rattle.tickets.proofs.CallFacts.{Kept}
use Rattle.drive.specs.SoundFacts.{Fits}
use Rattle.drive.specs.Turn.{flush_waits}
use Rattle.drive.specs.declared.buffer.Entry.{Entry}
use Rattle.drive.specs.Buffer.{buffered, stands_in, full, put_oldest, brought_run, put_out, put_out_run, pushed_out, put_all}
use Rattle.drive.proofs.Keeping.{Heads, heads, run_fits}
use Rattle.drive.proofs.Laws.{out_long}
use Rattle.drive.specs.Service.{sight, row_as, turn_entries, turn_row}
use Rattle.drive.proofs.Turning.{place_fits, held_long, flushes_by}

module _ (size : ℕ) (named : List ℕ) where
  none_spares : (row : List ℕ) → Spares size named row row
  none_spares row = record { bad = λ s h. refl; past = refl }

  then_spares : {a b c : List ℕ} → Spares size named a b → Spares size named b c → Spares size named a c
  then_spares x y = record { bad = λ s h. y.bad s h ∙ x.bad s h; past = y.past ∙ x.past }

  head_spares : (e : Entry) (es : List Entry) (row : List ℕ) → Heads (size * 128) named e es → size * 128 ≤ length row → Spares size named row (put_sector named e.sector e.bytes row)
  head_spares e es row h m =
      let i = h.inside in
      let fits : (e.sector + 1) * 128 ≤ length row = omega arith in
      record {
        bad = λ s b.
            let l = (and_parts (ltb s size) (listed s named) b).1 in
            ⊎_elim
            (λ z. absurd (both_ways (listed s named) (ap (λ y. listed y named) z ∙ h.good) l))
            (λ o. sector_other named e.sector e.bytes row h.whole fits s o)
            (cases_order s e.sector);
        past = sector_above named e.sector e.bytes row h.whole fits (size * 128) (omega arith);
      }

  oldest_spares : (es : List Entry) (row : List ℕ) → Fits (size * 128) named es → size * 128 ≤ length row → Spares size named row (put_oldest named es row)
  oldest_spares [] row f m = none_spares row
  oldest_spares (e ∷ es) row f m = head_spares e es row (heads f) m

  out_spares : (k : ℕ) (es : List Entry) (row : List ℕ) → Fits (size * 128) named es → size * 128 ≤ length row → Spares size named row (put_out named k es row)
  out_spares k es row f m =
      cond_both (stands_in k es) row (pushed_out named es row) (Spares size named row) (λ t. none_spares row)
      (λ t. cond_both (full es) (put_oldest named es row) row (Spares size named row) (λ u. oldest_spares es row f m) (λ u. none_spares row))

  run_spares : (first : ℕ) (bytes : List ℕ) (es : List Entry) (row : List ℕ) → Fits (size * 128) named es → size * 128 ≤ length row → (n : ℕ) → first + n ≤ size → n * 128 ≤ length bytes
      → Spares size named row (put_out_run named first n bytes es row)
  run_spares first bytes es row f m zero i l = none_spares row
  run_spares first bytes es row f m (suc n) i l =
      let ih = run_spares first bytes es row f m n (omega arith) (omega arith) in
      let fn = run_fits (size * 128) named es f first n bytes (omega arith) (omega arith) in
      let mn = out_long size named first bytes es row f m n (omega arith) (omega arith) in
      cond_both (listed (first + n) named) (put_out_run named first n bytes es row)
      (put_out named (first + n) (brought_run named first n bytes es) (put_out_run named first n bytes es row)) (Spares size named row)
      (λ t. ih)
      (λ t. then_spares ih (out_spares (first + n) (brought_run named first n bytes es) (put_out_run named first n bytes es row) fn (omega (arith, mn))))

  all_spares : (es : List Entry) (row : List ℕ) → Fits (size * 128) named es → size * 128 ≤ length row → Spares size named row (put_all named es row)
  all_spares [] row f m = none_spares row
  all_spares (e ∷ es) row f m =
      let h = heads f in
      let i = h.inside in
      let n = length_sector named e.sector e.bytes row h.whole (omega arith) in
      then_spares (head_spares e es row h m) (all_spares es (put_sector named e.sector e.bytes row) h.rest (omega (arith, n)))

module _ (size most : ℕ) (named : List ℕ) (ps : List Place) (arm : ℕ) (es : List Entry) (row : List ℕ) (m : size * 128 ≤ length row) (f : Fits (size * 128) named es)
    (k : Kept size most named ps (buffered es (shown size named row)) (shown size named row)) where
  kind_spares : (j : Kind) (p : Place) → places.Fits size (names named) p → Spares size named row (row_as j named p es row)
  kind_spares Read p g = none_spares size named row
  kind_spares Write p g = run_spares size named p.first (held p) es row f m p.count g.inside (held_long size named p g)
  kind_spares Flush p g = all_spares size named es row f m

  spares_by : (o : Option ℕ) → first_waiting ps ≡ o → Spares size named row (turn_row o named ps es row)
  spares_by None e = none_spares size named row
  spares_by (Some i) e = kind_spares (get_or ps i blank).kind (get_or ps i blank) (place_fits size most named ps arm es row m f k i e)

  pub turn_spares : Spares size named row (turn_row (first_waiting ps) named ps es row)
  turn_spares = spares_by (first_waiting ps) refl

-- with one ticket at most, a flush that waits is served, and the medium is then the disk
module _ (size most : ℕ) (named : List ℕ) (arm : ℕ) (es : List Entry) (row : List ℕ) (m : size * 128 ≤ length row) (f : Fits (size * 128) named es) where
  abbrev Survives : List Place → Option ℕ → ℕ → Type 0
  Survives ps o s = shown size named (turn_row o named ps es row) s
      ≡ disk_over (bad_of size named) (places_as o (sight named es row) ps) (buffered (turn_entries o named ps es) (shown size named (turn_row o named ps es row))) s

  pub turn_flushes : (ps : List Place) → Kept size most named ps (buffered es (shown size named row)) (shown size named row) → length ps ≤ 1
      → flush_waits (tickets_over (bad_of size named) ps (buffered es (shown size named row))) ≡ true → (s : ℕ) → Survives ps (first_waiting ps) s
  turn_flushes [] k n h s = absurd (both_ways false refl h)
  turn_flushes (p ∷ []) k n h s =
      let w = ⊎_elim (λ a. a) (λ a. absurd (both_ways false refl a)) (or_cases (not p.ready && is_flush p.kind) false h) in
      let a = and_parts (not p.ready) (is_flush p.kind) w in
      let e : first_waiting (p ∷ []) ≡ Some 0 = cond-true (not p.ready) (Some 0) (position_from (λ (q : Place). not q.ready) 1 []) a.0 in
      subst (λ o. Survives (p ∷ []) o s) (sym e) (flushes_by size most named (p ∷ []) arm es row m f k p.kind p a.1 s)
  turn_flushes (p ∷ q ∷ ps) k n h s = absurd (omega arith)
