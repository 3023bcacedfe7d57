-- Lemmas, no definitions to believe: what a drive means is sound. They stand here because the device's ghost member can cite
-- this crate's lemmas only from specs/.
use Rattle.std.specs.Prelude.{◌≡◌, ℕ, ◌+◌, ◌*◌, ◌≤◌, true, false, not, List, [], ◌∷◌, length, ◌==◌, nat_le, nat_lt, refl}
use Rattle.std.proofs.Common.{ap, subst, ◌∙◌}
use Rattle.std.proofs.lemmas.Bool.{and_parts, leb-true, eqb-true, not-true, ne_eqb, both_ways, cond-false, cond_both}
use Rattle.device.specs.Meaning.{Contents, zeros}
use Rattle.device.specs.Sound.{Sound}
use Rattle.sectors.specs.Memory.{listed}
use Rattle.sectors.specs.Shown.{bad_of, shown}
use Rattle.sectors.proofs.Parts.{shown_whole, bad_shown}
use Rattle.tickets.specs.Open.{places_of}
use Rattle.tickets.proofs.CallFacts.{Kept, sound_of}
use Rattle.drive.specs.declared.buffer.Entry.{Entry}
use Rattle.drive.specs.declared.drive.Drive.{Drive}
use Rattle.drive.specs.Buffer.{buffered, lies, all_lie, all_good, single}
use Rattle.drive.specs.Turn.{entries_of, row_of, means}

pub lies_parts : (room : ℕ) (p : Entry) → lies room p ≡ true → ((p.sector + 1) * 128 ≤ room) × (length p.bytes ≡ 128)
lies_parts room p h =
    let a = and_parts (nat_le ((p.sector + 1) * 128) room) (length p.bytes == 128) h in
    (leb-true ((p.sector + 1) * 128) room a.0, eqb-true (length p.bytes) 128 a.1)

pub buffered_length : (room : ℕ) (es : List Entry) (below : Contents) (s : ℕ) → all_lie room es ≡ true → length (below s) ≡ 128 → length (buffered es below s) ≡ 128
buffered_length room [] below s h l = l
buffered_length room (e ∷ es) below s h l =
    let a = and_parts (lies room e) (all_lie room es) h in
    cond_both (s == e.sector) e.bytes (buffered es below s) (λ x. length x ≡ 128) (λ t. (lies_parts room e a.0).1) (λ t. buffered_length room es below s a.1 l)

-- what a buffer over a row of so many bytes keeps to
pub record Fits (room : ℕ) (named : List ℕ) (es : List Entry) : Type 0 where
  pub most : length es ≤ 8
  pub lie : all_lie room es ≡ true
  pub good : all_good named es ≡ true
  pub single : single es ≡ true

-- the buffer shows what lies below at a sector that is named, and where what lies below is the same
pub buffered_named : (named : List ℕ) (es : List Entry) (below : Contents) (s : ℕ) → all_good named es ≡ true → listed s named ≡ true → buffered es below s ≡ below s
buffered_named named [] below s g h = refl
buffered_named named (e ∷ es) below s g h =
    let a = and_parts (not (listed e.sector named)) (all_good named es) g in
    let n : listed e.sector named ≡ false = not-true (listed e.sector named) a.0 in
    cond-false (s == e.sector) e.bytes (buffered es below s) (ne_eqb s e.sector (λ z. both_ways (listed s named) (ap (λ y. listed y named) z ∙ n) h))
    ∙ buffered_named named es below s a.1 h

module _ (size : ℕ) (named : List ℕ) (es : List Entry) (row : List ℕ) (f : Fits (size * 128) named es) (m : size * 128 ≤ length row) where
  pub base_whole : (s : ℕ) → length (buffered es (shown size named row) s) ≡ 128
  base_whole s = buffered_length (size * 128) es (shown size named row) s f.lie (shown_whole size named row m s)

  pub base_bad : (s : ℕ) → bad_of size named s ≡ true → buffered es (shown size named row) s ≡ zeros
  base_bad s h = buffered_named named es (shown size named row) s f.good (and_parts (nat_lt s size) (listed s named) h).1 ∙ bad_shown size named row s h

pub fits_of : (d : Drive) → Fits (d.front.size * 128) d.front.named (entries_of d)
fits_of d = record { most = d.buffer.most; lie = d.lie; good = subst (λ n. all_good n (entries_of d) ≡ true) d.named d.buffer.good; single = d.buffer.single }

pub kept_of : (d : Drive) → Kept d.front.size d.front.capacity d.front.named (places_of d.front)
    (buffered (entries_of d) (shown d.front.size d.front.named (row_of d))) (shown d.front.size d.front.named (row_of d))
kept_of d =
    let f = d.front in
    record {
      small = f.small;
      limit = f.most;
      within = f.within;
      apart = f.apart;
      well = f.well;
      turns = f.turns;
      whole = base_whole f.size f.named (entries_of d) (row_of d) (fits_of d) d.holds;
      whole_medium = shown_whole f.size f.named (row_of d) d.holds;
      bad = base_bad f.size f.named (entries_of d) (row_of d) (fits_of d) d.holds;
      bad_medium = bad_shown f.size f.named (row_of d);
    }

pub sound_drive : (d : Drive) → Sound (means d)
sound_drive d =
    let medium = shown d.front.size d.front.named (row_of d) in
    sound_of d.front.size d.front.capacity d.front.named (places_of d.front) (buffered (entries_of d) medium) medium (kept_of d)
