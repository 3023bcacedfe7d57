-- Lemmas, no definitions to believe: an offset over a sound device is sound. They stand here because the layer's ghost member
-- can cite this crate's lemmas only from specs/.
use Rattle.std.specs.Prelude.{◌≡◌, ℕ, zero, suc, ◌+◌, ◌-◌, ◌≤◌, Bool, true, ◌&&◌, List, [], ◌∷◌, map, nat_lt, refl}
use Rattle.std.proofs.Common.{ap, ◌∙◌, ⊎_elim, arith}
use Rattle.std.proofs.lemmas.Bool.Decides.{nat_tests}
use Rattle.std.proofs.lemmas.Bool.{cases_Bool}
use Rattle.std.proofs.lemmas.List.{length-map}
use Rattle.device.specs.declared.interface.Kind.{Kind}
use Rattle.device.specs.declared.interface.Kind.TheVariants.{Read, Write, Flush}
use Rattle.device.specs.Meaning.{Meaning, Ticket, is_flush, mask_of}
use Rattle.device.specs.Submit.{fair_count, tag_is_open}
use Rattle.device.specs.Turns.{none_ready, flush_free, flush_order}
use Rattle.device.specs.Sound.{Sound, WellFormed, Each, distinct}
use Rattle.offset.specs.Means.{room, shifted, over, Lies, Within}

module _ (base : ℕ) where
  pub open_shifted : (t : ℕ) (ts : List Ticket) → tag_is_open t (map (shifted base) ts) ≡ tag_is_open t ts
  open_shifted t [] = refl
  open_shifted t (x ∷ xs) = cc (open_shifted t xs)

  pub distinct_shifted : (ts : List Ticket) → distinct (map (shifted base) ts) ≡ distinct ts
  distinct_shifted [] = refl
  distinct_shifted (t ∷ ts) = cc (open_shifted t.tag ts, distinct_shifted ts)

  none_ready_shifted : (ts : List Ticket) → none_ready (map (shifted base) ts) ≡ none_ready ts
  none_ready_shifted [] = refl
  none_ready_shifted (t ∷ ts) = cc (none_ready_shifted ts)

  flush_free_shifted : (ts : List Ticket) → flush_free (map (shifted base) ts) ≡ flush_free ts
  flush_free_shifted [] = refl
  flush_free_shifted (t ∷ ts) = cc (flush_free_shifted ts)

  pub flush_order_shifted : (ts : List Ticket) → flush_order (map (shifted base) ts) ≡ flush_order ts
  flush_order_shifted [] = refl
  flush_order_shifted (t ∷ ts) = cc (none_ready_shifted ts, flush_free_shifted ts, flush_order_shifted ts)

pub fair_shifted : (k : Kind) (base first count : ℕ) → fair_count k first count ≡ true → fair_count k (first - base) count ≡ true
fair_shifted Read base first count h = h
fair_shifted Write base first count h = h
fair_shifted Flush base first count h = grind (arith, nat_tests)

-- a flush has no run
pub flush_none : (k : Kind) (first count : ℕ) → fair_count k first count ≡ true → is_flush k ≡ true → (first ≡ 0) × (count ≡ 0)
flush_none Read first count h f = cc
flush_none Write first count h f = cc
flush_none Flush first count h f = grind (arith, nat_tests)

-- the bad sectors of a stretch
abbrev pub bad_in : (base size : ℕ) → (ℕ → Bool) → ℕ → Bool
bad_in base size bad s = nat_lt s size && bad (base + s)

pub mask_shifted : (bad : ℕ → Bool) (base size first n : ℕ) → first + n ≤ size → mask_of bad (base + first) n ≡ mask_of (bad_in base size bad) first n
mask_shifted bad base size first zero le = refl
mask_shifted bad base size first (suc n) le =
    let below = mask_shifted bad base size first n (omega arith) in grind (arith, nat_tests, below)

module _ (base n size : ℕ) (bad : ℕ → Bool) where
  well_flush : (t : Ticket) → WellFormed size bad t → is_flush t.kind ≡ true → WellFormed (room base n size) (bad_in base (room base n size) bad) (shifted base t)
  well_flush t w f =
      let z = flush_none t.kind t.first t.count w.count f in
      record {
        count = fair_shifted t.kind base t.first t.count w.count;
        inside = omega (arith, z.0, z.1);
        mask = rw z.1 (rw z.1 at w.mask);
        read = w.read;
        other = w.other;
      }

  well_run : (t : Ticket) → WellFormed size bad t → (base ≤ t.first) × (t.first + t.count ≤ base + room base n size)
      → WellFormed (room base n size) (bad_in base (room base n size) bad) (shifted base t)
  well_run t w l =
      let back : t.first ≡ base + (t.first - base) = omega (arith, l.0) in
      record {
        count = fair_shifted t.kind base t.first t.count w.count;
        inside = omega (arith, l.0, l.1);
        mask = w.mask ∙ (ap (λ f. mask_of bad f t.count) back ∙ mask_shifted bad base (room base n size) (t.first - base) t.count (omega (arith, l.0, l.1)));
        read = w.read;
        other = w.other;
      }

  pub each_shifted : (ts : List Ticket) → Each (WellFormed size bad) ts → Each (Lies base n size) ts
      → Each (WellFormed (room base n size) (bad_in base (room base n size) bad)) (map (shifted base) ts)
  each_shifted [] w l = tt
  each_shifted (t ∷ ts) w l = (
    ⊎_elim (well_flush t w.0) (λ f. well_run t w.0 (l.0 f)) (cases_Bool (is_flush t.kind)),
    each_shifted ts w.1 l.1,
  )

pub over_sound : (base n : ℕ) (m : Meaning) → Sound m → Within base n m → Sound (over base n m)
over_sound base n m s w = record {
  size = (let z = s.size in omega arith);
  capacity = s.capacity;
  height = omega arith;
  room = simp length-map s.room;
  tags = distinct_shifted base m.tickets ∙ s.tags;
  tickets = each_shifted base n m.size m.bad m.tickets s.tickets w;
  flush_order = flush_order_shifted base m.tickets ∙ s.flush_order;
  bad_inside = λ x h. grind (arith, nat_tests);
  bad_disk = λ x h. s.bad_disk (base + x) (grind (arith, nat_tests));
  bad_medium = λ x h. s.bad_medium (base + x) (grind (arith, nat_tests));
  disk = λ x lt. s.disk (base + x) (omega arith);
  medium = λ x lt. s.medium (base + x) (omega arith);
}
