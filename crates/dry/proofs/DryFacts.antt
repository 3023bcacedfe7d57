-- What a device run dry leaves: the argument for every layer that runs a side dry, stated once.
use Rattle.std.proofs.Common.{◌≡◌, ℕ, zero, suc, ◌+◌, ◌<◌, ◌≤◌, Bool, true, false, cond, not, ◌⊎◌, List, [], ◌∷◌, length, sym, refl, ap, ◌∙◌, ap₂, inl, inr, ⊎_elim, arith}
use Rattle.std.proofs.lemmas.Bool.{cases_Bool, both_ways, and_parts, and_left, and_right, or_parts, or_from, not-true, not_from_true, cond_both}
use Rattle.device.specs.Meaning.{Meaning, Ticket, Contents, is_flush}
use Rattle.device.specs.Turns.{Turned, SameShape, Readied, Flushed, waiting, made_ready, none_ready, flush_free, flush_order, open_write_at, waiting_write_at}
use Rattle.device.proofs.TurnFacts.{same_refl, readied_refl, flushed_refl}
use Rattle.device.specs.Told.{Told}
use Rattle.dry.specs.Dry.{Turning, Dry}

abbrev pub all_ready_now : List Ticket → List Ticket
all_ready_now [] = []
all_ready_now (t ∷ ts) = made_ready t ∷ all_ready_now ts

-- what turns leave of a device, however many there are
record Through (m m' : Meaning) (sum : ℕ) : Type 0 where
  shape : SameShape m m'
  disk : m'.disk ≡ m.disk
  idle : waiting m.tickets ≡ 0 → (m' ≡ m) × (sum ≡ 0)
  readied : Readied m.tickets m'.tickets
  order : flush_order m'.tickets ≡ true
  settled : (s : ℕ) → m.medium s ≡ m.disk s → waiting_write_at s m.tickets ≡ false → m'.medium s ≡ m'.disk s
  flushed : Flushed m'.disk m'.medium m.tickets m'.tickets

-- a device run dry: every ticket is ready
pub record Dried (m m' : Meaning) (ticks : ℕ) : Type 0 where
  pub shape : SameShape m m'
  pub disk : m'.disk ≡ m.disk
  pub idle : waiting m.tickets ≡ 0 → (m' ≡ m) × (ticks ≡ 0)
  pub tickets : m'.tickets ≡ all_ready_now m.tickets
  pub settled : (s : ℕ) → m.medium s ≡ m.disk s → waiting_write_at s m.tickets ≡ false → m'.medium s ≡ m'.disk s
  pub flushed : Flushed m'.disk m'.medium m.tickets m'.tickets
  pub bounded : ticks ≤ 60000

-- One turn after another

same_trans : {m m' m'' : Meaning} → SameShape m m' → SameShape m' m'' → SameShape m m''
same_trans a b = record { size = cc; capacity = cc; height = cc; bad = cc; home = cc }

readied_trans : {ts us vs : List Ticket} → Readied ts us → Readied us vs → Readied ts vs
readied_trans Readied.none Readied.none = Readied.none
readied_trans (Readied.stays a) (Readied.stays b) = Readied.stays (readied_trans a b)
readied_trans (Readied.stays a) (Readied.turns h b) = Readied.turns h (readied_trans a b)
readied_trans (Readied.turns h a) (Readied.stays b) = Readied.turns h (readied_trans a b)
readied_trans (Readied.turns h a) (Readied.turns k b) = absurd cc

waiting_falls : (s : ℕ) {ts us : List Ticket} → Readied ts us → waiting_write_at s ts ≡ false → waiting_write_at s us ≡ false
waiting_falls s Readied.none e = refl
waiting_falls s (Readied.stays r) e = let p = or_parts _ _ e in or_from _ _ p.0 (waiting_falls s r p.1)
waiting_falls s (Readied.turns h r) e = waiting_falls s r (or_parts _ _ e).1

open_stays : (s : ℕ) {ts us : List Ticket} → Readied ts us → open_write_at s us ≡ open_write_at s ts
open_stays s Readied.none = refl
open_stays s (Readied.stays r) = cc (open_stays s r)
open_stays s (Readied.turns h r) = cc (open_stays s r)

closed_waits : (s : ℕ) (ts : List Ticket) → open_write_at s ts ≡ false → waiting_write_at s ts ≡ false
closed_waits s [] e = refl
closed_waits s (t ∷ ts) e = let p = or_parts _ _ e in or_from _ _ (and_right (not t.ready) _ p.0) (closed_waits s ts p.1)

none_free : (ts : List Ticket) → none_ready ts ≡ true → flush_free ts ≡ true
none_free [] e = refl
none_free (t ∷ ts) e = let p = and_parts (not t.ready) (none_ready ts) e in rw (not-true t.ready p.0) (none_free ts p.1)

free_after : (r f n g : Bool) → (n ≡ true → g ≡ true) → cond r true (cond f n g) ≡ true → r ≡ false → g ≡ true
free_after r true n g h e w = h (rw w at e)
free_after r false n g h e w = rw w at e

-- what stays settled from here on, unless an older ticket waits
Keep : (disk medium disk' medium' : Contents) → List Ticket → Type 0
Keep disk medium disk' medium' us = (s : ℕ) → medium s ≡ disk s → waiting_write_at s us ≡ false → medium' s ≡ disk' s

module _ (disk medium disk' medium' : Contents) where
  next_keep : (u : Ticket) (us : List Ticket) → flush_order (u ∷ us) ≡ true → Keep disk medium disk' medium' (u ∷ us) ⊎ (flush_free (u ∷ us) ≡ true)
      → Keep disk medium disk' medium' us ⊎ (flush_free us ≡ true)
  unfolding Keep
  next_keep u us o k =
      ⊎_elim
      (λ h.
      ⊎_elim
      (λ r. inl (λ s e w. h s e (or_from _ _ (and_left (not u.ready) _ (not_from_true u.ready r)) w)))
      (λ r. inr (free_after u.ready (is_flush u.kind) (none_ready us) (flush_free us) (none_free us) (and_parts _ _ o).0 r))
      (cases_Bool u.ready))
      (λ f. inr (and_parts _ _ f).1)
      k

  -- a flush made ready by the first part of the turns
  flushed_first : (t : Ticket) {us vs : List Ticket} → Readied us vs → is_flush t.kind ≡ true
      → Keep disk medium disk' medium' (made_ready t ∷ us) ⊎ (flush_free (made_ready t ∷ us) ≡ true)
      → ((s : ℕ) → open_write_at s us ≡ false → medium s ≡ disk s) → (s : ℕ) → open_write_at s vs ≡ false → medium' s ≡ disk' s
  unfolding Keep
  flushed_first t {us} r f k h s o =
      let still = sym (open_stays s r) ∙ o in
      ⊎_elim
      (λ keep. keep s (h s still) (closed_waits s us still))
      (λ free. absurd (both_ways (is_flush t.kind) (not-true (is_flush t.kind) (and_parts _ _ free).0) f))
      k

  flushed_both : {ts us vs : List Ticket} → Readied ts us → Readied us vs → flush_order us ≡ true
      → Keep disk medium disk' medium' us ⊎ (flush_free us ≡ true)
      → Flushed disk medium ts us → Flushed disk' medium' us vs → Flushed disk' medium' ts vs
  flushed_both Readied.none Readied.none o k f g = tt
  flushed_both (Readied.stays {t} a) (Readied.stays b) o k f g =
      ((λ l w r. absurd (both_ways t.ready w r)), flushed_both a b (and_parts _ _ o).1 (next_keep t _ o k) f.1 g.1)
  flushed_both (Readied.stays {t} a) (Readied.turns h b) o k f g = (g.0, flushed_both a b (and_parts _ _ o).1 (next_keep t _ o k) f.1 g.1)
  flushed_both (Readied.turns {t} h a) (Readied.stays b) o k f g =
      ((λ l w r. flushed_first t b l k (f.0 l w refl)), flushed_both a b o (next_keep (made_ready t) _ o k) f.1 g.1)
  flushed_both (Readied.turns h a) (Readied.turns i b) o k f g = absurd cc

through_none : (m : Meaning) → flush_order m.tickets ≡ true → Through m m 0
through_none m o = record {
  shape = same_refl m;
  disk = refl;
  idle = λ w. (refl, refl);
  readied = readied_refl m.tickets;
  order = o;
  settled = λ s e w. e;
  flushed = flushed_refl m.disk m.medium m.tickets;
}

through_more : {m m' m'' : Meaning} {sum t : ℕ} → Through m m' sum → Turned m' m'' t → Through m m'' (sum + t)
unfolding Keep
through_more {m} {m'} {m''} a b = record {
  shape = same_trans a.shape b.shape;
  disk = b.disk ∙ a.disk;
  idle = λ w.
      let i = a.idle w in
      let j = b.idle (ap (λ (x : Meaning). waiting x.tickets) i.0 ∙ w) in
      (j.0 ∙ i.0, (let y = i.1 in let z = j.1 in omega arith));
  readied = readied_trans a.readied b.readied;
  order = b.flush_order;
  settled = λ s e w. b.settled s (a.settled s e w) (waiting_falls s a.readied w);
  flushed = flushed_both m'.disk m'.medium m''.disk m''.medium a.readied b.readied a.order (inl (λ s e w. b.settled s e w)) a.flushed b.flushed;
}

-- Turned until nothing waits

pub made_same : (t : Ticket) → t.ready ≡ true → t ≡ made_ready t
made_same t e = λ i. record t { ready = e i }

none_waits : (r : Bool) (n : ℕ) → cond r 0 1 + n ≡ 0 → (r ≡ true) × (n ≡ 0)
none_waits true n e = (refl, omega arith)
none_waits false n e = absurd (omega arith)

all_now : {ts us : List Ticket} → Readied ts us → waiting us ≡ 0 → us ≡ all_ready_now ts
all_now Readied.none w = refl
all_now (Readied.stays {t} {us} r) w = let p = none_waits t.ready (waiting us) w in ap₂ (λ x xs. x ∷ xs) (made_same t p.0) (all_now r p.1)
all_now (Readied.turns {t} {us} h r) w = ap (λ xs. made_ready t ∷ xs) (all_now r (none_waits true (waiting us) w).1)

module _ {D : Type 0} (meaning : D → Meaning) (does : D → Told → D → Type 0) (tick : ℕ) where
  through : {d d' : D} {sum : ℕ} → Turning meaning does tick d d' sum → flush_order (meaning d).tickets ≡ true → Through (meaning d) (meaning d') sum
  through (Turning.none {d}) o = through_none (meaning d) o
  through (Turning.more r t w) o = through_more (through r o) t

  -- the argument for every layer that runs a device dry
  pub dried : {d d' : D} {ticks : ℕ} → Dry meaning does tick d d' ticks → flush_order (meaning d).tickets ≡ true → Dried (meaning d) (meaning d') ticks
  dried r o =
      let h = through r.turned o in
      let a = r.answer in
      record {
        shape = h.shape;
        disk = h.disk;
        idle = λ w. let i = h.idle w in (i.0, (let s = i.1 in omega arith));
        tickets = all_now h.readied r.done;
        settled = h.settled;
        flushed = h.flushed;
        bounded = omega arith;
      }

-- A turn leaves one ticket less to wait, if any waits

pub fewer : {m m' : Meaning} {t i size : ℕ} → Turned m m' t → waiting m.tickets + i ≤ size → i < size → waiting m'.tickets + (i + 1) ≤ size
fewer {m} {m'} {i} {size} b le lt = by_waiting (waiting m.tickets) refl
  where
    by_waiting : (n : ℕ) → n ≡ waiting m.tickets → waiting m'.tickets + (i + 1) ≤ size
    by_waiting zero e = let z : waiting m'.tickets ≡ waiting m.tickets = ap (λ x. waiting x.tickets) (b.idle (sym e)).0 in omega arith
    by_waiting (suc n) e = let z = b.progress (omega arith) in omega arith

pub waiting_short : (ts : List Ticket) → waiting ts ≤ length ts
waiting_short [] = omega arith
waiting_short (t ∷ ts) = let r = waiting_short ts in cond_both t.ready 0 1 (λ n. n + waiting ts ≤ suc (length ts)) (λ _. omega arith) (λ _. omega arith)
