-- What a list of places means after each call. Assumes nothing.
use Rattle.std.proofs.Common.{◌≡◌, ℕ, zero, suc, ◌+◌, ◌-◌, ◌<◌, Bool, true, false, cond, not, ◌&&◌, ◌||◌, eqb, List, [], ◌∷◌, ◌++◌, length, get_or, set, Some, None, sym, refl, ap, ◌∙◌, subst, arith}
use Rattle.std.proofs.Math.Bool.{and_assoc}
use Rattle.std.proofs.lemmas.Bool.{and_parts, and_from, and_right, or_parts, or_from, not-true, cond-true, cond-false, both_ways}
use Rattle.std.proofs.lemmas.Option.{none-some}
use Rattle.device.specs.declared.interface.Kind.{Kind}
use Rattle.device.specs.declared.interface.Kind.TheVariants.{Read, Write, Flush}
use Rattle.device.specs.Meaning.{Contents, Ticket, is_write, is_flush, covers, written, bytes_of, part}
use Rattle.device.specs.Submit.{tag_is_open}
use Rattle.device.specs.Collect.{found, without}
use Rattle.device.specs.Questions.{tag_at}
use Rattle.device.specs.Turns.{waiting, none_ready, waiting_write_at, open_write_at, made_ready, Readied, Flushed, flush_free, flush_order}
use Rattle.device.specs.Sound.{distinct}
use Rattle.tickets.specs.declared.place.Place.{Place}
use Rattle.tickets.specs.Places.{by_tag}
use Rattle.tickets.specs.Places.{tag_of}
use Rattle.tickets.specs.Meant.{held, after, owed_as, ticket, tickets_over, disk_over, has_tag, apart, all_wait, in_turn, less}
use Rattle.tickets.proofs.Stands.{Oldest, waiting_from}
use Rattle.device.proofs.Lookup.{Stands}
use Rattle.tickets.proofs.Keeps.{wait_in_turn}

-- a ready place puts nothing on
pub after_ready : (bad : ℕ → Bool) (p : Place) (base : Contents) → p.ready ≡ true → after bad p base ≡ base
after_ready bad p base h = cond-false (not p.ready && is_write p.kind) (written bad p.first p.count (held p) base) base
    (ap (λ b. not b && is_write p.kind) h)

-- and is due what it holds
ready_owed : (k : Kind) (r : Bool) (stored x y : List ℕ) → r ≡ true → owed_as k r stored x ≡ owed_as k r stored y
ready_owed Read r stored x y h = cond-true r stored x h ∙ sym (cond-true r stored y h)
ready_owed Write r stored x y h = refl
ready_owed Flush r stored x y h = refl

abbrev with_bytes : Place → List ℕ → Ticket
with_bytes p bytes = record { tag = p.tag; kind = p.kind; first = p.first; count = p.count; mask = p.mask; bytes = bytes; ready = p.ready }

pub ready_ticket : (base base' : Contents) (p : Place) → p.ready ≡ true → ticket base p ≡ ticket base' p
ready_ticket base base' p h =
    ap (with_bytes p) (ready_owed p.kind p.ready (held p) (bytes_of base p.first p.count) (bytes_of base' p.first p.count) h)

pub cond_at : (b : Bool) (f g : Contents) (s : ℕ) → cond b f g s ≡ cond b (f s) (g s)
cond_at true f g s = refl
cond_at false f g s = refl

module _ (bad : ℕ → Bool) where
  pub length_over : (ps : List Place) (base : Contents) → length (tickets_over bad ps base) ≡ length ps
  length_over [] base = refl
  length_over (p ∷ ps) base = ap suc (length_over ps (after bad p base))

  pub open_over : (t : ℕ) (ps : List Place) (base : Contents) → tag_is_open t (tickets_over bad ps base) ≡ has_tag t ps
  open_over t [] base = refl
  open_over t (p ∷ ps) base = ap (λ b. eqb t p.tag || b) (open_over t ps (after bad p base))

  pub distinct_over : (ps : List Place) (base : Contents) → distinct (tickets_over bad ps base) ≡ apart ps
  distinct_over [] base = refl
  distinct_over (p ∷ ps) base =
      ap (λ b. not b && distinct (tickets_over bad ps (after bad p base))) (open_over p.tag ps (after bad p base))
      ∙ ap (λ b. not (has_tag p.tag ps) && b) (distinct_over ps (after bad p base))

  pub tag_over : (i : ℕ) (ps : List Place) (base : Contents) → tag_at i (tickets_over bad ps base) ≡ tag_of i ps
  tag_over i [] base = refl
  tag_over zero (p ∷ ps) base = refl
  tag_over (suc i) (p ∷ ps) base = tag_over i ps (after bad p base)

  pub tickets_push : (ps : List Place) (q : Place) (base : Contents) → tickets_over bad (ps ++ q ∷ []) base ≡ tickets_over bad ps base ++ ticket (disk_over bad ps base) q ∷ []
  tickets_push [] q base = refl
  tickets_push (p ∷ ps) q base = ap (λ ts. ticket base p ∷ ts) (tickets_push ps q (after bad p base))

  pub disk_push : (ps : List Place) (q : Place) (base : Contents) → disk_over bad (ps ++ q ∷ []) base ≡ after bad q (disk_over bad ps base)
  disk_push [] q base = refl
  disk_push (p ∷ ps) q base = disk_push ps q (after bad p base)

  -- taking out a ready place
  pub tickets_less : {t j : ℕ} {ps : List Place} → Stands by_tag t ps j → (d : Place) (base : Contents) → (get_or ps j d).ready ≡ true → without t (tickets_over bad ps base) ≡ tickets_over bad (less t ps) base
  tickets_less {t} (Stands.here {p} {ps} h) d base r =
      cond-true (eqb t p.tag) (tickets_over bad ps (after bad p base)) (ticket base p ∷ without t (tickets_over bad ps (after bad p base))) h
      ∙ (ap (tickets_over bad ps) (after_ready bad p base r)
      ∙ ap (λ xs. tickets_over bad xs base) (sym (cond-true (eqb t p.tag) ps (p ∷ less t ps) h)))
  tickets_less {t} (Stands.there {p} {ps} h s) d base r =
      cond-false (eqb t p.tag) (tickets_over bad ps (after bad p base)) (ticket base p ∷ without t (tickets_over bad ps (after bad p base))) h
      ∙ (ap (λ ts. ticket base p ∷ ts) (tickets_less s d (after bad p base) r)
      ∙ ap (λ xs. tickets_over bad xs base) (sym (cond-false (eqb t p.tag) ps (p ∷ less t ps) h)))

  pub disk_less : {t j : ℕ} {ps : List Place} → Stands by_tag t ps j → (d : Place) (base : Contents) → (get_or ps j d).ready ≡ true → disk_over bad ps base ≡ disk_over bad (less t ps) base
  disk_less {t} (Stands.here {p} {ps} h) d base r =
      ap (disk_over bad ps) (after_ready bad p base r) ∙ ap (λ xs. disk_over bad xs base) (sym (cond-true (eqb t p.tag) ps (p ∷ less t ps) h))
  disk_less {t} (Stands.there {p} {ps} h s) d base r =
      disk_less s d (after bad p base) r ∙ ap (λ xs. disk_over bad xs base) (sym (cond-false (eqb t p.tag) ps (p ∷ less t ps) h))

  pub found_none : (t : ℕ) (ps : List Place) (base : Contents) → has_tag t ps ≡ false → found t (tickets_over bad ps base) ≡ None
  found_none t [] base h = refl
  found_none t (p ∷ ps) base h =
      let o = or_parts (eqb t p.tag) (has_tag t ps) h in
      cond-false (eqb t p.tag) (Some (ticket base p)) (found t (tickets_over bad ps (after bad p base))) o.0 ∙ found_none t ps (after bad p base) o.1

  -- serving the oldest that waits
  pub disk_serve : {i : ℕ} {ps : List Place} → Oldest ps i → (q d : Place) (base : Contents) → q.ready ≡ true
      → disk_over bad (set ps i q) (after bad (get_or ps i d) base) ≡ disk_over bad ps base
  disk_serve (Oldest.first {p} {ps} h) q d base r = ap (disk_over bad ps) (after_ready bad q (after bad p base) r)
  disk_serve (Oldest.later {p} {ps} {j} h s) q d base r =
      ap (disk_over bad (set ps j q)) (after_ready bad p (after bad (get_or ps j d) base) h)
      ∙ (disk_serve s q d base r ∙ ap (disk_over bad ps) (sym (after_ready bad p base h)))

  pub readied_none : (ts : List Ticket) → Readied ts ts
  readied_none [] = Readied.none
  readied_none (t ∷ ts) = Readied.stays (readied_none ts)

  pub tickets_serve : {i : ℕ} {ps : List Place} → Oldest ps i → (q d : Place) (base base' : Contents) → q.ready ≡ true → base' ≡ after bad (get_or ps i d) base
      → ticket base' q ≡ made_ready (ticket base (get_or ps i d)) → Readied (tickets_over bad ps base) (tickets_over bad (set ps i q) base')
  tickets_serve (Oldest.first {p} {ps} h) q d base base' r e m =
      let rest : tickets_over bad ps (after bad p base) ≡ tickets_over bad ps (after bad q base') = ap (tickets_over bad ps) (sym e ∙ sym (after_ready bad q base' r)) in
      let whole : made_ready (ticket base p) ∷ tickets_over bad ps (after bad p base) ≡ ticket base' q ∷ tickets_over bad ps (after bad q base') =
      ap (λ t. t ∷ tickets_over bad ps (after bad p base)) (sym m) ∙ ap (λ ts. ticket base' q ∷ ts) rest in
      subst (Readied (tickets_over bad (p ∷ ps) base)) whole (Readied.turns h (readied_none (tickets_over bad ps (after bad p base))))
  tickets_serve (Oldest.later {p} {ps} {j} h s) q d base base' r e m =
      let one : ticket base p ≡ ticket base' p = ready_ticket base base' p h in
      let us : tickets_over bad (set ps j q) base' ≡ tickets_over bad (set ps j q) (after bad p base') = ap (tickets_over bad (set ps j q)) (sym (after_ready bad p base' h)) in
      let ts : tickets_over bad ps base ≡ tickets_over bad ps (after bad p base) = ap (tickets_over bad ps) (sym (after_ready bad p base h)) in
      let ih : Readied (tickets_over bad ps base) (tickets_over bad (set ps j q) base') = tickets_serve s q d base base' r e m in
      let a : Readied (tickets_over bad ps (after bad p base)) (tickets_over bad (set ps j q) base') = subst (λ xs. Readied xs (tickets_over bad (set ps j q) base')) ts ih in
      let b : Readied (tickets_over bad ps (after bad p base)) (tickets_over bad (set ps j q) (after bad p base')) = subst (Readied (tickets_over bad ps (after bad p base))) us a in
      subst (λ t. Readied (tickets_over bad (p ∷ ps) base) (t ∷ tickets_over bad (set ps j q) (after bad p base'))) one (Readied.stays b)

  -- how many wait
  pub waiting_any : (ps : List Place) (base base' : Contents) → waiting (tickets_over bad ps base) ≡ waiting (tickets_over bad ps base')
  waiting_any [] base base' = refl
  waiting_any (p ∷ ps) base base' = ap (λ n. cond p.ready 0 1 + n) (waiting_any ps (after bad p base) (after bad p base'))

  pub waiting_serve : {i : ℕ} {ps : List Place} → Oldest ps i → (q : Place) (base base' : Contents) → q.ready ≡ true
      → waiting (tickets_over bad (set ps i q) base') < waiting (tickets_over bad ps base)
  waiting_serve (Oldest.first {p} {ps} h) q base base' r =
      let a : ◌≡◌ {A = ℕ} (cond q.ready 0 1) 0 = cond-true q.ready 0 1 r in
      let b : ◌≡◌ {A = ℕ} (cond p.ready 0 1) 1 = cond-false p.ready 0 1 h in
      let e = waiting_any ps (after bad q base') (after bad p base) in
      omega (arith, a, b, e)
  waiting_serve (Oldest.later {p} {ps} {j} h s) q base base' r =
      let lt = waiting_serve s q (after bad p base) (after bad p base') r in
      omega (arith, lt)

  pub oldest_waits : {i : ℕ} {ps : List Place} → Oldest ps i → (base : Contents) → waiting (tickets_over bad ps base) ≡ 0 → ⊥
  oldest_waits (Oldest.first {p} {ps} h) base z =
      let b : ◌≡◌ {A = ℕ} (cond p.ready 0 1) 1 = cond-false p.ready 0 1 h in
      omega (arith, b, z)
  oldest_waits (Oldest.later {p} {ps} h s) base z = oldest_waits s (after bad p base) (omega (arith, z))

  none_wait_by : (n : ℕ) (p : Place) (ps : List Place) (base : Contents) (ih : waiting_from (n + 1) ps ≡ None → waiting (tickets_over bad ps (after bad p base)) ≡ 0) (b : Bool)
      → cond (not b) (Some n) (waiting_from (n + 1) ps) ≡ None → cond b 0 1 + waiting (tickets_over bad ps (after bad p base)) ≡ 0
  none_wait_by n p ps base ih true e = let z = ih e in omega (arith, z)
  none_wait_by n p ps base ih false e = absurd (none-some n (sym e))

  pub none_wait : (n : ℕ) (ps : List Place) (base : Contents) → waiting_from n ps ≡ None → waiting (tickets_over bad ps base) ≡ 0
  none_wait n [] base e = refl
  none_wait n (p ∷ ps) base e = none_wait_by n p ps base (none_wait (n + 1) ps (after bad p base)) p.ready e

  -- the order of flushes follows from the order of service
  wait_none : (ps : List Place) (base : Contents) → all_wait ps ≡ true → none_ready (tickets_over bad ps base) ≡ true
  wait_none [] base h = refl
  wait_none (p ∷ ps) base h =
      let a = and_parts (not p.ready) (all_wait ps) h in
      and_from (not p.ready) (none_ready (tickets_over bad ps (after bad p base))) a.0 (wait_none ps (after bad p base) a.1)

  none_free : (ts : List Ticket) → none_ready ts ≡ true → flush_free ts ≡ true
  none_free [] h = refl
  none_free (t ∷ ts) h =
      let a = and_parts (not t.ready) (none_ready ts) h in
      and_from (not (t.ready && is_flush t.kind)) (flush_free ts)
      (ap (λ b. not (b && is_flush t.kind)) (not-true t.ready a.0)) (none_free ts a.1)

  order_by : (r f : Bool) (p : Place) (ps : List Place) (base : Contents) → (in_turn ps ≡ true → flush_order (tickets_over bad ps base) ≡ true)
      → cond r (in_turn ps) (all_wait ps) ≡ true
      → (cond r true (cond f (none_ready (tickets_over bad ps base)) (flush_free (tickets_over bad ps base))) && flush_order (tickets_over bad ps base)) ≡ true
  order_by true f p ps base ih h = ih h
  order_by false true p ps base ih h =
      let n = wait_none ps base h in
      and_from (none_ready (tickets_over bad ps base)) (flush_order (tickets_over bad ps base)) n (ih (wait_in_turn ps h))
  order_by false false p ps base ih h =
      let n = wait_none ps base h in
      and_from (flush_free (tickets_over bad ps base)) (flush_order (tickets_over bad ps base)) (none_free (tickets_over bad ps base) n) (ih (wait_in_turn ps h))

  pub order_over : (ps : List Place) (base : Contents) → in_turn ps ≡ true → flush_order (tickets_over bad ps base) ≡ true
  order_over [] base h = refl
  order_over (p ∷ ps) base h = order_by p.ready (is_flush p.kind) p ps (after bad p base) (order_over ps (after bad p base)) h

  -- where no waiting write covers a sector, the disk is what lies below
  after_by : (w c b : Bool) (x y : List ℕ) → (w && c) ≡ false → cond w (cond (c && b) x y) y ≡ y
  after_by true false b x y h = refl
  after_by true true b x y h = absurd (both_ways true h refl)
  after_by false c b x y h = refl

  pub after_at : (p : Place) (base : Contents) (s : ℕ) → (not p.ready && (is_write p.kind && covers p.first p.count s)) ≡ false → after bad p base s ≡ base s
  after_at p base s h =
      cond_at (not p.ready && is_write p.kind) (written bad p.first p.count (held p) base) base s
      ∙ after_by (not p.ready && is_write p.kind) (covers p.first p.count s) (not (bad s)) (part (held p) (s - p.first)) (base s)
      (and_assoc (not p.ready) (is_write p.kind) (covers p.first p.count s) ∙ h)

  pub disk_at : (ps : List Place) (base : Contents) (s : ℕ) → waiting_write_at s (tickets_over bad ps base) ≡ false → disk_over bad ps base s ≡ base s
  disk_at [] base s h = refl
  disk_at (p ∷ ps) base s h =
      let o = or_parts (not p.ready && (is_write p.kind && covers p.first p.count s)) (waiting_write_at s (tickets_over bad ps (after bad p base))) h in
      disk_at ps (after bad p base) s o.1 ∙ after_at p base s o.0

  pub oldest_at : {i : ℕ} {ps : List Place} → Oldest ps i → (d : Place) (base : Contents) (s : ℕ) → waiting_write_at s (tickets_over bad ps base) ≡ false
      → after bad (get_or ps i d) base s ≡ base s
  oldest_at (Oldest.first {p} {ps} h) d base s k =
      after_at p base s (or_parts (not p.ready && (is_write p.kind && covers p.first p.count s)) (waiting_write_at s (tickets_over bad ps (after bad p base))) k).0
  oldest_at (Oldest.later {p} {ps} {j} h t) d base s k =
      let o = or_parts (not p.ready && (is_write p.kind && covers p.first p.count s)) (waiting_write_at s (tickets_over bad ps (after bad p base))) k in
      let same = after_ready bad p base h in
      oldest_at t d base s (ap (λ x. waiting_write_at s (tickets_over bad ps x)) (sym same) ∙ o.1)

  -- the oldest waiting place covers no sector that no waiting write covers
  pub oldest_apart : {i : ℕ} {ps : List Place} → Oldest ps i → (d : Place) (base : Contents) (s : ℕ) → waiting_write_at s (tickets_over bad ps base) ≡ false
      → (is_write (get_or ps i d).kind && covers (get_or ps i d).first (get_or ps i d).count s) ≡ false
  oldest_apart (Oldest.first {p} {ps} h) d base s k =
      sym (ap (λ b. not b && (is_write p.kind && covers p.first p.count s)) h)
      ∙ (or_parts (not p.ready && (is_write p.kind && covers p.first p.count s)) (waiting_write_at s (tickets_over bad ps (after bad p base))) k).0
  oldest_apart (Oldest.later {p} {ps} {j} h t) d base s k =
      let o = or_parts (not p.ready && (is_write p.kind && covers p.first p.count s)) (waiting_write_at s (tickets_over bad ps (after bad p base))) k in
      let same = after_ready bad p base h in
      oldest_apart t d base s (ap (λ x. waiting_write_at s (tickets_over bad ps x)) (sym same) ∙ o.1)

  -- a flush that is served
  open_waiting : (s : ℕ) (ts : List Ticket) → open_write_at s ts ≡ false → waiting_write_at s ts ≡ false
  open_waiting s [] h = refl
  open_waiting s (t ∷ ts) h =
      let o = or_parts (is_write t.kind && covers t.first t.count s) (open_write_at s ts) h in
      or_from (not t.ready && (is_write t.kind && covers t.first t.count s)) (waiting_write_at s ts)
      (and_right (not t.ready) (is_write t.kind && covers t.first t.count s) o.0) (open_waiting s ts o.1)

  pub flushed_none : (disk medium : Contents) (ts : List Ticket) → Flushed disk medium ts ts
  flushed_none disk medium [] = tt
  flushed_none disk medium (t ∷ ts) = ((λ f w r s o. absurd (both_ways t.ready w r)), flushed_none disk medium ts)

  pub flushed_serve : {i : ℕ} {ps : List Place} → Oldest ps i → (q d : Place) (base base' medium' : Contents) → q.ready ≡ true → base' ≡ after bad (get_or ps i d) base
      → (is_flush (get_or ps i d).kind ≡ true → (s : ℕ) → medium' s ≡ base' s)
      → Flushed (disk_over bad (set ps i q) base') medium' (tickets_over bad ps base) (tickets_over bad (set ps i q) base')
  flushed_serve (Oldest.first {p} {ps} h) q d base base' medium' r e all =
      let same : after bad q base' ≡ base' = after_ready bad q base' r in (
        (λ f w u s o.
            all f s ∙ sym (ap (λ b. disk_over bad ps b s) same
            ∙ disk_at ps base' s (ap (λ b. waiting_write_at s (tickets_over bad ps b)) (sym same) ∙ open_waiting s (tickets_over bad ps (after bad q base')) o))),
        subst (λ b. Flushed (disk_over bad ps (after bad q base')) medium' (tickets_over bad ps b) (tickets_over bad ps (after bad q base')))
            (same ∙ e) (flushed_none (disk_over bad ps (after bad q base')) medium' (tickets_over bad ps (after bad q base'))),
      )
  flushed_serve (Oldest.later {p} {ps} {j} h s) q d base base' medium' r e all =
      let same : base' ≡ after bad p base' = sym (after_ready bad p base' h) in
      let old : base ≡ after bad p base = sym (after_ready bad p base h) in (
        (λ f w u x o. absurd (both_ways p.ready w h)),
        subst (λ b. Flushed (disk_over bad (set ps j q) b) medium' (tickets_over bad ps (after bad p base)) (tickets_over bad (set ps j q) b)) same
            (subst (λ b. Flushed (disk_over bad (set ps j q) base') medium' (tickets_over bad ps b) (tickets_over bad (set ps j q) base')) old
            (flushed_serve s q d base base' medium' r e all)),
      )
