-- A turn's choice is the one that the rules name.
use Rattle.std.proofs.Common.{◌≡◌, ℕ, ◌<◌, ◌≤◌, Bool, true, false, cond, not, ◌&&◌, ltb, leb, ◌⊎◌, List, [], ◌∷◌, Some, None, Option, sym, refl, ap, ◌∙◌, subst, inl, inr, arith}
use Rattle.std.proofs.lemmas.Bool.{true≢false, both_ways, leb-true, leb-false, ltb-true, lt-ltb, and_parts, and_from, and_cases, not-true, not-false, cases_Bool}
use Rattle.std.proofs.lemmas.Option.{none-some, same_Some}
use Rattle.device.specs.declared.interface.Kind.{Kind}
use Rattle.device.specs.declared.interface.Kind.TheVariants.{Read, Write, Flush}
use Rattle.device.specs.Meaning.{is_flush}
use Rattle.deadline.specs.Settings.{Settings}
use Rattle.deadline.specs.Waiting.{Queued, Run, those, same, runs, free, free_runs}
use Rattle.deadline.specs.Turn.{State, position, Batch, closed, reading, writing, lower, lowest, some_of, next_of, reads_next, expired, or_oldest, first_of, new_batch, served_run, by_oldest, choice}
use Rattle.deadline.specs.Laws.{In, Lowest, NonePast, Open, NextKind, First, NoFlushFirst, ByTheRules, CandidatesAreTheFreeRuns}
use Rattle.deadline.proofs.KindFacts.{same_is, is_same}
use Rattle.deadline.proofs.Members.{in_parts, in_back, of_those, in_those}
use Rattle.deadline.proofs.Sound.{SoundFrom}
use Rattle.deadline.proofs.FreeFacts.{oldest_free_run}

-- ── the candidates are the free runs ──

pub candidates : CandidatesAreTheFreeRuns
unfolding free_runs
candidates k ws r = (there, back)
  where
    test : Run → Bool
    test q = same q.kind k && free ws q.name

    there : In r (those test (runs ws)) → In r (runs ws) × (r.kind ≡ k) × (free ws r.name ≡ true)
    there i =
        let a = of_those test r (runs ws) i in
        let b = and_parts (same r.kind k) (free ws r.name) a.1 in
        (a.0, same_is r.kind k b.0, b.1)

    back : In r (runs ws) × (r.kind ≡ k) × (free ws r.name ≡ true) → In r (those test (runs ws))
    back h = in_those test r (runs ws) h.0 (and_from (same r.kind k) (free ws r.name) (is_same r.kind k h.1) h.2)

-- ── the lowest run ──

abbrev Found : ℕ → List Run → Option Run → Type 0
Found p rs None = NonePast p rs
Found p rs (Some r) = Lowest p rs r

found : (p : ℕ) (rs : List Run) → Found p rs (lowest p rs)
found p [] = λ q i. absurd i
found p (q ∷ qs) = go (leb p q.begins) refl (lowest p qs) (found p qs)
  where
    below : (r : Run) → Lowest p qs r → q.begins ≤ r.begins → (z : Run) → In z qs → p ≤ z.begins → q.begins ≤ z.begins
    below r f t z i pz = pick (in_parts z f.older (r ∷ f.younger) (subst (In z) f.stands i))
      where
        pick : In z f.older ⊎ In z (r ∷ f.younger) → q.begins ≤ z.begins
        pick (inl j) = omega (arith, f.below_older z j pz, t)
        pick (inr (inl e)) = rw e t
        pick (inr (inr j)) = omega (arith, f.below_younger z j pz, t)

    behind : (r : Run) (older : List Run) → ((z : Run) → In z older → p ≤ z.begins → r.begins < z.begins) → (p ≤ q.begins → r.begins < q.begins) →
        (z : Run) → In z (q ∷ older) → p ≤ z.begins → r.begins < z.begins
    behind r older f h z (inl e) pz = rw e (h (rw e at pz))
    behind r older f h z (inr j) pz = f z j pz

    pick : (r : Run) → Lowest p qs r → leb p q.begins ≡ true → (c : Bool) → leb q.begins r.begins ≡ c → Lowest p (q ∷ qs) (cond c q r)
    pick r f e true t = record {
      older = [];
      younger = qs;
      stands = refl;
      past = leb-true p q.begins e;
      below_older = λ z i. absurd i;
      below_younger = below r f (leb-true q.begins r.begins t);
    }
    pick r f e false t = record {
      older = q ∷ f.older;
      younger = f.younger;
      stands = ap (λ l. q ∷ l) f.stands;
      past = f.past;
      below_older = behind r f.older f.below_older (λ h. leb-false q.begins r.begins t);
      below_younger = f.below_younger;
    }

    go : (b : Bool) → leb p q.begins ≡ b → (o : Option Run) → Found p qs o → Found p (q ∷ qs) (cond b (lower q o) o)
    go false e None f = λ z i. elim i [ inl same_run ↦ rw same_run (leb-false p q.begins e) | inr j ↦ f z j ]
    go false e (Some r) f = record {
      older = q ∷ f.older;
      younger = f.younger;
      stands = ap (λ l. q ∷ l) f.stands;
      past = f.past;
      below_older = behind r f.older f.below_older (λ h. absurd (omega (arith, leb-false p q.begins e, h)));
      below_younger = f.below_younger;
    }
    go true e None f = record {
      older = [];
      younger = qs;
      stands = refl;
      past = leb-true p q.begins e;
      below_older = λ z i. absurd i;
      below_younger = λ z i pz. absurd (omega (arith, f z i, pz));
    }
    go true e (Some r) f = pick r f e (leb q.begins r.begins) refl

pub lowest_is : (p : ℕ) (rs : List Run) (r : Run) → lowest p rs ≡ Some r → Lowest p rs r
lowest_is p rs r e = subst (Found p rs) e (found p rs)

pub none_past : (p : ℕ) (rs : List Run) → lowest p rs ≡ None → NonePast p rs
none_past p rs e = subst (Found p rs) e (found p rs)

pub in_lowest : (p : ℕ) (rs : List Run) (r : Run) → Lowest p rs r → In r rs
in_lowest p rs r l = subst (In r) (sym l.stands) (in_back r l.older (r ∷ l.younger) (inl refl))

-- ── the first run of a batch ──

pub first_is : (st : Settings) (s : State) (p : ℕ) (rs : List Run) (r : Run) → first_of st s p rs ≡ Some r → First st s p rs r
first_is st s p [] r e = absurd (none-some r e)
first_is st s p (q ∷ qs) r e = record {
  oldest = q;
  others = qs;
  candidates = refl;
  urgent = λ x. is ∙ ap (λ b. cond b q (or_oldest q (lowest p (q ∷ qs)))) x;
  in_order = λ x. order (lowest p (q ∷ qs)) refl (is ∙ ap (λ b. cond b q (or_oldest q (lowest p (q ∷ qs)))) x);
}
  where
    is : r ≡ cond (expired st s q) q (or_oldest q (lowest p (q ∷ qs)))
    is = sym (same_Some (cond (expired st s q) q (or_oldest q (lowest p (q ∷ qs)))) r e)

    order : (o : Option Run) → lowest p (q ∷ qs) ≡ o → r ≡ or_oldest q o → Lowest p (q ∷ qs) r ⊎ (NonePast p (q ∷ qs) × (r ≡ q))
    order None n h = inr (none_past p (q ∷ qs) n, h)
    order (Some z) n h = inl (subst (Lowest p (q ∷ qs)) (sym h) (lowest_is p (q ∷ qs) z n))

pub in_first : (st : Settings) (s : State) (p : ℕ) (rs : List Run) (r : Run) → First st s p rs r → In r rs
in_first st s p rs r f = elim (cases_Bool (expired st s f.oldest)) [
  | inl x ↦ subst (λ l. In r l) (sym f.candidates) (inl (f.urgent x))
  | inr x ↦ elim (f.in_order x) [
    | inl l ↦ in_lowest p rs r l
    | inr n ↦ subst (λ l. In r l) (sym f.candidates) (inl n.1)
  ]
]

-- ── the batch that goes on ──

module _ (st : Settings) (s : State) where
  kind_of_candidate : (k : Kind) (r : Run) → In r (free_runs k s.waiting) → r.kind ≡ k
  kind_of_candidate k r i = ((candidates k s.waiting r).0 i).1

  at_kind : (k : Kind) (r : Run) → Lowest (position k s) (free_runs k s.waiting) r →
      (r.kind ≡ k) × Lowest (position r.kind s) (free_runs r.kind s.waiting) r
  at_kind k r l =
      let e = kind_of_candidate k r (in_lowest (position k s) (free_runs k s.waiting) r l) in
      (e, subst (λ j. Lowest (position j s) (free_runs j s.waiting) r) (sym e) l)

  pub next_some : (b : Batch) (r : Run) → next_of st s b ≡ Some r → Open st b r.kind × Lowest (position r.kind s) (free_runs r.kind s.waiting) r
  next_some closed r e = absurd (none-some r e)
  next_some (reading n) r e = go (ltb n st.fifo_batch) refl e
    where
      go : (b : Bool) → ltb n st.fifo_batch ≡ b → cond b (lowest s.read_position (free_runs Read s.waiting)) None ≡ Some r →
          ((r.kind ≡ Read) × (n < st.fifo_batch)) × Lowest (position r.kind s) (free_runs r.kind s.waiting) r
      go true t h = let a = at_kind Read r (lowest_is s.read_position (free_runs Read s.waiting) r h) in ((a.0, ltb-true n st.fifo_batch t), a.1)
      go false t h = absurd (none-some r h)
  next_some (writing n) r e = go (ltb n st.fifo_batch) refl e
    where
      go : (b : Bool) → ltb n st.fifo_batch ≡ b → cond b (lowest s.write_position (free_runs Write s.waiting)) None ≡ Some r →
          ((r.kind ≡ Write) × (n < st.fifo_batch)) × Lowest (position r.kind s) (free_runs r.kind s.waiting) r
      go true t h = let a = at_kind Write r (lowest_is s.write_position (free_runs Write s.waiting) r h) in ((a.0, ltb-true n st.fifo_batch t), a.1)
      go false t h = absurd (none-some r h)

  next_none : (b : Batch) → next_of st s b ≡ None → (k : Kind) → Open st b k → NonePast (position k s) (free_runs k s.waiting)
  next_none closed e k o = absurd o
  next_none (reading n) e k o =
      rw o.0 (none_past s.read_position (free_runs Read s.waiting) (rw (lt-ltb n st.fifo_batch o.1) at e))
  next_none (writing n) e k o =
      rw o.0 (none_past s.write_position (free_runs Write s.waiting) (rw (lt-ltb n st.fifo_batch o.1) at e))

  -- ── the batch that begins ──

  reads : List Run
  reads = free_runs Read s.waiting

  writes : List Run
  writes = free_runs Write s.waiting

  starved : Bool
  starved = leb st.writes_starved s.passed_over

  first_some : (p : ℕ) (rs : List Run) → some_of rs ≡ true → (r : Run) × (first_of st s p rs ≡ Some r)
  first_some p [] h = absurd (true≢false (sym h))
  first_some p (r ∷ rs) h = (cond (expired st s r) r (or_oldest r (lowest p (r ∷ rs))), refl)

  new_exists : (some_of (free_runs Read s.waiting) ≡ true) ⊎ (some_of (free_runs Write s.waiting) ≡ true) → (r : Run) × (new_batch st s ≡ Some r)
  unfolding new_batch reads writes starved
  new_exists h = go (reads_next st.writes_starved s.passed_over reads writes) refl
    where
      some_write : (some_of reads ≡ true) ⊎ (some_of writes ≡ true) → reads_next st.writes_starved s.passed_over reads writes ≡ false → some_of writes ≡ true
      some_write (inr w) t = w
      some_write (inl r) t = elim (and_cases (some_of reads) (not (some_of writes && starved)) t) [
        | inl n ↦ absurd (both_ways (some_of reads) n r)
        | inr n ↦ (and_parts (some_of writes) starved (not-false (some_of writes && starved) n)).0
      ]

      go : (b : Bool) → reads_next st.writes_starved s.passed_over reads writes ≡ b →
          (r : Run) × (cond b (first_of st s s.read_position reads) (first_of st s s.write_position writes) ≡ Some r)
      go true t = first_some s.read_position reads (and_parts (some_of reads) (not (some_of writes && starved)) t).0
      go false t = first_some s.write_position writes (some_write h t)

  abbrev Starts : Run → Type 0
  Starts r = NextKind st s r.kind × First st s (position r.kind s) (free_runs r.kind s.waiting) r

  of_kind : (k : Kind) (r : Run) → NextKind st s k → First st s (position k s) (free_runs k s.waiting) r → Starts r
  of_kind k r n f =
      let e = kind_of_candidate k r (in_first st s (position k s) (free_runs k s.waiting) r f) in
      (subst (NextKind st s) (sym e) n, subst (λ j. First st s (position j s) (free_runs j s.waiting) r) (sym e) f)

  pub new_some : (r : Run) → new_batch st s ≡ Some r → Starts r
  unfolding new_batch reads writes starved
  new_some r e = go (reads_next st.writes_starved s.passed_over reads writes) refl e
    where
      few : (some_of reads && not (some_of writes && starved)) ≡ true → some_of writes ≡ true → s.passed_over < st.writes_starved
      few t w = leb-false st.writes_starved s.passed_over (rw w at (not-true (some_of writes && starved) (and_parts (some_of reads) (not (some_of writes && starved)) t).1))

      many : (some_of reads && not (some_of writes && starved)) ≡ false → some_of reads ≡ true → st.writes_starved ≤ s.passed_over
      many t r' = elim (and_cases (some_of reads) (not (some_of writes && starved)) t) [
        | inl n ↦ absurd (both_ways (some_of reads) n r')
        | inr n ↦ leb-true st.writes_starved s.passed_over (and_parts (some_of writes) starved (not-false (some_of writes && starved) n)).1
      ]

      go : (b : Bool) → reads_next st.writes_starved s.passed_over reads writes ≡ b →
          cond b (first_of st s s.read_position reads) (first_of st s s.write_position writes) ≡ Some r → Starts r
      go true t h = of_kind Read r (few t) (first_is st s s.read_position reads r h)
      go false t h = of_kind Write r (many t) (first_is st s s.write_position writes r h)

-- ── a turn ──

pub by_the_rules : (st : Settings) (s : State) → SoundFrom [] s.waiting → ByTheRules st s (choice st s s.waiting)
unfolding choice
by_the_rules st s sound = go s.waiting refl
  where
    no_flush : (x : Queued) (xs : List Queued) → s.waiting ≡ x ∷ xs → is_flush x.kind ≡ false → NoFlushFirst s.waiting
    no_flush x xs e n y ys h = ap (λ z. is_flush z.kind) (head_is (sym h ∙ e)) ∙ n
      where
        head_is : y ∷ ys ≡ x ∷ xs → y ≡ x
        head_is k = cc

    serves : NoFlushFirst s.waiting → (some_of (free_runs Read s.waiting) ≡ true) ⊎ (some_of (free_runs Write s.waiting) ≡ true) →
        ByTheRules st s (served_run (next_of st s s.batch) (new_batch st s))
    serves n h = pick (next_of st s s.batch) refl
      where
        pick : (o : Option Run) → next_of st s s.batch ≡ o → ByTheRules st s (served_run o (new_batch st s))
        pick (Some r) e = let a = next_some st s s.batch r e in (n, record { open_batch = a.0; lowest = a.1 })
        pick None e =
            let new = new_exists st s h in
            let a = new_some st s new.0 new.1 in
            subst (λ o. ByTheRules st s (served_run None o)) (sym new.1) (n, record { ended = next_none st s s.batch e; next_kind = a.0; first = a.1 })

    at_oldest : (x : Queued) (xs : List Queued) → s.waiting ≡ x ∷ xs → (k : Kind) → x.kind ≡ k → ByTheRules st s (by_oldest k x.tag (next_of st s s.batch) (new_batch st s))
    at_oldest x xs e Flush h = (x, xs, e, ap is_flush h, refl)
    at_oldest x xs e Read h =
        let f = oldest_free_run Read x xs (rw e at sound) (ap is_flush h) (ap (λ k. same k Read) h) in
        serves (no_flush x xs e (ap is_flush h)) (inl (ap some_of (ap (free_runs Read) e ∙ f.1)))
    at_oldest x xs e Write h =
        let f = oldest_free_run Write x xs (rw e at sound) (ap is_flush h) (ap (λ k. same k Write) h) in
        serves (no_flush x xs e (ap is_flush h)) (inr (ap some_of (ap (free_runs Write) e ∙ f.1)))

    go : (ws : List Queued) → s.waiting ≡ ws → ByTheRules st s (choice st s ws)
    go [] e = e
    go (x ∷ xs) e = at_oldest x xs e x.kind refl
