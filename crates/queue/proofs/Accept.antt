-- Accepting a ticket, alone or into a run, keeps the queue's invariant.
use Rattle.std.proofs.Common.{◌≡◌, ℕ, ◌+◌, ◌≤◌, Bool, true, false, cond, eqb, ◌⊎◌, List, [], ◌∷◌, ◌++◌, sym, refl, subst, inl, inr}
use Rattle.std.proofs.lemmas.List.{append-nil}
use Rattle.std.proofs.lemmas.List.Elements.{filter-append}
use Rattle.std.proofs.lemmas.Bool.{not_from_true, and_parts, both_ways, eqb-true, eq-eqb}
use Rattle.device.specs.Meaning.{is_flush}
use Rattle.queue.specs.Queue.{Entry, waits, mine, of_run, All, Pairs, Apart}
use Rattle.queue.specs.Runs.{Spans, done, back, front, Row}
use Rattle.queue.proofs.OfRun.{zip}
use Rattle.queue.specs.Sound.{joined, Fits, Leaves, UnbrokenFrom, Unbroken, Rowed, Sound, Alone, Joins}

all_more : (P : Entry → Type 0) (es : List Entry) (n : Entry) → All P es → P n → All P (es ++ (n ∷ []))
all_more P [] n h k = (k, tt)
all_more P (e ∷ es) n h k = (h.0, all_more P es n h.1 k)

pairs_more : (P : Entry → Entry → Type 0) (es : List Entry) (n : Entry) → Pairs P es → All (λ e. P e n) es → Pairs P (es ++ (n ∷ []))
pairs_more P [] n h k = (tt, tt)
pairs_more P (e ∷ es) n h k = (all_more (P e) es n h.0 k.0, pairs_more P es n h.1 k.1)

Late : Entry → Entry → Entry → Type 0
Late n e x = waits e ≡ true → waits x ≡ true → is_flush x.kind ≡ true → e.run ≡ n.run → ⊥

unbroken_from_more : (e : Entry) (es : List Entry) (n : Entry) → UnbrokenFrom e es → All (Late n e) es → UnbrokenFrom e (es ++ (n ∷ []))
unfolding Late
unbroken_from_more e [] n u h = (λ _ _ _. tt, tt)
unbroken_from_more e (x ∷ es) n u h =
    (λ we wx fl. all_more (Leaves e) es n (u.0 we wx fl) (λ _ k. h.0 we wx fl k), unbroken_from_more e es n u.1 h.1)

unbroken_more : (es : List Entry) (n : Entry) → Unbroken es → Pairs (Late n) es → Unbroken (es ++ (n ∷ []))
unbroken_more [] n u h = (tt, tt)
unbroken_more (e ∷ es) n u h = (unbroken_from_more e es n u.0 h.0, unbroken_more es n u.1 h.1)

-- what is asked of a new ticket
record Accepts (es : List Entry) (n : Entry) : Type 0 where
  fits : All (λ e. Fits e n) es
  late : Pairs (Late n) es
  row : waits n ≡ true → Rowed (of_run n.run es ++ (n ∷ []))

accept_sound : (es : List Entry) (n : Entry) → Sound es → Accepts es n → Sound (es ++ (n ∷ []))
accept_sound es n s a =
    record {
      pairs = pairs_more Fits es n s.pairs a.fits;
      unbroken = unbroken_more es n s.unbroken a.late;
      rows = λ q. subst Rowed (sym (filter-append (mine q) es (n ∷ []))) (go q (mine q n) refl);
    }
  where
    go : (q : ℕ) (b : Bool) → mine q n ≡ b → Rowed (of_run q es ++ cond b (n ∷ []) [])
    go q true m =
        let p = and_parts (waits n) (eqb n.run q) m in
        subst (λ z. Rowed (of_run z es ++ (n ∷ []))) (eqb-true n.run q p.1) (a.row p.0)
    go q false m = subst Rowed (sym (append-nil (of_run q es))) (s.rows q)

late_alone : (es : List Entry) (n : Entry) → All (λ e. waits e ≡ true → e.run ≡ n.run → ⊥) es → Pairs (Late n) es
unfolding Late
late_alone [] n h = tt
late_alone (e ∷ es) n h = (each es, late_alone es n h.1)
  where
    each : (xs : List Entry) → All (λ x. waits e ≡ true → waits x ≡ true → is_flush x.kind ≡ true → e.run ≡ n.run → ⊥) xs
    each [] = tt
    each (x ∷ xs) = (λ w _ _ k. h.0 w k, each xs)

pub of_run_none : (q : ℕ) (es : List Entry) → All (λ e. waits e ≡ true → e.run ≡ q → ⊥) es → of_run q es ≡ []
of_run_none q [] h = refl
of_run_none q (e ∷ es) h = go (of_run_none q es h.1) (mine q e) refl
  where
    go : of_run q es ≡ [] → (b : Bool) → mine q e ≡ b → cond b (e ∷ of_run q es) (of_run q es) ≡ []
    go ih true m = let p = and_parts (waits e) (eqb e.run q) m in absurd (h.0 p.0 (eqb-true e.run q p.1))
    go ih false m = ih

pub alone_sound : (es : List Entry) (n : Entry) → Sound es → Alone es n → Sound (es ++ (n ∷ []))
alone_sound es n s a =
    accept_sound es n s (record {
      fits = zip _ _ (λ e. Fits e n) es
          (λ e t u. record {
            other = t;
            held = λ _ _. a.waiting;
            after = λ y _. absurd (both_ways n.ready a.waiting y);
            clean = λ _ _ j. absurd (both_ways (joined n) (not_from_true (eqb n.run n.tag) (eq-eqb n.run n.tag a.named)) j);
            fellow = λ w _ k. absurd (u w k);
          }) a.fresh a.unused;
      late = late_alone es n a.unused;
      row = λ _. subst (λ l. Rowed (l ++ (n ∷ []))) (sym (of_run_none n.run es a.unused)) (inr (n.first, n.count, done, a.short));
    })

spans_back : {es : List Entry} {f c f' c' : ℕ} (n : Entry) → Spans es f c f' c' → n.first ≡ f' + c' → Spans (es ++ (n ∷ [])) f c f' (c' + n.count)
spans_back n done h = back h done
spans_back n (back k r) h = back k (spans_back n r h)
spans_back n (front k r) h = front k (spans_back n r h)

spans_front : {es : List Entry} {f c f' c' : ℕ} (n : Entry) → Spans es f c f' c' → n.first + n.count ≡ f' → Spans (es ++ (n ∷ [])) f c n.first (c' + n.count)
spans_front n done h = front h done
spans_front n (back k r) h = back k (spans_front n r h)
spans_front n (front k r) h = front k (spans_front n r h)

row_more : (es : List Entry) (n : Entry) (f c : ℕ) → Row es f c → (n.first ≡ f + c) ⊎ (n.first + n.count ≡ f) → c + n.count ≤ 8 → Rowed (es ++ (n ∷ []))
row_more [] n f c h t k = elim h [ ]
row_more (e ∷ es) n f c h (inl t) k = inr (f, c + n.count, spans_back n h t, k)
row_more (e ∷ es) n f c h (inr t) k = inr (n.first, c + n.count, spans_front n h t, k)

pub joins_sound : (es : List Entry) (n : Entry) (f c : ℕ) → Sound es → Joins es n f c → Sound (es ++ (n ∷ []))
unfolding Late
joins_sound es n f c s a =
    accept_sound es n s (record {
      fits = zip _ _ (λ e. Fits e n) es
          (λ e t u. record { other = t; held = λ _ _. a.waiting; after = λ y _. absurd (both_ways n.ready a.waiting y); clean = λ w _ _. u.0 w; fellow = λ w _ k. let m = u.1 w k in (a.named, m.0, m.1) })
          a.fresh (zip _ _ (λ e. (waits e ≡ true → Apart e n) × (waits e ≡ true → e.run ≡ n.run → (e.kind ≡ n.kind) × (is_flush e.kind ≡ false))) es (λ e x y. (x, y)) a.apart a.same);
      late = a.late;
      row = λ _. row_more (of_run n.run es) n f c a.row a.touches a.short;
    })
