-- A flush that is oldest, and a new ticket that stands alone or joins a run, among the open tickets.
use Rattle.std.proofs.Common.{◌≡◌, ℕ, ◌+◌, ◌≤◌, true, false, cond, not, ◌&&◌, eqb, leb, List, [], ◌∷◌, ◌++◌, Some, sym, refl, ap, ◌∙◌, subst, ap₂, inl, inr}
use Rattle.std.proofs.lemmas.Bool.{true≢false, both_ways, eqb-true, eq-eqb, ne_eqb, leb-true, and_parts, and_cases, not-true, not-false, not_from_false}
use Rattle.device.specs.declared.interface.Kind.{Kind}
use Rattle.device.specs.declared.interface.Kind.TheVariants.{Read, Write, Flush}
use Rattle.device.specs.Meaning.{is_flush, longest_run}
use Rattle.device.specs.Submit.{fair_count}
use Rattle.deadline.specs.declared.dispatch.Queued.{Queued}
use Rattle.deadline.specs.declared.dispatch.Run.{Run}
use Rattle.deadline.specs.Waiting.{any, same, is_in, conflict, has_tag}
use Rattle.deadline.specs.Joining.{has_flush, past_flushes, in_run}
use Rattle.deadline.specs.Laws.{In}
use Rattle.deadline.proofs.KindFacts.{same_is}
use Rattle.deadline.proofs.Members.{in_back}
use Rattle.deadline.proofs.Lists.{any_in, not_in, any_mono}
use Rattle.deadline.proofs.Sound.{heads, strange, SoundFrom, fresh_heads}
use Rattle.deadline.proofs.Joined.{head_waits, kin, FitsIn}
use Rattle.queue.specs.Queue.{Entry, waits as is_waiting, of_run, All, Pairs, Free, Kinded}
use Rattle.queue.specs.Runs.{Spans, done, Row}
use Rattle.queue.specs.Sound as queue
use Rattle.queue.specs.Linked.{Same, Linked, ready, waits}
use Rattle.queue.proofs.Accept.{of_run_none}
use Rattle.queue.proofs.OfRun.{from_run}
use Rattle.queue.proofs.Sound.{oldest_free}
use Rattle.queue.proofs.Linking.{mine_is, apart_of, all_from, pairs_from, Two, two, one, stretch_is}

-- ── a flush that is oldest ──

pub record Lone (es : List Entry) (z : Queued) : Type 0 where
  pub entry : Entry
  pub oldest : queue.oldest es ≡ Some entry
  pub same_as : Same entry z
  pub alone : of_run z.head es ≡ entry ∷ []
  pub proper : (size : ℕ) → All (queue.Proper size) es → queue.Proper size entry

flush_run : {es : List Entry} {z : Queued} {zs : List Queued} → Linked es (z ∷ zs) → Pairs queue.Fits es → is_flush z.kind ≡ true → Lone es z
flush_run {z = z} (ready {e} {es} w l) p f =
    let r = flush_run l p.1 f in
    record {
      entry = r.entry;
      oldest = ap (λ b. cond b (queue.oldest es) (Some e)) w ∙ r.oldest;
      same_as = r.same_as;
      alone = ap (λ b. cond (not b && eqb e.run z.head) (e ∷ of_run z.head es) (of_run z.head es)) w ∙ r.alone;
      proper = λ size a. r.proper size a.1;
    }
flush_run {z = z} (waits {e} {es = es} w s l) p f = record {
  entry = e;
  oldest = ap (λ b. cond b (queue.oldest es) (Some e)) w;
  same_as = s;
  alone =
      ap (λ b. cond b (e ∷ of_run z.head es) (of_run z.head es)) (mine_is z.head e z w s ∙ eq-eqb z.head z.head refl)
      ∙ ap (λ l. e ∷ l) (of_run_none z.head es (others es p.0));
  proper = λ size a. a.0;
}
  where
    others : (xs : List Entry) → All (queue.Fits e) xs → All (λ x. is_waiting x ≡ true → x.run ≡ z.head → ⊥) xs
    others [] a = tt
    others (x ∷ xs) a = (
      λ wx h. both_ways (is_flush e.kind) (a.0.fellow (not_from_false e.ready w) wx (s.run ∙ sym h)).2 (ap is_flush s.kind ∙ f),
      others xs a.1,
    )

pub record Flushes (es : List Entry) (z : Queued) : Type 0 where
  pub free : Free z.head es
  pub kinded : Kinded z.head Flush es
  pub row : Row (of_run z.head es) 0 0

is_flush_kind : (k : Kind) → is_flush k ≡ true → k ≡ Flush
is_flush_kind Read h = absurd (true≢false (sym h))
is_flush_kind Write h = absurd (true≢false (sym h))
is_flush_kind Flush h = refl

pub flushes : (size : ℕ) (es : List Entry) (z : Queued) (zs : List Queued) → Linked es (z ∷ zs) → queue.Sound es → All (queue.Proper size) es → is_flush z.kind ≡ true → Flushes es z
flushes size es z zs l s p f = record {
  free = subst (λ r. Free r es) o.same_as.run (oldest_free es o.entry s o.oldest);
  kinded = from_run (λ x. x.kind ≡ Flush) z.head es (subst (All (λ x. x.kind ≡ Flush)) (sym o.alone) (kind_is, tt));
  row = subst (λ xs. Row xs 0 0) (sym o.alone) (subst (λ n. Spans [] n o.entry.count 0 0) (sym empty.0) (subst (λ n. Spans [] 0 n 0 0) (sym empty.1) done));
}
  where
    o : Lone es z
    o = flush_run l s.pairs f

    kind_is : o.entry.kind ≡ Flush
    kind_is = is_flush_kind o.entry.kind (ap is_flush o.same_as.kind ∙ f)

    fair : (eqb o.entry.first 0 && eqb o.entry.count 0) ≡ true
    fair = subst (λ k. fair_count k o.entry.first o.entry.count ≡ true) kind_is (o.proper size p).count

    empty : (o.entry.first ≡ 0) × (o.entry.count ≡ 0)
    empty = let a = and_parts (eqb o.entry.first 0) (eqb o.entry.count 0) fair in (eqb-true o.entry.first 0 a.0, eqb-true o.entry.count 0 a.1)

-- ── a new ticket ──

past_at : (r : ℕ) (pre : List Queued) (q : Queued) (post : List Queued) → past_flushes r (pre ++ (q ∷ post)) ≡ true → is_in r q ≡ true → has_flush post ≡ false
past_at r [] q post h i =
    let n = not-true (is_in r q && has_flush post) (and_parts (not (is_in r q && has_flush post)) (past_flushes r post) h).0 in
    elim (and_cases (is_in r q) (has_flush post) n) [ inl e ↦ absurd (both_ways (is_in r q) e i) | inr e ↦ e ]
past_at r (x ∷ pre) q post h i = past_at r pre q post (and_parts (not (is_in r x && has_flush (pre ++ (q ∷ post)))) (past_flushes r (pre ++ (q ∷ post))) h).1 i

module _ (es : List Entry) (ws : List Queued) (x : Queued) (l : Linked es ws) (sound : SoundFrom [] ws) (fresh : has_tag x.tag ws ≡ false) where
  pub stands_alone : (n : Entry) → n.ready ≡ false → n.run ≡ n.tag → n.tag ≡ x.tag → n.count ≤ longest_run → All (λ e. e.tag ≡ n.tag → ⊥) es → queue.Alone es n
  stands_alone n w own tag short others = record {
    waiting = w;
    named = own;
    short = short;
    fresh = others;
    unused = all_from _ es (λ mid e post h we k.
        let q = one es mid e post h l (not-true e.ready we) in
        both_ways (is_in x.tag q.0) (not_in (is_in x.tag) q.0 ws q.2 (fresh_heads x.tag [] ws sound refl fresh))
        (eq-eqb q.0.head x.tag (sym q.1.run ∙ k ∙ own ∙ tag)));
  }

  pub joins_run : (n : Entry) (q : Run) → queue.Sound es → any (conflict x) ws ≡ false → FitsIn ws x q → n.ready ≡ false → n.run ≡ q.name → Same n (in_run x q.name) →
      All (λ e. e.tag ≡ n.tag → ⊥) es → queue.Joins es n q.begins q.count
  unfolding conflict
  joins_run n q s free fits w run same_as others = record {
    waiting = w;
    named = not_from_false (eqb n.run n.tag) (ne_eqb n.run n.tag (λ e. both_ways (has_tag x.tag ws) fresh (used (sym run ∙ e ∙ same_as.tag))));
    short = subst (λ c. q.count + c ≤ longest_run) (sym same_as.count) (leb-true (q.count + x.count) longest_run (and_parts (leb (q.count + x.count) longest_run) (past_flushes q.name ws) room.1).0);
    fresh = others;
    apart = all_from _ es (λ mid e post h we.
        let o = one es mid e post h l (not-true e.ready we) in
        apart_of e n o.0 (in_run x q.name) o.1 same_as (not_in (conflict x) o.0 ws o.2 free));
    same = all_from _ es (λ mid e post h we k.
        let o = one es mid e post h l (not-true e.ready we) in
        kinds e o.0 o.1 o.2 k);
    late = pairs_from _ es (λ pre e mid y post h we wy fl k.
        let t = two es pre e mid y post h l (not-true e.ready we) (not-true y.ready wy) in
        flush_between e y t fl k);
    row = subst (λ r. Row (of_run r es) q.begins q.count) (sym run) (stretch_is es ws q l s fits.0).0;
    touches = elim fits.2 [
      | inl e ↦ inl (same_as.first ∙ sym e)
      | inr e ↦ inr (ap₂ ◌+◌ same_as.first same_as.count ∙ e)
    ];
  }
    where
      room : (same q.kind x.kind ≡ true) × ((leb (q.count + x.count) longest_run && past_flushes q.name ws) ≡ true)
      room = and_parts (same q.kind x.kind) (leb (q.count + x.count) longest_run && past_flushes q.name ws) fits.1

      kind_is : q.kind ≡ x.kind
      kind_is = same_is q.kind x.kind room.0

      used : q.name ≡ x.tag → has_tag x.tag ws ≡ true
      used e = any_mono (heads q.name) (λ y. eqb y.tag x.tag) (λ y h. rw (← e) (and_parts (eqb y.tag q.name) (eqb y.head q.name) h).0) ws (head_waits ws q fits.0)

      kinds : (e : Entry) (o : Queued) → Same e o → In o ws → e.run ≡ n.run → (e.kind ≡ n.kind) × (is_flush e.kind ≡ false)
      kinds e o so i k =
          let own : is_in q.name o ≡ true = eq-eqb o.head q.name (sym so.run ∙ k ∙ run) in
          let m : not (same o.kind q.kind && not (is_flush q.kind)) ≡ false = rw own at (not_in (strange q.name q.kind) o ws i (kin ws q sound fits.0)) in
          let p = and_parts (same o.kind q.kind) (not (is_flush q.kind)) (not-false (same o.kind q.kind && not (is_flush q.kind)) m) in
          let same_kind : o.kind ≡ q.kind = same_is o.kind q.kind p.0 in
          (so.kind ∙ same_kind ∙ kind_is ∙ sym same_as.kind, ap is_flush (so.kind ∙ same_kind) ∙ not-true (is_flush q.kind) p.1)

      flush_between : (e y : Entry) → Two ws e y → is_flush y.kind ≡ true → e.run ≡ n.run → ⊥
      flush_between e y t fl k =
          let own : is_in q.name t.qe ≡ true = eq-eqb t.qe.head q.name (sym t.first.run ∙ k ∙ run) in
          let past : past_flushes q.name (t.older ++ (t.qe ∷ (t.between ++ (t.qx ∷ t.younger)))) ≡ true =
          subst (λ vs. past_flushes q.name vs ≡ true) t.stands (and_parts (leb (q.count + x.count) longest_run) (past_flushes q.name ws) room.1).1 in
          both_ways (has_flush (t.between ++ (t.qx ∷ t.younger))) (past_at q.name t.older t.qe (t.between ++ (t.qx ∷ t.younger)) past own)
          (any_in (λ z. is_flush z.kind) t.qx (t.between ++ (t.qx ∷ t.younger)) (in_back t.qx t.between (t.qx ∷ t.younger) (inl refl)) (ap is_flush (sym t.second.kind) ∙ fl))
