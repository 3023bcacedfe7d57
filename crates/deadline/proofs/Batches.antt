-- A batch serves few runs, of one kind, in rising order; and a flush closes it.
use Rattle.std.proofs.Common.{◌≡◌, ℕ, suc, ◌+◌, ◌<◌, ◌≤◌, cond, List, [], ◌∷◌, map, length, sym, refl, ap, ◌∙◌, subst, arith}
use Rattle.device.specs.declared.interface.Kind.{Kind}
use Rattle.device.specs.declared.interface.Kind.TheVariants.{Read, Write, Flush}
use Rattle.device.specs.Meaning.{is_read, is_write}
use Rattle.deadline.specs.Settings.{Settings}
use Rattle.deadline.specs.Waiting.{Run, ends}
use Rattle.deadline.specs.Turn.{State, set_up, position, Batch, closed, reading, writing, passes_down, goes_on, begins_with, one_more, opened, after, at_tick, turned}
use Rattle.deadline.specs.Events.{Event, following, dispatched}
use Rattle.deadline.specs.Laws.{Open, NextKind, ByTheRules, AllOf, Rising, ABatch, BatchesAreShortAndRising, FlushesCloseTheBatch}
use Rattle.deadline.proofs.Reached.{Good, good_turned}
use Rattle.deadline.proofs.Overtaking.{good_always}
use Rattle.deadline.proofs.Dispatches.{Alike, FirstDispatch, first_dispatch, rules_at, serves_as}

-- the runs with which a batch goes on, from the positions of the two kinds
abbrev Continues : ℕ → (reads writes : ℕ) → Batch → List Run → Type 0
Continues F r w closed rs = rs ≡ []
Continues F r w (reading n) rs = (n ≤ F → n + length rs ≤ F) × AllOf Read rs × Rising r rs
Continues F r w (writing n) rs = (n ≤ F → n + length rs ≤ F) × AllOf Write rs × Rising w rs

none_more : (F r w : ℕ) (b : Batch) → Continues F r w b []
none_more F r w closed = refl
none_more F r w (reading n) = (λ h. omega arith, tt, tt)
none_more F r w (writing n) = (λ h. omega arith, tt, tt)

one_more_run : (F n l : ℕ) → n < F → (n + 1 ≤ F → n + 1 + l ≤ F) → n ≤ F → n + suc l ≤ F
one_more_run F n l h f k = let i = f (omega arith) in omega arith

grows : (st : Settings) (s : State) (q : Run) (qs : List Run) (b : Batch) → Open st b q.kind → position q.kind s ≤ q.begins →
    Continues st.fifo_batch (cond (is_read q.kind) (ends q) s.read_position) (cond (is_write q.kind) (ends q) s.write_position) (one_more b) qs →
    Continues st.fifo_batch s.read_position s.write_position b (q ∷ qs)
grows st s q qs closed o p c = absurd o
grows st s q qs (reading n) o p c =
    (one_more_run st.fifo_batch n (length qs) o.1 c.0, (o.0, c.1), (rw o.0 at p, rw o.0 at c.2))
grows st s q qs (writing n) o p c =
    (one_more_run st.fifo_batch n (length qs) o.1 c.0, (o.0, c.1), (rw o.0 at p, rw o.0 at c.2))

-- the same by the positions and the batch of a state
abbrev ContinuesAt : Settings → State → List Run → Type 0
ContinuesAt st s rs = Continues st.fifo_batch s.read_position s.write_position s.batch rs

continues_alike : (st : Settings) (s t : State) (rs : List Run) → Alike s t → ContinuesAt st t rs → ContinuesAt st s rs
continues_alike st s t rs a c =
    subst (λ b. Continues st.fifo_batch s.read_position s.write_position b rs) a.batch
    (subst (λ p. Continues st.fifo_batch s.read_position p t.batch rs) a.writes
    (subst (λ p. Continues st.fifo_batch p t.write_position t.batch rs) a.reads c))

pub continues : (st : Settings) (rs : List Run) (es : List Event) (s : State) → Good s → dispatched st s es ≡ map goes_on rs → ContinuesAt st s rs
unfolding after
continues st [] es s g e = none_more st.fifo_batch s.read_position s.write_position s.batch
continues st (q ∷ qs) es s g e =
    let d = first_dispatch st es s (goes_on q) (map goes_on qs) g e in
    let t = d.found in
    let h : ByTheRules st (at_tick t d.told) (goes_on q) = subst (ByTheRules st (at_tick t d.told)) d.serves (rules_at st t d.told d.good) in
    let left = serves_as st t d.told (goes_on q) d.good d.serves (λ e. cc) in
    let ih = continues st qs d.later (turned st t d.told) (good_turned st t d.told d.good) d.rest in
    continues_alike st s t (q ∷ qs) d.alike
    (grows st t q qs t.batch h.1.open_batch (past_position t d.told q h.1.lowest.past) (subst (λ u. ContinuesAt st u qs) left ih))
  where
    past_position : (t : State) (told : ℕ) (r : Run) → position r.kind (at_tick t told) ≤ r.begins → position r.kind t ≤ r.begins
    past_position t told r h = go r.kind h
      where
        go : (k : Kind) → position k (at_tick t told) ≤ r.begins → position k t ≤ r.begins
        go Read i = i
        go Write i = i
        go Flush i = i

-- a batch that has just begun with r, by its kind
begun_with : (st : Settings) (t : State) (r : Run) (rs : List Run) → 1 ≤ st.fifo_batch → (k : Kind) → r.kind ≡ k → NextKind st t k →
    Continues st.fifo_batch (cond (is_read k) (ends r) t.read_position) (cond (is_write k) (ends r) t.write_position) (opened k) rs → ABatch st r rs
begun_with st t r rs f Flush e n c = absurd n
begun_with st t r rs f Read e n c = record { few = let i = c.0 f in omega arith; one_kind = subst (λ k. AllOf k rs) (sym e) c.1; rising = c.2 }
begun_with st t r rs f Write e n c = record { few = let i = c.0 f in omega arith; one_kind = subst (λ k. AllOf k rs) (sym e) c.1; rising = c.2 }

pub batches : BatchesAreShortAndRising
unfolding after
batches st w past es r rs e = begun_with st (at_tick t d.told) r rs w.some_run r.kind refl rules.1.next_kind more
  where
    s : State
    s = following st set_up past

    d : FirstDispatch st s (begins_with r) (map goes_on rs)
    d = first_dispatch st es s (begins_with r) (map goes_on rs) (good_always st past) e

    t : State
    t = d.found

    rules : ByTheRules st (at_tick t d.told) (begins_with r)
    rules = subst (ByTheRules st (at_tick t d.told)) d.serves (rules_at st t d.told d.good)

    more : ContinuesAt st (after (at_tick t d.told) (begins_with r)) rs
    more =
        subst (λ u. ContinuesAt st u rs) (serves_as st t d.told (begins_with r) d.good d.serves (λ e. cc))
        (continues st rs d.later (turned st t d.told) (good_turned st t d.told d.good) d.rest)

pub flushes_close : FlushesCloseTheBatch
unfolding after
flushes_close st w past es t r cs e =
    let d = first_dispatch st es (following st set_up past) (passes_down t) (goes_on r ∷ cs) (good_always st past) e in
    let u = turned st d.found d.told in
    let shut : u.batch ≡ closed = ap (λ v. v.batch) (serves_as st d.found d.told (passes_down t) d.good d.serves (λ e. cc)) in
    let f = first_dispatch st d.later u (goes_on r) cs (good_turned st d.found d.told d.good) d.rest in
    let h : ByTheRules st (at_tick f.found f.told) (goes_on r) = subst (ByTheRules st (at_tick f.found f.told)) f.serves (rules_at st f.found f.told f.good) in
    subst (λ b. Open st b r.kind) (f.alike.batch ∙ shut) h.1.open_batch
