-- What the deadline rules say of the waiting tickets, for the open tickets of an elevator.
use Rattle.std.proofs.Common.{◌≡◌, ℕ, ◌+◌, ◌≤◌, min, Bool, true, false, cond, not, ◌&&◌, ◌||◌, eqb, ltb, leb, ◌⊎◌, List, [], ◌∷◌, ◌++◌, sym, refl, ap, ◌∙◌, subst, ap₂, inl, inr, append_assoc, arith}
use Rattle.std.proofs.lemmas.Bool.{both_ways, eq-eqb, leb-true, ltb-true, lt-ltb, or_cases, or_parts, or_from, and_parts, and_from, and_cases, not-true, not-false}
use Rattle.device.specs.declared.interface.Kind.{Kind}
use Rattle.device.specs.Meaning.{is_write, is_flush, longest_run}
use Rattle.deadline.specs.declared.dispatch.Queued.{Queued}
use Rattle.deadline.specs.declared.dispatch.Run.{Run}
use Rattle.deadline.specs.Waiting.{any, same, end, is_in, share_a_sector, conflict, lowest_sector, sectors, run_of, before_flushes, unhindered, free}
use Rattle.deadline.specs.Laws.{In, IsFree}
use Rattle.deadline.proofs.KindFacts.{same_is}
use Rattle.deadline.proofs.Members.{in_back}
use Rattle.deadline.proofs.Sound.{strange, SoundFrom}
use Rattle.deadline.proofs.Joined.{OfHead, kin}
use Rattle.deadline.proofs.FreeMeans.{free_means}
use Rattle.queue.specs.Queue.{Entry, waits as is_waiting, mine, of_run, All, Pairs, Apart, Free, Kinded}
use Rattle.queue.specs.Runs.{Spans, done, back, front, Row}
use Rattle.queue.specs.Sound as queue
use Rattle.queue.specs.Linked.{Same, Linked, none, ready, waits}
use Rattle.queue.proofs.Runs.{spans_within, row_each}
use Rattle.queue.proofs.OfRun.{from_run, every}
use Rattle.queue.proofs.ByHead.{by_head}

-- ── parts of linked lists ──

pub linked_parts : (xs ys : List Entry) {ws : List Queued} → Linked (xs ++ ys) ws → (a : List Queued) × (b : List Queued) × (ws ≡ a ++ b) × Linked xs a × Linked ys b
linked_parts [] ys {ws} l = ([], ws, refl, none, l)
linked_parts (x ∷ xs) ys (ready w r) = let p = linked_parts xs ys r in (p.0, p.1, p.2, ready w p.3, p.4)
linked_parts (x ∷ xs) ys (waits {q = q} w s r) = let p = linked_parts xs ys r in (q ∷ p.0, p.1, ap (λ l. q ∷ l) p.2, waits w s p.3, p.4)

pub linked_first : {e : Entry} {es : List Entry} {ws : List Queued} → Linked (e ∷ es) ws → e.ready ≡ false → (q : Queued) × (qs : List Queued) × (ws ≡ q ∷ qs) × Same e q × Linked es qs
linked_first {e} (ready w r) h = absurd (both_ways e.ready h w)
linked_first (waits {q = q} {ws = ws} w s r) h = (q, ws, refl, s, r)

-- of the run by one is of the run by the other
pub mine_is : (r : ℕ) (e : Entry) (q : Queued) → e.ready ≡ false → Same e q → mine r e ≡ is_in r q
mine_is r e q w s = ap₂ (λ b n. not b && eqb n r) w s.run

-- ── no conflict means apart ──

pub apart_of : (e x : Entry) (qe qx : Queued) → Same e qe → Same x qx → conflict qx qe ≡ false → Apart e x
unfolding conflict
apart_of e x qe qx se sx h s he hx =
    let a = and_parts (leb e.first s) (ltb s (e.first + e.count)) he in
    let b = and_parts (leb x.first s) (ltb s (x.first + x.count)) hx in
    let el = leb-true e.first s a.0 in
    let eh = ltb-true s (e.first + e.count) a.1 in
    let xl = leb-true x.first s b.0 in
    let xh = ltb-true s (x.first + x.count) b.1 in
    let ef = se.first in
    let ec = se.count in
    let xf = sx.first in
    let xc = sx.count in
    let u = lt-ltb qx.first (qe.first + qe.count) (omega arith) in
    let v = lt-ltb qe.first (qx.first + qx.count) (omega arith) in
    both (and_cases (share_a_sector qx qe) (is_write qx.kind || is_write qe.kind) h) (and_from (ltb qx.first (end qe)) (ltb qe.first (end qx)) u v)
  where
    both : (share_a_sector qx qe ≡ false) ⊎ ((is_write qx.kind || is_write qe.kind) ≡ false) → share_a_sector qx qe ≡ true → (is_write e.kind || is_write x.kind) ≡ false
    both (inl n) y = absurd (both_ways (share_a_sector qx qe) n y)
    both (inr n) y =
        let p = or_parts (is_write qx.kind) (is_write qe.kind) n in
        or_from (is_write e.kind) (is_write x.kind) (ap is_write se.kind ∙ p.1) (ap is_write sx.kind ∙ p.0)

-- ── from every two places of a list ──

pub all_from : (Q : Entry → Type 0) (es : List Entry) → ((mid : List Entry) (x : Entry) (post : List Entry) → es ≡ mid ++ (x ∷ post) → Q x) → All Q es
all_from Q [] f = tt
all_from Q (e ∷ es) f = (f [] e es refl, all_from Q es (λ mid x post h. f (e ∷ mid) x post (ap (λ l. e ∷ l) h)))

pub pairs_from : (P : Entry → Entry → Type 0) (es : List Entry) →
    ((pre : List Entry) (e : Entry) (mid : List Entry) (x : Entry) (post : List Entry) → es ≡ pre ++ (e ∷ (mid ++ (x ∷ post))) → P e x) → Pairs P es
pairs_from P [] f = tt
pairs_from P (e ∷ es) f = (
  all_from (P e) es (λ mid x post h. f [] e mid x post (ap (λ l. e ∷ l) h)),
  pairs_from P es (λ pre y mid x post h. f (e ∷ pre) y mid x post (ap (λ l. e ∷ l) h)),
)

-- two waiting tickets of the list, the older first, as the deadline rules have them
pub record Two (ws : List Queued) (e x : Entry) : Type 0 where
  pub older : List Queued
  pub qe : Queued
  pub between : List Queued
  pub qx : Queued
  pub younger : List Queued
  pub stands : ws ≡ older ++ (qe ∷ (between ++ (qx ∷ younger)))
  pub first : Same e qe
  pub second : Same x qx

pub two : (es pre : List Entry) (e : Entry) (mid : List Entry) (x : Entry) (post : List Entry) {ws : List Queued} → es ≡ pre ++ (e ∷ (mid ++ (x ∷ post))) → Linked es ws →
    e.ready ≡ false → x.ready ≡ false → Two ws e x
two es pre e mid x post {ws} h l we wx =
    let p = linked_parts pre (e ∷ (mid ++ (x ∷ post))) (subst (λ ys. Linked ys ws) h l) in
    let f = linked_first p.4 we in
    let m = linked_parts mid (x ∷ post) f.4 in
    let g = linked_first m.4 wx in
    record {
      older = p.0;
      qe = f.0;
      between = m.0;
      qx = g.0;
      younger = g.1;
      stands = cc (p.2, f.2, m.2, g.2);
      first = f.3;
      second = g.3;
    }

-- one waiting ticket of the list
pub one : (es mid : List Entry) (x : Entry) (post : List Entry) {ws : List Queued} → es ≡ mid ++ (x ∷ post) → Linked es ws → x.ready ≡ false → (q : Queued) × Same x q × In q ws
one es mid x post {ws} h l w =
    let m = linked_parts mid (x ∷ post) (subst (λ ys. Linked ys ws) h l) in
    let g = linked_first m.4 w in
    (g.0, g.3, subst (In g.0) (sym (m.2 ∙ ap (λ l. m.0 ++ l) g.2)) (in_back g.0 m.0 (g.0 ∷ g.1) (inl refl)))

-- ── a free run is free ──

unconflicted : (r : ℕ) (es : List Entry) (ws : List Queued) → Linked es ws → IsFree ws r → queue.Unconflicted r es
unconflicted r es ws l f = pairs_from _ es (λ pre e mid x post h we me mx. apart pre e mid x post h we me mx)
  where
    apart : (pre : List Entry) (e : Entry) (mid : List Entry) (x : Entry) (post : List Entry) → es ≡ pre ++ (e ∷ (mid ++ (x ∷ post))) → is_waiting e ≡ true → mine r e ≡ false → mine r x ≡ true → Apart e x
    apart pre e mid x post h we me mx =
        let re = not-true e.ready we in
        let rx = not-true x.ready (and_parts (is_waiting x) (eqb x.run r) mx).0 in
        let t = two es pre e mid x post h l re rx in
        apart_of e x t.qe t.qx t.first t.second
        (f.apart (t.older ++ (t.qe ∷ t.between)) t.qx t.younger (t.stands ∙ sym (append_assoc t.older (t.qe ∷ t.between) (t.qx ∷ t.younger)))
        (sym (mine_is r x t.qx rx t.second) ∙ mx) t.qe (in_back t.qe t.older (t.qe ∷ t.between) (inl refl)) (sym (mine_is r e t.qe re t.first) ∙ me))

unflushed : (r : ℕ) {es : List Entry} {ws : List Queued} → Linked es ws → before_flushes r ws ≡ true → queue.Unflushed r es
unflushed r none h = tt
unflushed r (ready {e} w l) h = λ m. (λ y. absurd (both_ways e.ready (not-true e.ready y) w), unflushed r l h)
unflushed r (waits {e} {q} {ws = qs} w s l) h = λ m.
    let p = past m (or_cases (is_in r q) (not (is_flush q.kind) && before_flushes r qs) h) in
    (λ y. ap is_flush s.kind ∙ not-true (is_flush q.kind) p.0, unflushed r l p.1)
  where
    past : mine r e ≡ false → (is_in r q ≡ true) ⊎ ((not (is_flush q.kind) && before_flushes r qs) ≡ true) → (not (is_flush q.kind) ≡ true) × (before_flushes r qs ≡ true)
    past m (inl y) = absurd (both_ways (mine r e) m (mine_is r e q w s ∙ y))
    past m (inr y) = and_parts (not (is_flush q.kind)) (before_flushes r qs) y

-- the tickets of a run are of its kind
pub kinded : (r : ℕ) (k : Kind) {es : List Entry} {ws : List Queued} → Linked es ws → any (strange r k) ws ≡ false → Kinded r k es
kinded r k none h = tt
kinded r k (ready {e} w l) h = (λ m. absurd (both_ways e.ready (not-true e.ready (and_parts (is_waiting e) (eqb e.run r) m).0) w), kinded r k l h)
kinded r k (waits {e} {q} {ws = qs} w s l) h =
    let p = or_parts (strange r k q) (any (strange r k) qs) h in (
      λ m.
          let i : is_in r q ≡ true = sym (mine_is r e q w s) ∙ m in
          let n : not (same q.kind k && not (is_flush k)) ≡ false = rw i at p.0 in
          s.kind ∙ same_is q.kind k (and_parts (same q.kind k) (not (is_flush k)) (not-false (same q.kind k && not (is_flush k)) n)).0,
      kinded r k l p.1,
    )

-- ── where a run lies ──

abbrev low : ℕ → List Entry → ℕ
low s [] = s
low s (e ∷ es) = low (min s e.first) es

abbrev total : List Entry → ℕ
total [] = 0
total (e ∷ es) = e.count + total es

low_is : (r s : ℕ) {es : List Entry} {ws : List Queued} → Linked es ws → lowest_sector r s ws ≡ low s (of_run r es)
low_is r s none = refl
low_is r s (ready {e} {es} w l) = low_is r s l ∙ sym (ap (λ b. low s (cond (not b && eqb e.run r) (e ∷ of_run r es) (of_run r es))) w)
low_is r s (waits {e} {q} {es} {ws = qs} w t l) = go (λ n. low_is r n l) (is_in r q) refl
  where
    go : ((n : ℕ) → lowest_sector r n qs ≡ low n (of_run r es)) → (b : Bool) → is_in r q ≡ b → lowest_sector r (cond (is_in r q) (min s q.first) s) qs ≡ low s (cond (mine r e) (e ∷ of_run r es) (of_run r es))
    go ih true i =
        ap (λ b. lowest_sector r (cond b (min s q.first) s) qs) i
        ∙ ih (min s q.first)
        ∙ ap (λ n. low (min s n) (of_run r es)) (sym t.first)
        ∙ sym (ap (λ b. low s (cond b (e ∷ of_run r es) (of_run r es))) (mine_is r e q w t ∙ i))
    go ih false i =
        ap (λ b. lowest_sector r (cond b (min s q.first) s) qs) i
        ∙ ih s
        ∙ sym (ap (λ b. low s (cond b (e ∷ of_run r es) (of_run r es))) (mine_is r e q w t ∙ i))

total_is : (r : ℕ) {es : List Entry} {ws : List Queued} → Linked es ws → sectors r ws ≡ total (of_run r es)
total_is r none = refl
total_is r (ready {e} {es} w l) = total_is r l ∙ sym (ap (λ b. total (cond (not b && eqb e.run r) (e ∷ of_run r es) (of_run r es))) w)
total_is r (waits {e} {q} {es} {ws = qs} w t l) = go (is_in r q) refl (total_is r l)
  where
    go : (b : Bool) → is_in r q ≡ b → sectors r qs ≡ total (of_run r es) → cond (is_in r q) q.count 0 + sectors r qs ≡ total (cond (mine r e) (e ∷ of_run r es) (of_run r es))
    go true i ih =
        ap (λ b. cond b q.count 0 + sectors r qs) i ∙ ap₂ ◌+◌ (sym t.count) ih
        ∙ sym (ap (λ b. total (cond b (e ∷ of_run r es) (of_run r es))) (mine_is r e q w t ∙ i))
    go false i ih =
        ap (λ b. cond b q.count 0 + sectors r qs) i ∙ (let k = ih in omega arith)
        ∙ sym (ap (λ b. total (cond b (e ∷ of_run r es) (of_run r es))) (mine_is r e q w t ∙ i))

-- the tickets of a stretch: where it begins, and how long it is
spans_low : {es : List Entry} {f c f' c' : ℕ} (g : ℕ) → Spans es f c f' c' → f' ≤ g → g ≤ f → low g es ≡ f'
spans_low g done a b = omega arith
spans_low {f = f} {c = c} g (back {e} {es} h r) a b = ap (λ n. low n es) {x = min g e.first} {y = g} (omega arith) ∙ spans_low g r a b
spans_low g (front {e} {es} h r) a b = let k = spans_within r in spans_low (min g e.first) r (omega arith) (omega arith)

spans_total : {es : List Entry} {f c f' c' : ℕ} → Spans es f c f' c' → c + total es ≡ c'
spans_total done = omega arith
spans_total (back h r) = let k = spans_total r in omega arith
spans_total (front h r) = let k = spans_total r in omega arith

row_low : (es : List Entry) (f c s : ℕ) → Row es f c → f ≤ s → low s es ≡ f
row_low [] f c s h k = absurd h
row_low (e ∷ es) f c s h k = let a = (row_each (e ∷ es) f c h).0.0 in spans_low (min s e.first) h (omega arith) (omega arith)

row_total : (es : List Entry) (f c : ℕ) → Row es f c → total es ≡ c
row_total [] f c h = absurd h
row_total (e ∷ es) f c h = spans_total h

-- a queued ticket of the run has its entry there
entry_of_queued : (r : ℕ) (P : ℕ → Type 0) {es : List Entry} {ws : List Queued} → Linked es ws → All (λ e. mine r e ≡ true → P e.first) es → (h : Queued) → In h ws → is_in r h ≡ true → P h.first
entry_of_queued r P none a h i k = absurd i
entry_of_queued r P (ready w l) a h i k = entry_of_queued r P l a.1 h i k
entry_of_queued r P (waits {e} {q} w s l) a h (inl same_one) k =
    subst P (s.first ∙ ap (λ x. x.first) (sym same_one)) (a.0 (mine_is r e q w s ∙ ap (is_in r) (sym same_one) ∙ k))
entry_of_queued r P (waits w s l) a h (inr i) k = entry_of_queued r P l a.1 h i k

-- a run that has a waiting ticket has an entry
some_mine : (r : ℕ) {es : List Entry} {ws : List Queued} → Linked es ws → (h : Queued) → In h ws → is_in r h ≡ true → of_run r es ≡ [] → ⊥
some_mine r none h i k e = i
some_mine r (ready {e = x} {es} w l) h i k e = some_mine r l h i k (sym (ap (λ b. cond (not b && eqb x.run r) (x ∷ of_run r es) (of_run r es)) w) ∙ e)
some_mine r (waits {e = x} {q} {es} {ws = qs} w s l) h i k e = go (mine r x) refl e (λ j f. some_mine r l h j k f) i
  where
    go : (b : Bool) → mine r x ≡ b → cond b (x ∷ of_run r es) (of_run r es) ≡ [] → (In h qs → of_run r es ≡ [] → ⊥) → (h ≡ q) ⊎ (In h qs) → ⊥
    go true m f ih j = cc
    go false m f ih (inl same_one) = both_ways (mine r x) m (mine_is r x q w s ∙ ap (is_in r) (sym same_one) ∙ k)
    go false m f ih (inr j) = ih j f

-- the stretch of a waiting run is the one that the rules give it, and no longer than a run may be
pub stretch_is : (es : List Entry) (ws : List Queued) (q : Run) → Linked es ws → queue.Sound es → OfHead ws q → Row (of_run q.name es) q.begins q.count × (q.count ≤ longest_run)
unfolding run_of
stretch_is es ws q l s o = subst (λ x. Row (of_run x.name es) x.begins x.count × (x.count ≤ longest_run)) (sym o.run_is) (go (s.rows r))
  where
    h : Queued
    h = o.head

    r : ℕ
    r = h.head

    inside : In h ws
    inside = subst (In h) (sym o.stands) (in_back h o.older (h ∷ o.younger) (inl refl))

    own : is_in r h ≡ true
    own = eq-eqb h.head r refl

    go : queue.Rowed (of_run r es) → Row (of_run r es) (lowest_sector r h.first ws) (sectors r ws) × (sectors r ws ≤ longest_run)
    go (inl e) = absurd (some_mine r l h inside own e)
    go (inr p) =
        let f = p.0 in
        let c = p.1 in
        let row = p.2 in
        let above : f ≤ h.first = entry_of_queued r (λ n. f ≤ n) l (every (λ e. mine r e ≡ true → (f ≤ e.first) × (e.first + e.count ≤ f + c)) (λ e. mine r e ≡ true → f ≤ e.first) es (λ e a m. (a m).0) (from_run _ r es (row_each (of_run r es) f c row))) h inside own in
        let lo : lowest_sector r h.first ws ≡ f = low_is r h.first l ∙ row_low (of_run r es) f c h.first row above in
        let co : sectors r ws ≡ c = total_is r l ∙ row_total (of_run r es) f c row in
        (subst (λ n. Row (of_run r es) n (sectors r ws)) (sym lo) (subst (λ n. Row (of_run r es) f n) (sym co) row), subst (λ n. n ≤ longest_run) (sym co) p.3)

-- a free run of the rules is free among the open tickets, and of one kind
pub free_run : (es : List Entry) (ws : List Queued) (q : Run) → Linked es ws → queue.Sound es → SoundFrom [] ws → OfHead ws q → free ws q.name ≡ true → Free q.name es × Kinded q.name q.kind es
unfolding free run_of
free_run es ws q l s sound o f =
    let k = kinded q.name q.kind l (kin ws q sound o) in
    (by_head q.name q.kind es s k solid (unconflicted q.name es ws l ((free_means ws q.name).0 f)) (unflushed q.name l (and_parts (unhindered q.name [] ws) (before_flushes q.name ws) f).1), k)
  where
    solid : is_flush q.kind ≡ false
    solid = subst (λ x. is_flush x.kind ≡ false) (sym o.run_is) (not-true (is_flush o.head.kind) (and_parts (eqb o.head.tag o.head.head) (not (is_flush o.head.kind)) o.heads).1)
