-- What a device that was sent a list of calls keeps.
use Rattle.std.proofs.Common.{◌≡◌, ℕ, ◌+◌, Bool, true, false, eqb, List, [], ◌∷◌, ◌++◌, length, drop, Some, None, Ok, sym, refl, ap, ◌∙◌, subst, arith}
use Rattle.std.proofs.lemmas.Bool.{eqb-true, eq-eqb, true≢false}
use Rattle.device.specs.Told.{Told}
use Rattle.device.specs.Told as told
use Rattle.device.specs.declared.interface.Kind.{Kind}
use Rattle.device.specs.declared.interface.Kind.TheVariants.{Read}
use Rattle.device.specs.declared.interface.Request.{Request}
use Rattle.device.specs.Meaning.{Meaning, Ticket, part, bytes_of, mask_of}
use Rattle.device.specs.Numbers.{kind_of}
use Rattle.device.specs.Submit.{ticket_of, due_bytes, tag_is_open}
use Rattle.device.specs.Collect.{found, without}
use Rattle.history.specs.History.{accepts, answers, NotAccepted, NotAnswered}
use Rattle.history.specs.Steps.{Ran, still, next, Sent}
use Rattle.history.specs.Promise as stated
use Rattle.history.specs.Promise.{TicketFor, AcceptedIn, tags}
use Rattle.history.proofs.Lists.{Once, once_distinct, Like, found_readied, found_push_other, found_push_same, found_without_same, found_without_other}
use Rattle.history.proofs.Change.{Change, ignored, turned, takes, gives, changes, Fit}
use Rattle.history.proofs.Named.{once_change, once_ran, named_from_none, none_waits}
use Rattle.history.proofs.Disk.{shape, whole, Whole, disk_holds, part_of_run}

-- no submit is accepted and no collect answered under this tag
abbrev Untouched : ℕ → List Told → Type 0
Untouched t [] = Unit {0}
Untouched t (e ∷ es) = (accepts t e ≡ false) × (answers t e ≡ false) × Untouched t es

not_accepted : (t : ℕ) (h : List Told) → Untouched t h → NotAccepted t h
not_accepted t [] u = tt
not_accepted t (e ∷ es) u = (u.0, not_accepted t es u.2)

not_answered : (t : ℕ) (h : List Told) → Untouched t h → NotAnswered t h
not_answered t [] u = tt
not_answered t (e ∷ es) u = (u.1, not_answered t es u.2)

-- where an open ticket comes from: it was there at first, or a submit made it
data Origin (m : Meaning) (h : List Told) (t : ℕ) (y : Ticket) : Type 0 where
  old : Like (found t m.tickets) y → Untouched t h → Origin m h t y
  made : (earlier : List Told) (q : Request) (d : List ℕ) (tick : ℕ) (since : List Told) (mid : Meaning) (k : Kind) → h ≡ earlier ++ (told.submit q d tick (Ok tt) ∷ since) → q.tag ≡ t → Untouched t since → Ran m earlier mid → Fit mid q (length d) k → y.mask ≡ (ticket_of mid q k).mask → y.bytes ≡ (ticket_of mid q k).bytes → Origin m h t y

-- one call back
back : {m m₁ : Meaning} {e : Told} (es : List Told) (t : ℕ) (y : Ticket) → Change m e m₁ → Once m.tickets → Like (found t m₁.tickets) y → Untouched t es → Origin m (e ∷ es) t y
back es t y (ignored a b w n) o l u = old l (a t, b t, u)
back es t y (turned r) o l u = let p = found_readied t l.0 r.readied l.1 in old (p.0, p.1, l.2 ∙ p.2, l.3 ∙ p.3) (refl, refl, u)
back es t y (takes {m = m} {q = q} {d = d} {t = tick} k f) o l u = go (eqb t q.tag) refl
  where
    go : (b : Bool) → eqb t q.tag ≡ b → Origin m (told.submit q d tick (Ok tt) ∷ es) t y
    go true e =
        let g : t ≡ q.tag = eqb-true t q.tag e in
        let x = ticket_of m q k in
        let s : l.0 ≡ x = cc (l.1, found_push_same t m.tickets x e (ap (λ n. tag_is_open n m.tickets) g ∙ f.fresh)) in
        made [] q d tick es m k refl (sym g) u still f (l.2 ∙ ap (λ (z : Ticket). z.mask) s) (l.3 ∙ ap (λ (z : Ticket). z.bytes) s)
    go false e = old (l.0, sym (found_push_other t m.tickets (ticket_of m q k) e) ∙ l.1, l.2, l.3) (e, refl, u)
back es t y (gives {m = m} {t = v} {mask = mask} {g = g} {b = b} x f a c) o l u = go (eqb t v) refl
  where
    go : (z : Bool) → eqb t v ≡ z → Origin m (told.collect v g (Ok mask) b ∷ es) t y
    go true e = cc (l.1, ap (λ n. found t (without n m.tickets)) (sym (eqb-true t v e)) ∙ found_without_same t m.tickets o)
    go false e = old (l.0, sym (found_without_other t v m.tickets e) ∙ l.1, l.2, l.3) (refl, e, u)

step : {m m₁ : Meaning} {e : Told} (es : List Told) (t : ℕ) (y : Ticket) → Sent m e m₁ → Change m e m₁ → Once m.tickets → Origin m₁ es t y → Origin m (e ∷ es) t y
step es t y s c o (old l u) = back es t y c o l u
step {m} {m₁} {e} es t y s c o (made earlier q d tick since mid k p g u r f a b) = made (e ∷ earlier) q d tick since mid k (ap (λ l. e ∷ l) p) g u (next s r) f a b

origin : {m m' : Meaning} {h : List Told} (t : ℕ) (y : Ticket) → Ran m h m' → Once m.tickets → found t m'.tickets ≡ Some y → Origin m h t y
origin t y still o e = old (y, e, refl, refl) tt
origin t y (next {m = m} {m₁ = m₁} {e = ev} {es = es} s r) o e = let c = changes m ev m₁ s in step es t y s c o (origin t y r (once_change c o) e)

-- a history may be cut anywhere
pub cut : (h g : List Told) {m m' : Meaning} → Ran m (h ++ g) m' → (mid : Meaning) × Ran m h mid × Ran mid g m'
cut [] g {m} {m'} r = (m, still, r)
cut (e ∷ es) g (next s r) = let c = cut es g r in (c.0, next s c.1, c.2)

-- the ticket that a collect answers
gave : (t mask : ℕ) (g b : List ℕ) {m m' : Meaning} → Change m (told.collect t g (Ok mask) b) m' → (x : Ticket) × (found t m.tickets ≡ Some x) × (mask ≡ x.mask) × (b ≡ x.bytes ++ drop (length x.bytes) g)
gave t mask g b (ignored a c w n) = absurd (true≢false (sym (eq-eqb t t refl) ∙ c t))
gave t mask g b (gives x f a c) = (x, f, a, c)

read_kind : (n : ℕ) (k : Kind) → kind_of n ≡ Some k → n ≡ 0 → k ≡ Read
read_kind n k e z = let f : Some Read ≡ Some k = ap kind_of (sym z) ∙ e in cc

ticket_for : (m mid : Meaning) (before : List Told) (t mask : ℕ) (buffer rest : List ℕ) (y : Ticket) → m.tickets ≡ [] → Whole m → mask ≡ y.mask → buffer ≡ y.bytes ++ rest → Origin m before t y → TicketFor m.bad m.disk before t mask buffer
ticket_for m mid before t mask buffer rest y z w a b (old l u) = cc (ap (λ ts. found t ts) (sym z) ∙ l.1)
ticket_for m mid before t mask buffer rest y z w a b (made earlier q d tick since then k p g u r f mk by) =
    record {
      earlier = earlier;
      request = q;
      given = d;
      tick = tick;
      since = since;
      accepted = p;
      same_tag = g;
      last = not_accepted t since u;
      first_answer = not_answered t since u;
      due_mask = a ∙ mk ∙ ap (λ (c : ℕ → Bool). mask_of c q.first q.count) (shape r).bad;
      shows = λ e i l c.
          let kr : k ≡ Read = read_kind q.kind k f.is_kind e in
          let bs : y.bytes ≡ bytes_of then.disk q.first q.count = by ∙ ap (λ (v : Kind). due_bytes v then.disk q.first q.count) kr in
          ap (λ v. part v i) (b ∙ ap (λ v. v ++ rest) bs)
          ∙ part_of_run then.disk q.first q.count rest (λ j n. whole r w (q.first + j) (let v = f.inside in omega arith)) i l
          ∙ disk_holds (q.first + i) r c;
    }

pub answered : {m m' : Meaning} {h : List Told} → m.tickets ≡ [] → Whole m → Ran m h m' → (before after : List Told) (t mask : ℕ) (g b : List ℕ) → before ++ (told.collect t g (Ok mask) b ∷ after) ≡ h → TicketFor m.bad m.disk before t mask b
answered {m} {m'} {h} z w r before after t mask g b e = go (cut before (told.collect t g (Ok mask) b ∷ after) (subst (λ l. Ran m l m') (sym e) r))
  where
    more : {n : Meaning} → Ran n (told.collect t g (Ok mask) b ∷ after) m' → (x : Ticket) × (found t n.tickets ≡ Some x) × (mask ≡ x.mask) × (b ≡ x.bytes ++ drop (length x.bytes) g)
    more (next {m = n} {m₁ = n₁} s q) = gave t mask g b (changes n (told.collect t g (Ok mask) b) n₁ s)

    go : ((mid : Meaning) × Ran m before mid × Ran mid (told.collect t g (Ok mask) b ∷ after) m') → TicketFor m.bad m.disk before t mask b
    go c = let x = more c.2 in ticket_for m c.0 before t mask b (drop (length x.0.bytes) g) x.0 z w x.2 x.3 (origin t x.0 c.1 (subst Once (sym z) tt) x.1)

-- what a collect leaves: its tag is not open
closed : (t mask : ℕ) (g b : List ℕ) {m m' : Meaning} → Change m (told.collect t g (Ok mask) b) m' → Once m.tickets → found t m'.tickets ≡ None
closed t mask g b (ignored a c w n) o = absurd (true≢false (sym (eq-eqb t t refl) ∙ c t))
closed t mask g b (gives {m = m} x f a c) o = found_without_same t m.tickets o

fresh : (m : Meaning) (h : List Told) (t : ℕ) (y : Ticket) → found t m.tickets ≡ None → Origin m h t y → AcceptedIn t h
fresh m h t y n (old l u) = cc l.1
fresh m h t y n (made earlier q d tick since mid k p g u r f a b) = record { earlier = earlier; request = q; given = d; tick = tick; since = since; accepted = p; same_tag = g }

between_answers : (between after : List Told) (t mask mask' : ℕ) (g g' b b' : List ℕ) {m m' : Meaning} → Once m.tickets → Ran m (told.collect t g (Ok mask) b ∷ (between ++ (told.collect t g' (Ok mask') b' ∷ after))) m' → AcceptedIn t between
between_answers between after t mask mask' g g' b b' o (next {m = m} {m₁ = m₁} {m₂ = m₂} s r) = go (cut between (told.collect t g' (Ok mask') b' ∷ after) r)
  where
    more : {n : Meaning} → Ran n (told.collect t g' (Ok mask') b' ∷ after) m₂ → (x : Ticket) × (found t n.tickets ≡ Some x)
    more (next {m = n} {m₁ = n₁} z q) = let x = gave t mask' g' b' (changes n (told.collect t g' (Ok mask') b') n₁ z) in (x.0, x.1)

    go : ((mid : Meaning) × Ran m₁ between mid × Ran mid (told.collect t g' (Ok mask') b' ∷ after) m₂) → AcceptedIn t between
    go c =
        let d = changes m (told.collect t g (Ok mask) b) m₁ s in
        let x = more c.2 in
        fresh m₁ between t x.0 (closed t mask g b d o) (origin t x.0 c.1 (once_change d o) x.1)

apart : {m m' : Meaning} {h : List Told} → m.tickets ≡ [] → Ran m h m' → (before between after : List Told) (t mask mask' : ℕ) (g g' b b' : List ℕ) → before ++ (told.collect t g (Ok mask) b ∷ (between ++ (told.collect t g' (Ok mask') b' ∷ after))) ≡ h → AcceptedIn t between
apart {m} {m'} {h} z r before between after t mask mask' g g' b b' e =
    let c = cut before (told.collect t g (Ok mask) b ∷ (between ++ (told.collect t g' (Ok mask') b' ∷ after))) (subst (λ l. Ran m l m') (sym e) r) in
    between_answers between after t mask mask' g g' b b' (once_ran c.1 (subst Once (sym z) tt)) c.2

pub promise : {m m' : Meaning} {h : List Told} → Whole m → Ran m h m' → m.tickets ≡ [] → stated.Promise m h m'
promise {m} {m'} {h} w r z = record {
  reads_see_the_last_write = answered z w r;
  answered_once = apart z r;
  midway = λ earlier later e. cut earlier later (subst (λ l. Ran m l m') (sym e) r);
  open_is_accepted_and_unanswered = λ earlier later mid e a b. named_from_none z a;
  each_once = λ earlier later mid e a b. once_distinct mid.tickets (once_ran a (subst Once (sym z) tt));
  turns_settle = λ earlier between later mid mid' e a b c. none_waits b;
}
