-- The open tickets are the accepted ones not answered; and tickets stop waiting.
use Rattle.std.proofs.Common.{◌≡◌, ℕ, ◌+◌, ◌-◌, ◌<◌, ◌≤◌, Bool, true, false, cond, not, ◌&&◌, ◌||◌, eqb, List, [], ◌∷◌, ◌++◌, Ok, Err, sym, refl, ap, ◌∙◌, subst, ⊎_elim, append_assoc, arith}
use Rattle.std.proofs.lemmas.List.{append-nil}
use Rattle.std.proofs.lemmas.Bool.{eqb-true, eqb-false, eq-eqb, ne_eqb, or_left, or_right, cases_lt, true≢false}
use Rattle.device.specs.Told.{Told}
use Rattle.device.specs.Told as told
use Rattle.device.specs.Meaning.{Meaning, Ticket}
use Rattle.device.specs.Submit.{tag_is_open, ticket_of}
use Rattle.device.specs.Collect.{without}
use Rattle.device.specs.Turns.{waiting, Readied, none, stays, Turned}
use Rattle.device.specs.Turns as turning
use Rattle.history.specs.History.{accepts, answers, turns, is_turn, NoneAccepted, answered_in, opens, unanswered}
use Rattle.history.specs.Steps.{Ran, still, next}
use Rattle.history.specs.Promise.{tags}
use Rattle.history.proofs.Lists.{Once, once_readied, once_push, once_without, waiting_without}
use Rattle.history.proofs.Change.{Change, ignored, turned, takes, gives, changes}

-- no tag comes twice
pub once_change : {m m' : Meaning} {e : Told} → Change m e m' → Once m.tickets → Once m'.tickets
once_change (ignored a b c d) h = h
once_change (turned r) h = once_readied r.readied h
once_change (takes {m = m} {q = q} k f) h = once_push m.tickets (ticket_of m q k) h f.fresh
once_change (gives {m = m} {t = t} x f a b) h = once_without t m.tickets h

-- the tags of the tickets that h does not answer
abbrev keep : List Told → List Ticket → List ℕ
keep h [] = []
keep h (x ∷ xs) = cond (answered_in x.tag h) [] (x.tag ∷ []) ++ keep h xs

keep_all : (ts : List Ticket) → keep [] ts ≡ tags ts
keep_all [] = refl
keep_all (x ∷ xs) = ap (λ l. x.tag ∷ l) (keep_all xs)

keep_same : (h g : List Told) (ts : List Ticket) → ((u : ℕ) → tag_is_open u ts ≡ true → answered_in u h ≡ answered_in u g) → keep h ts ≡ keep g ts
keep_same h g [] f = refl
keep_same h g (x ∷ xs) f =
    ap (λ b. cond b [] (x.tag ∷ []) ++ keep h xs) (f x.tag (or_left (eqb x.tag x.tag) _ (eq-eqb x.tag x.tag refl)))
    ∙ ap (λ l. cond (answered_in x.tag g) [] (x.tag ∷ []) ++ l) (keep_same h g xs (λ u e. f u (or_right (eqb u x.tag) _ e)))

keep_readied : {ts us : List Ticket} (h : List Told) → Readied ts us → keep h us ≡ keep h ts
keep_readied h none = refl
keep_readied h (stays {t = x} r) = ap (λ l. cond (answered_in x.tag h) [] (x.tag ∷ []) ++ l) (keep_readied h r)
keep_readied h (turning.turns {t = x} e r) = ap (λ l. cond (answered_in x.tag h) [] (x.tag ∷ []) ++ l) (keep_readied h r)

keep_push : (h : List Told) (ts : List Ticket) (x : Ticket) → keep h (ts ++ (x ∷ [])) ≡ keep h ts ++ cond (answered_in x.tag h) [] (x.tag ∷ [])
keep_push h [] x = append-nil _
keep_push h (y ∷ ys) x = ap (λ l. cond (answered_in y.tag h) [] (y.tag ∷ []) ++ l) (keep_push h ys x) ∙ sym (append_assoc (cond (answered_in y.tag h) [] (y.tag ∷ [])) (keep h ys) _)

-- an event that neither accepts nor answers under the tag
pass : (u : ℕ) (e : Told) (es : List Told) → accepts u e ≡ false → answers u e ≡ false → answered_in u (e ∷ es) ≡ answered_in u es
pass u e es a b = ap (λ (z : Bool). z || (not (accepts u e) && answered_in u es)) b ∙ ap (λ (z : Bool). not z && answered_in u es) a

apart : (a b : ℕ) (ts : List Ticket) → tag_is_open a ts ≡ false → tag_is_open b ts ≡ true → eqb b a ≡ false
apart a b ts f g = ne_eqb b a (λ e. true≢false (sym g ∙ ap (λ n. tag_is_open n ts) e ∙ f))

keep_gives : (t mask : ℕ) (g b : List ℕ) (es : List Told) (ts : List Ticket) → Once ts → keep (told.collect t g (Ok mask) b ∷ es) ts ≡ keep es (without t ts)
keep_gives t mask g b es [] h = refl
keep_gives t mask g b es (x ∷ xs) h = go (eqb t x.tag) refl (keep_gives t mask g b es xs h.1)
  where
    ev : Told
    ev = told.collect t g (Ok mask) b

    go : (c : Bool) → eqb t x.tag ≡ c → keep (told.collect t g (Ok mask) b ∷ es) xs ≡ keep es (without t xs) → keep (told.collect t g (Ok mask) b ∷ es) (x ∷ xs) ≡ keep es (cond c xs (x ∷ without t xs))
    go true e k =
        ap (λ c. cond c [] (x.tag ∷ []) ++ keep (ev ∷ es) xs) (or_left (eqb x.tag t) _ (eq-eqb x.tag t (sym (eqb-true t x.tag e))))
        ∙ keep_same (ev ∷ es) es xs (λ u o. pass u ev es refl (apart t u xs (ap (λ n. tag_is_open n xs) (eqb-true t x.tag e) ∙ h.0) o))
    go false e k =
        ap (λ c. cond c [] (x.tag ∷ []) ++ keep (ev ∷ es) xs) (pass x.tag ev es refl (ne_eqb x.tag t (λ p. eqb-false t x.tag e (sym p))))
        ∙ ap (λ l. cond (answered_in x.tag es) [] (x.tag ∷ []) ++ l) k

opens_none : (e : Told) (es : List Told) → ((t : ℕ) → accepts t e ≡ false) → opens e es ≡ []
opens_none (told.submit q d k (Ok u)) es a = absurd (true≢false (sym (eq-eqb q.tag q.tag refl) ∙ a q.tag))
opens_none (told.submit q d k (Err r)) es a = refl
opens_none (told.turn k n) es a = refl
opens_none (told.collect t g r b) es a = refl

keep_change : {m m' : Meaning} {e : Told} (es : List Told) → Change m e m' → Once m.tickets → keep es m'.tickets ++ unanswered es ≡ keep (e ∷ es) m.tickets ++ unanswered (e ∷ es)
keep_change es (ignored {m = m} {e = e} a b w n) h =
    ap (λ l. l ++ unanswered es) (sym (keep_same (e ∷ es) es m.tickets (λ u o. pass u e es (a u) (b u))))
    ∙ ap (λ l. keep (e ∷ es) m.tickets ++ (l ++ unanswered es)) (sym (opens_none e es a))
keep_change es (turned {m = m} {k = k} {n = n} r) h =
    ap (λ l. l ++ unanswered es) (keep_readied es r.readied ∙ sym (keep_same (told.turn k n ∷ es) es m.tickets (λ u o. refl)))
keep_change es (takes {m = m} {q = q} {d = d} {t = t} k f) h =
    ap (λ l. l ++ unanswered es) (keep_push es m.tickets (ticket_of m q k))
    ∙ append_assoc (keep es m.tickets) _ (unanswered es)
    ∙ ap (λ l. l ++ (cond (answered_in q.tag es) [] (q.tag ∷ []) ++ unanswered es)) (sym (keep_same (told.submit q d t (Ok tt) ∷ es) es m.tickets (λ u o. pass u (told.submit q d t (Ok tt)) es (apart q.tag u m.tickets f.fresh o) refl)))
keep_change es (gives {m = m} {t = t} {mask = mask} {g = g} {b = b} x f a c) h =
    ap (λ l. l ++ unanswered es) (sym (keep_gives t mask g b es m.tickets h))

pub named : {m m' : Meaning} {h : List Told} → Ran m h m' → Once m.tickets → tags m'.tickets ≡ keep h m.tickets ++ unanswered h
named (still {m = m}) h = sym (append-nil _ ∙ keep_all m.tickets)
named (next {m = m} {m₁ = m₁} {e = e} {es = es} s r) h = named r (once_change (changes m e m₁ s) h) ∙ keep_change es (changes m e m₁ s) h

-- from no open ticket
pub named_from_none : {m m' : Meaning} {h : List Told} → m.tickets ≡ [] → Ran m h m' → tags m'.tickets ≡ unanswered h
named_from_none {m} {m'} {h} z r = named r (subst Once (sym z) tt) ∙ ap (λ l. keep h l ++ unanswered h) z

-- each turn readies a ticket
fewer : {m m' : Meaning} {h : List Told} → Ran m h m' → NoneAccepted h → waiting m'.tickets ≤ waiting m.tickets - turns h
fewer still a = omega arith
fewer (next {m = m} {m₁ = m₁} {m₂ = m₂} {e = e} {es = es} s r) a = go (changes m e m₁ s) a.0 (fewer r a.1)
  where
    go : {m m₁ : Meaning} {e : Told} → Change m e m₁ → ((t : ℕ) → accepts t e ≡ false) → waiting m₂.tickets ≤ waiting m₁.tickets - turns es → waiting m₂.tickets ≤ waiting m.tickets - (is_turn e + turns es)
    go (ignored p q w n) a f = omega (arith, n)
    go (turned {m = m} {m' = m'} r) a f =
        ⊎_elim (λ (h : 0 < waiting m.tickets). let g = r.progress h in omega arith) (λ (h : waiting m.tickets ≤ 0). let z : waiting m.tickets ≡ 0 = omega arith in let g : waiting m'.tickets ≡ waiting m.tickets = ap (λ (x : Meaning). waiting x.tickets) (r.idle z).0 in omega arith) (cases_lt 0 (waiting m.tickets))
    go (takes {q = q} k f) a g = absurd (true≢false (sym (eq-eqb q.tag q.tag refl) ∙ a q.tag))
    go (gives {m = m} {t = t} x f p q) a g = let w = waiting_without t m.tickets in omega arith

pub none_waits : {m m' : Meaning} {h : List Told} → Ran m h m' → NoneAccepted h → waiting m.tickets ≤ turns h → waiting m'.tickets ≡ 0
none_waits {m} {m'} {h} r a n = let f = fewer r a in omega arith

pub once_ran : {m m' : Meaning} {h : List Told} → Ran m h m' → Once m.tickets → Once m'.tickets
once_ran still o = o
once_ran (next {m = m} {m₁ = m₁} {e = e} s r) o = once_ran r (once_change (changes m e m₁ s) o)
