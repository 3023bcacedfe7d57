-- Serving a free run leaves the disk and what every ticket is due.
use Rattle.std.proofs.Common.{◌≡◌, ℕ, zero, suc, ◌+◌, ◌<◌, ◌≤◌, Bool, true, false, cond, not, ◌&&◌, eqb, ltb, leb, List, [], ◌∷◌, ◌++◌, sym, refl, ap, ◌∙◌, subst, ap₂, arith}
use mathlib.Core.Path.{fun_ext}
use mathlib.Core.Bool.{false≢true}
use Rattle.std.proofs.lemmas.Bool.{not-true, and_parts, and_from, or_parts, both_ways, lt-ltb, le-leb}
use Rattle.device.specs.declared.interface.Kind.{Kind}
use Rattle.device.specs.declared.interface.Kind.TheVariants.{Read, Write, Flush}
use Rattle.device.specs.Meaning.{Ticket, Contents, is_write, covers, mask_of, bytes_of}
use Rattle.device.specs.Turns.{Readied, none, stays, turns, made_ready}
use Rattle.queue.specs.Queue.{Entry, waits, hits, puts, put, overlay, due_as, bytes_due, ticket, tickets_of, mine, of_run, answered, served, All, Apart, Clear, Free, Alike, Right}

swap : {A : Type 0} (p q : Bool) (u v w : A) → (p ≡ true → q ≡ true → ⊥) → cond p u (cond q v w) ≡ cond q v (cond p u w)
swap true true u v w no_both = absurd (no_both refl refl)
swap true false u v w no_both = refl
swap false true u v w no_both = refl
swap false false u v w no_both = refl

puts_writes : (bad : ℕ → Bool) (e : Entry) (s : ℕ) → puts bad e s ≡ true → is_write e.kind ≡ true
puts_writes bad e s h = (and_parts (waits e) (is_write e.kind) (and_parts (waits e && is_write e.kind) _ h).0).1

puts_waits : (bad : ℕ → Bool) (e : Entry) (s : ℕ) → puts bad e s ≡ true → waits e ≡ true
puts_waits bad e s h = (and_parts (waits e) (is_write e.kind) (and_parts (waits e && is_write e.kind) _ h).0).0

puts_hits : (bad : ℕ → Bool) (e : Entry) (s : ℕ) → puts bad e s ≡ true → hits e s ≡ true
puts_hits bad e s h = (and_parts (hits e s) (not (bad s)) (and_parts (waits e && is_write e.kind) _ h).1).0

-- accepting at the end
pub overlay_more : (bad : ℕ → Bool) (es : List Entry) (e : Entry) (d : Contents) → overlay bad (es ++ (e ∷ [])) d ≡ put bad e (overlay bad es d)
overlay_more bad [] e d = refl
overlay_more bad (x ∷ es) e d = overlay_more bad es e (put bad x d)

pub tickets_more : (bad : ℕ → Bool) (es : List Entry) (e : Entry) (d : Contents) →
    tickets_of bad (es ++ (e ∷ [])) d ≡ tickets_of bad es d ++ (ticket bad e (overlay bad es d) ∷ [])
tickets_more bad [] e d = refl
tickets_more bad (x ∷ es) e d = ap (λ ts. ticket bad x d ∷ ts) (tickets_more bad es e (put bad x d))

-- where e and x do not conflict, at most one of them puts
not_both : (bad : ℕ → Bool) (e x : Entry) (s : ℕ) → Apart e x → puts bad e s ≡ true → hits x s ≡ true → ⊥
not_both bad e x s apart he hx =
    both_ways (is_write e.kind) (or_parts (is_write e.kind) (is_write x.kind) (apart s (puts_hits bad e s he) hx)).0 (puts_writes bad e s he)

not_both' : (bad : ℕ → Bool) (e x : Entry) (s : ℕ) → Apart e x → hits e s ≡ true → puts bad x s ≡ true → ⊥
not_both' bad e x s apart he hx =
    both_ways (is_write x.kind) (or_parts (is_write e.kind) (is_write x.kind) (apart s he (puts_hits bad x s hx))).1 (puts_writes bad x s hx)

-- tickets that do not conflict can be put in either order
put_put : (bad : ℕ → Bool) (x e : Entry) (d : Contents) → (waits e ≡ true → Apart e x) → put bad x (put bad e d) ≡ put bad e (put bad x d)
put_put bad x e d apart =
    fun_ext (λ s. swap (puts bad x s) (puts bad e s) _ _ (d s) (λ hx he. not_both bad e x s (apart (puts_waits bad e s he)) he (puts_hits bad x s hx)))

-- one ticket outside run r, and the younger ones of run r
Beside : ℕ → Entry → List Entry → Type 0
Beside r e es = All (λ x. mine r x ≡ true → waits e ≡ true → Apart e x) es

-- the tickets of run r in either order with one older ticket outside it
of_run_put : (bad : ℕ → Bool) (r : ℕ) (e : Entry) (es : List Entry) (d : Contents) → Beside r e es →
    overlay bad (of_run r es) (put bad e d) ≡ put bad e (overlay bad (of_run r es) d)
unfolding Beside
of_run_put bad r e [] d h = refl
of_run_put bad r e (x ∷ es) d h = go (λ c. of_run_put bad r e es c h.1) (mine r x) h.0
  where
    go : ((c : Contents) → overlay bad (of_run r es) (put bad e c) ≡ put bad e (overlay bad (of_run r es) c)) → (b : Bool) → (b ≡ true → waits e ≡ true → Apart e x) →
        overlay bad (cond b (x ∷ of_run r es) (of_run r es)) (put bad e d) ≡ put bad e (overlay bad (cond b (x ∷ of_run r es) (of_run r es)) d)
    go ih true k = ap (overlay bad (of_run r es)) (put_put bad x e d (k refl)) ∙ ih (put bad x d)
    go ih false k = ih d

passed : {A : Type 0} (b : Bool) (u w : A) → (b ≡ true → ⊥) → cond b u w ≡ w
passed true u w h = absurd (h refl)
passed false u w h = refl

-- where a waiting ticket outside run r lies, the younger ones of run r change nothing
of_run_beside : (bad : ℕ → Bool) (r : ℕ) (e : Entry) (es : List Entry) (d : Contents) (s : ℕ) → Beside r e es → waits e ≡ true → hits e s ≡ true →
    overlay bad (of_run r es) d s ≡ d s
unfolding Beside
of_run_beside bad r e [] d s h w at = refl
of_run_beside bad r e (x ∷ es) d s h w at = go (λ c. of_run_beside bad r e es c s h.1 w at) (mine r x) h.0
  where
    go : ((c : Contents) → overlay bad (of_run r es) c s ≡ c s) → (b : Bool) → (b ≡ true → waits e ≡ true → Apart e x) →
        overlay bad (cond b (x ∷ of_run r es) (of_run r es)) d s ≡ d s
    go ih true k = ih (put bad x d) ∙ passed (puts bad x s) _ _ (not_both' bad e x s (k refl w) at)
    go ih false k = ih d

beside : (r : ℕ) (e : Entry) (es : List Entry) → All (Clear r e) es → mine r e ≡ false → Beside r e es
unfolding Beside
beside r e [] h m = tt
beside r e (x ∷ es) h m = (λ mx w. h.0.apart w m mx, beside r e es h.1 m)

-- the disk is as it was once a free run is served
pub serve_disk : (bad : ℕ → Bool) (r : ℕ) (answer : Entry → List ℕ) (es : List Entry) (d : Contents) → Free r es →
    overlay bad (served r answer es) (overlay bad (of_run r es) d) ≡ overlay bad es d
serve_disk bad r answer [] d h = refl
serve_disk bad r answer (e ∷ es) d h = go (serve_disk bad r answer es (put bad e d) h.1) (mine r e) (beside r e es h.0)
  where
    go : overlay bad (served r answer es) (overlay bad (of_run r es) (put bad e d)) ≡ overlay bad es (put bad e d) →
        (b : Bool) → (b ≡ false → Beside r e es) →
        overlay bad (cond b (answered e (answer e)) e ∷ served r answer es) (overlay bad (cond b (e ∷ of_run r es) (of_run r es)) d) ≡ overlay bad es (put bad e d)
    go ih true k = ih
    go ih false k = ap (overlay bad (served r answer es)) (sym (of_run_put bad r e es d (k refl))) ∙ ih

-- the bytes of a run depend on its own sectors alone
pub bytes_same : (d d' : Contents) (first count : ℕ) → ((s : ℕ) → first ≤ s → s < first + count → d s ≡ d' s) → bytes_of d first count ≡ bytes_of d' first count
bytes_same d d' first zero h = refl
bytes_same d d' first (suc n) h = ap₂ ◌++◌ (bytes_same d d' first n (λ s a b. h s a (omega arith))) (h (first + n) (omega arith) (omega arith))

covers_from : (first count s : ℕ) → first ≤ s → s < first + count → covers first count s ≡ true
covers_from first count s a b = and_from (leb first s) (ltb s (first + count)) (le-leb first s a) (lt-ltb s (first + count) b)

-- what e is due does not change where the disk does not change under it
due_same : (e : Entry) (d d' : Contents) → (waits e ≡ true → (s : ℕ) → hits e s ≡ true → d s ≡ d' s) → bytes_due e d ≡ bytes_due e d'
due_same e d d' h = go e.kind e.ready h
  where
    go : (k : Kind) (b : Bool) → (not b ≡ true → (s : ℕ) → hits e s ≡ true → d s ≡ d' s) →
        due_as k b e.bytes (bytes_of d e.first e.count) ≡ due_as k b e.bytes (bytes_of d' e.first e.count)
    go Read true f = refl
    go Read false f = bytes_same d d' e.first e.count (λ s a b. f refl s (covers_from e.first e.count s a b))
    go Write b f = refl
    go Flush b f = refl

-- a ready ticket is due what it holds, whatever the disk
pub due_answered : (e : Entry) (b : List ℕ) (d d' : Contents) → bytes_due (answered e b) d ≡ bytes_due (answered e b) d'
due_answered e b d d' = go e.kind
  where
    go : (k : Kind) → due_as k true b (bytes_of d e.first e.count) ≡ due_as k true b (bytes_of d' e.first e.count)
    go Read = refl
    go Write = refl
    go Flush = refl

due_write : (e : Entry) (b : List ℕ) (d d' : Contents) → is_write e.kind ≡ true → bytes_due (answered e b) d ≡ bytes_due e d'
due_write e b d d' h = go e.kind h
  where
    go : (k : Kind) → is_write k ≡ true →
        due_as k true b (bytes_of d e.first e.count) ≡ due_as k e.ready e.bytes (bytes_of d' e.first e.count)
    go Read f = absurd (false≢true f)
    go Write f = refl
    go Flush f = refl

-- what is right over the disk is right over the disk with one more older ticket put on
right_put : (bad : ℕ → Bool) (r : ℕ) (answer : Entry → List ℕ) (e : Entry) (es : List Entry) (a : Contents) →
    All (λ x. mine r x ≡ true → is_write x.kind ≡ false → (s : ℕ) → puts bad e s ≡ true → hits x s ≡ true → ⊥) es →
    Right r answer a es → Right r answer (put bad e a) es
right_put bad r answer e [] a h t = tt
right_put bad r answer e (x ∷ es) a h t = (
  λ m w. due_answered x (answer x) (put bad e a) a ∙ t.0 m w ∙ due_same x a (put bad e a) (λ _ s at. sym (passed (puts bad e s) _ _ (λ p. h.0 m w s p at))),
  right_put bad r answer e es a h.1 t.1,
)

outside_puts : (bad : ℕ → Bool) (r : ℕ) (e : Entry) (es : List Entry) → Beside r e es →
    All (λ x. mine r x ≡ true → is_write x.kind ≡ false → (s : ℕ) → puts bad e s ≡ true → hits x s ≡ true → ⊥) es
unfolding Beside
outside_puts bad r e [] h = tt
outside_puts bad r e (x ∷ es) h =
    (λ m _ s p at. not_both bad e x s (h.0 m (puts_waits bad e s p)) p at, outside_puts bad r e es h.1)

inside_puts : (bad : ℕ → Bool) (r : ℕ) (writes : Bool) (e : Entry) (es : List Entry) → is_write e.kind ≡ writes → Alike r writes es →
    All (λ x. mine r x ≡ true → is_write x.kind ≡ false → (s : ℕ) → puts bad e s ≡ true → hits x s ≡ true → ⊥) es
inside_puts bad r writes e [] k h = tt
inside_puts bad r writes e (x ∷ es) k h =
    (λ m w s p _. both_ways writes (sym (h.0 m) ∙ w) (sym k ∙ puts_writes bad e s p), inside_puts bad r writes e es k h.1)

turned_as : {t u : Ticket} {ts us : List Ticket} → u ≡ made_ready t → t.ready ≡ false → Readied ts us → Readied (t ∷ ts) (u ∷ us)
turned_as {t} {u} {ts} {us} e w r = subst (λ v. Readied (t ∷ ts) (v ∷ us)) (sym e) (turns w r)

stays_as : {t u : Ticket} {ts us : List Ticket} → u ≡ t → Readied ts us → Readied (t ∷ ts) (u ∷ us)
stays_as {t} {u} {ts} {us} e r = subst (λ v. Readied (t ∷ ts) (v ∷ us)) (sym e) (stays r)

abbrev with_bytes : (bad : ℕ → Bool) (e : Entry) (ready : Bool) → List ℕ → Ticket
with_bytes bad e ready b = record { tag = e.tag; kind = e.kind; first = e.first; count = e.count; mask = mask_of bad e.first e.count; bytes = b; ready = ready }

-- every ticket is due what it was due once a free run is served, and the run's tickets are ready
pub serve_tickets : (bad : ℕ → Bool) (r : ℕ) (writes : Bool) (answer : Entry → List ℕ) (es : List Entry) (a : Contents) →
    Free r es → Alike r writes es → Right r answer a es →
    Readied (tickets_of bad es a) (tickets_of bad (served r answer es) (overlay bad (of_run r es) a))
serve_tickets bad r writes answer [] a f k t = none
serve_tickets bad r writes answer (e ∷ es) a f k t =
    go (λ right. serve_tickets bad r writes answer es (put bad e a) f.1 k.1 right) (mine r e) refl
  where
    D : Contents
    D = overlay bad (of_run r es) (put bad e a)

    D₀ : Contents
    D₀ = overlay bad (of_run r es) a

    answers : mine r e ≡ true → (w : Bool) → is_write e.kind ≡ w → bytes_due (answered e (answer e)) D ≡ bytes_due e a
    answers m true w = due_write e (answer e) D a w
    answers m false w = due_answered e (answer e) D a ∙ t.0 m w

    go : (Right r answer (put bad e a) es → Readied (tickets_of bad es (put bad e a)) (tickets_of bad (served r answer es) D)) →
        (b : Bool) → mine r e ≡ b →
        Readied (ticket bad e a ∷ tickets_of bad es (put bad e a))
        (tickets_of bad (cond b (answered e (answer e)) e ∷ served r answer es) (overlay bad (cond b (e ∷ of_run r es) (of_run r es)) a))
    go ih true m =
        turned_as (ap (with_bytes bad e true) (answers m (is_write e.kind) refl)) (not-true e.ready (and_parts (waits e) (eqb e.run r) m).0)
        (ih (right_put bad r answer e es a (inside_puts bad r writes e es (k.0 m) k.1) t.1))
    go ih false m =
        let b : Beside r e es = beside r e es f.0 m in
        stays_as (ap (with_bytes bad e e.ready) (due_same e D₀ a (λ w s at. of_run_beside bad r e es a s b w at)))
        (subst (λ c. Readied (tickets_of bad es (put bad e a)) (tickets_of bad (served r answer es) c)) (of_run_put bad r e es a b)
        (ih (right_put bad r answer e es a (outside_puts bad r e es b) t.1)))
