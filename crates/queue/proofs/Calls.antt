-- A turn of the elevator keeps the meaning of a turn, and so do a submit and a collect.
use Rattle.std.proofs.Common.{◌≡◌, ℕ, ◌+◌, ◌-◌, ◌*◌, ◌<◌, ◌≤◌, Bool, true, false, cond, not, ◌&&◌, ◌||◌, ltb, leb, ◌⊎◌, List, [], ◌∷◌, ◌++◌, length, take, drop, sym, refl, ap, ◌∙◌, subst, ap₂, inl, inr, true≢false, arith, length-drop, take-append-drop, length-take-le}
use mathlib.Core.Bool.{false≢true}
use lib.Seq.{take-append-le, drop-append-le}
use Rattle.std.proofs.lemmas.Bool.{not-true, not_from_false, and_parts, and_from, and_right, or_parts, or_from, or_left, or_right, or_cases, both_ways, leb-true, ltb-true, cases_Bool}
use Rattle.device.specs.declared.interface.Kind.{Kind}
use Rattle.device.specs.declared.interface.Kind.TheVariants.{Read, Write, Flush}
use Rattle.device.specs.declared.interface.Request.{Request}
use Rattle.device.specs.Meaning.{Meaning, Ticket, Contents, is_write, is_flush, covers, part, bytes_of, with_disk}
use Rattle.device.specs.Layers.{layer_height}
use Rattle.device.specs.Submit.{disk_after, due_bytes, accepted}
use Rattle.device.specs.Collect.{without}
use Rattle.device.specs.Turns.{waiting, none_ready, flush_free, flush_order, waiting_write_at, open_write_at, Readied, none, stays, turns, Flushed, Turned}
use Rattle.queue.specs.Queue.{Entry, waits, hits, puts, put, overlay, due_as, bytes_due, ticket, tickets_of, mine, of_run, answered, serve, served, All, Pairs, Clear, Free, Kinded, Alike, Right, Filled}
use Rattle.queue.specs.Runs.{Row, Whole, covered, reached, gathered, stretch_in}
use Rattle.queue.specs.Sound.{Fits, Sound, gone, ReadyAt}
use Rattle.queue.specs.Over.{over, entry_of}
use Rattle.queue.specs.Serve.{asked, sent, Served}
use Rattle.queue.specs.Chosen.{Chosen}
use Rattle.queue.proofs.Collect.{collect_disk, collect_tickets}
use Rattle.queue.proofs.Overlay.{serve_disk, serve_tickets, overlay_more, tickets_more}
use Rattle.queue.proofs.Runs.{one_write, row_each, row_cover, unreached, bytes_length}
use Rattle.queue.proofs.Sound.{serve_sound}
use Rattle.queue.proofs.Gather.{gathered_is, WholeWrites, part_left}
use Rattle.queue.proofs.OfRun.{into_run, from_run, zip, every, whole_writes, only_first, right_writes, quiet, due_stretch, mine_waits}

-- ── the order around a flush ──

none_ready_from : (bad : ℕ → Bool) (e : Entry) (es : List Entry) (b : Contents) → waits e ≡ true → is_flush e.kind ≡ true → All (Fits e) es → none_ready (tickets_of bad es b) ≡ true
none_ready_from bad e [] b w f h = refl
none_ready_from bad e (x ∷ es) b w f h =
    and_from (not x.ready) (none_ready (tickets_of bad es (put bad x b))) (not_from_false x.ready (h.0.held w f)) (none_ready_from bad e es (put bad x b) w f h.1)

flush_free_from : (bad : ℕ → Bool) (e : Entry) (es : List Entry) (b : Contents) → e.ready ≡ false → All (Fits e) es → flush_free (tickets_of bad es b) ≡ true
flush_free_from bad e [] b w h = refl
flush_free_from bad e (x ∷ es) b w h =
    and_from (not (x.ready && is_flush x.kind)) (flush_free (tickets_of bad es (put bad x b)))
    (not_from_false (x.ready && is_flush x.kind) (here (cases_Bool (x.ready && is_flush x.kind)))) (flush_free_from bad e es (put bad x b) w h.1)
  where
    here : ((x.ready && is_flush x.kind) ≡ true) ⊎ ((x.ready && is_flush x.kind) ≡ false) → (x.ready && is_flush x.kind) ≡ false
    here (inr n) = n
    here (inl y) = let p = and_parts x.ready (is_flush x.kind) y in absurd (both_ways e.ready w (h.0.after p.0 p.1))

pub ordered : (bad : ℕ → Bool) (es : List Entry) (a : Contents) → Pairs Fits es → flush_order (tickets_of bad es a) ≡ true
ordered bad [] a h = refl
ordered bad (e ∷ es) a h =
    and_from (cond e.ready true (cond (is_flush e.kind) (none_ready rest) (flush_free rest))) (flush_order rest) (here e.ready refl) (ordered bad es (put bad e a) h.1)
  where
    rest : List Ticket
    rest = tickets_of bad es (put bad e a)

    waiting_one : e.ready ≡ false → (f : Bool) → is_flush e.kind ≡ f → cond f (none_ready rest) (flush_free rest) ≡ true
    waiting_one w true f = none_ready_from bad e es (put bad e a) (not_from_false e.ready w) f h.0
    waiting_one w false f = flush_free_from bad e es (put bad e a) w h.0

    here : (b : Bool) → e.ready ≡ b → cond b true (cond (is_flush e.kind) (none_ready rest) (flush_free rest)) ≡ true
    here true w = refl
    here false w = waiting_one w (is_flush e.kind) refl

-- a flush that became ready with no younger open write at the sector
abbrev flushed_at : ℕ → List Ticket → List Ticket → Bool
flushed_at s [] us = false
flushed_at s (t ∷ ts) [] = false
flushed_at s (t ∷ ts) (u ∷ us) = (((is_flush t.kind && not t.ready) && u.ready) && not (open_write_at s ts)) || flushed_at s ts us

open_same : (s : ℕ) {ts us : List Ticket} → Readied ts us → open_write_at s us ≡ open_write_at s ts
open_same s none = refl
open_same s (stays {t} r) = ap (λ b. (is_write t.kind && covers t.first t.count s) || b) (open_same s r)
open_same s (turns {t} w r) = ap (λ b. (is_write t.kind && covers t.first t.count s) || b) (open_same s r)

all_flushed : (disk medium : Contents) {ts us : List Ticket} → Readied ts us → ((s : ℕ) → flushed_at s ts us ≡ true → medium s ≡ disk s) → Flushed disk medium ts us
all_flushed disk medium none f = tt
all_flushed disk medium (stays {t} {ts} {us} r) f = (
  λ k w y. absurd (both_ways t.ready w y),
  all_flushed disk medium r (λ s h. f s (or_right (((is_flush t.kind && not t.ready) && t.ready) && not (open_write_at s ts)) (flushed_at s ts us) h)),
)
all_flushed disk medium (turns {t} {ts} {us} w r) f = (
  λ k _ _ s n. f s (or_left (((is_flush t.kind && not t.ready) && true) && not (open_write_at s ts)) (flushed_at s ts us)
      (and_from ((is_flush t.kind && not t.ready) && true) (not (open_write_at s ts))
      (and_from (is_flush t.kind && not t.ready) true (and_from (is_flush t.kind) (not t.ready) k (not_from_false t.ready w)) refl)
      (not_from_false (open_write_at s ts) (sym (open_same s r) ∙ n)))),
  all_flushed disk medium r (λ s h. f s (or_right (((is_flush t.kind && not t.ready) && true) && not (open_write_at s ts)) (flushed_at s ts us) h)),
)

-- ── what is left waiting ──

-- an entry that is no waiting write over a sector puts nothing there
unput : (w x y z : Bool) → (w && (x && y)) ≡ false → ((w && x) && (y && z)) ≡ false
unput true true true z e = absurd (true≢false e)
unput true true false z e = refl
unput true false y z e = refl
unput false x y z e = refl

module _ (bad : ℕ → Bool) (r : ℕ) (answer : Entry → List ℕ) where
  count_served : (es : List Entry) (a b : Contents) → waiting (tickets_of bad (served r answer es) b) + length (of_run r es) ≡ waiting (tickets_of bad es a)
  count_served [] a b = refl
  count_served (e ∷ es) a b = go (mine r e) refl (λ c d. count_served es c d)
    where
      go : (x : Bool) → mine r e ≡ x → ((c d : Contents) → waiting (tickets_of bad (served r answer es) d) + length (of_run r es) ≡ waiting (tickets_of bad es c)) →
          cond (cond x (answered e (answer e)) e).ready 0 1 + waiting (tickets_of bad (served r answer es) (put bad (cond x (answered e (answer e)) e) b)) + length (cond x (e ∷ of_run r es) (of_run r es))
          ≡ cond e.ready 0 1 + waiting (tickets_of bad es (put bad e a))
      go true m ih =
          let k = ih (put bad e a) (put bad (answered e (answer e)) b) in
          let z : ◌≡◌ {A = ℕ} (cond {A = ℕ} e.ready 0 1) 1 = ap (λ y. cond {A = ℕ} y 0 1) (not-true e.ready (mine_waits r e m)) in
          omega arith
      go false m ih = let k = ih (put bad e a) (put bad e b) in omega arith

  -- a sector that no waiting write of es covers
  unwritten : (es : List Entry) (a : Contents) (s : ℕ) → waiting_write_at s (tickets_of bad es a) ≡ false → reached bad es s ≡ false
  unwritten [] a s h = refl
  unwritten (e ∷ es) a s h =
      let p = or_parts (waits e && (is_write e.kind && hits e s)) (waiting_write_at s (tickets_of bad es (put bad e a))) h in
      or_from (puts bad e s) (reached bad es s) (unput (waits e) (is_write e.kind) (hits e s) (not (bad s)) p.0) (unwritten es (put bad e a) s p.1)

  unopened : (es : List Entry) (a : Contents) (s : ℕ) → open_write_at s (tickets_of bad es a) ≡ false → reached bad es s ≡ false
  unopened [] a s h = refl
  unopened (e ∷ es) a s h =
      let p = or_parts (is_write e.kind && hits e s) (open_write_at s (tickets_of bad es (put bad e a))) h in
      or_from (puts bad e s) (reached bad es s) (unput (waits e) (is_write e.kind) (hits e s) (not (bad s)) (and_right (waits e) (is_write e.kind && hits e s) p.0)) (unopened es (put bad e a) s p.1)

  -- none of the run covers it either
  uncovered : (k : Kind) (es : List Entry) (a : Contents) (s : ℕ) → Kinded r k es → waiting_write_at s (tickets_of bad es a) ≡ false → (is_write k && covered (of_run r es) s) ≡ false
  uncovered k [] a s h w = and_right (is_write k) false refl
  uncovered k (e ∷ es) a s h w =
      let p = or_parts (waits e && (is_write e.kind && hits e s)) (waiting_write_at s (tickets_of bad es (put bad e a))) w in
      go (mine r e) refl p.0 (uncovered k es (put bad e a) s h.1 p.1)
    where
      both : (x y z : Bool) → (x && y) ≡ false → (x && z) ≡ false → (x && (y || z)) ≡ false
      both true y z p q = or_from y z p q
      both false y z p q = refl

      go : (b : Bool) → mine r e ≡ b → (waits e && (is_write e.kind && hits e s)) ≡ false → (is_write k && covered (of_run r es) s) ≡ false →
          (is_write k && covered (cond b (e ∷ of_run r es) (of_run r es)) s) ≡ false
      go true m p ih =
          both (is_write k) (hits e s) (covered (of_run r es) s)
          (sym (ap₂ (λ x y. x && (is_write y && hits e s)) (mine_waits r e m) (h.0 m)) ∙ p) ih
      go false m p ih = ih

  fewer : (es : List Entry) (s : ℕ) → reached bad es s ≡ false → reached bad (served r answer es) s ≡ false
  fewer [] s h = refl
  fewer (e ∷ es) s h = let p = or_parts (puts bad e s) (reached bad es s) h in go (mine r e) p.0 (fewer es s p.1)
    where
      go : (b : Bool) → puts bad e s ≡ false → reached bad (served r answer es) s ≡ false → (puts bad (cond b (answered e (answer e)) e) s || reached bad (served r answer es) s) ≡ false
      go true p ih = ih
      go false p ih = or_from (puts bad e s) (reached bad (served r answer es) s) p ih

  -- ── a flush that has become ready ──

  -- one of es that waited is ready: it is of the run
  became : (e : Entry) → ((is_flush e.kind && waits e) && (serve r answer e).ready) ≡ true → (mine r e ≡ true) × (is_flush e.kind ≡ true)
  became e h =
      let p = and_parts (is_flush e.kind && waits e) (serve r answer e).ready h in
      let q = and_parts (is_flush e.kind) (waits e) p.0 in
      (go (mine r e) p.1 q.1, q.0)
    where
      go : (b : Bool) → (cond b (answered e (answer e)) e).ready ≡ true → waits e ≡ true → b ≡ true
      go true y w = refl
      go false y w = absurd (both_ways e.ready (not-true e.ready w) y)

  flush_kind : (k : Kind) (es : List Entry) (a b : Contents) (s : ℕ) → Kinded r k es → flushed_at s (tickets_of bad es a) (tickets_of bad (served r answer es) b) ≡ true → is_flush k ≡ true
  flush_kind k [] a b s h f = absurd (false≢true f)
  flush_kind k (e ∷ es) a b s h f =
      elim (or_cases (((is_flush e.kind && waits e) && (serve r answer e).ready) && not (open_write_at s (tickets_of bad es (put bad e a)))) _ f) [
        | inl p ↦ let q = became e (and_parts ((is_flush e.kind && waits e) && (serve r answer e).ready) _ p).0 in sym (ap is_flush (h.0 q.0)) ∙ q.1
        | inr p ↦ flush_kind k es (put bad e a) (put bad (serve r answer e) b) s h.1 p
      ]

  -- before a flush that becomes ready nothing is left waiting
  none_before : (e : Entry) (es : List Entry) (a b : Contents) (s : ℕ) → All (Clear r e) es → waits e ≡ true → mine r e ≡ false →
      flushed_at s (tickets_of bad es a) (tickets_of bad (served r answer es) b) ≡ true → ⊥
  none_before e [] a b s h w m f = false≢true f
  none_before e (x ∷ es) a b s h w m f =
      elim (or_cases (((is_flush x.kind && waits x) && (serve r answer x).ready) && not (open_write_at s (tickets_of bad es (put bad x a)))) _ f) [
        | inl p ↦ let q = became x (and_parts ((is_flush x.kind && waits x) && (serve r answer x).ready) _ p).0 in both_ways (is_flush x.kind) (h.0.last w m q.0) q.1
        | inr p ↦ none_before e es (put bad x a) (put bad (serve r answer x) b) s h.1 w m p
      ]

  flush_clears : (es : List Entry) (a b : Contents) (s : ℕ) → Free r es → flushed_at s (tickets_of bad es a) (tickets_of bad (served r answer es) b) ≡ true →
      reached bad (served r answer es) s ≡ false
  flush_clears [] a b s fr f = refl
  flush_clears (e ∷ es) a b s fr f =
      elim (or_cases (((is_flush e.kind && waits e) && (serve r answer e).ready) && not (open_write_at s (tickets_of bad es (put bad e a)))) _ f) [
        | inl p ↦
            let q = and_parts ((is_flush e.kind && waits e) && (serve r answer e).ready) _ p in
            or_from (puts bad (serve r answer e) s) (reached bad (served r answer es) s) (gone (mine r e) refl (λ m. absurd (both_ways (mine r e) m (became e q.0).0)))
            (fewer es s (unopened es (put bad e a) s (not-true (open_write_at s (tickets_of bad es (put bad e a))) q.1)))
        | inr p ↦
            or_from (puts bad (serve r answer e) s) (reached bad (served r answer es) s)
            (gone (mine r e) refl (λ m. still e.ready refl (λ w. none_before e es (put bad e a) (put bad (serve r answer e) b) s fr.0 w m p)))
            (flush_clears es (put bad e a) (put bad (serve r answer e) b) s fr.1 p)
      ]
    where
      gone : (x : Bool) → mine r e ≡ x → (mine r e ≡ false → puts bad e s ≡ false) → puts bad (cond x (answered e (answer e)) e) s ≡ false
      gone true m k = refl
      gone false m k = k m

      still : (y : Bool) → e.ready ≡ y → (waits e ≡ true → ⊥) → puts bad e s ≡ false
      still true q k = ap (λ z. (not z && is_write e.kind) && (hits e s && not (bad s))) q
      still false q k = absurd (k (not_from_false e.ready q))

-- ── a turn ──

alike_of : (r : ℕ) (k : Kind) (es : List Entry) → Kinded r k es → Alike r (is_write k) es
alike_of r k es h = every _ _ es (λ e a m. ap is_write (a m)) h

part_take : (before : List ℕ) (f c t : ℕ) → c * 128 ≤ length before → covers f c t ≡ true → part (take (c * 128) before) (t - f) ≡ part before (t - f)
part_take before f c t room h =
    let p = and_parts (leb f t) (ltb t (f + c)) h in
    let lo = leb-true f t p.0 in
    let hi = ltb-true t (f + c) p.1 in
    let len = length-take-le (c * 128) before (omega arith) in
    sym (part_left (take (c * 128) before) (drop (c * 128) before) (t - f) (omega arith)) ∙ ap (λ x. part x (t - f)) (take-append-drop (c * 128) before)

-- what the run leaves below
below_after : (m : Meaning) (es : List Entry) (r : ℕ) (k : Kind) (f c : ℕ) (before : List ℕ) → Filled es → Chosen es r k f c before →
    disk_after k m (asked k f c) (sent k c before) ≡ overlay m.bad (of_run r es) m.disk
below_after m es r k f c before fill ch = go k ch.kinded ch.gathers
  where
    still : (j : Kind) → is_write j ≡ false → Kinded r j es → m.disk ≡ overlay m.bad (of_run r es) m.disk
    still j w h = sym (quiet m.bad (of_run r es) m.disk (into_run (λ e. is_write e.kind ≡ false) r es (every (λ e. mine r e ≡ true → e.kind ≡ j) _ es (λ e x q. ap is_write (x q) ∙ w) h)))

    go : (j : Kind) → Kinded r j es → (is_write j ≡ true → (buffer : List ℕ) × (c * 128 ≤ length buffer) × (before ≡ gathered f (of_run r es) buffer)) →
        disk_after j m (asked j f c) (sent j c before) ≡ overlay m.bad (of_run r es) m.disk
    go Read h g = still Read refl h
    go Flush h g = still Flush refl h
    go Write h g =
        let (buffer, room, eq) = g refl in
        let ws : WholeWrites f c (of_run r es) = whole_writes r f c es (alike_of r Write es h) fill ch.row in
        one_write m.bad (of_run r es) f c (take (c * 128) before) (λ x. part buffer (x - f)) m.disk ch.row (only_first f c (of_run r es) ws)
        (λ t h. part_take before f c t ch.room h ∙ ap (λ b. part b (t - f)) eq ∙ gathered_is f c (of_run r es) buffer t ws room (leb-true f t (and_parts (leb f t) _ h).0))

flush_due : (e : Entry) (b : List ℕ) (d : Contents) → is_flush e.kind ≡ true → bytes_due (answered e b) d ≡ bytes_due e d
flush_due e b d h = go e.kind h
  where
    go : (k : Kind) → is_flush k ≡ true →
        due_as k true b (bytes_of d e.first e.count) ≡ due_as k e.ready e.bytes (bytes_of d e.first e.count)
    go Read f = absurd (false≢true f)
    go Write f = refl
    go Flush f = refl

-- each read is handed its stretch of the buffer; what others are handed does not matter
abbrev pub Hands : (Entry → List ℕ) → List ℕ → ℕ → Type 0
Hands answer after f = (e : Entry) → e.kind ≡ Read → answer e ≡ stretch_in after f e

right_after : (m : Meaning) (es : List Entry) (r : ℕ) (k : Kind) (f c : ℕ) (before after : List ℕ) (answer : Entry → List ℕ) → Hands answer after f → Whole m.disk f c →
    Kinded r k es → Row (of_run r es) f c → after ≡ due_bytes k m.disk f c ++ drop (length (due_bytes k m.disk f c)) before →
    Right r answer m.disk es
right_after m es r Write f c before after answer hs wh h row e = right_writes r answer m.disk es (alike_of r Write es h)
right_after m es r Flush f c before after answer hs wh h row e =
    zip (λ x. mine r x ≡ true → x.kind ≡ Flush) (λ x. mine r x ≡ true → (f ≤ x.first) × (x.first + x.count ≤ f + c)) _ es
    (λ x a b q _. flush_due x (answer x) m.disk (ap is_flush (a q))) h (from_run _ r es (row_each (of_run r es) f c row))
right_after m es r Read f c before after answer hs wh h row e =
    zip (λ x. mine r x ≡ true → x.kind ≡ Read) (λ x. mine r x ≡ true → (f ≤ x.first) × (x.first + x.count ≤ f + c)) _ es
    (λ x a b q w.
    subst (λ l. bytes_due (answered x l) m.disk ≡ bytes_due x m.disk) (sym (hs x (a q) ∙ same x (b q)))
    (due_stretch m.disk f c x (mine_waits r x q) w (b q) wh)) h (from_run _ r es (row_each (of_run r es) f c row))
  where
    size : length (bytes_of m.disk f c) ≡ c * 128
    size = bytes_length m.disk f c wh

    same : (x : Entry) → (f ≤ x.first) × (x.first + x.count ≤ f + c) → stretch_in after f x ≡ stretch_in (bytes_of m.disk f c) f x
    same x b =
        ap (λ l. take (x.count * 128) (drop ((x.first - f) * 128) l)) e
        ∙ ap (take (x.count * 128)) (drop-append-le ((x.first - f) * 128) (bytes_of m.disk f c) _ (omega (arith, size)))
        ∙ take-append-le (x.count * 128) (drop ((x.first - f) * 128) (bytes_of m.disk f c)) _ (simp length-drop (omega (arith, size)))

row_some : (l : List Entry) (f c : ℕ) → Row l f c → 0 < length l
row_some [] f c h = elim h [ ]
row_some (e ∷ l) f c h = omega arith

-- one submit, one turn and one collect below are a turn of the elevator
pub a_turn : (closed : Bool) (es : List Entry) (r : ℕ) (k : Kind) (f c : ℕ) (before after : List ℕ) (answer : Entry → List ℕ) (m m' : Meaning) (ticks mask : ℕ) →
    Hands answer after f → Sound es → Filled es → Whole m.disk f c → Chosen es r k f c before → Served m m' k f c before after ticks mask →
    Turned (over closed es m) (over closed (served r answer es) m') ticks
a_turn closed es r k f c before after answer m m' ticks mask hs s fill wh ch sv = subst (λ x. Turned (over closed es m) x ticks) same turned
  where
    es' : List Entry
    es' = served r answer es

    N : Meaning
    N = record {
      size = m.size;
      capacity = cond closed 0 32;
      height = layer_height m.height;
      bad = m.bad;
      home = m.home;
      disk = overlay m.bad es' m'.disk;
      medium = m'.medium;
      tickets = tickets_of m.bad es' m'.disk;
    }

    same : N ≡ over closed es' m'
    same = λ i. record {
      size = sym sv.shape.size i;
      capacity = cond closed 0 32;
      height = layer_height (sym sv.shape.height i);
      bad = sym sv.shape.bad i;
      home = sym sv.shape.home i;
      disk = overlay (sym sv.shape.bad i) es' m'.disk;
      medium = m'.medium;
      tickets = tickets_of (sym sv.shape.bad i) es' m'.disk;
    }

    D : m'.disk ≡ overlay m.bad (of_run r es) m.disk
    D = sv.disk ∙ below_after m es r k f c before fill ch

    right : Right r answer m.disk es
    right = right_after m es r k f c before after answer hs wh ch.kinded ch.row sv.hands

    count : waiting (tickets_of m.bad es' m'.disk) + length (of_run r es) ≡ waiting (tickets_of m.bad es m.disk)
    count = count_served m.bad r answer es m.disk m'.disk

    some : 0 < length (of_run r es)
    some = row_some (of_run r es) f c ch.row

    readied : Readied (tickets_of m.bad es m.disk) (tickets_of m.bad es' m'.disk)
    readied = subst (λ x. Readied (tickets_of m.bad es m.disk) (tickets_of m.bad es' x)) (sym D)
        (serve_tickets m.bad r (is_write k) answer es m.disk ch.free (alike_of r k es ch.kinded) right)

    turned : Turned (over closed es m) N ticks
    turned = record {
      shape = record { size = refl; capacity = refl; height = refl; bad = refl; home = refl };
      disk = subst (λ x. overlay m.bad es' x ≡ overlay m.bad es m.disk) (sym D) (serve_disk m.bad r answer es m.disk ch.free);
      idle = λ z. absurd (some_wait z);
      progress = λ _. omega (arith, count, some);
      readied = readied;
      flush_order = ordered m.bad es' m'.disk (serve_sound r answer es s ch.free).pairs;
      settled = λ x agree w.
          let u = unwritten m.bad r answer es m.disk x w in
          sv.settled x (agree ∙ unreached m.bad es m.disk x u)
          (ap (λ b. is_write k && b) (sym (row_cover (of_run r es) f c x ch.row)) ∙ uncovered m.bad r answer k es m.disk x ch.kinded w)
          ∙ sym (unreached m.bad es' m'.disk x (fewer m.bad r answer es x u));
      flushed = all_flushed (overlay m.bad es' m'.disk) m'.medium readied (λ x h.
          sv.flushed (flush_kind m.bad r answer k es m.disk m'.disk x ch.kinded h) x
          ∙ sym (unreached m.bad es' m'.disk x (flush_clears m.bad r answer es m.disk m'.disk x ch.free h)));
      bounded = sv.bounded;
    }
      where
        some_wait : waiting (tickets_of m.bad es m.disk) ≡ 0 → ⊥
        some_wait z = omega (arith, count, some)

-- ── a submit and a collect ──

-- one more ticket at the end is an accepted request, whatever its run; only a write's bytes matter
pub a_submit : (closed : Bool) (es : List Entry) (m : Meaning) (q : Request) (k : Kind) (given bytes : List ℕ) (run : ℕ) → (k ≡ Write → bytes ≡ given) →
    over closed (es ++ (entry_of q k bytes run ∷ [])) m ≡ accepted (over closed es m) q k given
a_submit closed es m q k given bytes run h =
    ap₂ (with_disk (over closed es m)) (overlay_more m.bad es (entry_of q k bytes run) m.disk) (tickets_more m.bad es (entry_of q k bytes run) m.disk) ∙ go k h
  where
    go : (j : Kind) → (j ≡ Write → bytes ≡ given) →
        with_disk (over closed es m) (put m.bad (entry_of q j bytes run) (overlay m.bad es m.disk))
        (tickets_of m.bad es m.disk ++ (ticket m.bad (entry_of q j bytes run) (overlay m.bad es m.disk) ∷ []))
        ≡ accepted (over closed es m) q j given
    go Read f = refl
    go Write f = ap (λ b. with_disk (over closed es m) (put m.bad (entry_of q Write b run) (overlay m.bad es m.disk)) (tickets_of m.bad es m.disk ++ (ticket m.bad (entry_of q Write b run) (overlay m.bad es m.disk) ∷ []))) (f refl)
    go Flush f = refl

-- a ready ticket taken out leaves the disk and what the others are due
pub a_collect : (closed : Bool) (es : List Entry) (m : Meaning) (t : ℕ) → ReadyAt t es →
    over closed (gone t es) m ≡ with_disk (over closed es m) (over closed es m).disk (without t (over closed es m).tickets)
a_collect closed es m t h = ap₂ (with_disk (over closed es m)) (collect_disk m.bad t es m.disk h) (collect_tickets m.bad t es m.disk h)
