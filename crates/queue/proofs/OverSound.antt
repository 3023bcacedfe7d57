-- What an elevator means is sound.
use Rattle.std.proofs.Common.{◌≡◌, ℕ, ◌+◌, ◌-◌, ◌*◌, ◌<◌, ◌≤◌, Bool, true, false, cond, not, ◌&&◌, eqb, ltb, leb, List, [], ◌∷◌, length, drop, sym, refl, ap, ◌∙◌, subst, true≢false, arith, length-drop, length-take}
use Rattle.std.proofs.lemmas.Bool.{and_parts, and_from, or_from, ne_eqb, not_from_false, leb-true, ltb-true, cond_both, and_right, not_from_true}
use Rattle.device.specs.declared.interface.Kind.{Kind}
use Rattle.device.specs.declared.interface.Kind.TheVariants.{Read, Write, Flush}
use Rattle.device.specs.Meaning.{Meaning, Contents, is_read, is_write, part, bytes_of}
use Rattle.device.specs.Submit.{tag_is_open}
use Rattle.device.specs.Sound as device
use Rattle.queue.specs.Queue.{Entry, waits, hits, puts, put, overlay, due_as, tickets_of, All, Pairs}
use Rattle.queue.specs.Runs.{reached}
use Rattle.queue.specs.Sound.{Fits, Sound, Proper}
use Rattle.queue.specs.Over.{over}
use Rattle.queue.proofs.Runs.{bytes_length, unreached}
use Rattle.queue.proofs.Calls.{ordered}

-- a sector's part of whole bytes is whole
part_length : (bytes : List ℕ) (n i : ℕ) → length bytes ≡ n * 128 → i < n → length (part bytes i) ≡ 128
part_length bytes n i h k = length-take 128 (drop (i * 128) bytes) ∙ (let e = length-drop (i * 128) bytes in omega arith)

-- contents whose sectors below the size are whole
abbrev pub WholeBelow : ℕ → Contents → Type 0
WholeBelow size d = (s : ℕ) → s < size → length (d s) ≡ 128

pub put_whole : (bad : ℕ → Bool) (size : ℕ) (e : Entry) (d : Contents) → length e.bytes ≡ e.count * 128 → WholeBelow size d → WholeBelow size (put bad e d)
put_whole bad size e d w h s k =
    cond_both (puts bad e s) (part e.bytes (s - e.first)) (d s) (λ x. length x ≡ 128)
    (λ p.
    let a = (and_parts (hits e s) (not (bad s)) (and_parts (waits e && is_write e.kind) (hits e s && not (bad s)) p).1).0 in
    let b = and_parts (leb e.first s) (ltb s (e.first + e.count)) a in
    let lo = leb-true e.first s b.0 in
    let hi = ltb-true s (e.first + e.count) b.1 in
    part_length e.bytes e.count (s - e.first) w (omega arith))
    (λ p. h s k)

overlay_whole : (bad : ℕ → Bool) (size : ℕ) (es : List Entry) (d : Contents) → All (Proper size) es → WholeBelow size d → WholeBelow size (overlay bad es d)
overlay_whole bad size [] d p h = h
overlay_whole bad size (e ∷ es) d p h = overlay_whole bad size es (put bad e d) p.1 (put_whole bad size e d p.0.whole h)

-- a bad sector is never written
not_reached : (bad : ℕ → Bool) (es : List Entry) (s : ℕ) → bad s ≡ true → reached bad es s ≡ false
not_reached bad [] s h = refl
not_reached bad (e ∷ es) s h =
    or_from (puts bad e s) (reached bad es s)
    (and_right (waits e && is_write e.kind) (hits e s && not (bad s)) (and_right (hits e s) (not (bad s)) (not_from_true (bad s) h)))
    (not_reached bad es s h)

-- ── the tickets ──

due_length_of : (k : Kind) (ready : Bool) (stored due : List ℕ) (n : ℕ) → length stored ≡ n → length due ≡ n → is_read k ≡ true → length (due_as k ready stored due) ≡ n
due_length_of Read true stored due n a b h = a
due_length_of Read false stored due n a b h = b
due_length_of Write ready stored due n a b h = absurd (true≢false (sym h))
due_length_of Flush ready stored due n a b h = absurd (true≢false (sym h))

due_none : (k : Kind) (ready : Bool) (stored due : List ℕ) → is_read k ≡ false → length (due_as k ready stored due) ≡ 0
due_none Read ready stored due h = absurd (true≢false h)
due_none Write ready stored due h = refl
due_none Flush ready stored due h = refl

well_formed : (bad : ℕ → Bool) (size : ℕ) (es : List Entry) (d : Contents) → All (Proper size) es → WholeBelow size d → device.Each (device.WellFormed size bad) (tickets_of bad es d)
well_formed bad size [] d p h = tt
well_formed bad size (e ∷ es) d p h = (
  record {
    count = p.0.count;
    inside = p.0.inside;
    mask = refl;
    read = λ r. due_length_of e.kind e.ready e.bytes (bytes_of d e.first e.count) (e.count * 128) p.0.whole (bytes_length d e.first e.count (λ s a b. h s (let i = p.0.inside in omega arith))) r;
    other = λ r. due_none e.kind e.ready e.bytes (bytes_of d e.first e.count) r;
  },
  well_formed bad size es (put bad e d) p.1 (put_whole bad size e d p.0.whole h),
)

not_open : (bad : ℕ → Bool) (e : Entry) (es : List Entry) (d : Contents) → All (Fits e) es → tag_is_open e.tag (tickets_of bad es d) ≡ false
not_open bad e [] d h = refl
not_open bad e (x ∷ es) d h = or_from (eqb e.tag x.tag) (tag_is_open e.tag (tickets_of bad es (put bad x d))) (ne_eqb e.tag x.tag h.0.other) (not_open bad e es (put bad x d) h.1)

tags_differ : (bad : ℕ → Bool) (es : List Entry) (d : Contents) → Pairs Fits es → device.distinct (tickets_of bad es d) ≡ true
tags_differ bad [] d h = refl
tags_differ bad (e ∷ es) d h =
    and_from (not (tag_is_open e.tag (tickets_of bad es (put bad e d)))) (device.distinct (tickets_of bad es (put bad e d)))
    (not_from_false (tag_is_open e.tag (tickets_of bad es (put bad e d))) (not_open bad e es (put bad e d) h.0)) (tags_differ bad es (put bad e d) h.1)

pub tickets_length : (bad : ℕ → Bool) (es : List Entry) (d : Contents) → length (tickets_of bad es d) ≡ length es
tickets_length bad [] d = refl
tickets_length bad (e ∷ es) d = ap (λ n. Prim.Native.Nat.suc n) (tickets_length bad es (put bad e d))

capacity_few : (closed : Bool) → cond closed 0 32 ≤ 32
capacity_few true = omega arith
capacity_few false = omega arith

pub over_sound : (closed : Bool) (es : List Entry) (m : Meaning) → device.Sound m → Sound es → All (Proper m.size) es → length es ≤ cond closed 0 32 → device.Sound (over closed es m)
over_sound closed es m s q p l = record {
  size = s.size;
  capacity = capacity_few closed;
  height = omega arith;
  room = subst (λ n. n ≤ cond closed 0 32) (sym (tickets_length m.bad es m.disk)) l;
  tags = tags_differ m.bad es m.disk q.pairs;
  tickets = well_formed m.bad m.size es m.disk p s.disk;
  flush_order = ordered m.bad es m.disk q.pairs;
  bad_inside = s.bad_inside;
  bad_disk = λ x h. unreached m.bad es m.disk x (not_reached m.bad es x h) ∙ s.bad_disk x h;
  bad_medium = s.bad_medium;
  disk = overlay_whole m.bad m.size es m.disk p s.disk;
  medium = s.medium;
}
