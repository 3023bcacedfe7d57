-- The tickets of a run among all open ones.
use Rattle.std.proofs.Common.{◌≡◌, ℕ, ◌+◌, ◌-◌, ◌*◌, ◌≤◌, Bool, true, false, cond, ◌&&◌, eqb, List, [], ◌∷◌, length, sym, refl, ap, ◌∙◌, arith}
use mathlib.Core.Path.{fun_ext}
use mathlib.Core.Bool.{false≢true}
use Rattle.std.proofs.lemmas.Bool.{not-true, and_parts, and_from, both_ways}
use Rattle.device.specs.declared.interface.Kind.{Kind}
use Rattle.device.specs.declared.interface.Kind.TheVariants.{Read, Write, Flush}
use Rattle.device.specs.Meaning.{Contents, is_write, part, bytes_of}
use Rattle.queue.specs.Queue.{Entry, waits, puts, overlay, due_as, bytes_due, mine, of_run, answered, All, Alike, Right, Filled}
use Rattle.queue.specs.Runs.{Row, Whole, stretch_in}
use Rattle.queue.proofs.Runs.{row_each, stretch}
use Rattle.queue.proofs.Gather.{WholeWrites}

pub into_run : (P : Entry → Type 0) (r : ℕ) (es : List Entry) → All (λ e. mine r e ≡ true → P e) es → All P (of_run r es)
into_run P r [] h = tt
into_run P r (e ∷ es) h = go (mine r e) h.0 (into_run P r es h.1)
  where
    go : (b : Bool) → (b ≡ true → P e) → All P (of_run r es) → All P (cond b (e ∷ of_run r es) (of_run r es))
    go true k ih = (k refl, ih)
    go false k ih = ih

pub from_run : (P : Entry → Type 0) (r : ℕ) (es : List Entry) → All P (of_run r es) → All (λ e. mine r e ≡ true → P e) es
from_run P r [] h = tt
from_run P r (e ∷ es) h = let k = go (mine r e) h in (k.0, from_run P r es k.1)
  where
    go : (b : Bool) → All P (cond b (e ∷ of_run r es) (of_run r es)) → (b ≡ true → P e) × All P (of_run r es)
    go true k = (λ _. k.0, k.1)
    go false k = (λ f. absurd (false≢true f), k)

pub zip : (P Q R : Entry → Type 0) (es : List Entry) → ((e : Entry) → P e → Q e → R e) → All P es → All Q es → All R es
zip P Q R [] f p q = tt
zip P Q R (e ∷ es) f p q = (f e p.0 q.0, zip P Q R es f p.1 q.1)

pub every : (P Q : Entry → Type 0) (es : List Entry) → ((e : Entry) → P e → Q e) → All P es → All Q es
every P Q [] f p = tt
every P Q (e ∷ es) f p = (f e p.0, every P Q es f p.1)

pub mine_waits : (r : ℕ) (e : Entry) → mine r e ≡ true → waits e ≡ true
mine_waits r e m = (and_parts (waits e) (eqb e.run r) m).0

-- the run's own facts, over the list of its tickets
pub whole_writes : (r f c : ℕ) (es : List Entry) → Alike r true es → Filled es → Row (of_run r es) f c → WholeWrites f c (of_run r es)
whole_writes r f c es k fill row =
    zip (λ e. ((waits e && is_write e.kind) ≡ true) × (length e.bytes ≡ e.count * 128)) (λ e. (f ≤ e.first) × (e.first + e.count ≤ f + c)) _ (of_run r es)
    (λ e a b. (a.0, b.0, b.1, a.1))
    (into_run (λ e. ((waits e && is_write e.kind) ≡ true) × (length e.bytes ≡ e.count * 128)) r es
    (zip (λ e. mine r e ≡ true → is_write e.kind ≡ true) (λ e. waits e ≡ true → is_write e.kind ≡ true → length e.bytes ≡ e.count * 128) _ es
    (λ e a b m. (and_from (waits e) (is_write e.kind) (mine_waits r e m) (a m), b (mine_waits r e m) (a m))) k fill))
    (row_each (of_run r es) f c row)

pub only_first : (f c : ℕ) (es : List Entry) → WholeWrites f c es → All (λ e. (waits e && is_write e.kind) ≡ true) es
only_first f c es h = every _ _ es (λ e a. a.0) h

pub right_writes : (r : ℕ) (answer : Entry → List ℕ) (d : Contents) (es : List Entry) → Alike r true es → Right r answer d es
right_writes r answer d [] k = tt
right_writes r answer d (e ∷ es) k = (λ m w. absurd (both_ways (is_write e.kind) w (k.0 m)), right_writes r answer d es k.1)

-- what does not write changes nothing below
pub quiet : (bad : ℕ → Bool) (es : List Entry) (d : Contents) → All (λ e. is_write e.kind ≡ false) es → overlay bad es d ≡ d
quiet bad [] d h = refl
quiet bad (e ∷ es) d h = ap (overlay bad es) (fun_ext (λ s. still s (puts bad e s) refl)) ∙ quiet bad es d h.1
  where
    still : (s : ℕ) (b : Bool) → puts bad e s ≡ b → cond b (part e.bytes (s - e.first)) (d s) ≡ d s
    still s true p = absurd (both_ways (is_write e.kind) h.0 (and_parts (waits e) (is_write e.kind) (and_parts (waits e && is_write e.kind) _ p).0).1)
    still s false p = refl

pub due_stretch : (d : Contents) (f c : ℕ) (e : Entry) → waits e ≡ true → is_write e.kind ≡ false → (f ≤ e.first) × (e.first + e.count ≤ f + c) → Whole d f c →
    bytes_due (answered e (stretch_in (bytes_of d f c) f e)) d ≡ bytes_due e d
due_stretch d f c e w k b wh = go e.kind e.ready (not-true e.ready w)
  where
    at : stretch_in (bytes_of d f c) f e ≡ bytes_of d e.first e.count
    at = stretch d f c (e.first - f) e.count (omega arith) wh ∙ ap (λ x. bytes_of d x e.count) (omega arith)

    go : (kd : Kind) (rd : Bool) → rd ≡ false →
        due_as kd true (stretch_in (bytes_of d f c) f e) (bytes_of d e.first e.count) ≡ due_as kd rd e.bytes (bytes_of d e.first e.count)
    go Read rd z = at ∙ sym (ap (λ x. cond x e.bytes (bytes_of d e.first e.count)) z)
    go Write rd z = refl
    go Flush rd z = refl
