-- The open ticket of a tag on both sides and on the mirror.
use Rattle.std.proofs.Common.{◌≡◌, ℕ, zero, suc, ◌*◌, ◌≤◌, min, Bool, true, false, cond, eqb, List, [], ◌∷◌, length, Some, None, Option, sym, refl, ap, ◌∙◌, ⊎_elim, arith}
use Rattle.std.proofs.lemmas.Bool.{cases_Bool, cond_both}
use Rattle.device.specs.Meaning.{Meaning, Ticket, is_read}
use Rattle.device.specs.Collect.{found}
use Rattle.device.specs.Questions.{tag_at, state_as, state_of, byte_count_as, byte_count}
use Rattle.device.specs.Sound.{Sound, WellFormed, Each}
use Rattle.device.proofs.Forms.{fair_short}
use Rattle.gate.specs.Means.{gated}
use Rattle.gate.specs.SoundFacts.{gated_sound}
use Rattle.mirror.specs.Means.{both, paired, all_paired, mirrored, Alike, Agree, Level}
use Rattle.mirror.specs.SoundFacts.{Pairs, pairs, pairs_paired, length_alike, well_paired, mirrored_sound}

pub tag_at_alike : (i : ℕ) {xs ys : List Ticket} → Pairs xs ys → tag_at i ys ≡ tag_at i xs
tag_at_alike i Pairs.none = refl
tag_at_alike zero (Pairs.more l h) = ap Some l.tag
tag_at_alike (suc i) (Pairs.more l h) = tag_at_alike i h

-- the bytes of a ticket, by its kind
well_length : {size : ℕ} {bad : ℕ → Bool} (t : Ticket) → WellFormed size bad t → length t.bytes ≡ cond (is_read t.kind) (t.count * 128) 0
well_length t w = ⊎_elim (λ r. rw r (w.read r)) (λ r. rw r (w.other r)) (cases_Bool (is_read t.kind))

pub well_short : {size : ℕ} {bad : ℕ → Bool} (t : Ticket) → WellFormed size bad t → length t.bytes ≤ 1024
well_short t w =
    let c = fair_short t.kind t.first t.count w.count in
    rw (well_length t w) (cond_both (is_read t.kind) (t.count * 128) 0 (λ n. n ≤ 1024) (λ r. omega arith) (λ r. omega arith))

module _ (sa sb : ℕ) (p q : ℕ → Bool) where
  pub data Looked : Option Ticket → Option Ticket → Option Ticket → Type 0 where
    nothing : Looked None None None
    there : {x y : Ticket} → Alike x y → WellFormed sa p x → WellFormed sb q y → Looked (Some x) (Some y) (Some (paired p q x y))

  look_if : (b : Bool) {x y : Ticket} {o₁ o₂ o₃ : Option Ticket} → Alike x y → WellFormed sa p x → WellFormed sb q y → Looked o₁ o₂ o₃
      → Looked (cond b (Some x) o₁) (cond b (Some y) o₂) (cond b (Some (paired p q x y)) o₃)
  look_if true l v w r = Looked.there l v w
  look_if false l v w r = r

  pub look : (t : ℕ) {xs ys : List Ticket} → Pairs xs ys → Each (WellFormed sa p) xs → Each (WellFormed sb q) ys
      → Looked (found t xs) (found t ys) (found t (all_paired p q xs ys))
  look t Pairs.none v w = Looked.nothing
  look t (Pairs.more {x} {y} l h) v w =
      let e : eqb t y.tag ≡ eqb t x.tag = ap (eqb t) l.tag in rw e (look_if (eqb t x.tag) l v.0 w.0 (look t h v.1 w.1))

  pub length_pair : {x y : Ticket} → Alike x y → WellFormed sa p x → WellFormed sb q y → length (paired p q x y).bytes ≡ length x.bytes
  length_pair {x} {y} l v w = well_length (paired p q x y) (well_paired sa sb p q x y l v w) ∙ sym (well_length x v)

  pub length_other : {x y : Ticket} → Alike x y → WellFormed sa p x → WellFormed sb q y → length y.bytes ≡ length x.bytes
  length_other {x} {y} l v w = cc (well_length x v, well_length y w)

  pub state_looked : {o₁ o₂ o₃ : Option Ticket} → Looked o₁ o₂ o₃ → state_as o₃ ≡ state_as o₁
  state_looked Looked.nothing = refl
  state_looked (Looked.there l v w) = refl

  pub count_looked : {o₁ o₂ o₃ : Option Ticket} → Looked o₁ o₂ o₃ → byte_count_as o₃ ≡ byte_count_as o₁
  count_looked Looked.nothing = refl
  count_looked (Looked.there l v w) = length_pair l v w

-- what a mirror shows of its tickets is what its left side shows
pub record Shows (a b : Meaning) : Type 0 where
  pub many : length (mirrored a b).tickets ≡ length a.tickets
  pub tag_is : (i : ℕ) → tag_at i (mirrored a b).tickets ≡ tag_at i a.tickets
  pub state : (t : ℕ) → state_of t (mirrored a b).tickets ≡ state_of t a.tickets
  pub bytes : (t : ℕ) → byte_count t (mirrored a b).tickets ≡ byte_count t a.tickets

shows_both : (a b : Meaning) → Sound a → Sound b → Agree a.tickets b.tickets → Shows a b
shows_both a b v w l =
    let h = pairs a.tickets b.tickets l in
    let g = pairs_paired a.bad b.bad h in
    record {
      many = length_alike g;
      tag_is = λ i. tag_at_alike i g;
      state = λ t. state_looked a.size b.size a.bad b.bad (look a.size b.size a.bad b.bad t h v.tickets w.tickets);
      bytes = λ t. count_looked a.size b.size a.bad b.bad (look a.size b.size a.bad b.bad t h v.tickets w.tickets);
    }

pub shows : (s t : Bool) {a b : Meaning} → Sound a → Sound b → Level (gated s a) (gated t b) → Shows (gated s a) (gated t b)
shows s t {a} {b} v w l = shows_both (gated s a) (gated t b) (gated_sound s a v) (gated_sound t b w) l

pub short_bytes : (s t : Bool) {a b : Meaning} (tag : ℕ) → Sound a → Sound b → Level (gated s a) (gated t b) → byte_count tag (mirrored (gated s a) (gated t b)).tickets ≤ 1024
short_bytes s t {a} {b} tag v w l =
    along _ (mirrored_sound (gated s a) (gated t b) (gated_sound s a v) (gated_sound t b w) l).tickets
  where
    along : (ts : List Ticket) → Each (WellFormed (min a.size b.size) (both a.bad b.bad)) ts → byte_count tag ts ≤ 1024
    along [] w = omega arith
    along (x ∷ xs) w = cond_both (eqb tag x.tag) (Some x) (found tag xs) (λ o. byte_count_as o ≤ 1024) (λ _. well_short x w.0) (λ _. along xs w.1)
