-- What holds of the buffer goes on holding when sectors are brought in.
use Rattle.std.proofs.Common.{◌≡◌, ℕ, zero, suc, ◌+◌, ◌*◌, ◌<◌, ◌≤◌, true, false, not, ◌&&◌, ◌||◌, eqb, leb, List, [], ◌∷◌, ◌++◌, length, get_or, sym, refl, ap, ◌∙◌, subst, arith}
use Rattle.std.proofs.lemmas.List.{length-append, length-drop}
use Rattle.std.proofs.lemmas.List.Recursion.{and_at, and_push, and_from_places, or_push}
use Rattle.std.proofs.lemmas.Bool.{and_parts, and_from, or_parts, or_from, not-true, not_from_false, eqb-true, eqb-false, eq-eqb, ne_eqb, le-leb, cond_both}
use Rattle.device.specs.Meaning.{part}
use Rattle.sectors.specs.Memory.{listed, put_sector}
use Rattle.sectors.proofs.Runs.{length_part}
use Rattle.sectors.proofs.Parts.{length_sector}
use Rattle.drive.specs.SoundFacts.{Fits, lies_parts}
use Rattle.drive.specs.declared.buffer.Entry.{Entry}
use Rattle.drive.specs.declared.buffer.Buffer.{Buffer}
use Rattle.drive.specs.Buffer.{entry, stands_in, renewed, full, younger, put_oldest, eased, pushed_out, brought_in, put_out, brought_run, put_out_run, put_all, lies, all_lie, all_good, single}

-- renewed

length_renewed : (s : ℕ) (x : List ℕ) (es : List Entry) → length (renewed s x es) ≡ length es
length_renewed s x [] = refl
length_renewed s x (e ∷ es) =
    cond_both (eqb s e.sector) (entry e.sector x ∷ es) (e ∷ renewed s x es) (λ ys. length ys ≡ suc (length es)) (λ h. refl) (λ h. ap suc (length_renewed s x es))

lies_from : (room : ℕ) (s : ℕ) (x : List ℕ) → (s + 1) * 128 ≤ room → length x ≡ 128 → lies room (entry s x) ≡ true
lies_from room s x a b = and_from (leb ((s + 1) * 128) room) (eqb (length x) 128) (le-leb ((s + 1) * 128) room a) (eq-eqb (length x) 128 b)

lie_renewed : (room s : ℕ) (x : List ℕ) (es : List Entry) → length x ≡ 128 → all_lie room es ≡ true → all_lie room (renewed s x es) ≡ true
lie_renewed room s x [] l h = refl
lie_renewed room s x (e ∷ es) l h =
    let a = and_parts (lies room e) (all_lie room es) h in
    cond_both (eqb s e.sector) (entry e.sector x ∷ es) (e ∷ renewed s x es) (λ ys. all_lie room ys ≡ true)
    (λ t. and_from (lies room (entry e.sector x)) (all_lie room es) (lies_from room e.sector x (lies_parts room e a.0).0 l) a.1)
    (λ t. and_from (lies room e) (all_lie room (renewed s x es)) a.0 (lie_renewed room s x es l a.1))

good_renewed : (named : List ℕ) (s : ℕ) (x : List ℕ) (es : List Entry) → all_good named (renewed s x es) ≡ all_good named es
good_renewed named s x [] = refl
good_renewed named s x (e ∷ es) =
    cond_both (eqb s e.sector) (entry e.sector x ∷ es) (e ∷ renewed s x es) (λ ys. all_good named ys ≡ all_good named (e ∷ es))
    (λ t. refl) (λ t. ap (λ b. not (listed e.sector named) && b) (good_renewed named s x es))

in_renewed : (t s : ℕ) (x : List ℕ) (es : List Entry) → stands_in t (renewed s x es) ≡ stands_in t es
in_renewed t s x [] = refl
in_renewed t s x (e ∷ es) =
    cond_both (eqb s e.sector) (entry e.sector x ∷ es) (e ∷ renewed s x es) (λ ys. stands_in t ys ≡ stands_in t (e ∷ es))
    (λ h. refl) (λ h. ap (λ b. eqb t e.sector || b) (in_renewed t s x es))

single_renewed : (s : ℕ) (x : List ℕ) (es : List Entry) → single (renewed s x es) ≡ single es
single_renewed s x [] = refl
single_renewed s x (e ∷ es) =
    cond_both (eqb s e.sector) (entry e.sector x ∷ es) (e ∷ renewed s x es) (λ ys. single ys ≡ single (e ∷ es))
    (λ h. refl)
    (λ h. ap (λ b. not b && single (renewed s x es)) (in_renewed e.sector s x es) ∙ ap (λ b. not (stands_in e.sector es) && b) (single_renewed s x es))

-- one more at the end

in_push : (t : ℕ) (es : List Entry) (q : Entry) → stands_in t es ≡ false → eqb t q.sector ≡ false → stands_in t (es ++ q ∷ []) ≡ false
in_push t es q h k = or_push (stands_in t) (λ e. eqb t e.sector) refl (λ _ _. refl) es q ∙ or_from (stands_in t es) (eqb t q.sector) h k

eqb_swap : (a b : ℕ) → eqb a b ≡ false → eqb b a ≡ false
eqb_swap a b h = ne_eqb b a (λ e. eqb-false a b h (sym e))

single_push : (es : List Entry) (q : Entry) → single es ≡ true → stands_in q.sector es ≡ false → single (es ++ q ∷ []) ≡ true
single_push [] q h k = refl
single_push (e ∷ es) q h k =
    let a = and_parts (not (stands_in e.sector es)) (single es) h in
    let o = or_parts (eqb q.sector e.sector) (stands_in q.sector es) k in
    and_from (not (stands_in e.sector (es ++ q ∷ []))) (single (es ++ q ∷ []))
    (not_from_false (stands_in e.sector (es ++ q ∷ [])) (in_push e.sector es q (not-true (stands_in e.sector es) a.0) (eqb_swap q.sector e.sector o.0)))
    (single_push es q a.1 o.1)

-- what holds of the buffer, at its front

-- of an entry and those younger
pub record Heads (room : ℕ) (named : List ℕ) (e : Entry) (es : List Entry) : Type 0 where
  pub inside : (e.sector + 1) * 128 ≤ room
  pub good : listed e.sector named ≡ false
  pub whole : length e.bytes ≡ 128
  pub alone : stands_in e.sector es ≡ false
  pub rest : Fits room named es

pub heads : {room : ℕ} {named : List ℕ} {e : Entry} {es : List Entry} → Fits room named (e ∷ es) → Heads room named e es
heads {room} {named} {e} {es} f =
    let a = and_parts (lies room e) (all_lie room es) f.lie in
    let p = lies_parts room e a.0 in
    let g = and_parts (not (listed e.sector named)) (all_good named es) f.good in
    let s = and_parts (not (stands_in e.sector es)) (single es) f.single in
    let n = f.most in
    record {
      inside = p.0;
      good = not-true (listed e.sector named) g.0;
      whole = p.1;
      alone = not-true (stands_in e.sector es) s.0;
      rest = record { most = omega arith; lie = a.1; good = g.1; single = s.1 };
    }

younger_fits : {room : ℕ} {named : List ℕ} (es : List Entry) → Fits room named es → Fits room named (younger es)
younger_fits [] f = f
younger_fits (e ∷ es) f = (heads f).rest

in_younger : (t : ℕ) (es : List Entry) → stands_in t es ≡ false → stands_in t (younger es) ≡ false
in_younger t [] h = refl
in_younger t (e ∷ es) h = (or_parts (eqb t e.sector) (stands_in t es) h).1

pub in_eased : (t : ℕ) (es : List Entry) → stands_in t es ≡ false → stands_in t (eased es) ≡ false
in_eased t es h = cond_both (full es) (younger es) es (λ ys. stands_in t ys ≡ false) (λ f. in_younger t es h) (λ f. h)

eased_room : (es : List Entry) → length es ≤ 8 → length (eased es) < 8
eased_room es h =
    cond_both (full es) (younger es) es (λ ys. length ys < 8)
    (λ t. let e = eqb-true (length es) 8 t in omega (arith, length-drop 1 es))
    (λ t. let n = eqb-false (length es) 8 t in omega arith)

lie_more : (room more : ℕ) (es : List Entry) → room ≤ more → all_lie room es ≡ true → all_lie more es ≡ true
lie_more room more es le h =
    and_from_places (all_lie more) (lies more) refl (λ _ _. refl) es (entry 0 [])
    (λ i lt.
    let e = get_or es i (entry 0 []) in
    let p = lies_parts room e (and_at (all_lie room) (lies room) refl (λ _ _. refl) es i (entry 0 []) lt h) in
    let q = p.0 in
    lies_from more e.sector e.bytes (omega arith) p.1)

pub none_fits : (room : ℕ) (named : List ℕ) → Fits room named []
none_fits room named = record { most = omega arith; lie = refl; good = refl; single = refl }

-- what a buffer keeps to that fits its row

module _ (room : ℕ) (named : List ℕ) (es : List Entry) (f : Fits room named es) where
  pub fits_more : (more : ℕ) → room ≤ more → Fits more named es
  fits_more more le = record { most = f.most; lie = lie_more room more es le f.lie; good = f.good; single = f.single }

  renew_fits : (s : ℕ) (x : List ℕ) → length x ≡ 128 → Fits room named (renewed s x es)
  renew_fits s x l = record {
    most = omega (arith, length_renewed s x es, f.most);
    lie = lie_renewed room s x es l f.lie;
    good = good_renewed named s x es ∙ f.good;
    single = single_renewed s x es ∙ f.single;
  }

  push_fits : (s : ℕ) (x : List ℕ) → length es < 8 → (s + 1) * 128 ≤ room → length x ≡ 128 → listed s named ≡ false → stands_in s es ≡ false → Fits room named (es ++ entry s x ∷ [])
  push_fits s x n i l g a = record {
    most = omega (arith, length-append es (entry s x ∷ []));
    lie = and_push (all_lie room) (lies room) refl (λ _ _. refl) es (entry s x) ∙ and_from (all_lie room es) (lies room (entry s x)) f.lie (lies_from room s x i l);
    good = and_push (all_good named) (λ e. not (listed e.sector named)) refl (λ _ _. refl) es (entry s x)
        ∙ and_from (all_good named es) (not (listed s named)) f.good (not_from_false (listed s named) g);
    single = single_push es (entry s x) f.single a;
  }

  ease_fits : Fits room named (eased es)
  ease_fits = cond_both (full es) (younger es) es (Fits room named) (λ t. younger_fits es f) (λ t. f)

module _ (room : ℕ) (named : List ℕ) where
  -- a sector brought in
  pub bring_fits : (es : List Entry) → Fits room named es → (s : ℕ) (x : List ℕ) → (s + 1) * 128 ≤ room → length x ≡ 128 → listed s named ≡ false → Fits room named (brought_in s x es)
  bring_fits es f s x i l g =
      cond_both (stands_in s es) (renewed s x es) (eased es ++ entry s x ∷ []) (Fits room named)
      (λ h. renew_fits room named es f s x l)
      (λ h. push_fits room named (eased es) (ease_fits room named es f) s x (eased_room es f.most) i l g (in_eased s es h))

  -- a run brought in
  pub run_fits : (es : List Entry) → Fits room named es → (first n : ℕ) (bytes : List ℕ) → (first + n) * 128 ≤ room → n * 128 ≤ length bytes → Fits room named (brought_run named first n bytes es)
  run_fits es f first zero bytes i l = f
  run_fits es f first (suc n) bytes i l =
      let ih = run_fits es f first n bytes (omega arith) (omega arith) in
      cond_both (listed (first + n) named) (brought_run named first n bytes es) (brought_in (first + n) (part bytes n) (brought_run named first n bytes es)) (Fits room named)
      (λ h. ih)
      (λ h. bring_fits (brought_run named first n bytes es) ih (first + n) (part bytes n) (omega arith) (length_part bytes n (omega arith)) h)

-- the row keeps its length

module _ (named : List ℕ) where
  length_oldest : (es : List Entry) (row : List ℕ) → Fits (length row) named es → length (put_oldest named es row) ≡ length row
  length_oldest [] row f = refl
  length_oldest (e ∷ es) row f = let h = heads f in length_sector named e.sector e.bytes row h.whole h.inside

  pub length_eased : (es : List Entry) (row : List ℕ) → Fits (length row) named es → length (pushed_out named es row) ≡ length row
  length_eased es row f = cond_both (full es) (put_oldest named es row) row (λ r. length r ≡ length row) (λ t. length_oldest es row f) (λ t. refl)

  pub length_put_out : (s : ℕ) (es : List Entry) (row : List ℕ) → Fits (length row) named es → length (put_out named s es row) ≡ length row
  length_put_out s es row f = cond_both (stands_in s es) row (pushed_out named es row) (λ r. length r ≡ length row) (λ t. refl) (λ t. length_eased es row f)

  pub length_run_out : (first n : ℕ) (bytes : List ℕ) (es : List Entry) (row : List ℕ) → (first + n) * 128 ≤ length row → n * 128 ≤ length bytes → Fits (length row) named es
      → length (put_out_run named first n bytes es row) ≡ length row
  length_run_out first zero bytes es row i l f = refl
  length_run_out first (suc n) bytes es row i l f =
      let ih = length_run_out first n bytes es row (omega arith) (omega arith) f in
      let fn = run_fits (length row) named es f first n bytes (omega arith) (omega arith) in
      cond_both (listed (first + n) named) (put_out_run named first n bytes es row)
      (put_out named (first + n) (brought_run named first n bytes es) (put_out_run named first n bytes es row)) (λ r. length r ≡ length row)
      (λ t. ih)
      (λ t. length_put_out (first + n) (brought_run named first n bytes es) (put_out_run named first n bytes es row) (subst (λ z. Fits z named (brought_run named first n bytes es)) (sym ih) fn) ∙ ih)

  pub length_all : (es : List Entry) (row : List ℕ) → Fits (length row) named es → length (put_all named es row) ≡ length row
  length_all [] row f = refl
  length_all (e ∷ es) row f =
      let h = heads f in
      let one = length_sector named e.sector e.bytes row h.whole h.inside in
      length_all es (put_sector named e.sector e.bytes row) (subst (λ z. Fits z named es) (sym one) h.rest) ∙ one

-- a buffer keeps to that, also once a sector is brought in

pub fits_in : (b : Buffer) → Fits (length b.row.bytes.now) b.row.named (b.entries.items)
fits_in b = record { most = b.most; lie = b.lie; good = b.good; single = b.single }

pub bring_keeps : (b : Buffer) (s : ℕ) (x : List ℕ) → (s + 1) * 128 ≤ length b.row.bytes.now → length x ≡ 128 → listed s b.row.named ≡ false
    → {es : List Entry} {row named : List ℕ} → es ≡ brought_in s x (b.entries.items) → row ≡ put_out b.row.named s (b.entries.items) b.row.bytes.now → named ≡ b.row.named
    → Fits (length row) named es
bring_keeps b s x i l g e r n =
    let es = b.entries.items in
    let m = ap length r ∙ length_put_out b.row.named s es b.row.bytes.now (fits_in b) in
    rw (m, n, e) (bring_fits (length b.row.bytes.now) b.row.named es (fits_in b) s x i l g)
