-- What the buffer over the medium shows once sectors are brought in and put out.
use Rattle.std.proofs.Common.{◌≡◌, ℕ, zero, suc, ◌+◌, ◌-◌, ◌*◌, ◌<◌, ◌≤◌, Bool, true, false, cond, not, ◌&&◌, ◌||◌, eqb, ltb, leb, ◌⊎◌, List, [], ◌∷◌, ◌++◌, length, take, drop, sym, refl, ap, ◌∙◌, inl, inr, ⊎_elim, arith}
use Rattle.std.proofs.lemmas.Bool.{cases_Bool, cases_order, cases_eq, and_from, and_left, and_right, or_parts, not_from_false, eqb-true, eqb-false, eq-eqb, ne_eqb, lt-ltb, le-ltb, cond-true, cond-false, cond_both, both_ways}
use Rattle.device.specs.Meaning.{Contents, part, zeros, covers}
use Rattle.sectors.specs.Memory.{listed, put_sector}
use Rattle.sectors.specs.Shown.{shown}
use Rattle.sectors.proofs.Parts.{length_sector, sector_here, sector_other, covers_not, covers_in}
use Rattle.drive.specs.SoundFacts.{Fits}
use Rattle.drive.specs.declared.buffer.Entry.{Entry}
use Rattle.drive.specs.Buffer.{entry, stands_in, buffered, renewed, full, younger, put_oldest, eased, pushed_out, brought_in, put_out, brought_run, put_out_run, put_all}
use Rattle.drive.proofs.Keeping.{Heads, heads, in_eased, run_fits, fits_more, length_run_out}

-- two tests of which at most one holds
swap : (a b : Bool) (x y z : List ℕ) → (a ≡ true → b ≡ true → ⊥) → cond a x (cond b y z) ≡ cond b y (cond a x z)
swap true true x y z h = absurd (h refl refl)
swap true false x y z h = refl
swap false b x y z h = refl

twice : (a : Bool) (x y z : List ℕ) → cond a x (cond a y z) ≡ cond a x z
twice true x y z = refl
twice false x y z = refl

apart : (s k : ℕ) (e : Entry) → eqb k e.sector ≡ false → eqb s e.sector ≡ true → eqb s k ≡ true → ⊥
apart s k e h a b = eqb-false k e.sector h (sym (eqb-true s k b) ∙ eqb-true s e.sector a)

-- the contents below take bytes at a sector that the buffer has not
under : (k : ℕ) (x : List ℕ) (below below' : Contents) (es : List Entry) (s : ℕ) → below' s ≡ cond (eqb s k) x (below s) → stands_in k es ≡ false → buffered es below' s ≡ cond (eqb s k) x (buffered es below s)
under k x below below' [] s e h = e
under k x below below' (p ∷ ps) s e h =
    let o = or_parts (eqb k p.sector) (stands_in k ps) h in
    ap (cond (eqb s p.sector) p.bytes) (under k x below below' ps s e o.1)
    ∙ swap (eqb s p.sector) (eqb s k) p.bytes x (buffered ps below s) (apart s k p o.0)

-- a new sector at the end of the buffer
pushed : (k : ℕ) (x : List ℕ) (below : Contents) (es : List Entry) (s : ℕ) → stands_in k es ≡ false → buffered (es ++ entry k x ∷ []) below s ≡ cond (eqb s k) x (buffered es below s)
pushed k x below [] s h = refl
pushed k x below (p ∷ ps) s h =
    let o = or_parts (eqb k p.sector) (stands_in k ps) h in
    ap (cond (eqb s p.sector) p.bytes) (pushed k x below ps s o.1)
    ∙ swap (eqb s p.sector) (eqb s k) p.bytes x (buffered ps below s) (apart s k p o.0)

-- a sector in the buffer takes new bytes
taken_by : (k : ℕ) (x : List ℕ) (below : Contents) (p : Entry) (ps : List Entry) (s : ℕ)
    → (stands_in k ps ≡ true → buffered (renewed k x ps) below s ≡ cond (eqb s k) x (buffered ps below s))
    → (b : Bool) → eqb k p.sector ≡ b → (b || stands_in k ps) ≡ true
    → buffered (cond b (entry p.sector x ∷ ps) (p ∷ renewed k x ps)) below s ≡ cond (eqb s k) x (cond (eqb s p.sector) p.bytes (buffered ps below s))
taken_by k x below p ps s ih true e h =
    sym (ap (λ z. cond (eqb s z) x (cond (eqb s p.sector) p.bytes (buffered ps below s))) (eqb-true k p.sector e)
    ∙ twice (eqb s p.sector) x p.bytes (buffered ps below s))
taken_by k x below p ps s ih false e h =
    ap (cond (eqb s p.sector) p.bytes) (ih h)
    ∙ swap (eqb s p.sector) (eqb s k) p.bytes x (buffered ps below s) (apart s k p e)

taken : (k : ℕ) (x : List ℕ) (below : Contents) (es : List Entry) (s : ℕ) → stands_in k es ≡ true → buffered (renewed k x es) below s ≡ cond (eqb s k) x (buffered es below s)
taken k x below [] s h = absurd (both_ways false refl h)
taken k x below (p ∷ ps) s h = taken_by k x below p ps s (taken k x below ps s) (eqb k p.sector) refl h

module _ (size : ℕ) (named : List ℕ) where
  -- a good sector takes bytes on the medium
  pub put_shown : (k : ℕ) (x row : List ℕ) → (k + 1) * 128 ≤ size * 128 → listed k named ≡ false → length x ≡ 128 → size * 128 ≤ length row → (s : ℕ)
      → shown size named (put_sector named k x row) s ≡ cond (eqb s k) x (shown size named row s)
  put_shown k x row lt g l m s =
      let fits : (k + 1) * 128 ≤ length row = omega arith in
      ⊎_elim
      (λ e.
      cond-true (ltb s size && not (listed s named)) (part (put_sector named k x row) s) zeros
      (and_from (ltb s size) (not (listed s named)) (lt-ltb s size (omega arith)) (not_from_false (listed s named) (ap (λ z. listed z named) e ∙ g)))
      ∙ (ap (part (put_sector named k x row)) e ∙ (sector_here named k x row l fits g ∙ sym (cond-true (eqb s k) x (shown size named row s) (eq-eqb s k e)))))
      (λ o.
      ap (λ z. cond (ltb s size && not (listed s named)) z zeros) (sector_other named k x row l fits s o)
      ∙ sym (cond-false (eqb s k) x (shown size named row s) (ne_eqb s k (λ e. ⊎_elim (λ a. omega arith) (λ a. omega arith) o))))
      (cases_order s k)

  -- putting the oldest out leaves what buffer and medium show together
  head_out : (e : Entry) (es : List Entry) (row : List ℕ) → Heads (size * 128) named e es → size * 128 ≤ length row → (s : ℕ)
      → buffered es (shown size named (put_sector named e.sector e.bytes row)) s ≡ buffered (e ∷ es) (shown size named row) s
  head_out e es row h m s =
      under e.sector e.bytes (shown size named row) (shown size named (put_sector named e.sector e.bytes row)) es s
      (put_shown e.sector e.bytes row h.inside h.good h.whole m s) h.alone

  oldest_out : (es : List Entry) (row : List ℕ) → Fits (size * 128) named es → size * 128 ≤ length row → (s : ℕ)
      → buffered (younger es) (shown size named (put_oldest named es row)) s ≡ buffered es (shown size named row) s
  oldest_out [] row f m s = refl
  oldest_out (e ∷ es) row f m s = head_out e es row (heads f) m s

  -- pushing out never changes what buffer and medium show together
  pub eased_same : (es : List Entry) (row : List ℕ) → Fits (size * 128) named es → size * 128 ≤ length row → (s : ℕ)
      → buffered (eased es) (shown size named (pushed_out named es row)) s ≡ buffered es (shown size named row) s
  eased_same es row f m s =
      ⊎_elim
      (λ h.
      ap (λ (ys : List Entry). buffered ys (shown size named (pushed_out named es row)) s) (cond-true (full es) (younger es) es h)
      ∙ (ap (λ r. buffered (younger es) (shown size named r) s) (cond-true (full es) (put_oldest named es row) row h) ∙ oldest_out es row f m s))
      (λ h.
      ap (λ (ys : List Entry). buffered ys (shown size named (pushed_out named es row)) s) (cond-false (full es) (younger es) es h)
      ∙ ap (λ r. buffered es (shown size named r) s) (cond-false (full es) (put_oldest named es row) row h))
      (cases_Bool (full es))

  -- a sector brought in
  pub bring_base : (k : ℕ) (x : List ℕ) (es : List Entry) (row : List ℕ) → Fits (size * 128) named es → size * 128 ≤ length row → (s : ℕ)
      → buffered (brought_in k x es) (shown size named (put_out named k es row)) s ≡ cond (eqb s k) x (buffered es (shown size named row) s)
  bring_base k x es row f m s =
      ⊎_elim
      (λ h.
      ap (λ (ys : List Entry). buffered ys (shown size named (put_out named k es row)) s) (cond-true (stands_in k es) (renewed k x es) (eased es ++ entry k x ∷ []) h)
      ∙ (ap (λ r. buffered (renewed k x es) (shown size named r) s) (cond-true (stands_in k es) row (pushed_out named es row) h)
      ∙ taken k x (shown size named row) es s h))
      (λ h.
      ap (λ (ys : List Entry). buffered ys (shown size named (put_out named k es row)) s) (cond-false (stands_in k es) (renewed k x es) (eased es ++ entry k x ∷ []) h)
      ∙ (ap (λ r. buffered (eased es ++ entry k x ∷ []) (shown size named r) s) (cond-false (stands_in k es) row (pushed_out named es row) h)
      ∙ (pushed k x (shown size named (pushed_out named es row)) (eased es) s (in_eased k es h)
      ∙ ap (cond (eqb s k) x) (eased_same es row f m s))))
      (cases_Bool (stands_in k es))

  same_cond : (b : Bool) (x y z : List ℕ) → y ≡ cond b x z → cond b x y ≡ cond b x z
  same_cond true x y z h = refl
  same_cond false x y z h = h

  oldest_medium : (es : List Entry) (row : List ℕ) → Fits (size * 128) named es → size * 128 ≤ length row → (s : ℕ)
      → shown size named row s ≡ buffered es (shown size named row) s → shown size named (put_oldest named es row) s ≡ buffered es (shown size named row) s
  oldest_medium [] row f m s h = h
  oldest_medium (e ∷ es) row f m s h =
      let p = heads f in
      put_shown e.sector e.bytes row p.inside p.good p.whole m s
      ∙ same_cond (eqb s e.sector) e.bytes (shown size named row s) (buffered es (shown size named row) s) h

  -- where the medium is as promised, it still is once a sector is put out
  bring_medium : (k : ℕ) (es : List Entry) (row : List ℕ) → Fits (size * 128) named es → size * 128 ≤ length row → (s : ℕ)
      → shown size named row s ≡ buffered es (shown size named row) s → shown size named (put_out named k es row) s ≡ buffered es (shown size named row) s
  bring_medium k es row f m s h =
      cond_both (stands_in k es) row (pushed_out named es row) (λ r. shown size named r s ≡ buffered es (shown size named row) s) (λ t. h)
      (λ t. cond_both (full es) (put_oldest named es row) row (λ r. shown size named r s ≡ buffered es (shown size named row) s) (λ u. oldest_medium es row f m s h) (λ u. h))

  -- putting the n oldest out leaves what buffer and medium show together
  pub some_out : (n : ℕ) (es : List Entry) (row : List ℕ) → Fits (size * 128) named es → size * 128 ≤ length row → (s : ℕ)
      → buffered (drop n es) (shown size named (put_all named (take n es) row)) s ≡ buffered es (shown size named row) s
  some_out zero es row f m s = refl
  some_out (suc n) [] row f m s = refl
  some_out (suc n) (e ∷ es) row f m s =
      let p = heads f in
      let i = p.inside in
      let l = length_sector named e.sector e.bytes row p.whole (omega arith) in
      some_out n es (put_sector named e.sector e.bytes row) p.rest (omega (arith, l)) s
      ∙ head_out e es row p m s

  -- a flush
  pub all_base : (es : List Entry) (row : List ℕ) → Fits (size * 128) named es → size * 128 ≤ length row → (s : ℕ)
      → shown size named (put_all named es row) s ≡ buffered es (shown size named row) s
  all_base [] row f m s = refl
  all_base (e ∷ es) row f m s =
      let p = heads f in
      let i = p.inside in
      let n = length_sector named e.sector e.bytes row p.whole (omega arith) in
      all_base es (put_sector named e.sector e.bytes row) p.rest (omega (arith, n)) s
      ∙ head_out e es row p m s

-- one more sector of a run
module _ (first n s : ℕ) (bytes z : List ℕ) where
  grow_here : (g : Bool) → s ≡ first + n
      → cond (eqb s (first + n) && g) (part bytes n) (cond (covers first n s && g) (part bytes (s - first)) z) ≡ cond (covers first (suc n) s && g) (part bytes (s - first)) z
  grow_here true e =
      let at : s - first ≡ n = omega arith in
      cond-true (eqb s (first + n) && true) (part bytes n) (cond (covers first n s && true) (part bytes (s - first)) z) (and_from (eqb s (first + n)) true (eq-eqb s (first + n) e) refl)
      ∙ (ap (part bytes) (sym at)
      ∙ sym (cond-true (covers first (suc n) s && true) (part bytes (s - first)) z (and_from (covers first (suc n) s) true (covers_in first (suc n) s (omega arith) (omega arith)) refl)))
  grow_here false e =
      cond-false (eqb s (first + n) && false) (part bytes n) (cond (covers first n s && false) (part bytes (s - first)) z) (and_right (eqb s (first + n)) false refl)
      ∙ (cond-false (covers first n s && false) (part bytes (s - first)) z (and_right (covers first n s) false refl)
      ∙ sym (cond-false (covers first (suc n) s && false) (part bytes (s - first)) z (and_right (covers first (suc n) s) false refl)))

  same_covers : (s < first + n) ⊎ (first + n < s) → covers first n s ≡ covers first (suc n) s
  same_covers o =
      ⊎_elim
      (λ lt. ap (λ b. leb first s && b) (lt-ltb s (first + n) lt ∙ sym (lt-ltb s (first + suc n) (omega arith))))
      (λ gt. ap (λ b. leb first s && b) (le-ltb s (first + n) (omega arith) ∙ sym (le-ltb s (first + suc n) (omega arith)))) o

  grow : (g : Bool)
      → cond (eqb s (first + n) && g) (part bytes n) (cond (covers first n s && g) (part bytes (s - first)) z) ≡ cond (covers first (suc n) s && g) (part bytes (s - first)) z
  grow g =
      ⊎_elim
      (grow_here g)
      (λ o.
      cond-false (eqb s (first + n) && g) (part bytes n) (cond (covers first n s && g) (part bytes (s - first)) z)
      (and_left (eqb s (first + n)) g (ne_eqb s (first + n) (λ e. ⊎_elim (λ a. omega arith) (λ a. omega arith) o)))
      ∙ ap (λ b. cond (b && g) (part bytes (s - first)) z) (same_covers o))
      (cases_order s (first + n))

-- the tests of one sector of the run
listed_test : (named : List ℕ) (s k : ℕ) → listed k named ≡ true → (eqb s k && not (listed s named)) ≡ false
listed_test named s k h =
    ⊎_elim
    (λ e. and_right (eqb s k) (not (listed s named)) (ap not (ap (λ z. listed z named) e ∙ h)))
    (λ n. and_left (eqb s k) (not (listed s named)) (ne_eqb s k n))
    (cases_eq s k)

free_test : (named : List ℕ) (s k : ℕ) → listed k named ≡ false → eqb s k ≡ (eqb s k && not (listed s named))
free_test named s k h =
    ⊎_elim
    (λ e. eq-eqb s k e ∙ sym (and_from (eqb s k) (not (listed s named)) (eq-eqb s k e) (not_from_false (listed s named) (ap (λ z. listed z named) e ∙ h))))
    (λ n. ne_eqb s k n ∙ sym (and_left (eqb s k) (not (listed s named)) (ne_eqb s k n)))
    (cases_eq s k)

module _ (size : ℕ) (named : List ℕ) (first : ℕ) (bytes : List ℕ) (es : List Entry) (row : List ℕ) (f : Fits (size * 128) named es) (m : size * 128 ≤ length row) where
  abbrev base : Contents
  base = buffered es (shown size named row)

  abbrev in_run : ℕ → List Entry
  in_run n = brought_run named first n bytes es

  abbrev out_run : ℕ → List ℕ
  out_run n = put_out_run named first n bytes es row

  pub out_long : (n : ℕ) → first + n ≤ size → n * 128 ≤ length bytes → length (out_run n) ≡ length row
  out_long n i l = length_run_out named first n bytes es row (omega arith) l (fits_more (size * 128) named es f (length row) m)

  pub run_base : (n : ℕ) → first + n ≤ size → n * 128 ≤ length bytes → (s : ℕ)
      → buffered (in_run n) (shown size named (out_run n)) s ≡ cond (covers first n s && not (listed s named)) (part bytes (s - first)) (base s)
  run_base zero i l s =
      sym (cond-false (covers first 0 s && not (listed s named)) (part bytes (s - first)) (base s)
      (and_left (covers first 0 s) (not (listed s named))
      (covers_not first 0 s (⊎_elim (λ e. inr (omega arith)) (⊎_elim (λ lt. inl lt) (λ gt. inr (omega arith))) (cases_order s first)))))
  run_base (suc n) i l s =
      let ih = run_base n (omega arith) (omega arith) s in
      let k = first + n in
      let g = not (listed s named) in
      let before = cond (covers first n s && g) (part bytes (s - first)) (base s) in
      let fn = run_fits (size * 128) named es f first n bytes (omega arith) (omega arith) in
      let mn = out_long n (omega arith) (omega arith) in
      ⊎_elim
      (λ h.
      ap (λ (ys : List Entry). buffered ys (shown size named (out_run (suc n))) s) (cond-true (listed k named) (in_run n) (brought_in k (part bytes n) (in_run n)) h)
      ∙ (ap (λ r. buffered (in_run n) (shown size named r) s) (cond-true (listed k named) (out_run n) (put_out named k (in_run n) (out_run n)) h)
      ∙ (ih ∙ (sym (cond-false (eqb s k && g) (part bytes n) before (listed_test named s k h)) ∙ grow first n s bytes (base s) g))))
      (λ h.
      ap (λ (ys : List Entry). buffered ys (shown size named (out_run (suc n))) s) (cond-false (listed k named) (in_run n) (brought_in k (part bytes n) (in_run n)) h)
      ∙ (ap (λ r. buffered (brought_in k (part bytes n) (in_run n)) (shown size named r) s) (cond-false (listed k named) (out_run n) (put_out named k (in_run n) (out_run n)) h)
      ∙ (bring_base size named k (part bytes n) (in_run n) (out_run n) fn (omega (arith, mn)) s
      ∙ (ap (cond (eqb s k) (part bytes n)) ih ∙ (ap (λ b. cond b (part bytes n) before) (free_test named s k h) ∙ grow first n s bytes (base s) g)))))
      (cases_Bool (listed k named))

  -- a sector that the run does not write: if the medium was as promised there, it still is
  pub run_medium : (n : ℕ) → first + n ≤ size → n * 128 ≤ length bytes → (s : ℕ) → covers first n s ≡ false → shown size named row s ≡ base s → shown size named (out_run n) s ≡ base s
  run_medium zero i l s c h = h
  run_medium (suc n) i l s c h =
      let k = first + n in
      let less : covers first n s ≡ false =
      ⊎_elim
      (λ e. absurd (both_ways (covers first (suc n) s) c (covers_in first (suc n) s (omega arith) (omega arith))))
      (λ o. same_covers first n s bytes bytes o ∙ c) (cases_order s (first + n)) in
      let ih = run_medium n (omega arith) (omega arith) s less h in
      let now = run_base n (omega arith) (omega arith) s
      ∙ cond-false (covers first n s && not (listed s named)) (part bytes (s - first)) (base s) (and_left (covers first n s) (not (listed s named)) less) in
      let fn = run_fits (size * 128) named es f first n bytes (omega arith) (omega arith) in
      let mn = out_long n (omega arith) (omega arith) in
      cond_both (listed k named) (out_run n) (put_out named k (in_run n) (out_run n)) (λ r. shown size named r s ≡ base s)
      (λ t. ih)
      (λ t. bring_medium size named k (in_run n) (out_run n) fn (omega (arith, mn)) s (ih ∙ sym now) ∙ now)
