-- Where a sector stands in the buffer.
use Rattle.std.proofs.Common.{◌≡◌, ℕ, ◌+◌, Bool, true, false, cond, ◌||◌, eqb, List, [], ◌∷◌, ◌++◌, get_or, set, Some, None, Option, sym, refl, ap, ◌∙◌}
use Rattle.std.proofs.lemmas.Bool.{cond-true, cond-false}
use Rattle.device.specs.Lookup.{index_by}
use Rattle.device.specs.Meaning.{Contents}
use Rattle.device.proofs.Lookup.{Stands, stands}
use Rattle.drive.specs.declared.buffer.Entry.{Entry}
use Rattle.drive.specs.Buffer.{entry, by_sector, index_of, stands_in, buffered, renewed, eased, pushed_out, brought_in, put_out}

pub at_sector : (t i : ℕ) (ps : List Entry) (r : Option ℕ) → r ≡ index_of t ps → r ≡ Some i → Stands by_sector t ps i
at_sector t i ps r is e = stands by_sector t i ps (sym is ∙ e)

stands_has : {t j : ℕ} {ps : List Entry} → Stands by_sector t ps j → stands_in t ps ≡ true
stands_has {t} (Stands.here {p} {ps} h) = ap (λ b. b || stands_in t ps) h
stands_has {t} (Stands.there {p} {ps} h s) = ap (λ b. b || stands_in t ps) h ∙ stands_has s

stands_renewed : {t j : ℕ} {ps : List Entry} → Stands by_sector t ps j → (d : Entry) (x : List ℕ) → set ps j (entry (get_or ps j d).sector x) ≡ renewed t x ps
stands_renewed {t} (Stands.here {p} {ps} h) d x = sym (cond-true (eqb t p.sector) (entry p.sector x ∷ ps) (p ∷ renewed t x ps) h)
stands_renewed {t} (Stands.there {p} {ps} h s) d x = ap (λ xs. p ∷ xs) (stands_renewed s d x) ∙ sym (cond-false (eqb t p.sector) (entry p.sector x ∷ ps) (p ∷ renewed t x ps) h)

pub stands_bytes : {t j : ℕ} {ps : List Entry} → Stands by_sector t ps j → (d : Entry) (below : Contents) → (get_or ps j d).bytes ≡ buffered ps below t
stands_bytes {t} (Stands.here {p} {ps} h) d below = sym (cond-true (eqb t p.sector) p.bytes (buffered ps below t) h)
stands_bytes {t} (Stands.there {p} {ps} h s) d below = stands_bytes s d below ∙ sym (cond-false (eqb t p.sector) p.bytes (buffered ps below t) h)

absent_by : (t n : ℕ) (p : Entry) (ps : List Entry) (below : Contents) (ih : index_by by_sector (n + 1) t ps ≡ None → (stands_in t ps ≡ false) × (buffered ps below t ≡ below t)) (b : Bool) → cond b (Some n) (index_by by_sector (n + 1) t ps) ≡ None → ((b || stands_in t ps) ≡ false) × (cond b p.bytes (buffered ps below t) ≡ below t)
absent_by t n p ps below ih true e = cc
absent_by t n p ps below ih false e = ih e

absent_from : (t n : ℕ) (ps : List Entry) (below : Contents) → index_by by_sector n t ps ≡ None → (stands_in t ps ≡ false) × (buffered ps below t ≡ below t)
absent_from t n [] below e = (refl, refl)
absent_from t n (p ∷ ps) below e = absent_by t n p ps below (absent_from t (n + 1) ps below) (eqb t p.sector) e

-- a sector that stands in the buffer takes new bytes
module _ {t j : ℕ} {es : List Entry} (st : Stands by_sector t es j) where
  pub set_brought : (e : Entry) (x : List ℕ) → e ≡ get_or es j e → set es j (entry e.sector x) ≡ brought_in t x es
  set_brought e x is =
      ap (λ (z : Entry). set es j (entry z.sector x)) is
      ∙ (stands_renewed st e x ∙ sym (cond-true (stands_in t es) (renewed t x es) (eased es ++ entry t x ∷ []) (stands_has st)))

  pub none_out : (named row : List ℕ) → row ≡ put_out named t es row
  none_out named row = sym (cond-true (stands_in t es) row (pushed_out named es row) (stands_has st))

-- a sector that does not stand there goes to its end
module _ (t : ℕ) (es : List Entry) (r : Option ℕ) (is : r ≡ index_of t es) (e : r ≡ None) where
  absent : stands_in t es ≡ false
  absent = (absent_from t 0 es (λ s. []) (sym is ∙ e)).0

  pub absent_bytes : (below : Contents) → buffered es below t ≡ below t
  absent_bytes below = (absent_from t 0 es below (sym is ∙ e)).1

  pub push_brought : (es' es'' : List Entry) (x : List ℕ) → es' ≡ eased es → es'' ≡ es' ++ entry t x ∷ [] → es'' ≡ brought_in t x es
  push_brought es' es'' x a b = b ∙ (ap (λ z. z ++ entry t x ∷ []) a ∙ sym (cond-false (stands_in t es) (renewed t x es) (eased es ++ entry t x ∷ []) absent))

  pub oldest_out : (named row row' : List ℕ) → row' ≡ pushed_out named es row → row' ≡ put_out named t es row
  oldest_out named row row' a = a ∙ sym (cond-false (stands_in t es) row (pushed_out named es row) absent)
