-- Free in the words of the rules is free.
use Rattle.std.proofs.Common.{◌≡◌, ℕ, Bool, true, false, eqb, List, [], ◌∷◌, sym, refl, ap, ◌∙◌}
use Rattle.std.proofs.lemmas.Bool.{and_parts, both_ways, eqb-true, false_from_ne_true}
use Rattle.device.specs.declared.interface.Kind.{Kind}
use Rattle.device.specs.Meaning.{is_flush}
use Rattle.queue.specs.Queue.{Entry, waits, mine, All, Apart, Clear, Free, Kinded}
use Rattle.queue.specs.Sound.{Leaves, UnbrokenFrom, Unbroken, Sound, Unflushed, Unconflicted}

-- past a ticket of the run
past_head : (r : ℕ) (k : Kind) (h : Entry) (es : List Entry) → mine r h ≡ true → is_flush k ≡ false → Kinded r k es → UnbrokenFrom h es → Unconflicted r es → Free r es
past_head r k h [] m nf kd u a = tt
past_head r k h (e ∷ es) m nf kd u a = (each es kd.1 a.0 u.0, past_head r k h es m nf kd.1 u.1 a.1)
  where
    hp : (waits h ≡ true) × (eqb h.run r ≡ true)
    hp = and_parts (waits h) (eqb h.run r) m

    each : (xs : List Entry) → Kinded r k xs → All (λ x. waits e ≡ true → mine r e ≡ false → mine r x ≡ true → Apart e x) xs →
        (waits h ≡ true → waits e ≡ true → is_flush e.kind ≡ true → All (Leaves h) xs) → All (Clear r e) xs
    each [] kx ax ux = tt
    each (x ∷ xs) kx ax ux = (
      record {
        apart = ax.0;
        passes = λ w _ mx. false_from_ne_true (is_flush e.kind) (λ fl.
            let p = and_parts (waits x) (eqb x.run r) mx in (ux hp.0 w fl).0 p.0 (eqb-true h.run r hp.1 ∙ sym (eqb-true x.run r p.1)));
        last = λ _ _ mx. ap is_flush (kx.0 mx) ∙ nf;
      },
      each xs kx.1 ax.1 (λ a b c. (ux a b c).1),
    )

pub by_head : (r : ℕ) (k : Kind) (es : List Entry) → Sound es → Kinded r k es → is_flush k ≡ false → Unconflicted r es → Unflushed r es → Free r es
by_head r k es s kd nf a fl = walk es s.unbroken kd a fl
  where
    first : (e : Entry) (xs : List Entry) → (waits e ≡ true → mine r e ≡ false → is_flush e.kind ≡ false) → Kinded r k xs →
        All (λ x. waits e ≡ true → mine r e ≡ false → mine r x ≡ true → Apart e x) xs → All (Clear r e) xs
    first e [] q kx ax = tt
    first e (x ∷ xs) q kx ax = (record { apart = ax.0; passes = λ w m _. q w m; last = λ _ _ mx. ap is_flush (kx.0 mx) ∙ nf }, first e xs q kx.1 ax.1)

    walk : (xs : List Entry) → Unbroken xs → Kinded r k xs → Unconflicted r xs → Unflushed r xs → Free r xs
    walk [] u kx ax f = tt
    walk (e ∷ xs) u kx ax f = go (mine r e) refl (λ z. walk xs u.1 kx.1 ax.1 z)
      where
        go : (b : Bool) → mine r e ≡ b → (Unflushed r xs → Free r xs) → Free r (e ∷ xs)
        go true m ih = (first e xs (λ _ n. absurd (both_ways (mine r e) n m)) kx.1 ax.0, past_head r k e xs m nf kx.1 u.0 ax.1)
        go false m ih = (first e xs (λ w n. (f n).0 w) kx.1 ax.0, ih (f m).1)
