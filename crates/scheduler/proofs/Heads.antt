-- The waiting runs, and the oldest and the lowest of those that a test takes.
use Rattle.std.proofs.Common.{◌≡◌, ℕ, Bool, true, false, cond, leb, List, [], ◌∷◌, Some, None, Option, map, ◌&&◌, ◌||◌, Bor, subst, sym, refl, ap, ◌∙◌, arith}
use Rattle.std.specs.List.{cons_option, filter_map, find, reduce, fold, FoldsTo}
use Rattle.std.specs.Iterator.{Drains, KeyTurn, PicksMinByKey}
use Rattle.std.specs.Fn.{CalledAt, Mut}
use Rattle.std.specs.Option.{MatchOption, option_map}
use Rattle.device.specs.declared.interface.Kind.{Kind}
use Rattle.std.specs.Ordering.{min_by_ordering, nat_cmp}
use Rattle.std.specs.declared.cmp.Ordering.{Ordering}
use Rattle.std.specs.declared.cmp.Ordering.TheVariants.{Less, Equal, Greater}
use Rattle.std.proofs.lemmas.Iterator.{YieldsList}
use Rattle.std.proofs.lemmas.Iterator.Consumers.{reduce_from_yields_List}
use Rattle.std.proofs.lemmas.Bool.Decides.{nat_tests}
use Rattle.deadline.specs.declared.dispatch.Queued.{Queued}
use Rattle.deadline.specs.declared.dispatch.Run.{Run}
use Rattle.deadline.specs.Waiting.{any, those, same, is_head, run_of, runs, runs_headed_in, free, free_runs}
use Rattle.deadline.specs.Turn.{lower, lowest, some_of}
use Rattle.scheduler.specs.Found.{heads_free, oldest_of, run_at}

runs_among : (ws xs : List Queued) → filter_map (run_at ws) xs ≡ runs_headed_in ws xs
unfolding run_at
runs_among ws [] = refl
runs_among ws (x ∷ xs) =
    elim (is_head x) as (λ b. cons_option (cond b (Some (run_of ws x)) None) (filter_map (run_at ws) xs) ≡ cond b (run_of ws x ∷ runs_headed_in ws xs) (runs_headed_in ws xs)) [
      | true ↦ ap (λ l. run_of ws x ∷ l) (runs_among ws xs)
      | false ↦ runs_among ws xs
    ]

pub runs_is : (ws : List Queued) → filter_map (run_at ws) ws ≡ runs ws
unfolding runs
runs_is ws = runs_among ws ws

-- ── the free ones, found by their heads ──

free_among : (k : Kind) (ws xs : List Queued) → map (run_of ws) (those (heads_free k ws) xs) ≡ those (λ r. same r.kind k && free ws r.name) (runs_headed_in ws xs)
unfolding run_of
free_among k ws [] = refl
free_among k ws (x ∷ xs) =
    let heads = those (heads_free k ws) xs in
    let rest = those (λ r. same r.kind k && free ws r.name) (runs_headed_in ws xs) in
    let ih = free_among k ws xs in
    elim (is_head x) as (λ h. map (run_of ws) (cond (h && (same x.kind k && free ws x.head)) (x ∷ heads) heads) ≡ those (λ r. same r.kind k && free ws r.name) (cond h (run_of ws x ∷ runs_headed_in ws xs) (runs_headed_in ws xs))) [
      | true ↦ elim (same x.kind k && free ws x.head) as (λ b. map (run_of ws) (cond b (x ∷ heads) heads) ≡ cond b (run_of ws x ∷ rest) rest) [ true ↦ ap (λ l. run_of ws x ∷ l) ih | false ↦ ih ]
      | false ↦ ih
    ]

pub free_runs_are : (k : Kind) (ws : List Queued) → map (run_of ws) (those (heads_free k ws) ws) ≡ free_runs k ws
unfolding free_runs
free_runs_are k ws = free_among k ws ws

first_among : (f : Queued → Run) (p : Queued → Bool) (xs : List Queued) → option_map f (find p xs) ≡ oldest_of (map f (those p xs))
first_among f p [] = refl
first_among f p (x ∷ xs) =
    elim (p x) as (λ b. option_map f (cond b (Some x) (find p xs)) ≡ oldest_of (map f (cond b (x ∷ those p xs) (those p xs)))) [
      | true ↦ refl
      | false ↦ first_among f p xs
    ]

pub oldest_is : (k : Kind) (ws : List Queued) → oldest_of (free_runs k ws) ≡ option_map (run_of ws) (find (heads_free k ws) ws)
oldest_is k ws = sym (first_among (run_of ws) (heads_free k ws) ws ∙ ap oldest_of (free_runs_are k ws))

-- what `map` makes of the head that was found
pub taken : (ws : List Queued) (o : Option (Bor Queued)) (r : Option Run) → MatchOption o (r ≡ None) (λ x. r ≡ Some (run_of ws x.now))
    → r ≡ option_map (run_of ws) (option_map (λ x. x.now) o)
taken ws None r h = h
taken ws (Some x) r h = h

any_among : (f : Queued → Run) (p : Queued → Bool) (xs : List Queued) → any p xs ≡ some_of (map f (those p xs))
any_among f p [] = refl
any_among f p (x ∷ xs) =
    elim (p x) as (λ b. (b || any p xs) ≡ some_of (map f (cond b (x ∷ those p xs) (those p xs)))) [ true ↦ refl | false ↦ any_among f p xs ]

pub some_free_is : (k : Kind) (ws : List Queued) → some_of (free_runs k ws) ≡ any (heads_free k ws) ws
some_free_is k ws = sym (any_among (run_of ws) (heads_free k ws) ws ∙ ap some_of (free_runs_are k ws))

pub first_is : (p : Run → Bool) (rs : List Run) → find p rs ≡ oldest_of (those p rs)
first_is p [] = refl
first_is p (r ∷ rs) = go (p r) (first_is p rs)
  where
    go : (b : Bool) → find p rs ≡ oldest_of (those p rs) → cond b (Some r) (find p rs) ≡ oldest_of (cond b (r ∷ those p rs) (those p rs))
    go true ih = refl
    go false ih = ih

-- ── the lowest ──

-- the lower of two runs; of two that begin at one sector, the first
abbrev pub lower_run : Run → Run → Run
lower_run q r = cond (leb q.begins r.begins) q r

lower_run_assoc : (q r t : Run) → lower_run (lower_run q r) t ≡ lower_run q (lower_run r t)
lower_run_assoc q r t = grind (arith, nat_tests)

fold_lower : (q r : Run) (rs : List Run) → fold lower_run (lower_run q r) rs ≡ lower_run q (fold lower_run r rs)
fold_lower q r [] = refl
fold_lower q r (t ∷ ts) = ap (λ u. fold lower_run u ts) (lower_run_assoc q r t) ∙ fold_lower q (lower_run r t) ts

lower_first : (q : Run) (rs : List Run) → Some (fold lower_run q rs) ≡ lower q (reduce lower_run rs)
lower_first q [] = refl
lower_first q (r ∷ rs) = ap Some (fold_lower q r rs)

pub lowest_is : (p : ℕ) (rs : List Run) → reduce lower_run (those (λ r. leb p r.begins) rs) ≡ lowest p rs
lowest_is p [] = refl
lowest_is p (r ∷ rs) =
    let ih = lowest_is p rs in
    elim (leb p r.begins) as (λ b. reduce lower_run (cond b (r ∷ those (λ r. leb p r.begins) rs) (those (λ r. leb p r.begins) rs)) ≡ cond b (lower r (lowest p rs)) (lowest p rs)) [
      | true ↦ lower_first r (those (λ r. leb p r.begins) rs) ∙ ap (lower r) ih
      | false ↦ ih
    ]

lower_by : (q r : Run) → min_by_ordering (nat_cmp q.begins r.begins) q r ≡ lower_run q r
lower_by q r = grind (arith, nat_tests)

key_by : (o : Ordering) (q r : Run) → min_by_ordering o q.begins r.begins ≡ (min_by_ordering o q r).begins
key_by Less q r = refl
key_by Equal q r = refl
key_by Greater q r = refl

-- what `min_by_key` ran, where each call answers the sector at which the run begins
module _ {F : Type 0} (g : Mut F (Bor Run × Unit {0}) ℕ) (f : F) (begins : (r : Run) (n : ℕ) (f' : F) → CalledAt g f r n f' → (f' ≡ f) × (n ≡ r.begins)) where
  turns : (rs : List Run) (q : Run) (f' : F) (n : ℕ) (h : F × ℕ) (r : Run) → f' ≡ f → n ≡ q.begins →
      FoldsTo {P = (F × ℕ) × Run} (KeyTurn min_by_ordering min_by_ordering g nat_cmp) ((f', n), q) rs (h, r) → FoldsTo (λ a b c. c ≡ lower_run a b) q rs r
  turns [] q f' n h r e k c = ap (λ (v : (F × ℕ) × Run). v.1) c
  turns (t ∷ ts) q f' n h r e k (j, w, c) =
      let b : (j.0.0 ≡ f) × (w.0 ≡ t.begins) = begins t w.0 j.0.0 (subst (λ i. CalledAt g i t w.0 j.0.0) e w.2) in
      let o : nat_cmp q.begins t.begins ≡ w.1 = ap (λ m. nat_cmp m t.begins) (sym k) ∙ ap (nat_cmp n) (sym b.1) ∙ w.3 in
      let low : j.1 ≡ lower_run q t = w.5 ∙ ap (λ v. min_by_ordering v q t) (sym o) ∙ lower_by q t in
      let key : j.0.1 ≡ j.1.begins =
      w.4 ∙ ap (λ m. min_by_ordering w.1 m w.0) k ∙ ap (min_by_ordering w.1 q.begins) b.1 ∙ key_by w.1 q t ∙ ap (λ (v : Run). v.begins) (sym w.5) in
      (j.1, low, turns ts j.1 j.0.0 j.0.1 h r b.0 key c)

  module _ {S : Type 0} (steps : S → Option Run → S → Type 0) (s : S) where
    picked : (o : Option Run) → PicksMinByKey steps g nat_cmp s f o →
        MatchOption o (Drains steps s []) (λ r. (q : Run) × (rs : List Run) × Drains steps s (q ∷ rs) × FoldsTo (λ a b c. c ≡ lower_run a b) q rs r)
    picked None d = d
    picked (Some r) d = let b = begins d.0 d.2 d.3 d.6 in (d.0, d.1, d.5, turns d.1 d.0 d.3 d.2 d.4 r b.0 b.1 d.7)

    pub lowest_by : (o : Option Run) (rs : List Run) → PicksMinByKey steps g nat_cmp s f o → YieldsList steps (λ y. y) s rs → o ≡ reduce lower_run rs
    lowest_by o rs d y = reduce_from_yields_List lower_run s o (picked o d) y
