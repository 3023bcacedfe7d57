-- The choice of a turn keeps the counts within their limits.
use Rattle.std.proofs.Common.{◌≡◌, ℕ, ◌+◌, ◌<◌, ◌≤◌, min, Bool, true, false, cond, List, [], ◌∷◌, Some, None, Option, sym, refl, inl, inr, arith}
use Rattle.std.proofs.lemmas.Bool.{or_parts, ltb-false, true≢false}
use Rattle.device.specs.declared.interface.Kind.{Kind}
use Rattle.device.specs.declared.interface.Kind.TheVariants.{Read, Write, Flush}
use Rattle.device.specs.Meaning.{is_read}
use Rattle.device.specs.Sound.{most_sectors}
use Rattle.deadline.specs.declared.dispatch.Queued.{Queued}
use Rattle.deadline.specs.declared.dispatch.Run.{Run}
use Rattle.deadline.specs.declared.dispatch.Batch.{Batch}
use Rattle.deadline.specs.declared.dispatch.Batch.TheVariants.{Closed, Reading, Writing}
use Rattle.deadline.specs.declared.dispatch.Choice.{Choice}
use Rattle.deadline.specs.declared.dispatch.Choice.TheVariants.{GoesOn, BeginsWith}
use Rattle.deadline.specs.Settings.{Settings}
use Rattle.deadline.specs.Waiting.{any, is_in, is_head, lowest_sector, run_of, runs, runs_headed_in, free_runs}
use Rattle.deadline.specs.Turn.{State, some_of, next_of, new_batch, served_run, by_oldest, choice}
use Rattle.deadline.specs.Laws.{In, Open, NextKind}
use Rattle.deadline.proofs.RuleFacts.{candidates, in_lowest, in_first, next_some, new_some}
use Rattle.scheduler.specs.Bounds.{beyond, Bounded, served}
use Rattle.scheduler.specs.Allowed.{Short, Allowed}
use Rattle.scheduler.proofs.Chains.{sectors_fit}

lowest_sector_le : (r s : ℕ) (ws : List Queued) → lowest_sector r s ws ≤ s
lowest_sector_le r s [] = omega arith
lowest_sector_le r s (x ∷ xs) =
    let ih = lowest_sector_le r (cond (is_in r x) (min s x.first) s) xs in
    let k : cond (is_in r x) (min s x.first) s ≤ s =
    elim (is_in r x) as (λ b. cond b (min s x.first) s ≤ s) [ true ↦ omega arith | false ↦ omega arith ] in
    omega (arith, ih, k)

-- each waiting run ends within 32 bits
short_headed : (ws xs : List Queued) → Bounded ws → any beyond xs ≡ false → (r : Run) → In r (runs_headed_in ws xs) → Short r
unfolding run_of
short_headed ws [] b h r i = absurd i
short_headed ws (x ∷ xs) b h r i = go (is_head x) i (short_headed ws xs b (or_parts (beyond x) (any beyond xs) h).1 r)
  where
    here : Short (run_of ws x)
    here = omega (arith, lowest_sector_le x.head x.first ws, sectors_fit x.head ws b, ltb-false most_sectors (x.first + x.count) (or_parts (beyond x) (any beyond xs) h).0)

    go : (a : Bool) → In r (cond a (run_of ws x ∷ runs_headed_in ws xs) (runs_headed_in ws xs)) → (In r (runs_headed_in ws xs) → Short r) → Short r
    go true (inl e) ih = rw e here
    go true (inr j) ih = ih j
    go false j ih = ih j

short_free : (k : Kind) (ws : List Queued) → Bounded ws → (r : Run) → In r (free_runs k ws) → Short r
unfolding runs
short_free k ws b r i = short_headed ws ws b b.small r ((candidates k ws r).0 i).0

module _ (st : Settings) (s : State) (b : Bounded s.waiting) where
  below : (t : Batch) (k : Kind) → Open st t k → served t < st.fifo_batch
  below Closed k o = absurd o
  below (Reading n) k o = o.1
  below (Writing n) k o = o.1

  goes : (r : Run) → next_of st s s.batch ≡ Some r → Allowed st s (some_of (free_runs Write s.waiting)) (GoesOn r)
  goes r e = let a = next_some st s s.batch r e in (below s.batch r.kind a.0, short_free r.kind s.waiting b r (in_lowest _ _ r a.1))

  not_too_many : (k : Kind) → NextKind st s k → is_read k ≡ true → some_of (free_runs Write s.waiting) ≡ true → s.passed_over < st.writes_starved
  not_too_many Read n i w = n w
  not_too_many Write n i w = absurd (true≢false (sym i))
  not_too_many Flush n i w = absurd n

  begins : (r : Run) → new_batch st s ≡ Some r → Allowed st s (some_of (free_runs Write s.waiting)) (BeginsWith r)
  begins r e = let a = new_some st s r e in (not_too_many r.kind a.0, short_free r.kind s.waiting b r (in_first st s _ _ r a.1))

  serves : (n f : Option Run) → next_of st s s.batch ≡ n → new_batch st s ≡ f → Allowed st s (some_of (free_runs Write s.waiting)) (served_run n f)
  serves (Some r) f e h = goes r e
  serves None (Some r) e h = begins r h
  serves None None e h = tt

  by_kind : (k : Kind) (t : ℕ) → Allowed st s (some_of (free_runs Write s.waiting)) (by_oldest k t (next_of st s s.batch) (new_batch st s))
  by_kind Flush t = tt
  by_kind Read t = serves _ _ refl refl
  by_kind Write t = serves _ _ refl refl

  choice_allowed : (ws : List Queued) → Allowed st s (some_of (free_runs Write s.waiting)) (choice st s ws)
  unfolding choice
  choice_allowed [] = tt
  choice_allowed (x ∷ xs) = by_kind x.kind x.tag

  pub allowed_by : (c : Choice) → c ≡ choice st s s.waiting → Allowed st s (some_of (free_runs Write s.waiting)) c
  allowed_by c e = rw e (choice_allowed s.waiting)
