-- No ticket is served before an older one that it has to stay behind.
use Rattle.std.proofs.Common.{◌≡◌, ℕ, true, false, not, ◌&&◌, ◌||◌, ◌⊎◌, List, [], ◌∷◌, ◌++◌, sym, refl, ap, ◌∙◌, subst, inl, inr, append_assoc}
use Rattle.std.proofs.lemmas.Bool.{both_ways, eqb-true, eq-eqb, or_cases, and_parts, and_cases, not-true, not-false, cases_Bool}
use Rattle.device.specs.Meaning.{is_flush}
use Rattle.deadline.specs.Settings.{Settings}
use Rattle.deadline.specs.Waiting.{Queued, Run, any, same, is_in, conflict, runs, free, free_runs}
use Rattle.deadline.specs.Turn.{State, set_up, position, Choice, idle, passes_down, goes_on, begins_with, without, choice, chosen, after, at_tick, turned_with, turned}
use Rattle.deadline.specs.Events.{Event, following}
use Rattle.deadline.specs.Laws.{In, ByTheRules, stays_behind, NothingOvertakes, OldestIsFree, TurnsFollowTheRules}
use Rattle.deadline.proofs.KindFacts.{same_is}
use Rattle.deadline.proofs.Members.{in_back}
use Rattle.deadline.proofs.Lists.{onto, not_in, any_in, in_onto, in_without}
use Rattle.deadline.proofs.Sound.{unsplit, strange, Fine, SoundFrom, fine_at}
use Rattle.deadline.proofs.Joined.{Each, OfHead, each_run, kin}
use Rattle.deadline.proofs.FreeFacts.{own_head, free_oldest}
use Rattle.deadline.proofs.FreeMeans.{free_means}
use Rattle.deadline.proofs.RuleFacts.{candidates, in_lowest, in_first, by_the_rules}
use Rattle.deadline.proofs.Reached.{Good, good_following, good_set_up}

pub good_always : (st : Settings) (past : List Event) → Good (following st set_up past)
good_always st past = good_following st past set_up good_set_up

pub follows : TurnsFollowTheRules
unfolding chosen
follows st w past told = by_the_rules st (at_tick (following st set_up past) told) (good_always st past).sound

pub oldest_is_free : OldestIsFree
oldest_is_free st w past x younger e =
    inr (subst (λ ws. free ws x.head ≡ true) (sym e) (free_oldest x younger (rw e at (good_always st past).sound)))

-- what a turn that finds something waiting leaves
pub turned_is : (st : Settings) (s : State) (told : ℕ) (x : Queued) (xs : List Queued) → s.waiting ≡ x ∷ xs → turned st s told ≡ after (at_tick s told) (chosen st s told)
unfolding turned chosen
turned_is st s told x xs e = ap (turned_with st s told) e ∙ ap (λ ws. after (at_tick s told) (choice st (at_tick s told) ws)) (sym e)

each_in : (P : Run → Type 0) (r : Run) (rs : List Run) → Each P rs → In r rs → P r
each_in P r [] e i = absurd i
each_in P r (q ∷ qs) e (inl same_run) = subst P (sym same_run) e.0
each_in P r (q ∷ qs) e (inr j) = each_in P r qs e.1 j

onto_append : (xs ys o : List Queued) → onto (xs ++ ys) o ≡ onto ys (onto xs o)
onto_append [] ys o = refl
onto_append (x ∷ xs) ys o = onto_append xs ys (x ∷ o)

unsplit_older : (r : ℕ) (ws o : List Queued) → unsplit r (onto ws o) ≡ true → unsplit r o ≡ true
unsplit_older r [] o h = h
unsplit_older r (x ∷ xs) o h = (and_parts (not (is_flush x.kind && any (is_in r) o)) (unsplit r o) (unsplit_older r xs (x ∷ o) h)).1

-- a waiting list with x older than y in it
module _ (ws older : List Queued) (x : Queued) (between : List Queued) (y : Queued) (younger : List Queued)
    (stands : ws ≡ older ++ (x ∷ (between ++ (y ∷ younger)))) (sound : SoundFrom [] ws) where
  ahead : List Queued
  ahead = older ++ (x ∷ between)

  split : ws ≡ ahead ++ (y ∷ younger)
  unfolding ahead
  split = stands ∙ sym (append_assoc older (x ∷ between) (y ∷ younger))

  fine_y : Fine (onto ahead []) y
  fine_y = fine_at [] ahead y younger (rw split at sound)

  x_ahead : In x ahead
  unfolding ahead
  x_ahead = in_back x older (x ∷ between) (inl refl)

  y_waits : In y ws
  y_waits = subst (In y) (sym split) (in_back y ahead (y ∷ younger) (inl refl))

  -- one ahead of y in its run is of its kind, and y is no flush
  mate : (z : Queued) → In z ahead → is_in y.head z ≡ true → (z.kind ≡ y.kind) × (is_flush y.kind ≡ false)
  mate z i h =
      let n = not_in (strange y.head y.kind) z (onto ahead []) (in_onto z ahead [] i) fine_y.alike in
      let m : not (same z.kind y.kind && not (is_flush y.kind)) ≡ false = rw h at n in
      let p = and_parts (same z.kind y.kind) (not (is_flush y.kind)) (not-false (same z.kind y.kind && not (is_flush y.kind)) m) in
      (same_is z.kind y.kind p.0, not-true (is_flush y.kind) p.1)

  in_y_run : (n : ℕ) → is_in n y ≡ true → (z : Queued) → is_in n z ≡ true → is_in y.head z ≡ true
  in_y_run n h z k = rw (eqb-true y.head n h) k

  -- y is in no free run
  not_free : (n : ℕ) → free ws n ≡ true → ((is_flush y.kind ≡ true) → is_in n y ≡ true → ⊥) → stays_behind x y ≡ true → is_in n y ≡ true → ⊥
  unfolding ahead
  not_free n f no_flush b h = cases (or_cases (conflict y x) (is_flush x.kind || is_flush y.kind) b) (cases_Bool (is_in n x))
    where
      cases : (conflict y x ≡ true) ⊎ ((is_flush x.kind || is_flush y.kind) ≡ true) → (is_in n x ≡ true) ⊎ (is_in n x ≡ false) → ⊥
      cases (inl c) (inl same_run) =
          let mine : any (is_in y.head) (onto ahead []) ≡ true = any_in (is_in y.head) x (onto ahead []) (in_onto x ahead [] x_ahead) (in_y_run n h x same_run) in
          both_ways (conflict y x) (not_in (conflict y) x (onto ahead []) (in_onto x ahead [] x_ahead) (fine_y.apart mine)) c
      cases (inl c) (inr other) = both_ways (conflict y x) (((free_means ws n).0 f).apart ahead y younger split h x x_ahead other) c
      cases (inr k) place = elim (or_cases (is_flush x.kind) (is_flush y.kind) k) [
        | inl fx ↦ flush_ahead fx place
        | inr fy ↦ no_flush fy h
      ]
        where
          flush_ahead : is_flush x.kind ≡ true → (is_in n x ≡ true) ⊎ (is_in n x ≡ false) → ⊥
          flush_ahead fx (inl same_run) =
              let m = mate x x_ahead (in_y_run n h x same_run) in
              both_ways (is_flush y.kind) m.1 (rw m.0 at fx)
          flush_ahead fx (inr other) =
              let first = ((free_means ws n).0 f).before_flushes older x (between ++ (y ∷ younger)) stands fx other in
              let u : unsplit y.head (onto (x ∷ between) (onto older [])) ≡ true = rw (onto_append older (x ∷ between) []) at fine_y.unsplit in
              let v = (and_parts (not (is_flush x.kind && any (is_in y.head) (onto older []))) (unsplit y.head (onto older [])) (unsplit_older y.head between (x ∷ onto older []) u)).0 in
              let some : any (is_in y.head) (onto older []) ≡ true = any_in (is_in y.head) first.0 (onto older []) (in_onto first.0 older [] first.1) (in_y_run n h first.0 first.2) in
              elim (and_cases (is_flush x.kind) (any (is_in y.head) (onto older [])) (not-true (is_flush x.kind && any (is_in y.head) (onto older [])) v)) [
                | inl e ↦ both_ways (is_flush x.kind) e fx
                | inr e ↦ both_ways (any (is_in y.head) (onto older [])) e some
              ]

  -- nor is a flush in a waiting run
  solid : (r : Run) → In r (runs ws) → is_flush y.kind ≡ true → is_in r.name y ≡ true → ⊥
  solid r i fy h =
      let k = not_in (strange r.name r.kind) y ws y_waits (kin ws r sound (each_in (OfHead ws) r (runs ws) (each_run ws) i)) in
      let m : not (same y.kind r.kind && not (is_flush r.kind)) ≡ false = rw h at k in
      let p = and_parts (same y.kind r.kind) (not (is_flush r.kind)) (not-false (same y.kind r.kind && not (is_flush r.kind)) m) in
      both_ways (is_flush r.kind) (not-true (is_flush r.kind) p.1) (rw (same_is y.kind r.kind p.0) at fy)

  stays_of_run : (r : Run) → In r (free_runs r.kind ws) → stays_behind x y ≡ true → In y (without r.name ws)
  stays_of_run r i b =
      let c = (candidates r.kind ws r).0 i in
      in_without r.name y ws y_waits (elim (cases_Bool (is_in r.name y)) [
        | inl h ↦ absurd (not_free r.name c.2 (solid r c.0) b h)
        | inr h ↦ h
      ])

  stays_of_flush : (t : ℕ) (z : Queued) (zs : List Queued) → ws ≡ z ∷ zs → is_flush z.kind ≡ true → z.tag ≡ t → In y (without t ws)
  stays_of_flush t z zs e fz own = in_without t y ws y_waits (elim (cases_Bool (is_in t y)) [
    | inl h ↦ absurd (clash h)
    | inr h ↦ h
  ])
    where
      z_head : z.head ≡ t
      z_head = sym (own_head z (rw e at sound).0.headed) ∙ own

      z_ahead : (fs : List Queued) → In x fs → ws ≡ fs ++ (y ∷ younger) → In z fs
      z_ahead [] i k = absurd i
      z_ahead (f ∷ fs) i k = inl (first (sym e ∙ k))
        where
          first : z ∷ zs ≡ f ∷ (fs ++ (y ∷ younger)) → z ≡ f
          first p = cc

      clash : is_in t y ≡ true → ⊥
      clash h =
          let m = mate z (z_ahead ahead x_ahead split) (in_y_run t h z (eq-eqb z.head t z_head)) in
          both_ways (is_flush y.kind) m.1 (rw m.0 at fz)

some_waits : (ws older : List Queued) (x : Queued) (rest : List Queued) → ws ≡ older ++ (x ∷ rest) → (z : Queued) × (zs : List Queued) × (ws ≡ z ∷ zs)
some_waits ws [] x rest e = (x, rest, e)
some_waits ws (z ∷ zs) x rest e = (z, zs ++ (x ∷ rest), e)

pub nothing_overtakes : NothingOvertakes
unfolding after
nothing_overtakes st w past told older x between y younger e b =
    subst (λ s'. In y s'.waiting) (sym (turned_is st s told found.0 found.1 found.2)) (still (chosen st s told) (follows st w past told))
  where
    s : State
    s = following st set_up past

    sound : SoundFrom [] s.waiting
    sound = (good_always st past).sound

    found : (z : Queued) × (zs : List Queued) × (s.waiting ≡ z ∷ zs)
    found = some_waits s.waiting older x (between ++ (y ∷ younger)) e

    of_run : (r : Run) → In r (free_runs r.kind s.waiting) → In y (without r.name s.waiting)
    of_run r i = stays_of_run s.waiting older x between y younger e sound r i b

    still : (c : Choice) → ByTheRules st (at_tick s told) c → In y (after (at_tick s told) c).waiting
    still idle h = y_waits s.waiting older x between y younger e sound
    still (passes_down t) h = stays_of_flush s.waiting older x between y younger e sound t h.0 h.1 h.2 h.3 h.4
    still (goes_on r) h = of_run r (in_lowest (position r.kind (at_tick s told)) (free_runs r.kind s.waiting) r h.1.lowest)
    still (begins_with r) h = of_run r (in_first st (at_tick s told) (position r.kind (at_tick s told)) (free_runs r.kind s.waiting) r h.1.first)
