-- The passed_over count is what it says, and never passes its limit.
use Rattle.std.proofs.Common.{◌≡◌, ℕ, suc, ◌+◌, ◌≤◌, Bool, true, false, cond, ◌&&◌, List, [], ◌∷◌, sym, refl, ap, ◌∙◌, subst, arith}
use Rattle.std.proofs.lemmas.Bool.{true≢false}
use Rattle.device.specs.declared.interface.Kind.{Kind}
use Rattle.device.specs.declared.interface.Kind.TheVariants.{Read, Write, Flush}
use Rattle.device.specs.Meaning.{is_read, is_write}
use Rattle.deadline.specs.Settings.{Settings}
use Rattle.deadline.specs.Waiting.{free_runs}
use Rattle.deadline.specs.Turn.{State, set_up, Choice, idle, passes_down, goes_on, begins_with, some_of, passed_over_by, after, at_tick, turned, chosen, submitted}
use Rattle.deadline.specs.Events.{Event, submit, turn, collect, following, begins, begins_writing, passes_writes_over, how_many}
use Rattle.deadline.specs.Laws.{NextKind, ByTheRules, WritesAreNotStarved, WriteBatchesResetTheCount}
use Rattle.deadline.proofs.Reached.{Good, good_turned, good_submitted, good_set_up}
use Rattle.deadline.proofs.Overtaking.{good_always}
use Rattle.deadline.proofs.Dispatches.{submitted_alike, idle_alike, serves_as, rules_at}

-- the count after a turn, by what it serves
abbrev counted : Choice → (free_write : Bool) → ℕ → ℕ
counted idle w n = n
counted (passes_down t) w n = n
counted (goes_on r) w n = n
counted (begins_with r) w n = passed_over_by r.kind w n

pub turn_counts : (st : Settings) (s : State) (told : ℕ) → Good s → (turned st s told).passed_over ≡ counted (chosen st s told) (some_of (free_runs Write s.waiting)) s.passed_over
unfolding after
turn_counts st s told g = go (chosen st s told) refl
  where
    go : (c : Choice) → chosen st s told ≡ c → (turned st s told).passed_over ≡ counted c (some_of (free_runs Write s.waiting)) s.passed_over
    go idle e = (idle_alike st s told g e).passed
    go (passes_down t) e = ap (λ u. u.passed_over) (serves_as st s told (passes_down t) g e (λ e. cc))
    go (goes_on r) e = ap (λ u. u.passed_over) (serves_as st s told (goes_on r) g e (λ e. cc))
    go (begins_with r) e = ap (λ u. u.passed_over) (serves_as st s told (begins_with r) g e (λ e. cc))

pub resets : WriteBatchesResetTheCount
resets st w past told h = turn_counts st s told (good_always st past) ∙ go (chosen st s told) h
  where
    s : State
    s = following st set_up past

    go : (c : Choice) → begins is_write c ≡ true → counted c (some_of (free_runs Write s.waiting)) s.passed_over ≡ 0
    go idle b = absurd (true≢false (sym b))
    go (passes_down t) b = absurd (true≢false (sym b))
    go (goes_on r) b = absurd (true≢false (sym b))
    go (begins_with r) b = kind r.kind b
      where
        kind : (k : Kind) → is_write k ≡ true → passed_over_by k (some_of (free_runs Write s.waiting)) s.passed_over ≡ 0
        kind Read h = absurd (true≢false (sym h))
        kind Write h = refl
        kind Flush h = absurd (true≢false (sym h))

-- a turn that begins no write batch adds 1 if it passes writes over
one_turn : (c : Choice) (free_write : Bool) (n : ℕ) → begins is_write c ≡ false → counted c free_write n ≡ cond (begins is_read c && free_write) (suc n) n
one_turn idle w n h = refl
one_turn (passes_down t) w n h = refl
one_turn (goes_on r) w n h = refl
one_turn (begins_with r) w n h = go r.kind w h
  where
    go : (k : Kind) (w : Bool) → is_write k ≡ false → passed_over_by k w n ≡ cond (is_read k && w) (suc n) n
    go Read true b = omega arith
    go Read false b = refl
    go Write w b = absurd (true≢false b)
    go Flush w b = refl

adds : (b : Bool) (n m : ℕ) → cond b (suc n) n + m ≡ n + cond b (suc m) m
adds true n m = omega arith
adds false n m = refl

none_first : (b : Bool) (n : ℕ) → cond b (suc n) n ≡ 0 → (b ≡ false) × (n ≡ 0)
none_first true n h = absurd (omega (arith, h))
none_first false n h = (refl, h)

pub counts : (st : Settings) (es : List Event) (s : State) → Good s → how_many begins_writing st s es ≡ 0 →
    (following st s es).passed_over ≡ s.passed_over + how_many passes_writes_over st s es
counts st [] s g h = omega arith
counts st (submit tag kind first count told ∷ es) s g h =
    let a = submitted_alike st s tag kind first count told in
    counts st es (submitted st s tag kind first count told) (good_submitted st s tag kind first count told g) h
    ∙ ap (λ n. n + how_many passes_writes_over st (submitted st s tag kind first count told) es) a.passed
counts st (collect tag ∷ es) s g h = counts st es s g h
counts st (turn told ∷ es) s g h =
    let t = turned st s told in
    let n = none_first (begins_writing st s told) (how_many begins_writing st t es) h in
    let rest = how_many passes_writes_over st t es in
    let now : t.passed_over ≡ cond (passes_writes_over st s told) (suc s.passed_over) s.passed_over =
    turn_counts st s told g ∙ one_turn (chosen st s told) (some_of (free_runs Write s.waiting)) s.passed_over n.0 in
    counts st es t (good_turned st s told g) n.1
    ∙ (ap (λ m. m + rest) now ∙ adds (passes_writes_over st s told) s.passed_over rest)

-- ── the count never passes its limit ──

turn_limits : (st : Settings) (s : State) (told : ℕ) → Good s → s.passed_over ≤ st.writes_starved → (turned st s told).passed_over ≤ st.writes_starved
turn_limits st s told g l = subst (λ n. n ≤ st.writes_starved) (sym (turn_counts st s told g)) (go (chosen st s told) (rules_at st s told g))
  where
    w : Bool
    w = some_of (free_runs Write s.waiting)

    go : (c : Choice) → ByTheRules st (at_tick s told) c → counted c w s.passed_over ≤ st.writes_starved
    go idle h = l
    go (passes_down t) h = l
    go (goes_on r) h = l
    go (begins_with r) h = kind r.kind w refl h.1.next_kind
      where
        kind : (k : Kind) (b : Bool) → some_of (free_runs Write s.waiting) ≡ b → NextKind st (at_tick s told) k → passed_over_by k b s.passed_over ≤ st.writes_starved
        kind Read true e n = let i = n e in omega arith
        kind Read false e n = l
        kind Write b e n = omega arith
        kind Flush b e n = absurd n

pub limits : (st : Settings) (es : List Event) (s : State) → Good s → s.passed_over ≤ st.writes_starved → (following st s es).passed_over ≤ st.writes_starved
limits st [] s g l = l
limits st (submit tag kind first count told ∷ es) s g l =
    limits st es (submitted st s tag kind first count told) (good_submitted st s tag kind first count told g)
    (subst (λ n. n ≤ st.writes_starved) (sym (submitted_alike st s tag kind first count told).passed) l)
limits st (collect tag ∷ es) s g l = limits st es s g l
limits st (turn told ∷ es) s g l = limits st es (turned st s told) (good_turned st s told g) (turn_limits st s told g l)

pub not_starved : WritesAreNotStarved
not_starved st w past es = record {
  at_most = λ h.
      let e = counts st es s (good_always st past) h in
      let l = limits st es s (good_always st past) (limits st past set_up good_set_up (omega arith)) in
      omega (arith, e, l);
  exactly = λ h. counts st es s (good_always st past) h;
}
  where
    s : State
    s = following st set_up past
