-- What is dispatched over a list of events: the first of it, and what that leaves.
use Rattle.std.proofs.Common.{◌≡◌, ℕ, ◌⊎◌, List, [], ◌∷◌, sym, refl, ap, ◌∙◌, subst, inl, inr}
use Rattle.device.specs.declared.interface.Kind.{Kind}
use Rattle.deadline.specs.Settings.{Settings}
use Rattle.deadline.specs.Waiting.{Queued}
use Rattle.deadline.specs.Turn.{State, Choice, idle, passes_down, goes_on, begins_with, choice, chosen, after, at_tick, turned_with, turned, submitted}
use Rattle.deadline.specs.Events.{Event, submit, turn, collect, dispatched, noted}
use Rattle.deadline.specs.Laws.{ByTheRules}
use Rattle.deadline.proofs.Reached.{Good, by_submit, good_turned, good_submitted}
use Rattle.deadline.proofs.RuleFacts.{by_the_rules}
use Rattle.deadline.proofs.Overtaking.{turned_is}

-- what neither a submit nor a turn that serves nothing changes
pub record Alike (s s' : State) : Type 0 where
  pub batch : s'.batch ≡ s.batch
  pub reads : s'.read_position ≡ s.read_position
  pub writes : s'.write_position ≡ s.write_position
  pub passed : s'.passed_over ≡ s.passed_over

alike_self : (s : State) → Alike s s
alike_self s = record { batch = refl; reads = refl; writes = refl; passed = refl }

alike_then : (s t u : State) → Alike s t → Alike t u → Alike s u
alike_then s t u a b = record { batch = b.batch ∙ a.batch; reads = b.reads ∙ a.reads; writes = b.writes ∙ a.writes; passed = b.passed ∙ a.passed }

pub submitted_alike : (st : Settings) (s : State) (tag : ℕ) (kind : Kind) (first count told : ℕ) → Alike s (submitted st s tag kind first count told)
submitted_alike st s tag kind first count told =
    by_submit (Alike s) st s tag kind first count told (alike_self s) (λ _. record { batch = refl; reads = refl; writes = refl; passed = refl })

-- a turn that finds nothing waiting leaves the state as it was; any other leaves what its choice says
pub turned_as : (st : Settings) (s : State) (told : ℕ) → ((s.waiting ≡ []) × (turned st s told ≡ s)) ⊎ (turned st s told ≡ after (at_tick s told) (chosen st s told))
unfolding turned
turned_as st s told = go s.waiting refl
  where
    go : (ws : List Queued) → s.waiting ≡ ws → ((s.waiting ≡ []) × (turned_with st s told s.waiting ≡ s)) ⊎ (turned st s told ≡ after (at_tick s told) (chosen st s told))
    go [] e = inl (e, ap (turned_with st s told) e)
    go (x ∷ xs) e = inr (turned_is st s told x xs e)

pub rules_at : (st : Settings) (s : State) (told : ℕ) → Good s → ByTheRules st (at_tick s told) (chosen st s told)
unfolding chosen
rules_at st s told g = by_the_rules st (at_tick s told) g.sound

-- what a turn that serves something leaves
pub serves_as : (st : Settings) (s : State) (told : ℕ) (c : Choice) → Good s → chosen st s told ≡ c → (c ≡ idle → ⊥) → turned st s told ≡ after (at_tick s told) c
unfolding chosen choice
serves_as st s told c g e busy = go (turned_as st s told)
  where
    go : ((s.waiting ≡ []) × (turned st s told ≡ s)) ⊎ (turned st s told ≡ after (at_tick s told) (chosen st s told)) → turned st s told ≡ after (at_tick s told) c
    go (inr h) = h ∙ ap (after (at_tick s told)) e
    go (inl h) = absurd (busy (sym e ∙ ap (choice st (at_tick s told)) h.0))

pub idle_alike : (st : Settings) (s : State) (told : ℕ) → Good s → chosen st s told ≡ idle → Alike s (turned st s told)
unfolding after
idle_alike st s told g e =
    let empty : s.waiting ≡ [] = subst (ByTheRules st (at_tick s told)) e (rules_at st s told g) in
    go empty (turned_as st s told)
  where
    same : turned st s told ≡ s → Alike s (turned st s told)
    same h = subst (Alike s) (sym h) (alike_self s)

    leaves : turned st s told ≡ after (at_tick s told) (chosen st s told) → Alike s (turned st s told)
    leaves h = subst (Alike s) (sym (h ∙ ap (after (at_tick s told)) e)) (record { batch = refl; reads = refl; writes = refl; passed = refl })

    go : s.waiting ≡ [] → ((s.waiting ≡ []) × (turned st s told ≡ s)) ⊎ (turned st s told ≡ after (at_tick s told) (chosen st s told)) → Alike s (turned st s told)
    go empty (inl h) = same h.1
    go empty (inr h) = leaves h

-- ── the first dispatch of a list of events ──

pub record FirstDispatch (st : Settings) (s : State) (c : Choice) (cs : List Choice) : Type 0 where
  pub found : State
  pub told : ℕ
  pub later : List Event
  pub good : Good found
  pub alike : Alike s found
  pub serves : chosen st found told ≡ c
  pub rest : dispatched st (turned st found told) later ≡ cs

after_alike : (st : Settings) (s t : State) (c : Choice) (cs : List Choice) → Alike s t → FirstDispatch st t c cs → FirstDispatch st s c cs
after_alike st s t c cs a f = record {
  found = f.found;
  told = f.told;
  later = f.later;
  good = f.good;
  alike = alike_then s t f.found a f.alike;
  serves = f.serves;
  rest = f.rest;
}

pub first_dispatch : (st : Settings) (es : List Event) (s : State) (c : Choice) (cs : List Choice) → Good s → dispatched st s es ≡ c ∷ cs → FirstDispatch st s c cs
first_dispatch st [] s c cs g e = cc
first_dispatch st (submit tag kind first count told ∷ es) s c cs g e =
    after_alike st s (submitted st s tag kind first count told) c cs (submitted_alike st s tag kind first count told)
    (first_dispatch st es (submitted st s tag kind first count told) c cs (good_submitted st s tag kind first count told g) e)
first_dispatch st (collect tag ∷ es) s c cs g e = first_dispatch st es s c cs g e
first_dispatch st (turn told ∷ es) s c cs g e = go (chosen st s told) refl e (first_dispatch st es (turned st s told) c cs (good_turned st s told g))
  where
    rest : List Choice
    rest = dispatched st (turned st s told) es

    here : (d : Choice) → chosen st s told ≡ d → d ∷ rest ≡ c ∷ cs → FirstDispatch st s c cs
    here d k h = record { found = s; told = told; later = es; good = g; alike = alike_self s; serves = cc; rest = cc }

    go : (d : Choice) → chosen st s told ≡ d → noted d rest ≡ c ∷ cs → (rest ≡ c ∷ cs → FirstDispatch st (turned st s told) c cs) → FirstDispatch st s c cs
    go idle k h ih = after_alike st s (turned st s told) c cs (idle_alike st s told g k) (ih h)
    go (passes_down t) k h ih = here (passes_down t) k h
    go (goes_on r) k h ih = here (goes_on r) k h
    go (begins_with r) k h ih = here (begins_with r) k h
