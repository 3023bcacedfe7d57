-- What a log shows, from the steps of the device that it was sent to.
use Rattle.std.proofs.Common.{◌≡◌, ◌≤◌, List, [], ◌∷◌, ◌++◌, vec_items, Vec, sym, ap, ◌∙◌, subst, append_assoc, arith}
use Rattle.std.proofs.lemmas.List.{append-nil, map-append}
use Rattle.std.specs.declared.alloc.Global.{Global}
use Rattle.device.specs.Meaning.{Meaning}
use Rattle.device.specs.Told.{Told}
use Rattle.device.specs.Turns.{waiting}
use Rattle.history.specs.declared.call.Event.{Event}
use Rattle.history.specs.declared.call.Event.TheVariants as events
use Rattle.history.specs.declared.call.Call.{Call}
use Rattle.history.specs.declared.call.OpenTicket.{OpenTicket}
use Rattle.history.specs.History.{turns, NoneAccepted, unanswered}
use Rattle.history.specs.Steps.{Ran, still, next}
use Rattle.history.specs.Questions.{open_list, tags_in, waiting_in}
use Rattle.history.specs.Log.{call_of, calls_of, told, history_of, Step, Went, stays, goes, Heard, SentAll, SentSome}
use Rattle.history.proofs.Disk.{Whole}
use Rattle.history.proofs.Named.{named_from_none, none_waits}
use Rattle.history.proofs.OpenFacts.{tags_open, waiting_open}
use Rattle.history.proofs.Promise.{promise}

module _ {D : Type 0} (meaning : D → Meaning) (does : D → Told → D → Type 0) where
  abbrev Goes : D → List Event → D → Type 0
  Goes = Went meaning does

  pub went_on : (e : Event) {d d₁ d₂ : D} {h : List Event} → Goes d h d₁ → Step meaning does d₁ e d₂ → Goes d (h ++ (e ∷ [])) d₂
  went_on e stays s = goes s stays
  went_on e (goes a r) s = goes a (went_on e r s)

  -- a log may be cut anywhere
  cut : (h g : List Event) {d d' : D} → Goes d (h ++ g) d' → (mid : D) × Goes d h mid × Goes mid g d'
  cut [] g {d} {d'} r = (d, stays, r)
  cut (e ∷ es) g (goes s r) = let c = cut es g r in (c.0, goes s c.1, c.2)

  -- a question leaves the meaning
  asked : (d d₁ : D) (m : Meaning) (h : List Told) → d₁ ≡ d → Ran (meaning d₁) h m → Ran (meaning d) h m
  asked d d₁ m h e r = subst (λ x. Ran (meaning x) h m) e r

  stepped : (e : Event) (d d₁ : D) (m : Meaning) (h : List Told) → Step meaning does d e d₁ → Ran (meaning d₁) h m → Ran (meaning d) (told e ++ h) m
  stepped (events.Submitted q b k a) d d₁ m h s r = next s.0 r
  stepped (events.Turned k n) d d₁ m h s r = next s.0 r
  stepped (events.Collected t g a b) d d₁ m h s r = next s.0 r
  stepped (events.Opened v) d d₁ m h s r = asked d d₁ m h s.1 r
  stepped (events.Homed x y) d d₁ m h s r = asked d d₁ m h s.1 r
  stepped (events.Faulted f k x) d d₁ m h s r = asked d d₁ m h s.1 r

  -- the steps of a log are the steps of its history
  pub ran_by : {d d' : D} {h : List Event} → Goes d h d' → Ran (meaning d) (history_of h) (meaning d')
  ran_by stays = still
  ran_by {d} {d'} (goes {d₁ = d₁} {e = e} {es = es} s r) = stepped e d d₁ (meaning d') (history_of es) s (ran_by r)

  -- what an open list says of the device just before it, which is the device just after it
  opened : (v : Vec OpenTicket Global) (after : List Event) {d d' : D} → Goes d (events.Opened v ∷ after) d' → (vec_items v ≡ open_list (meaning d).tickets) × Goes d after d'
  opened v after {d} {d'} (goes s r) = (s.0, subst (λ x. Goes x after d') s.1 r)

  open_lists : {d d' : D} (log : List Event) → Goes d log d' → (meaning d).tickets ≡ [] → (before after : List Event) (v : Vec OpenTicket Global) → before ++ (events.Opened v ∷ after) ≡ log
      → tags_in (vec_items v) ≡ unanswered (history_of before)
  open_lists {d} {d'} log r z before after v e =
      let c = cut before (events.Opened v ∷ after) (subst (λ l. Goes d l d') (sym e) r) in
      let o = opened v after c.2 in
      ap tags_in o.0 ∙ tags_open (meaning c.0).tickets ∙ named_from_none z (ran_by c.1)

  settled : {d d' : D} (log : List Event) → Goes d log d' → (before between after : List Event) (v w : Vec OpenTicket Global)
      → before ++ (events.Opened v ∷ (between ++ (events.Opened w ∷ after))) ≡ log
      → NoneAccepted (history_of between) → waiting_in (vec_items v) ≤ turns (history_of between) → waiting_in (vec_items w) ≡ 0
  settled {d} {d'} log r before between after v w e n le =
      let c = cut before (events.Opened v ∷ (between ++ (events.Opened w ∷ after))) (subst (λ l. Goes d l d') (sym e) r) in
      let o = opened v (between ++ (events.Opened w ∷ after)) c.2 in
      let b = cut between (events.Opened w ∷ after) o.1 in
      let p = opened w after b.2 in
      let x : waiting_in (vec_items v) ≡ waiting (meaning c.0).tickets = ap waiting_in o.0 ∙ waiting_open (meaning c.0).tickets in
      ap waiting_in p.0 ∙ waiting_open (meaning b.0).tickets ∙ none_waits (ran_by b.1) n (omega (arith, x, le))

  heard_by : {d d' : D} (log : List Event) → Whole (meaning d) → Goes d log d' → Heard meaning does d log d'
  heard_by log w r = record {
    went = r;
    promise = promise w (ran_by r);
    shown = λ z. record { open_lists = open_lists log r z; settled = settled log r };
  }

  -- so many of the calls are sent, and these are left
  pub record Sending (d : D) (calls : List Call) (log : List Event) (rest : List Call) (d' : D) : Type 0 where
    pub went : Goes d log d'
    pub front : calls_of log ++ rest ≡ calls

  pub none_sent : {d : D} {calls rest : List Call} {log : List Event} → log ≡ [] → rest ≡ calls → Sending d calls log rest d
  none_sent {d} {calls} {rest} l r = record { went = subst (λ h. Goes d h d) (sym l) stays; front = ap (λ h. calls_of h ++ rest) l ∙ r }

  pub one_sent : {d d₁ d₂ : D} {calls rest rest' : List Call} {log log' : List Event} {call : Call} (e : Event) → log' ≡ log ++ (e ∷ []) → Sending d calls log rest d₁ → rest ≡ call ∷ rest' → call_of e ≡ call → Step meaning does d₁ e d₂ → Sending d calls log' rest' d₂
  one_sent {d} {d₁} {d₂} {calls} {rest} {rest'} {log} {log'} {call} e l s r c n = record {
    went = subst (λ h. Goes d h d₂) (sym l) (went_on e s.went n);
    front = ap (λ h. calls_of h ++ rest') l ∙ ap (λ h. h ++ rest') (map-append call_of log (e ∷ [])) ∙ append_assoc (calls_of log) (call_of e ∷ []) rest' ∙ ap (λ x. calls_of log ++ (x ∷ rest')) c ∙ ap (λ x. calls_of log ++ x) (sym r) ∙ s.front;
  }

  pub all_sent : {d d' : D} {calls rest : List Call} {log : List Event} → Whole (meaning d) → Sending d calls log rest d' → rest ≡ [] → SentAll meaning does d calls log d'
  all_sent {log = log} w s z = record { all = sym (append-nil (calls_of log)) ∙ ap (λ l. calls_of log ++ l) (sym z) ∙ s.front; heard = heard_by log w s.went }

  pub some_sent : {d d' : D} {calls rest : List Call} {log : List Event} → Whole (meaning d) → Sending d calls log rest d' → SentSome meaning does d calls d'
  some_sent {rest = rest} {log = log} w s = record { log = log; rest = rest; front = s.front; heard = heard_by log w s.went }
