-- What the stack promises, by its meaning at set-up.
use Rattle.std.proofs.Common.{◌≡◌, ℕ, List, [], ap, subst}
use Rattle.device.specs.Meaning.{Meaning}
use Rattle.device.specs.Told.{Told}
use Rattle.history.specs.declared.call.Call.{Call}
use Rattle.history.specs.declared.call.Event.{Event}
use Rattle.history.specs.Log.{history_of, SentAll}
use Rattle.history.specs.Promise.{Promise}
use Rattle.stacks.specs.Stack.{set_up, Promised}

pub applies : {D : Type 0} {meaning : D → Meaning} {does : D → Told → D → Type 0} {d d' : D} {named : List ℕ} {base most : ℕ} {left right : List ℕ} {calls : List Call} (log : List Event)
    → meaning d ≡ set_up named base most left right → SentAll meaning does d calls log d' → Promised named base most left right calls log
applies {meaning = meaning} {d' = d'} log e s =
    let none : (meaning _).tickets ≡ [] = ap (λ (m : Meaning). m.tickets) e in
    record {
      all = s.all;
      after = meaning d';
      promise = subst (λ m. Promise m (history_of log) (meaning d')) e (s.heard.promise none);
      shown = s.heard.shown none;
    }
