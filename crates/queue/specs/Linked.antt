-- The waiting ones of the open tickets, in order, are the tickets of the deadline rules.
use Rattle.std.specs.Prelude.{◌≡◌, true, false, List, [], ◌∷◌}
use Rattle.deadline.specs.declared.dispatch.Queued.{Queued}
use Rattle.queue.specs.Queue.{Entry}

pub record Same (e : Entry) (q : Queued) : Type 0 where
  pub tag : e.tag ≡ q.tag
  pub kind : e.kind ≡ q.kind
  pub first : e.first ≡ q.first
  pub count : e.count ≡ q.count
  pub run : e.run ≡ q.head

pub data Linked : List Entry → List Queued → Type 0 where
  none : Linked [] []
  ready : {e : Entry} {es : List Entry} {ws : List Queued} → e.ready ≡ true → Linked es ws → Linked (e ∷ es) ws
  waits : {e : Entry} {q : Queued} {es : List Entry} {ws : List Queued} → e.ready ≡ false → Same e q → Linked es ws → Linked (e ∷ es) (q ∷ ws)
