-- The waiting runs, from the side of their heads.
use Rattle.std.specs.Prelude.{Bool, cond, ◌&&◌, List, [], ◌∷◌, Some, None, Option}
use Rattle.device.specs.declared.interface.Kind.{Kind}
use Rattle.deadline.specs.declared.dispatch.Queued.{Queued}
use Rattle.deadline.specs.declared.dispatch.Run.{Run}
use Rattle.deadline.specs.Waiting.{is_head, run_of, same, free}

-- the run with the oldest head, of runs in that order
abbrev pub oldest_of : List Run → Option Run
oldest_of [] = None
oldest_of (r ∷ rs) = Some r

-- the run that the ticket is the head of, if it is the head of one
unfoldable pub run_at : List Queued → Queued → Option Run
run_at ws x = cond (is_head x) (Some (run_of ws x)) None

-- the ticket is the head of a free run of the kind
abbrev pub heads_free : Kind → List Queued → Queued → Bool
heads_free k ws x = is_head x && (same x.kind k && free ws x.head)
