-- The waiting tickets: which of them conflict, which runs they make up, and which runs are free.
use Rattle.std.specs.Prelude.{ℕ, ◌+◌, min, Bool, true, cond, not, ◌&&◌, ◌||◌, eqb, List, [], ◌∷◌, ◌==◌, nat_lt}
use Rattle.device.specs.declared.interface.Kind.{Kind}
use Rattle.device.specs.declared.interface.Kind.TheVariants.{Read, Write, Flush}
use Rattle.device.specs.Meaning.{is_read, is_write, is_flush}
-- whether a test takes any of a list, and those that it takes
pub use Rattle.std.specs.List.{list_any as any, filter as those}
pub use Rattle.deadline.specs.declared.dispatch.Queued.{Queued}
pub use Rattle.deadline.specs.declared.dispatch.Run.{Run}

abbrev pub same : Kind → Kind → Bool
same Read k = is_read k
same Write k = is_write k
same Flush k = is_flush k

-- conflicts

abbrev pub end : Queued → ℕ
end x = x.first + x.count

abbrev pub share_a_sector : Queued → Queued → Bool
share_a_sector x y = nat_lt x.first (end y) && nat_lt y.first (end x)

-- two tickets that share a sector, of which at least one writes
unfoldable pub conflict : Queued → Queued → Bool
conflict x y = share_a_sector x y && (is_write x.kind || is_write y.kind)

-- runs

abbrev pub ends : Run → ℕ
ends r = r.begins + r.count

-- the ticket belongs to the run of that name
abbrev pub is_in : ℕ → Queued → Bool
is_in r x = x.head == r

abbrev pub lowest_sector : ℕ → ℕ → List Queued → ℕ
lowest_sector r s [] = s
lowest_sector r s (x ∷ xs) = lowest_sector r (cond (is_in r x) (min s x.first) s) xs

abbrev pub sectors : ℕ → List Queued → ℕ
sectors r [] = 0
sectors r (x ∷ xs) = cond (is_in r x) x.count 0 + sectors r xs

-- the run that x is the head of: it begins at the lowest sector of its tickets, and has the sectors of all of them
unfoldable pub run_of : List Queued → Queued → Run
run_of ws x = record {
  name = x.head;
  kind = x.kind;
  begins = lowest_sector x.head x.first ws;
  count = sectors x.head ws;
  tick = x.tick;
}

-- a flush is in no run
abbrev pub is_head : Queued → Bool
is_head x = x.tag == x.head && not (is_flush x.kind)

abbrev pub runs_headed_in : List Queued → List Queued → List Run
runs_headed_in ws [] = []
runs_headed_in ws (x ∷ xs) = let rest = runs_headed_in ws xs in cond (is_head x) (run_of ws x ∷ rest) rest

-- the waiting runs, the oldest head first
unfoldable pub runs : List Queued → List Run
runs ws = runs_headed_in ws ws

-- free

-- none of the run's tickets conflicts with an older waiting ticket outside it
abbrev pub unhindered : ℕ → (older ws : List Queued) → Bool
unhindered r older [] = true
unhindered r older (x ∷ xs) = not (is_in r x && any (λ y. not (is_in r y) && conflict x y) older) && unhindered r (x ∷ older) xs

-- no waiting flush is older than the run's head
abbrev pub before_flushes : ℕ → List Queued → Bool
before_flushes r [] = true
before_flushes r (x ∷ xs) = is_in r x || (not (is_flush x.kind) && before_flushes r xs)

unfoldable pub free : List Queued → ℕ → Bool
free ws r = unhindered r [] ws && before_flushes r ws

-- the free runs of a kind, the oldest head first
unfoldable pub free_runs : Kind → List Queued → List Run
unfolding runs
free_runs k ws = those (λ r. same r.kind k && free ws r.name) (runs ws)

abbrev pub has_tag : ℕ → List Queued → Bool
has_tag t ws = any (λ x. eqb x.tag t) ws
