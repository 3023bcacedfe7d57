-- A history is a list of submits, turns and collects with their answers, the oldest first. What it says of tickets and writes.
use Rattle.std.specs.Prelude.{◌≡◌, ℕ, ◌+◌, ◌-◌, Bool, false, cond, not, ◌&&◌, ◌||◌, List, [], ◌∷◌, ◌++◌, Some, None, Ok, Err, Option, unwrap_or, ◌==◌}
use Rattle.std.specs.Option.{option_or}
use Rattle.device.specs.declared.interface.Kind.TheVariants.{Write}
use Rattle.device.specs.Told.{Told, submit, turn, collect}
use Rattle.device.specs.Meaning.{Contents, covers, part}
use Rattle.device.specs.Numbers.{kind_number}

-- a submit not refused, under this tag
abbrev pub accepts : ℕ → Told → Bool
accepts t (submit q d k (Ok u)) = t == q.tag
accepts t (submit q d k (Err r)) = false
accepts t (turn k n) = false
accepts t (collect u g r b) = false

-- a collect not refused, under this tag
abbrev pub answers : ℕ → Told → Bool
answers t (submit q d k r) = false
answers t (turn k n) = false
answers t (collect u g (Ok m) b) = t == u
answers t (collect u g (Err r) b) = false

abbrev pub is_turn : Told → ℕ
is_turn (submit q d k r) = 0
is_turn (turn k n) = 1
is_turn (collect u g r b) = 0

-- how many of the calls are turns
abbrev pub turns : List Told → ℕ
turns [] = 0
turns (e ∷ es) = is_turn e + turns es

-- no submit is accepted under any tag
abbrev pub NoneAccepted : List Told → Type 0
NoneAccepted [] = Unit {0}
NoneAccepted (e ∷ es) = ((t : ℕ) → accepts t e ≡ false) × NoneAccepted es

-- no submit is accepted under this tag
abbrev pub NotAccepted : ℕ → List Told → Type 0
NotAccepted t [] = Unit {0}
NotAccepted t (e ∷ es) = (accepts t e ≡ false) × NotAccepted t es

-- no collect is answered under this tag
abbrev pub NotAnswered : ℕ → List Told → Type 0
NotAnswered t [] = Unit {0}
NotAnswered t (e ∷ es) = (answers t e ≡ false) × NotAnswered t es

-- a ticket accepted under this tag just before is answered here: some collect under the tag is not refused, and no submit
-- under it is accepted before that collect
abbrev pub answered_in : ℕ → List Told → Bool
answered_in t [] = false
answered_in t (e ∷ es) = answers t e || (not (accepts t e) && answered_in t es)

-- the tag of the ticket that the call makes, unless that ticket is answered in what follows
abbrev pub opens : Told → List Told → List ℕ
opens (submit q d k (Ok u)) es = cond (answered_in q.tag es) [] (q.tag ∷ [])
opens (submit q d k (Err r)) es = []
opens (turn k n) es = []
opens (collect t g r b) es = []

-- the tags of the tickets accepted and not answered, the oldest first
abbrev pub unanswered : List Told → List ℕ
unanswered [] = []
unanswered (e ∷ es) = opens e es ++ unanswered es

-- what an accepted write that covers the sector has for it
abbrev pub writes : ℕ → Told → Option (List ℕ)
writes s (submit q d k (Ok u)) = cond (q.kind == kind_number Write && covers q.first q.count s) (Some (part d (s - q.first))) None
writes s (submit q d k (Err r)) = None
writes s (turn k n) = None
writes s (collect t g r b) = None

-- the last accepted write that covers the sector
abbrev pub last_write : ℕ → List Told → Option (List ℕ)
last_write s [] = None
last_write s (e ∷ es) = option_or (last_write s es) (writes s e)

-- what the last accepted write put on the sector, or what the disk had at set-up where there was none
abbrev pub last_written : Contents → List Told → ℕ → List ℕ
last_written disk h s = unwrap_or (last_write s h) (disk s)
